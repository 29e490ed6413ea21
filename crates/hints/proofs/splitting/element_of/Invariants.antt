use Rattle.codes.proofs.Checking.{Summing}
use Rattle.hints.proofs.splitting.element_of.Given as goal

abbrev pub invariant-loop-i : goal.invariant-loop-i
invariant-loop-i g l = let m = g.K.Kind.meaning l.kind in Summing m l.row.cells m.basis l.i l.total
