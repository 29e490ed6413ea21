use Rattle.codes.specs.Holdings.{held}
use Rattle.codes.proofs.Multipliers.{Gathering}
use Rattle.codes.proofs.duals.multipliers.Given as goal

abbrev pub invariant-loop-i : goal.invariant-loop-i
invariant-loop-i g l = Gathering (g.K.Kind.meaning l.kind) l.points l.i (held l.out)
