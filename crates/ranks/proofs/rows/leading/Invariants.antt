use Rattle.ranks.proofs.SeekingLoop.{Seeking}
use Rattle.ranks.proofs.rows.leading.Given as goal

abbrev pub invariant-loop-place : goal.invariant-loop-place
invariant-loop-place g l = Seeking (g.K.Kind.meaning l.kind) l.row.cells l.place
