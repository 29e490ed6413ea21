use Rattle.std.proofs.Common.{length}
use Rattle.codes.specs.Holdings.{held, stops}
use Rattle.recovery.proofs.Walking.{Collecting}
use Rattle.recovery.proofs.killing.row_points.Given as goal

abbrev pub invariant-loop-n : goal.invariant-loop-n
invariant-loop-n g l = Collecting (g.K.Kind.meaning l.kind) (held l.code.lengths) l.hints.blocks (stops l.code.course) (length l.yielded) l.at (stops l.out)
