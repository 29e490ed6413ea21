use Rattle.codes.specs.Holdings.{stops}
use Rattle.recovery.proofs.Walking.{Pointing}
use Rattle.recovery.proofs.killing.add_points.Given as goal

abbrev pub invariant-loop-slot : goal.invariant-loop-slot
invariant-loop-slot g l = Pointing (g.K.Kind.meaning l.kind) l.form l.parameter (stops l.initial.out) l.slot-index (stops l.out)
