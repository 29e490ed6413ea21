-- The powers of the points before are there, two at a time.
use Rattle.std.proofs.Common.{◌*◌}
use Rattle.recovery.specs.Preparation.{Stepped}
use Rattle.recovery.proofs.Units.{Collected}
use Rattle.recovery.proofs.powers.powers_of.Given as goal

abbrev pub invariant-loop-j : goal.invariant-loop-j
invariant-loop-j g l = Collected (Stepped (g.K.Kind.meaning l.kind) l.points) (2 * l.j) l.powers
