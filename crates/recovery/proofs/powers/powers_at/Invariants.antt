use Rattle.codes.specs.Holdings.{held}
use Rattle.recovery.proofs.Stepping.{Stepping}
use Rattle.recovery.proofs.powers.powers_at.Given as goal

abbrev pub invariant-loop : goal.invariant-loop
invariant-loop g l = Stepping (g.K.Kind.meaning l.kind) l.point.parameter l.point.locator l.counter l.x (held l.out)
