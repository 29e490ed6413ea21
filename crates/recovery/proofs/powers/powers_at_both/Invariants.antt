use Rattle.codes.specs.Holdings.{held}
use Rattle.recovery.proofs.Stepping.{Stepping}
use Rattle.recovery.proofs.powers.powers_at_both.Given as goal

abbrev pub invariant-loop : goal.invariant-loop
invariant-loop g l = let m = g.K.Kind.meaning l.kind in
    Stepping m l.p.parameter l.p.locator l.counter l.x (held l.first) × Stepping m l.q.parameter l.q.locator l.counter l.y (held l.second)
