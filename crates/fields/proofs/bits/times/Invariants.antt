use Rattle.fields.proofs.BitLoops.{Multiplying}
use Rattle.fields.proofs.bits.times.Given as goal

abbrev pub invariant-loop : goal.invariant-loop
invariant-loop l = Multiplying l.a l.b l.counter l.sum l.x l.y
