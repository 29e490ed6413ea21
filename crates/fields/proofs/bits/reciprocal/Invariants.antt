use Rattle.fields.specs.Shipped.{modulus256}
use Rattle.fields.proofs.PowerLoops.{Powering}
use Rattle.fields.proofs.bits.reciprocal.Given as goal

abbrev pub invariant-loop : goal.invariant-loop
invariant-loop l = Powering modulus256 l.a l.counter l.x l.all
