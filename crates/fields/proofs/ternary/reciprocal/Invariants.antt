use Rattle.fields.specs.Shipped.{modulus81}
use Rattle.fields.proofs.PowerLoops.{Powering}
use Rattle.fields.proofs.ternary.reciprocal.Given as goal

abbrev pub invariant-loop : goal.invariant-loop
invariant-loop l = Powering modulus81 l.a l.counter l.x l.all
