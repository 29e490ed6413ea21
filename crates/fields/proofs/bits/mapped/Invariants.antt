use Rattle.fields.proofs.BitLoops.{Mapping}
use Rattle.fields.proofs.bits.mapped.Given as goal

abbrev pub invariant-loop-x : goal.invariant-loop-x
invariant-loop-x l = Mapping l.images l.a l.x-index l.sum l.y
