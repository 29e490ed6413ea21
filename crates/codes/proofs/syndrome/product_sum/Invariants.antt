use Rattle.std.proofs.Common.{length}
use Rattle.codes.specs.Holdings.{held}
use Rattle.codes.proofs.Checking.{Summing}
use Rattle.codes.proofs.syndrome.product_sum.Given as goal

abbrev pub invariant-loop-x : goal.invariant-loop-x
invariant-loop-x g l = Summing (g.K.Kind.meaning l.kind) l.word (held l.terms) (length l.yielded) l.total
