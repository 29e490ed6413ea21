use Rattle.std.proofs.Common.{length}
use Rattle.fields.specs.Elements.{elems}
use Rattle.codes.specs.Holdings.{held}
use Rattle.codes.specs.DualAnswers.{advanced}
use Rattle.codes.proofs.Holding.{Filling}
use Rattle.codes.proofs.syndrome.advance.Given as goal

abbrev pub invariant-loop-p : goal.invariant-loop-p
invariant-loop-p g l = let m = g.K.Kind.meaning l.kind in Filling (advanced m l.points (elems m (held l.terms))) (length l.yielded) (held l.out)
