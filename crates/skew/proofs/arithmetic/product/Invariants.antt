use Rattle.skew.specs.Polynomials.{coefficients}
use Rattle.skew.proofs.Adding.{Multiplying}
use Rattle.skew.proofs.arithmetic.product.Given as goal

abbrev pub invariant-loop-j : goal.invariant-loop-j
invariant-loop-j g l = Multiplying (g.K.Kind.meaning l.kind) (coefficients l.f) (coefficients l.g) l.j (coefficients l.sum)
