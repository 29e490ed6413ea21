use Rattle.skew.specs.Polynomials.{coefficients}
use Rattle.skew.proofs.Dividing.{Dividing}
use Rattle.skew.proofs.quotients.left_quotient.Given as goal

abbrev pub invariant-loop-j : goal.invariant-loop-j
invariant-loop-j g l = Dividing (g.K.Kind.meaning l.kind) (coefficients l.dividend) (coefficients l.divisor) l.d l.k l.j (coefficients l.rest) (coefficients l.out)

abbrev pub decreases-loop-j : goal.decreases-loop-j
decreases-loop-j g l = l.j
