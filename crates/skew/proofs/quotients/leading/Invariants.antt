use Rattle.skew.specs.Polynomials.{coefficients}
use Rattle.skew.proofs.Leading.{Clear}
use Rattle.skew.proofs.quotients.leading.Given as goal

abbrev pub invariant-loop-i : goal.invariant-loop-i
invariant-loop-i g l = Clear (g.K.Kind.meaning l.kind) (coefficients l.f) l.i

abbrev pub decreases-loop-i : goal.decreases-loop-i
decreases-loop-i g l = l.i
