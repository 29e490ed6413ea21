use Rattle.std.proofs.Common.{length}
use Rattle.skew.specs.Polynomials.{coefficients}
use Rattle.skew.proofs.Interpolating.{Stepping}
use Rattle.skew.proofs.newton.interpolate.Given as goal

abbrev pub invariant-loop-p : goal.invariant-loop-p
invariant-loop-p g l = Stepping (g.K.Kind.meaning l.kind) l.points l.values (length l.yielded) (coefficients l.f) (coefficients l.base)
