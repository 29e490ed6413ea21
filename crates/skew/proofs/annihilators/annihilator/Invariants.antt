use Rattle.std.proofs.Common.{take}
use Rattle.skew.specs.Polynomials.{coefficients}
use Rattle.skew.proofs.Growing.{Growing}
use Rattle.skew.proofs.annihilators.annihilator.Given as goal

abbrev pub invariant-loop-p : goal.invariant-loop-p
invariant-loop-p g l = Growing (g.K.Kind.meaning l.kind) (take l.p-index l.points) (coefficients l.out)
