use Rattle.std.proofs.Common.{map}
use Rattle.skew.specs.Polynomials.{coefficients}
use Rattle.recovery.specs.Preparation.{UnitAt}
use Rattle.recovery.proofs.Units.{Collected}
use Rattle.recovery.proofs.preparing.prepare.Given as goal

abbrev pub invariant-loop-j : goal.invariant-loop-j
invariant-loop-j g l = Collected (UnitAt (g.K.Kind.meaning l.kind) l.first) l.j (map coefficients l.units)
