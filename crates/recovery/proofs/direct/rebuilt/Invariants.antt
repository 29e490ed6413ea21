use Rattle.std.proofs.Common.{map, length}
use Rattle.skew.specs.Polynomials.{coefficients}
use Rattle.recovery.proofs.Units.{Rebuilding}
use Rattle.recovery.proofs.direct.rebuilt.Given as goal

abbrev pub invariant-loop-y : goal.invariant-loop-y
invariant-loop-y g l = Rebuilding (g.K.Kind.meaning l.kind) (map coefficients l.prepared.units) l.symbols (length l.yielded) (coefficients l.out)
