use Rattle.std.proofs.Common.{length}
use Rattle.skew.proofs.Valuing.{Valuing}
use Rattle.skew.proofs.engine.values.Given as goal

abbrev pub invariant-loop-a : goal.invariant-loop-a
invariant-loop-a g l =
    Valuing (g.K.Kind.meaning l.kind) l.f l.parameter l.locator (length l.yielded) l.u l.x × Valuing (g.K.Kind.meaning l.kind) l.g l.parameter l.locator (length l.yielded) l.v l.x
