use Rattle.std.proofs.Common.{◌≡◌}
use Rattle.skew.specs.Few.{held}
use Rattle.skew.proofs.Adding.{Adding}
use Rattle.skew.proofs.few.changing.Few+u8+N.add.Given as goal

abbrev pub invariant-loop-i : goal.invariant-loop-i
invariant-loop-i g l = (l.self.len ≡ l.initial.self.len)
    × Adding (g.K.Kind.meaning l.kind) (held l.f) l.j l.c (held l.initial.self) l.i l.x (held l.self)
