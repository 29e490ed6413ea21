use Rattle.skew.proofs.Combining.{Raising}
use Rattle.skew.proofs.few.changing.Few+u8+N.raise.Given as goal

abbrev pub invariant-loop-i : goal.invariant-loop-i
invariant-loop-i g l = Raising g.row.N (g.K.Kind.meaning l.kind) l.c l.initial.self.len l.initial.self.cells l.i l.below l.self.len l.self.cells
