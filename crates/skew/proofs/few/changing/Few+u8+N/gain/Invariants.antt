use Rattle.skew.specs.Few.{held}
use Rattle.skew.proofs.Combining.{Combining}
use Rattle.skew.proofs.few.changing.Few+u8+N.gain.Given as goal

abbrev pub invariant-loop-i : goal.invariant-loop-i
invariant-loop-i g l =
    Combining g.row.N (g.K.Kind.meaning l.kind) 1 l.d l.initial.self.len l.initial.self.cells (held l.g) l.i l.self.len l.self.cells
