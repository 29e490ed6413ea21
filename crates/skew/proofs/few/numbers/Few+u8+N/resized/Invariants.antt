use Rattle.skew.specs.Few.{held}
use Rattle.skew.proofs.Resizing.{Resizing}
use Rattle.skew.proofs.few.numbers.Few+u8+N.resized.Given as goal

abbrev pub invariant-loop-i : goal.invariant-loop-i
invariant-loop-i g l = Resizing g.row.N (held l.self) l.i (held l.out)
