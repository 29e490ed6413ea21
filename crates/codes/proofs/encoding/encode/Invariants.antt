use Rattle.std.proofs.Common.{◌≡◌, take}
use Rattle.codes.specs.Holdings.{held}
use Rattle.codes.proofs.EncodingLoop.{row}
use Rattle.codes.proofs.encoding.encode.Given as goal

abbrev pub invariant-loop-p : goal.invariant-loop-p
invariant-loop-p g l = held l.out ≡ take l.p-index (row (g.K.Kind.meaning l.kind) l.message l.points)
