-- As many symbols are there as damage is taken, at most 24.
use Rattle.std.proofs.Common.{◌≡◌, length, min}
use Rattle.codes.specs.Holdings.{held}
use Rattle.shown.proofs.documents.damaged.Given as goal

abbrev pub invariant-loop-i : goal.invariant-loop-i
invariant-loop-i g l = length (held l.out) ≡ min 24 l.i
