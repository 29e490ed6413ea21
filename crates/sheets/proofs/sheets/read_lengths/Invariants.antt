-- Before the byte at `at` is looked at, the lengths up to there keep their limits, and `total` is their sum.
use Rattle.sheets.specs.Steps.{Measured}
use Rattle.std.proofs.Common.{◌-◌, ◌≤◌, take, drop}
use Rattle.sheets.proofs.sheets.read_lengths.Given as goal

abbrev pub invariant-loop-at : goal.invariant-loop-at
invariant-loop-at l = (3 ≤ l.at) × Measured l.bytes (l.at - 3) (take (l.at - 3) (drop 3 l.bytes)) l.total
