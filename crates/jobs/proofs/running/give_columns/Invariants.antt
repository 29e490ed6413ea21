-- The hints of the bytes before `at` are given.
use Rattle.std.proofs.Common.{◌≡◌, ◌-◌, ◌≤◌, ℕ, List, length}
use Rattle.station.specs.Calls.{Command}
use Rattle.jobs.specs.Jobs.{column_bytes}
use Rattle.jobs.specs.Leading.{Led, OnBlocks}
use Rattle.jobs.proofs.GivenColumns.{ColumnsLed}
use Rattle.jobs.proofs.running.give_columns.Given as goal

abbrev pub invariant-loop-at : goal.invariant-loop-at
invariant-loop-at g l = record {
  within : l.at ≤ length l.bytes;
  kind : l.station.kind ≡ l.fn.station.kind;
  led : (cs : List Command) (hs : List (ℕ × List ℕ)) → l.bytes ≡ column_bytes hs → OnBlocks l.lengths hs → Led (g.K.Kind.meaning l.fn.station.kind) cs l.fn.station
      → ColumnsLed (g.K.Kind.meaning l.fn.station.kind) cs hs l.lengths l.bytes l.at l.station;
}

abbrev pub decreases-loop-at : goal.decreases-loop-at
decreases-loop-at g l = length l.bytes - l.at
