-- The first i hints are given.
use Rattle.std.proofs.Common.{◌≡◌, ◌++◌, take, ℕ, List}
use Rattle.station.specs.Calls.{Command}
use Rattle.jobs.specs.Jobs.{row_bytes}
use Rattle.jobs.specs.Runs.{row_calls}
use Rattle.jobs.specs.Leading.{Led}
use Rattle.jobs.proofs.running.give_rows.Given as goal

abbrev pub invariant-loop-i : goal.invariant-loop-i
invariant-loop-i g l = record {
  kind : l.station.kind ≡ l.fn.station.kind;
  led : (cs : List Command) (rs : List (ℕ × ℕ)) → l.bytes ≡ row_bytes rs → Led (g.K.Kind.meaning l.fn.station.kind) cs l.fn.station
      → Led (g.K.Kind.meaning l.fn.station.kind) (cs ++ row_calls (take l.i rs)) l.station;
}
