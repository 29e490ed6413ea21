-- As many column hints as turns were made stand behind their count, and end at `end`.
use Rattle.std.proofs.Common.{◌+◌}
use Rattle.jobs.proofs.Columns.{ColumnsSoFar}
use Rattle.jobs.proofs.reading.read_columns.Given as goal

abbrev pub invariant-loop : goal.invariant-loop
invariant-loop l = ColumnsSoFar l.bytes (l.at + 1) l.lengths l.end l.counter
