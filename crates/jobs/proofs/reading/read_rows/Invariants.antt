-- As many row hints as turns were made stand behind their count, and end at `end`.
use Rattle.std.proofs.Common.{◌+◌}
use Rattle.jobs.proofs.Rows.{RowsSoFar}
use Rattle.jobs.proofs.reading.read_rows.Given as goal

abbrev pub invariant-loop : goal.invariant-loop
invariant-loop l = RowsSoFar l.bytes (l.at + 1) l.blocks l.end l.counter
