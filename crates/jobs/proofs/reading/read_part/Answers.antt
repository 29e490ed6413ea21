-- A part that runs out.
use Rattle.jobs.proofs.Steps.{part_missing}
use Rattle.jobs.proofs.reading.read_part.Goals as goal

pub returns-then-bytes-at : goal.returns-then-bytes-at
returns-then-bytes-at c = rw c.missing.ensures (part_missing c.args.bytes.now c.args.at c.args.count c.if-bytes-at.true)
