-- The grammar has one answer for every byte string.
use Rattle.jobs.proofs.Certainty.{unambiguous}
use Rattle.jobs.proofs.reading.jobs_stand.Goals as goal

pub returns : goal.returns
returns c = unambiguous
