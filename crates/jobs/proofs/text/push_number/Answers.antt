use Rattle.std.proofs.Common.{codes, decimal, ◌∙◌}
use Rattle.skew.specs.Few.{held}
use Rattle.jobs.proofs.Cutting.{two}
use Rattle.jobs.proofs.text.push_number.Goals as goal

pub returns-clause-text : goal.returns-clause-text
returns-clause-text c = two (held c.args.out.now) (codes " ") (decimal c.args.n) c.append.ensures c.append-2.ensures (c.as_bytes.ensures.value ∙ c.format.ensures.text)
