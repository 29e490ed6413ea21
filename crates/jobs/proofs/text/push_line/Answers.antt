use Rattle.std.proofs.Common.{codes}
use Rattle.skew.specs.Few.{held}
use Rattle.jobs.specs.Texts.{numbers}
use Rattle.jobs.proofs.Cutting.{three}
use Rattle.jobs.proofs.text.push_line.Goals as goal

pub returns-clause-text : goal.returns-clause-text
returns-clause-text c = three (held c.args.out.now) c.args.name.now (numbers c.args.symbols.now) (codes "\n") c.append.ensures c.push_symbols.ensures.text c.push_end.ensures
