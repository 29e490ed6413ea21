use Rattle.std.proofs.Common.{◌∷◌, codes, refl}
use Rattle.skew.specs.Few.{held}
use Rattle.jobs.specs.Texts.{spaced, numbers}
use Rattle.jobs.proofs.Cutting.{two, three}
use Rattle.jobs.proofs.text.push_counted.Goals as goal

pub returns-clause-text : goal.returns-clause-text
returns-clause-text c =
    three (held c.args.out.now) c.args.name.now (numbers (c.args.count ∷ c.args.symbols.now)) (codes "\n") c.append.ensures
    (two (held c.append.new.self) (spaced c.args.count) (numbers c.args.symbols.now) c.push_number.ensures.text c.push_symbols.ensures.text refl) c.push_end.ensures
