use Rattle.fields.proofs.TernaryAnswers.{cube_below}
use Rattle.fields.proofs.ternary.cube.Goals as goal

pub returns-clause-below : goal.returns-clause-below
returns-clause-below c = cube_below c.args.a c.requires
