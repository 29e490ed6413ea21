use Rattle.fields.proofs.TernaryAnswers.{times_rule}
use Rattle.fields.proofs.ternary.times.Goals as goal

pub returns : goal.returns
returns c = times_rule c.args.f.c0 c.args.f.c1 c.args.f.c2 c.args.f.c3 c.args.g.c0 c.args.g.c1 c.args.g.c2 c.args.g.c3 c.args.f.small c.args.g.small
