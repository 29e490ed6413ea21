use Rattle.skew.proofs.Growing.{linear_is}
use Rattle.skew.proofs.annihilators.linear.Goals as goal

pub returns : goal.returns
returns g c = linear_is (g.met.K.Kind.lawful c.args.kind.now) c.args.c c.empty-out.ensures c.opposite.ensures c.push.ensures c.push-2.ensures
