use Rattle.skew.proofs.Carrying.{any_root_or}
use Rattle.skew.proofs.engine.factor.Goals as goal

pub returns : goal.returns
returns g c = any_root_or (g.met.K.Kind.lawful c.args.kind.now) c.args.parameter c.args.v c.root.result c.root.ensures c.unwrap_or.ensures
