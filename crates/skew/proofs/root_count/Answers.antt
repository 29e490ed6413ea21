use Rattle.fields.proofs.Carrier
use Rattle.skew.proofs.RootCount.{root_count}
use Rattle.skew.proofs.root_count.Goals as goal

pub returns : goal.returns
returns g c = root_count (Carrier.ops_laws (g.met.K.Kind.lawful c.args.kind.now))
