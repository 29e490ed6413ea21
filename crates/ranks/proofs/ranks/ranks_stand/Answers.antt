use Rattle.fields.proofs.Carrier
use Rattle.ranks.proofs.Weighing.{ranked}
use Rattle.ranks.proofs.ranks.ranks_stand.Goals as goal

pub returns : goal.returns
returns g c = ranked (Carrier.ops_laws (g.met.K.Kind.lawful c.args.kind.now))
