use Rattle.fields.proofs.Carrier
use Rattle.ranks.proofs.Separating.{minimum_distance}
use Rattle.ranks.proofs.distance.minimum_distance.Goals as goal

pub returns : goal.returns
returns g c = minimum_distance (Carrier.ops_laws (g.met.K.Kind.lawful c.args.kind.now))
