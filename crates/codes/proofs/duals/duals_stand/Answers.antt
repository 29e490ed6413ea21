use Rattle.fields.proofs.Carrier
use Rattle.codes.proofs.DualCodes
use Rattle.codes.proofs.duals.duals_stand.Goals as goal

pub returns : goal.returns
returns g c =
    record { duality = DualCodes.duality (Carrier.ops_laws (g.met.K.Kind.lawful c.args.kind.now)); mirrors = Carrier.mirror_is (g.K.Kind.meaning c.args.kind.now) }
