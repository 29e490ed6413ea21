use Rattle.fields.proofs.Carrier.{ops_laws}
use Rattle.fields.proofs.Digits.{digits_linear}
use Rattle.fields.proofs.elements_stand.Goals as goal

pub returns : goal.returns
returns g c =
    let l = g.met.K.Kind.lawful c.args.kind.now in
    record { field = ops_laws l; digits = digits_linear l }
