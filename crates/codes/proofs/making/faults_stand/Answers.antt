use Rattle.codes.proofs.Certainty.{one_fault}
use Rattle.codes.proofs.making.faults_stand.Goals as goal

pub returns : goal.returns
returns g c = one_fault (g.met.K.Kind.lawful c.args.kind.now)
