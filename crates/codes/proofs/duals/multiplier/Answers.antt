use Rattle.skew.proofs.Interpolating.{unlawful_then}
use Rattle.codes.proofs.Multipliers.{multiplier_is}
use Rattle.codes.proofs.duals.multiplier.Goals as goal

pub returns-in_err-f : goal.returns-in_err-f
returns-in_err-f g c = simp c.from_residual.ensures (unlawful_then (g.K.Kind.meaning c.args.kind.now) c.args.points.now c.args.i c.requires.0 c.requires.1 c.in_err-f.ensures)

pub returns : goal.returns
returns g c = multiplier_is (g.met.K.Kind.lawful c.args.kind.now) c.args.points.now c.args.i c.requires.0 c.in_ok-f.ensures.1 c.get.ensures
