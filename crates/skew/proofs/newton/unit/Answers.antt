use Rattle.skew.proofs.Interpolating.{indicated, unit_told}
use Rattle.skew.proofs.newton.unit.Goals as goal

pub returns : goal.returns
returns g c =
    unit_told (g.K.Kind.meaning c.args.kind.now) c.args.points.now c.args.i c.interpolate.result c.if-points-gt-MOST.false c.if-i-points.false
    (indicated _ c.args.i c.if-i-points.false c.if-points-gt-MOST.false) c.interpolate.ensures
