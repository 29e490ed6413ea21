use Rattle.recovery.proofs.Stepping.{stepping_starts, stepping_goes_on, stepping_ends}
use Rattle.recovery.proofs.powers.powers_at.Goals as goal

pub loop-init : goal.loop-init
loop-init g c = stepping_starts (g.K.Kind.meaning c.args.kind.now) c.args.point.parameter c.args.point.locator c.empty-out.ensures

pub loop-preserved : goal.loop-preserved
loop-preserved g c =
    stepping_goes_on (g.K.Kind.meaning c.args.kind.now) c.args.point.parameter c.args.point.locator c.loop-test.true c.push.ensures c.twist.ensures c.product-x.ensures c.loop.invariant

pub returns : goal.returns
returns g c = stepping_ends (g.K.Kind.meaning c.args.kind.now) c.args.point.parameter c.args.point.locator c.loop-test.false c.loop.invariant
