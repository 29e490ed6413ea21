use Rattle.recovery.proofs.Stepping.{stepping_starts, stepping_goes_on, stepping_ends}
use Rattle.recovery.proofs.powers.powers_at_both.Goals as goal

pub loop-init : goal.loop-init
loop-init g c =
    let m = g.K.Kind.meaning c.args.kind.now in
    (stepping_starts m c.args.p.parameter c.args.p.locator c.empty-first.ensures, stepping_starts m c.args.q.parameter c.args.q.locator c.empty-second.ensures)

pub loop-preserved : goal.loop-preserved
loop-preserved g c =
    let m = g.K.Kind.meaning c.args.kind.now in (
      stepping_goes_on m c.args.p.parameter c.args.p.locator c.loop-test.true c.push.ensures c.twist.ensures c.product-x.ensures c.loop.invariant.0,
      stepping_goes_on m c.args.q.parameter c.args.q.locator c.loop-test.true c.push-in-loop.ensures c.twist-in-loop.ensures c.product-y.ensures c.loop.invariant.1,
    )

pub returns : goal.returns
returns g c =
    let m = g.K.Kind.meaning c.args.kind.now in
    record {
      first = stepping_ends m c.args.p.parameter c.args.p.locator c.loop-test.false c.loop.invariant.0;
      second = stepping_ends m c.args.q.parameter c.args.q.locator c.loop-test.false c.loop.invariant.1;
    }
