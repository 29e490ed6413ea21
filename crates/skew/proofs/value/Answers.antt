use Rattle.skew.proofs.Valuing.{starts, goes_on, ends, ends_sum}
use Rattle.skew.proofs.value.Goals as goal

pub loop-c-init : goal.loop-c-init
loop-c-init g c = starts (g.met.K.Kind.lawful c.args.kind.now) c.args.f.now c.args.parameter c.args.locator

pub loop-c-preserved : goal.loop-c-preserved
loop-c-preserved g c =
    goes_on (g.met.K.Kind.lawful c.args.kind.now) c.loop-c-test.true c.loop-c.invariant c.product.ensures c.sum-total.ensures c.twist.ensures c.product-x.ensures

pub returns : goal.returns
returns g c =
    let l = g.met.K.Kind.lawful c.args.kind.now in
    record { sum = ends_sum l c.loop-c-test.false c.loop-c.invariant; steps = ends l c.loop-c-test.false c.loop-c.invariant }
