use Rattle.std.proofs.Common.{◌-◌, arith}
use Rattle.skew.proofs.Leading.{leading_starts, leading_goes_on, leading_found, leading_none}
use Rattle.skew.proofs.quotients.leading.Goals as goal

pub loop-i-init : goal.loop-i-init
loop-i-init g c = leading_starts (g.met.K.Kind.lawful c.args.kind.now) c.len-i.ensures

pub loop-i-preserved : goal.loop-i-preserved
loop-i-preserved g c =
    leading_goes_on (g.met.K.Kind.lawful c.args.kind.now) c.loop-i.i (c.loop-i.i - 1) (omega (arith, c.loop-i-test.true)) c.loop-i.invariant c.get.ensures c.in_default.ensures

pub returns-in-Some : goal.returns-in-Some
returns-in-Some g c =
    leading_found (g.met.K.Kind.lawful c.args.kind.now) c.loop-i.i (c.loop-i.i - 1) (omega (arith, c.loop-i-test.true)) c.loop-i.invariant c.get.ensures c.in-Some.ensures

pub returns : goal.returns
returns g c = leading_none (g.met.K.Kind.lawful c.args.kind.now) c.loop-i-test.false c.loop-i.invariant
