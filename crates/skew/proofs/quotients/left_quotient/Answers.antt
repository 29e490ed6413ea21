use Rattle.std.proofs.Common.{◌+◌, ◌-◌, ◌≤◌, arith, rules}
use Rattle.skew.proofs.Dividing.{subtracted, divide_starts, divide_goes_on, divide_ends}
use Rattle.skew.proofs.quotients.left_quotient.Goals as goal

pub loop-j-init : goal.loop-j-init
loop-j-init g c =
    let room : c.in_ok-top.top.degree + c.args.k ≤ 48 = search rules in
    divide_starts (g.met.K.Kind.lawful c.args.kind.now) room c.resized-rest.ensures c.empty.ensures c.resized-out.ensures

pub loop-j-preserved : goal.loop-j-preserved
loop-j-preserved g c =
    divide_goes_on (g.met.K.Kind.lawful c.args.kind.now) c.loop-j.j (c.loop-j.j - 1) (omega (arith, c.loop-j-test.true)) c.in_ok-top.ensures c.loop-j.invariant
    c.get-high.ensures c.product-ratio.ensures c.untwisted-c.ensures (subtracted (g.met.K.Kind.lawful c.args.kind.now) c.opposite.ensures c.add.ensures) c.put.ensures

pub returns : goal.returns
returns g c =
    let room : c.in_ok-top.top.degree + c.args.k ≤ 48 = search rules in
    divide_ends (g.met.K.Kind.lawful c.args.kind.now) c.loop-j.j c.loop-j-test.false room c.in_ok-top.ensures c.loop-j.invariant
