use Rattle.std.proofs.Common.{◌+◌, ◌≤◌, length, get_or, ap, arith}
use Rattle.skew.specs.Polynomials.{coefficients}
use Rattle.skew.proofs.Filling.{short}
use Rattle.skew.proofs.Adding.{multiply_starts, multiply_goes_on, multiply_ends}
use Rattle.skew.proofs.arithmetic.product.Goals as goal

pub overflow_add-len : goal.overflow_add-len
overflow_add-len g c = omega (arith, c.len.ensures, c.len-2.ensures, short c.args.f.now, short c.args.g.now)

pub loop-j-init : goal.loop-j-init
loop-j-init g c =
    let room : length (coefficients c.args.f.now) + length (coefficients c.args.g.now) ≤ 49 = omega (arith, c.len.ensures, c.len-2.ensures, c.if-len.false) in
    multiply_starts (g.met.K.Kind.lawful c.args.kind.now) room (omega (arith, c.saturating_sub.ensures, c.len-3.ensures, c.len-4.ensures)) c.empty.ensures c.resized-sum.ensures

pub loop-j-preserved : goal.loop-j-preserved
loop-j-preserved g c = multiply_goes_on (g.met.K.Kind.lawful c.args.kind.now) (ap length c.as_slice-c-items.ensures) c.loop-j-test.true c.loop-j.invariant (ap (λ z. get_or z c.loop-j.j 0) c.as_slice-c-items.ensures) c.add.ensures

pub returns : goal.returns
returns g c =
    let room : length (coefficients c.args.f.now) + length (coefficients c.args.g.now) ≤ 49 = omega (arith, c.len.ensures, c.len-2.ensures, c.if-len.false) in
    multiply_ends (g.met.K.Kind.lawful c.args.kind.now) room (ap length c.as_slice-c-items.ensures) c.loop-j-test.false c.loop-j.invariant
