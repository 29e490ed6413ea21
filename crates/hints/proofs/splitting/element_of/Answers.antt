use Rattle.std.proofs.Common.{◌≡◌, length, ◌∙◌, arith, rules}
use Rattle.codes.proofs.Checking.{sum_starts, sum_goes_on, sum_ends}
use Rattle.hints.proofs.Rowwise.{basis_next}
use Rattle.hints.proofs.splitting.element_of.Goals as goal

pub loop-i-init : goal.loop-i-init
loop-i-init g c = sum_starts (g.met.K.Kind.lawful c.args.kind.now) c.args.row.now.cells (g.K.Kind.meaning c.args.kind.now).basis

pub loop-i-preserved : goal.loop-i-preserved
loop-i-preserved g c =
    let n : length c.args.row.now.cells ≡ 8 = search rules in
    sum_goes_on (g.met.K.Kind.lawful c.args.kind.now) (omega (arith, c.loop-i-test.true, n)) c.loop-i.invariant
    (c.basis-base.ensures ∙ basis_next (g.K.Kind.meaning c.args.kind.now).basis c.loop-i.i) c.product-term.ensures c.sum-total.ensures

pub returns : goal.returns
returns g c =
    let n : length c.args.row.now.cells ≡ 8 = search rules in
    sum_ends (g.met.K.Kind.lawful c.args.kind.now) (omega (arith, c.loop-i-test.false, n)) c.loop-i.invariant
