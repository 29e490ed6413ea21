use Rattle.std.proofs.Common.{◌≡◌, List, length, get_or, ap, subst, arith}
use Rattle.skew.specs.declared.points.Point.{Point}
use Rattle.codes.proofs.SheetWriting.{listing_none, listing_more, listing_all}
use Rattle.codes.proofs.writing.parameters_of.Goals as goal

pub loop-n-init : goal.loop-n-init
loop-n-init c = listing_none c.args.code.now c.empty-out.ensures

pub loop-n-preserved : goal.loop-n-preserved
loop-n-preserved c =
    let e = c.as_slice-points.ensures in
    let f = c.as_slice-lengths.ensures in
    listing_more c.args.code.now (omega (arith, ap length f, c.loop-n-test.true)) c.loop-n.invariant
    (λ _. subst (λ (ps : List Point). c.parameter_at-parameter.result ≡ (get_or ps c.loop-n.at (record { parameter = 0; locator = 0 })).parameter) e c.parameter_at-parameter.ensures)
    c.push.ensures (rw f at (rw c.from.ensures at c.saturating_add-at.ensures))

pub returns : goal.returns
returns c = listing_all c.args.code.now (omega (arith, ap length c.as_slice-lengths.ensures, c.loop-n-test.false)) c.loop-n.invariant
