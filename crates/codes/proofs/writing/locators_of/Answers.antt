use Rattle.std.proofs.Common.{[], map, take, sym, ap, ◌∙◌, arith}
use Rattle.std.proofs.lemmas.List.{length-map}
use Rattle.std.proofs.lemmas.List.{take_all, get_or-map}
use Rattle.skew.specs.declared.points.Point.{Point}
use Rattle.skew.proofs.Filling.{appended_more}
use Rattle.codes.proofs.writing.locators_of.Goals as goal

pub loop-p-init : goal.loop-p-init
loop-p-init c = c.empty-out.ensures

pub loop-p-preserved : goal.loop-p-preserved
loop-p-preserved c =
    let ps = c.as_slice-points.result.now in
    appended_more 24 [] (map (λ (p : Point). p.locator) ps) 0 (omega (arith, length-map ps (λ (p : Point). p.locator), c.loop-p-test.true)) c.loop-p.invariant
    (sym (get_or-map (λ (p : Point). p.locator) ps c.loop-p.p-index (record { parameter = 0; locator = 0 }) 0 c.loop-p-test.true)) c.push.ensures

pub returns : goal.returns
returns c =
    let ps = c.as_slice-points.result.now in
    c.loop-p.invariant
    ∙ ap (take 24) (take_all c.loop-p.p-index (map (λ (p : Point). p.locator) ps) (omega (arith, length-map ps (λ (p : Point). p.locator), c.loop-p-test.false)))
    ∙ ap (λ qs. take 24 (map (λ (p : Point). p.locator) qs)) c.as_slice-points.ensures
