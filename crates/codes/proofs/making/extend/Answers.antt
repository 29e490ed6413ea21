use Rattle.std.proofs.Common.{◌++◌, map, take, sym, ap, ◌∙◌, arith}
use Rattle.std.proofs.lemmas.List.{length-map}
use Rattle.std.proofs.lemmas.List.{take_all, length-take, get_or-map}
use Rattle.codes.specs.Holdings.{stops}
use Rattle.codes.specs.Fitness.{pointed}
use Rattle.skew.proofs.Filling.{appended_none, appended_more}
use Rattle.codes.proofs.making.extend.Goals as goal

pub loop-b-init : goal.loop-b-init
loop-b-init c =
    let q = c.args.course.now in
    appended_none 24 (stops q) (omega (arith, length-take q.len q.cells, q.fits))

pub loop-b-preserved : goal.loop-b-preserved
loop-b-preserved c =
    let a = c.args.parameter in
    let xs = c.args.locators.now in
    appended_more 24 (stops c.args.course.now) (map (pointed a) xs) (pointed a 0) (omega (arith, length-map xs (pointed a), c.loop-b-test.true)) c.loop-b.invariant
    (sym (get_or-map (pointed a) xs c.loop-b.b-index 0 (pointed a 0) c.loop-b-test.true)) c.push.ensures

pub returns : goal.returns
returns c =
    let xs = c.args.locators.now in
    c.loop-b.invariant
    ∙ ap (λ z. take 24 (stops c.args.course.now ++ z)) (take_all c.loop-b.b-index (map (pointed c.args.parameter) xs) (omega (arith, length-map xs (pointed c.args.parameter), c.loop-b-test.false)))
