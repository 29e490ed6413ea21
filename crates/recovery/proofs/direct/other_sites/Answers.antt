use Rattle.std.proofs.Common.{◌<◌, ◌≤◌, [], ◌∷◌, ◌++◌, length, get_or, take, ◌∙◌, subst, ap, ap₂}
use Rattle.fields.specs.Field.{comb}
use Rattle.fields.specs.Elements.{elems, ops}
use Rattle.skew.specs.Polynomials.{coefficients}
use Rattle.skew.proofs.Filling.{short}
use Rattle.codes.specs.Holdings.{held, stops}
use Rattle.recovery.specs.Sites.{sites_in}
use Rattle.recovery.specs.Steps.{no_point}
use Rattle.recovery.proofs.Stepping.{sum_by_powers}
use Rattle.recovery.proofs.Turning.{turning_starts, turning_goes_on, turning_ends}
use Rattle.recovery.proofs.direct.other_sites.Goals as goal

pub loop-i-init : goal.loop-i-init
loop-i-init g c = λ M e prep few.
    let m = g.K.Kind.meaning c.args.kind.now in
    turning_starts m (stops c.args.code.now.course) M (elems m (coefficients c.args.f.now)) c.args.word.now c.args.code.now.dimension c.empty-out.ensures

pub loop-i-preserved : goal.loop-i-preserved
loop-i-preserved g c = λ M e prep few.
    let m = g.K.Kind.meaning c.args.kind.now in
    let course = c.args.code.now.course in
    let f = coefficients c.args.f.now in
    let i = c.loop-i.i in
    let here : i < length (stops course) = subst (λ ps. i < length ps) c.as_slice-points.ensures c.loop-i-test.true in
    turning_goes_on m (stops course) M f c.args.word.now (held c.args.prepared.now.values) i c.requires
    (short course)
    here e c.args.code.now.dimension
    (sum_by_powers (g.met.K.Kind.lawful c.args.kind.now) f (held (get_or c.args.prepared.now.powers i c.index-prepared-i.result)) (get_or (stops course) i no_point) few (prep.powers c.index-prepared-i.result i here)
    (c.product_sum-here.ensures ∙ ap (λ h. (comb (ops m) (elems m h) (elems m (held (get_or c.args.prepared.now.powers i c.index-prepared-i.result)))).code) c.as_slice.ensures))
    c.opposite-minus.ensures c.sum-second.ensures
    (c.push.ensures
    ∙ ap₂ (λ ps y. take 24 (sites_in c.loop-i.out ++ record { parameter = (get_or ps i no_point).parameter; locator = y; second = c.sum-second.result } ∷ [])) c.as_slice-points.ensures c.get-locator.ensures)
    (c.loop-i.invariant M e prep few)

pub returns : goal.returns
returns g c = λ M e prep few.
    let m = g.K.Kind.meaning c.args.kind.now in
    turning_ends m (stops c.args.code.now.course) M (elems m (coefficients c.args.f.now)) c.args.word.now c.args.code.now.dimension c.requires
    (subst (λ ps. length ps ≤ c.loop-i.i) c.as_slice-points.ensures c.loop-i-test.false) (c.loop-i.invariant M e prep few)
