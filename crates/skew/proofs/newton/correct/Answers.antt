use Rattle.skew.specs.Polynomials.{coefficients}
use Rattle.skew.proofs.Correcting.{corrected_by, corrected_same, not_corrected}
use Rattle.skew.proofs.newton.correct.Goals as goal

pub returns-in-Some : goal.returns-in-Some
returns-in-Some g c =
    corrected_by (g.met.K.Kind.lawful c.args.kind.now) (coefficients c.args.f.now) (coefficients c.args.base.now) c.args.point c.args.wanted
    c.as_slice.ensures c.value-here.ensures.steps c.as_slice-2.ensures c.value-there.ensures.steps
    c.opposite-minus.ensures c.sum-gap.ensures c.in-Some.ensures c.product-c.ensures c.combine.ensures

pub returns-in-None : goal.returns-in-None
returns-in-None g c =
    corrected_same (g.met.K.Kind.lawful c.args.kind.now) (coefficients c.args.f.now) (coefficients c.args.base.now) c.args.point c.args.wanted
    c.as_slice.ensures c.value-here.ensures.steps c.opposite-minus.ensures c.sum-gap.ensures c.if-gap-eq0.true

pub returns-in-None-2 : goal.returns-in-None-2
returns-in-None-2 g c =
    not_corrected (g.met.K.Kind.lawful c.args.kind.now) (coefficients c.args.f.now) (coefficients c.args.base.now) c.args.point c.args.wanted
    c.as_slice.ensures c.value-here.ensures.steps c.as_slice-2.ensures c.value-there.ensures.steps
    c.opposite-minus.ensures c.sum-gap.ensures c.in-None.ensures c.if-gap-eq0.false
