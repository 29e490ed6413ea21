use Rattle.skew.specs.Polynomials.{coefficients}
use Rattle.skew.proofs.Growing.{grown_product, grown_same}
use Rattle.skew.proofs.annihilators.grow.Goals as goal

pub returns-in-Some : goal.returns-in-Some
returns-in-Some g c =
    grown_product (g.met.K.Kind.lawful c.args.kind.now) (coefficients c.args.base.now) c.args.point c.as_slice.ensures c.value-v.ensures.steps c.in-Some.ensures c.linear.ensures
    c.product.result c.product.ensures

pub returns-in-None : goal.returns-in-None
returns-in-None g c =
    grown_same (g.met.K.Kind.lawful c.args.kind.now) (coefficients c.args.base.now) c.args.point c.as_slice.ensures c.value-v.ensures.steps c.in-None.ensures
