use Rattle.skew.proofs.Growing.{inverse_none, inverse_some, root_is}
use Rattle.skew.proofs.annihilators.root.Goals as goal

pub returns-in_err-inverse : goal.returns-in_err-inverse
returns-in_err-inverse g c = simp c.from_residual.ensures (inverse_none (g.met.K.Kind.lawful c.args.kind.now) c.args.v c.in_err-inverse.ensures)

pub returns : goal.returns
returns g c = (
  (inverse_some (g.met.K.Kind.lawful c.args.kind.now) c.args.v c.in_ok-inverse.ensures).0,
  root_is (g.met.K.Kind.lawful c.args.kind.now) c.args.parameter c.args.v c.in_ok-inverse.ensures c.twist-twisted.ensures c.product-step.ensures c.product.ensures,
)
