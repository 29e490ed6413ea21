use Rattle.std.proofs.Common.{ap, ◌∙◌}
use Rattle.fields.specs.Elements.{codes}
use Rattle.skew.specs.Polynomials.{coefficients}
use Rattle.recovery.proofs.Subtracting.{negated_is}
use Rattle.recovery.proofs.recovering.negated.Goals as goal

pub returns : goal.returns
returns g c = c.combine.ensures ∙ ap codes (negated_is (g.met.K.Kind.lawful c.args.kind.now) (coefficients c.args.f.now) (coefficients c.empty.result) c.opposite-minus.ensures c.empty.ensures)
