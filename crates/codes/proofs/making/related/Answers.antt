use Rattle.std.proofs.Common.{ℕ, get_or, take, rules, tests, arith}
use Rattle.std.proofs.lemmas.Iterator.{cases_from_any, YieldsList-from_slice}
use Rattle.fields.specs.Elements.{elem, ops}
use Rattle.skew.specs.Roots.{Conjugate}
use Rattle.codes.proofs.Fitting.{related_told}
use Rattle.codes.proofs.making.related.Goals as goal

pub returns : goal.returns
returns g c =
    let m = g.K.Kind.meaning c.args.kind.now in
    let ps = c.args.parameters.now in
    let near = λ (a : ℕ). Conjugate (ops m) (elem m a) (elem m (get_or ps c.args.j 0)) in
    related_told m ps c.args.j c.any.result (omega (arith, c.requires))
    (cases_from_any _ _ c.any.result near (λ a. ¬ near a) c.any.ensures.ran (YieldsList-from_slice (take c.args.j ps) c.iter.ensures.rest) (λ x q k. search (rules, tests)) (λ x q k. search (rules, tests)))
