use Rattle.std.proofs.Common.{◌+◌, subst, arith}
use Rattle.skew.specs.Annihilators.{Annihilated}
use Rattle.skew.specs.Polynomials.{coefficients}
use Rattle.skew.specs.Pairs.{spots, Held}
use Rattle.codes.specs.Holdings.{stops}
use Rattle.recovery.specs.Sites.{sites_in}
use Rattle.recovery.proofs.Candidacy.{cases_so, product_fits, divides, candidate}
use Rattle.recovery.proofs.recovering.candidate.Goals as goal

pub returns-in_err-divisor : goal.returns-in_err-divisor
returns-in_err-divisor g c = λ law gs h.
    let m = g.K.Kind.meaning c.args.kind.now in
    simp c.from_residual-in_err-divisor.ensures
    (let fits = product_fits (g.met.K.Kind.lawful c.args.kind.now) c.args.code.now c.args.hints.now gs c.args.word.now law h c.requires
    (stops c.row_points-points.result) (coefficients c.in_ok-killer.killer) (c.row_points-points.ensures (λ i k. (h.blocks i k).rows.form))
    (subst (λ q. Annihilated m q (coefficients c.in_ok-killer.killer)) c.as_slice.ensures c.in_ok-killer.ensures)
    (sites_in c.left_sites-sites.result) (c.left_sites-sites.ensures (λ i k. (h.blocks i k).columns.form)) c.in_ok-both.both
    (subst (λ q. Held m (c.args.code.now.dimension + c.args.hints.now.rows) (spots m q) c.in_ok-both.both) c.as_slice-2.ensures c.in_ok-both.ensures.1) in
    omega (arith, fits, c.in_err-divisor.ensures))

pub returns : goal.returns
returns g c = λ law gs h.
    let m = g.K.Kind.meaning c.args.kind.now in
    let l = g.met.K.Kind.lawful c.args.kind.now in
    let killer = coefficients c.in_ok-killer.killer in
    let points = c.row_points-points.ensures (λ i k. (h.blocks i k).rows.form) in
    let kills = subst (λ q. Annihilated m q killer) c.as_slice.ensures c.in_ok-killer.ensures in
    let left = c.left_sites-sites.ensures (λ i k. (h.blocks i k).columns.form) in
    let both = c.in_ok-both.both in
    let carried = subst (λ q. Held m (c.args.code.now.dimension + c.args.hints.now.rows) (spots m q) both) c.as_slice-2.ensures c.in_ok-both.ensures.1 in
    cases_so c.left_quotient.result
    (divides l c.args.code.now c.args.hints.now gs c.args.word.now law h c.requires (stops c.row_points-points.result) killer points kills (sites_in c.left_sites-sites.result) left both carried
    (coefficients c.in_ok-divisor.divisor) c.in_ok-divisor.ensures)
    (λ q. candidate l c.args.code.now c.args.hints.now gs c.args.word.now law h c.requires (stops c.row_points-points.result) killer points kills (sites_in c.left_sites-sites.result) left both carried
    (coefficients c.in_ok-divisor.divisor) c.in_ok-divisor.ensures (coefficients c.negated-dividend.result) (coefficients q) c.negated-dividend.ensures)
    c.left_quotient.ensures
