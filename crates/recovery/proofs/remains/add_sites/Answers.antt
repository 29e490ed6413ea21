use Rattle.std.proofs.Common.{◌≡◌, ◌+◌, ◌<◌, false, not, None, ◌++◌, length, get_or, take, sym, ap, ◌∙◌, subst, arith, length-take-le, rules}
use Rattle.std.proofs.lemmas.List.{get_or-map, length-map}
use Rattle.std.specs.Option.{is_some}
use Rattle.fields.specs.Elements.{elem, elems}
use Rattle.skew.specs.Values.{eval_code}
use Rattle.skew.specs.Polynomials.{coefficients}
use Rattle.skew.specs.Pairs.{spots}
use Rattle.hints.proofs.Padding.{padded_numbers}
use Rattle.ranks.specs.Reduction.{marks_of, rows_of}
use Rattle.ranks.specs.RowSteps.{clear}
use Rattle.fields.specs.Elements.{ops}
use Rattle.recovery.specs.Steps.{no_point, parameter_of}
use Rattle.recovery.specs.Sites.{sites_in}
use Rattle.recovery.proofs.Leaving.{Leaving, leaving_skips, leaving_goes_on, leaving_ends, site_here, block_spots_here}
use Rattle.recovery.proofs.remains.add_sites.Goals as goal
use Rattle.recovery.proofs.remains.add_sites.Goals.{then-is_none, else-is_none}

pub loop-p-preserved : goal.loop-p-preserved
loop-p-preserved g c =
    let m = g.K.Kind.meaning c.args.kind.now in
    let n = length c.args.points.now in
    let us = c.cleared-locators.result.cells in
    let vs = c.cleared-left.result.cells in
    let eu : length us ≡ 8 = search rules in
    let ev : length vs ≡ 8 = search rules in
    let er : length c.args.columns.now.rows ≡ 8 = search rules in
    let em : length (marks_of c.args.columns.now) ≡ 8 = length-map c.args.columns.now.rows is_some ∙ er in
    let low : c.loop-p.p < n = c.loop-p-test.true in
    let hu : c.loop-p.p < length (take n (elems m us)) = omega (arith, low, c.requires.few, length-take-le n (elems m us) (omega (arith, length-map us (elem m), eu, c.requires.few))) in
    let hv : c.loop-p.p < length (take n (elems m vs)) = omega (arith, low, c.requires.few, length-take-le n (elems m vs) (omega (arith, length-map vs (elem m), ev, c.requires.few))) in
    let hm : c.loop-p.p < length (marks_of c.args.columns.now) = omega (arith, low, c.requires.few, em) in
    let mark = get_or-map is_some c.args.columns.now.rows c.loop-p.p None false (omega (arith, low, c.requires.few, er)) ∙ c.is_none.ensures in
    elim c.if-is_none.branch [
      | then-is_none w ↦
          leaving_goes_on m hm hu hv (record { parameter = (get_or c.args.points.now 0 no_point).parameter; locator = get_or us c.loop-p.p 0; second = w.value-second.result }) (mark ∙ ap not w.if-is_none.true)
          (site_here m c.args.points.now (coefficients c.args.killer.now) us vs n low
          (subst (λ f. w.value-second.result ≡ eval_code m f (get_or c.args.points.now 0 no_point).parameter (get_or vs c.loop-p.p 0)) w.as_slice.ensures w.value-second.ensures.steps))
          (ap sites_in w.out-is ∙ w.push.ensures) c.loop-p.invariant
      | else-is_none w ↦
          subst (λ o. Leaving m (parameter_of m c.args.points.now) (elems m (coefficients c.args.killer.now)) (marks_of c.args.columns.now) (take n (elems m us)) (take n (elems m vs)) (sites_in c.args.out.now) (c.loop-p.p + 1) (sites_in o))
          (sym w.out-is) (leaving_skips m hm hu hv (mark ∙ ap not w.if-is_none.false) c.loop-p.invariant)
    ]

pub returns : goal.returns
returns g c =
    let m = g.K.Kind.meaning c.args.kind.now in
    let n = length c.args.points.now in
    let us = c.cleared-locators.result.cells in
    let eu : length us ≡ 8 = search rules in
    let f = c.args.columns.now in
    λ k.
    leaving_ends m (omega (arith, c.loop-p-test.false, c.requires.few, length-take-le n (elems m us) (omega (arith, length-map us (elem m), eu, c.requires.few))))
    (omega (arith, c.loop-p.out.fits, c.loop-p.out.whole, length-take-le c.loop-p.out.len c.loop-p.out.cells (omega (arith, c.loop-p.out.fits, c.loop-p.out.whole)))) c.loop-p.invariant
    ∙ ap (λ w. take 24 (spots m (sites_in c.args.out.now) ++ w))
    (block_spots_here m f (elems m (coefficients c.args.killer.now)) c.args.points.now c.args.symbols.now (elems m us) (elems m c.cleared-left.result.cells) c.requires.same
    (c.cleared-locators.ensures k ∙ ap (clear (ops m) (marks_of f) (rows_of m f)) (c.locator_row-places.ensures m))
    (c.cleared-left.ensures k ∙ ap (clear (ops m) (marks_of f) (rows_of m f)) (ap (elems m) (c.padded_row-received.ensures.few (omega (arith, c.requires.few, c.requires.same))) ∙ padded_numbers m c.args.symbols.now)))
