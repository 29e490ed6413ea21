use Rattle.std.proofs.Common.{◌≡◌, ◌-◌, ◌<◌, ◌≤◌, map, length, take, sym, ap, ◌∙◌, subst, arith}
use Rattle.std.proofs.lemmas.List.{length-map, length-take}
use Rattle.std.proofs.lemmas.List.{map-set}
use Rattle.fields.specs.Elements.{elems, codes}
use Rattle.skew.specs.Polynomials.{coefficients}
use Rattle.skew.specs.Annihilators.{Annihilated}
use Rattle.skew.specs.Interpolation.{Unlawful}
use Rattle.skew.proofs.Filling.{short}
use Rattle.skew.proofs.Interpolating.{unlawful_then}
use Rattle.codes.specs.Codes.{word_of}
use Rattle.recovery.specs.Preparation.{UnitAt, Stepped}
use Rattle.recovery.proofs.Units.{Collected, unit_is, collected_goes_on, lawful_there, prepares, first_cut}
use Rattle.recovery.proofs.preparing.prepare.Goals as goal

pub returns-in_err-f : goal.returns-in_err-f
returns-in_err-f g c = λ law.
    let first = take (c.args.code.now.dimension - 0) c.as_slice-points.result.now in
    let there : c.loop-j.j < length first = omega (arith, c.loop-j-test.true, c.args.code.now.most, ap length c.as_slice-points.ensures, length-take (c.args.code.now.dimension - 0) c.as_slice-points.result.now) in
    let few : length first ≤ 24 = omega (arith, short c.args.code.now.course, ap length c.as_slice-points.ensures, length-take (c.args.code.now.dimension - 0) c.as_slice-points.result.now) in
    simp c.from_residual-in_err-f.ensures
    (lawful_there (g.met.K.Kind.lawful c.args.kind.now) c.args.code.now law
    (subst (Unlawful (g.K.Kind.meaning c.args.kind.now)) (first_cut c.args.code.now.dimension c.as_slice-points.ensures)
    (unlawful_then (g.K.Kind.meaning c.args.kind.now) first c.loop-j.j there few c.in_err-f.ensures)))

pub loop-j-preserved : goal.loop-j-preserved
loop-j-preserved g c =
    collected_goes_on (UnitAt (g.K.Kind.meaning c.args.kind.now) (take (c.args.code.now.dimension - 0) c.as_slice-points.result.now))
    (omega (arith, c.loop-j-test.true, c.args.code.now.most, short c.args.code.now.course)) (map-set coefficients c.loop-j.units c.loop-j.j c.in_ok-f.f)
    (unit_is (g.met.K.Kind.lawful c.args.kind.now) (take (c.args.code.now.dimension - 0) c.as_slice-points.result.now) c.loop-j.j c.in_ok-f.ensures.0 c.in_ok-f.ensures.1) c.loop-j.invariant

pub invariant_of-result : goal.invariant_of-result
invariant_of-result g c = record { whole = sym (length-map c.loop-j.units coefficients) ∙ c.loop-j.invariant.size; points = c.powers_of.ensures.size }

pub returns : goal.returns
returns g c = λ law.
    let m = g.K.Kind.meaning c.args.kind.now in
    let first = first_cut c.args.code.now.dimension c.as_slice-points.ensures in
    let all_of : c.loop-j.j ≡ c.args.code.now.dimension = omega (arith, c.loop-j-test.false, c.loop-j.auto.j-end) in
    prepares (g.met.K.Kind.lawful c.args.kind.now) c.args.code.now law _
    (subst (λ ps. Annihilated m ps (coefficients c.in_ok-top.top)) first c.in_ok-top.ensures)
    (c.encode-values.ensures ∙ ap (λ f. codes (word_of m c.args.code.now (elems m f))) c.as_slice.ensures)
    (subst (λ ps. Collected (UnitAt m ps) c.args.code.now.dimension (map coefficients c.loop-j.units)) first
    (subst (λ n. Collected (UnitAt m (take (c.args.code.now.dimension - 0) c.as_slice-points.result.now)) n (map coefficients c.loop-j.units)) all_of c.loop-j.invariant))
    (subst (λ ps. Collected (Stepped m ps) (length ps) c.powers_of.result) c.as_slice-points.ensures (record { size = c.powers_of.ensures.size; each = c.powers_of.ensures.each }))
