use Rattle.std.proofs.Common.{◌≡◌, ◌+◌, ◌<◌, ◌≤◌, [], ◌∷◌, ◌++◌, length, get_or, sym, ap, ◌∙◌, subst, arith, rules}
use Rattle.std.proofs.lemmas.List.{take_all, length_push, get_or-take}
use Rattle.fields.specs.Field.{comb}
use Rattle.fields.specs.Elements.{elems, ops}
use Rattle.skew.specs.Polynomials.{coefficients}
use Rattle.skew.proofs.Filling.{short}
use Rattle.codes.specs.Holdings.{held, stops}
use Rattle.codes.proofs.EncodingLoop.{goes_on, ends}
use Rattle.recovery.specs.Preparation.{Stepped}
use Rattle.recovery.specs.Steps.{no_point}
use Rattle.recovery.proofs.Stepping.{sum_by_powers}
use Rattle.recovery.proofs.powers.encode_by.Goals as goal

pub loop-powers-init : goal.loop-powers-init
loop-powers-init g c = (ap length c.empty-out.ensures, λ prep few. c.empty-out.ensures)

pub loop-powers-preserved : goal.loop-powers-preserved
loop-powers-preserved g c =
    let m = g.K.Kind.meaning c.args.kind.now in
    let l = g.met.K.Kind.lawful c.args.kind.now in
    let course = stops c.args.code.now.course in
    let i = c.loop-powers.powers-index in
    let all_of : c.len-n.result ≡ length course = c.len-n.ensures in
    let here : i < length course = search rules in
    let room : length (held c.loop-powers.out ++ c.product_sum-symbol.result ∷ []) ≤ 24 = omega (arith, length_push (held c.loop-powers.out) c.product_sum-symbol.result, c.loop-powers.invariant.0, here, short c.args.code.now.course) in (
      ap length (c.push.ensures ∙ take_all 24 _ room) ∙ length_push (held c.loop-powers.out) c.product_sum-symbol.result ∙ ap (λ n. n + 1) c.loop-powers.invariant.0,
      λ prep few.
          goes_on m (coefficients c.args.message.now) course no_point (short c.args.code.now.course) here (c.loop-powers.invariant.1 prep few)
          (sum_by_powers l (coefficients c.args.message.now) (held c.powers-item.result) (get_or course i no_point) few
          (subst (Stepped m course i) (sym (c.powers-item.is ∙ get_or-take c.len-n.result c.args.prepared.now.powers i c.powers-item.result (omega (arith, here, all_of)))) (prep.powers c.powers-item.result i here))
          (c.product_sum-symbol.ensures ∙ ap (λ f. (comb (ops m) (elems m f) (elems m (held c.powers-item.result))).code) c.as_slice.ensures))
          c.push.ensures,
    )

pub returns : goal.returns
returns g c =
    let m = g.K.Kind.meaning c.args.kind.now in
    let end : length (stops c.args.code.now.course) ≡ c.loop-powers.powers-index = search rules in
    record {
      size = c.loop-powers.invariant.0 ∙ sym end;
      exact = λ prep few. ends m (coefficients c.args.message.now) (stops c.args.code.now.course) (omega (arith, end)) (c.loop-powers.invariant.1 prep few);
    }
