-- A polynomial with the multiple of another that gives it a wanted value at a new point, over plain numbers.
--
--   corrected_by, corrected_same    with such a multiple, or as it was
--   vanishes_there, not_corrected   there is none where the other is zero
use Rattle.std.proofs.Common.{◌≡◌, ℕ, ◌+◌, ◌<◌, ◌≢◌, List, length, Some, None, sym, refl, ap, ◌∙◌, subst, arith}
use Rattle.std.proofs.lemmas.List.{length-map}
use Rattle.fields.specs.Field.{plus, scale}
use Rattle.fields.specs.Field as field
use Rattle.fields.specs.Meaning.{Meaning, Laws, clip, inverted}
use Rattle.fields.specs.Elements.{Elem, elem, elems, codes, ops}
use Rattle.fields.specs.Basics
use Rattle.fields.specs.Inverses
use Rattle.fields.specs.Basics.{ring}
use Rattle.fields.specs.Rows
use Rattle.fields.proofs.Carrier
use Rattle.skew.specs.declared.points.Point.{Point}
use Rattle.skew.specs.Values.{eval, value, eval_code}
use Rattle.skew.specs.Roots.{at, Vanishes}
use Rattle.skew.specs.Polynomials.{combined}
use Rattle.skew.specs.Annihilators.{place}
use Rattle.skew.specs.Interpolation.{Corrected}
use Rattle.skew.proofs.Evaluation
use Rattle.skew.proofs.Sums
use Rattle.skew.proofs.Growing.{inverse_some, inverse_none}

module _ {F : Type 0} {o : field.Ops F} (l : field.Laws o) where
  open o use {zero, one, add as ◌+◌, mul as ◌*◌, neg, inv}

  infixl 65 ◌+◌
  infixl 70 ◌*◌
  -- f with a multiple of g.
  pub at_sum : (a c : F) (f g : List F) (b : F) → eval o a (plus o (scale o one f) (scale o c g)) b ≡ eval o a f b + c * eval o a g b
  at_sum a c f g b =
      ap (λ z. eval o a (plus o z (scale o c g)) b) (Sums.scale_one l f) ∙ Evaluation.eval_plus l a f (scale o c g) b
      ∙ ap (λ w. eval o a f b + w) (Evaluation.eval_scaled l a c g b)

  -- Less once another.
  pub less_one : (x y : F) → x + neg one * y ≡ x + neg y
  less_one x y = simp (ring, l)

  -- The multiple that is added closes the gap.
  settled : (v x y : F) → y ≢ zero → x + (v + neg x) * inv y * y ≡ v
  settled v x y n = ap (λ w. x + w) (Basics.mul_assoc l (v + neg x) (inv y) y ∙ ap (λ w. (v + neg x) * w) (Inverses.inv_mul l y n)) ∙ simp (ring, l)

  -- A multiple of what is zero adds nothing.
  cleared : (x c : F) → x + c * zero ≡ x
  cleared x c = simp (ring, l)

module _ {m : Meaning} (l : Laws m) where
  -- The laws of the elements.
  abbrev laws : field.Laws (ops m)
  laws = Carrier.ops_laws l

  -- Both forms of the value.
  abbrev both : eval (ops m) ≡ value (ops m)
  both = Evaluation.both_values laws

  -- With the multiple of g that is wanted.
  pub corrected_by : (f g : List ℕ) (p : Point) (wanted : ℕ) {sf sg h : List ℕ} {here there minus gap inverse c : ℕ}
      → sf ≡ f → here ≡ eval_code m sf p.parameter p.locator → sg ≡ g → there ≡ eval_code m sg p.parameter p.locator
      → minus ≡ m.opposite (clip m here) → gap ≡ m.sum (clip m wanted) (clip m minus) → Some inverse ≡ inverted m there → c ≡ m.product (clip m gap) (clip m inverse)
      → h ≡ codes (combined m 1 f c g) → Corrected m f g p wanted h
  corrected_by f g p wanted {sf} {sg} {h} {here} {there} {minus} {gap} {inverse} {c} esf eh esg et em eg ei ec er =
      let o = ops m in
      let a = elem m p.parameter in
      let b = elem m p.locator in
      let hv : elem m here ≡ eval o a (elems m f) b = Carrier.named _ eh ∙ ap (λ z. eval o a (elems m z) b) esf in
      let tv : elem m there ≡ eval o a (elems m g) b = Carrier.named _ et ∙ ap (λ z. eval o a (elems m z) b) esg in
      let n = inverse_some l there ei in
      let e1 = Carrier.negates m here em in
      let e2 = Carrier.sums m wanted minus eg in
      let e3 = n.1 in
      let e4 = Carrier.multiplies m gap inverse ec in
      let C : elem m c ≡ o.mul (o.add (elem m wanted) (o.neg (eval o a (elems m f) b))) (o.inv (eval o a (elems m g) b)) = cc in
      let H : elems m h ≡ plus o (scale o o.one (elems m f)) (scale o (elem m c) (elems m g)) =
      ap (elems m) er ∙ Carrier.elems_codes _ ∙ ap (λ x. plus o (scale o x (elems m f)) (scale o (elem m c) (elems m g))) (Carrier.one_is m) in
      let at-h : (t : Elem m × Elem m) → eval o t.0 (elems m h) t.1 ≡ o.add (eval o t.0 (elems m f) t.1) (o.mul (elem m c) (eval o t.0 (elems m g) t.1)) =
      λ t. ap (λ z. eval o t.0 z t.1) H ∙ at_sum laws t.0 (elem m c) (elems m f) (elems m g) t.1 in
      record {
        proper = λ _. ap (λ z. codes (elems m z)) er ∙ ap codes (Carrier.elems_codes _) ∙ sym er;
        size = omega (
          arith,
          ap length er,
          length-map (combined m 1 f c g) (λ (x : Elem m). x.code),
          Rows.length_plus laws (scale o (elem m 1) (elems m f)) (scale o (elem m c) (elems m g)),
          length-map (elems m f) (o.mul (elem m 1)),
          length-map (elems m g) (o.mul (elem m c)),
          length-map f (elem m),
          length-map g (elem m),
        );
        there = subst (λ v. v a (elems m h) b ≡ elem m wanted) both
            (at-h (a, b) ∙ ap (λ x. o.add (eval o a (elems m f) b) (o.mul x (eval o a (elems m g) b))) C
            ∙ settled laws (elem m wanted) (eval o a (elems m f) b) (eval o a (elems m g) b) (λ z. n.0 (tv ∙ z)));
        keeps = subst (λ v. (t : Elem m × Elem m) → v t.0 (elems m g) t.1 ≡ o.zero → v t.0 (elems m h) t.1 ≡ v t.0 (elems m f) t.1) both
            (λ t z. at-h t ∙ ap (λ x. o.add (eval o t.0 (elems m f) t.1) (o.mul (elem m c) x)) z ∙ cleared laws _ _);
      }

  -- As it was, where the value is the one wanted.
  pub corrected_same : (f g : List ℕ) (p : Point) (wanted : ℕ) {sf : List ℕ} {here minus gap : ℕ}
      → sf ≡ f → here ≡ eval_code m sf p.parameter p.locator → minus ≡ m.opposite (clip m here) → gap ≡ m.sum (clip m wanted) (clip m minus) → gap ≡ 0 → Corrected m f g p wanted f
  corrected_same f g p wanted {sf} {here} {minus} {gap} esf eh em eg z =
      let o = ops m in
      let a = elem m p.parameter in
      let b = elem m p.locator in
      let hv : elem m here ≡ eval o a (elems m f) b = Carrier.named _ eh ∙ ap (λ z. eval o a (elems m z) b) esf in
      let e1 = Carrier.negates m here em in
      let e2 = Carrier.sums m wanted minus eg in
      let e3 : elem m gap ≡ o.zero = ap (elem m) z ∙ Carrier.zero_is m in
      let e : o.add (elem m wanted) (o.neg (eval o a (elems m f) b)) ≡ o.zero = cc in
      record {
        proper = λ h. h;
        size = omega arith;
        there = subst (λ v. v a (elems m f) b ≡ elem m wanted) both (sym (Basics.equal_of_sub laws (elem m wanted) (eval o a (elems m f) b) e));
        keeps = λ t h. refl;
      }

  -- Where there is no inverse the base vanishes.
  pub vanishes_there : (g : List ℕ) (p : Point) {sg : List ℕ} {there : ℕ} → sg ≡ g → there ≡ eval_code m sg p.parameter p.locator → None ≡ inverted m there → Vanishes (ops m) (elems m g) (place m p)
  vanishes_there g p {sg} {there} esg et ei =
      let o = ops m in
      let a = elem m p.parameter in
      let b = elem m p.locator in
      let tv : elem m there ≡ eval o a (elems m g) b = Carrier.named _ et ∙ ap (λ z. eval o a (elems m z) b) esg in
      subst (λ v. v a (elems m g) b ≡ o.zero) both (sym tv ∙ inverse_none l there ei)

  -- And where the gap is not 0, f has another value there than the one wanted.
  pub not_corrected : (f g : List ℕ) (p : Point) (wanted : ℕ) {sf sg : List ℕ} {here there minus gap : ℕ}
      → sf ≡ f → here ≡ eval_code m sf p.parameter p.locator → sg ≡ g → there ≡ eval_code m sg p.parameter p.locator
      → minus ≡ m.opposite (clip m here) → gap ≡ m.sum (clip m wanted) (clip m minus) → None ≡ inverted m there → gap ≢ 0
      → Vanishes (ops m) (elems m g) (place m p) × (at (ops m) (elems m f) (place m p) ≢ elem m wanted)
  not_corrected f g p wanted {sf} {sg} {here} {there} {minus} {gap} esf eh esg et em eg ei n =
      (vanishes_there g p esg et ei, (λ same. n (Carrier.same_elem l gap 0 code (Carrier.zero_code l) (none same ∙ sym (Carrier.zero_is m)))))
    where
      code : gap < m.size
      code = subst (λ x. x < m.size) (sym eg) (l.sum_code (clip m wanted) (clip m minus) (Carrier.clip_code l wanted) (Carrier.clip_code l minus))

      same_here : at (ops m) (elems m f) (place m p) ≡ elem m wanted → elem m wanted ≡ elem m here
      same_here same = sym same ∙ ap (λ v. v (elem m p.parameter) (elems m f) (elem m p.locator)) (sym both) ∙ ap (λ z. eval (ops m) (elem m p.parameter) (elems m z) (elem m p.locator)) (sym esf) ∙ sym (Carrier.named _ eh)

      none : at (ops m) (elems m f) (place m p) ≡ elem m wanted → elem m gap ≡ (ops m).zero
      none same =
          Carrier.sums m wanted minus eg ∙ ap (λ w. (ops m).add (elem m wanted) w) (Carrier.negates m here em)
          ∙ Basics.sub_of_equal laws (elem m wanted) (elem m here) (same_here same)
