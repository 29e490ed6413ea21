-- The loop of `annihilator`, over plain numbers.
--
--   Growing m ps f    f is in codes, monic, of degree at most the number of points, and vanishes at each; and what vanishes at
--                     each is a multiple of it
use Rattle.std.proofs.Common.{◌≡◌, ℕ, suc, ◌+◌, ◌<◌, ◌≤◌, Bool, true, false, cond, ltb, ◌≢◌, List, [], ◌∷◌, ◌++◌, length, get_or, take, Some, None, Option, sym, refl, ap, ◌∙◌, subst, arith, MatchOption}
use Rattle.std.proofs.lemmas.List.{length-map}
use Rattle.std.proofs.lemmas.List.{take_more, take_all, map-append, length_push, length-take-le}
use Rattle.std.proofs.lemmas.Bool.{ltb-true, ltb-false, cond-true}
use Rattle.std.specs.List.{AllByRecursion}
use Rattle.fields.specs.Field as field
use Rattle.fields.specs.Meaning.{Meaning, Laws, clip, inverted}
use Rattle.fields.specs.Elements.{Elem, element, elem, elems, codes, ops}
use Rattle.fields.specs.Basics
use Rattle.fields.specs.Inverses
use Rattle.fields.proofs.Carrier
use Rattle.fields.specs.Lists.{all_follow}
use Rattle.skew.specs.declared.points.Point.{Point}
use Rattle.skew.specs.declared.few.Few.{Few}
use Rattle.skew.specs.Values.{step, eval, value, eval_code}
use Rattle.skew.specs.Roots.{Vanishes}
use Rattle.skew.specs.Products.{coef, Product}
use Rattle.skew.specs.Polynomials.{coefficients, Codes, Multiplied}
use Rattle.skew.specs.Annihilators.{place, places, Monic, Multiple, Annihilated, Root, Grown}
use Rattle.skew.proofs.Evaluation
use Rattle.skew.proofs.Everywhere.{all_append, all_left, all_right}
use Rattle.skew.proofs.Vanishing
use Rattle.skew.proofs.Vanishing.{linear}

pub record Growing (m : Meaning) (ps : List Point) (f : List ℕ) : Type 0 where
  pub proper : Codes m f
  pub monic : Monic (ops m) (elems m f)
  pub degree : length f ≤ suc (length ps)
  pub vanishes : AllByRecursion (Vanishes (ops m) (elems m f)) (places m ps)
  pub least : (h : List (Elem m)) → AllByRecursion (Vanishes (ops m) h) (places m ps) → Multiple (ops m) (elems m f) h

-- What a choice between a value and none says where it is a value.
some_of : (b : Bool) (x i : ℕ) → Some i ≡ cond b (Some x) None → (b ≡ true) × (i ≡ x)
some_of true x i e = (refl, cc)
some_of false x i e = let z : ◌≡◌ {A = ℕ} 0 1 = cc in absurd (omega arith)

-- And where it is none.
none_of : (b : Bool) (x : ℕ) → None ≡ cond b (Some x) None → b ≡ false
none_of true x e = let z : ◌≡◌ {A = ℕ} 0 1 = cc in absurd (omega arith)
none_of false x e = refl

module _ {m : Meaning} (l : Laws m) where
  -- The laws of the elements.
  laws : field.Laws (ops m)
  laws = Carrier.ops_laws l

  -- The code of zero.
  pub code_of_zero : (ops m).zero.code ≡ 0
  code_of_zero = sym (Carrier.answers _ (Carrier.zero_counts l) (Carrier.zero_is m))

  -- The code of the element of a number is what the number counts as.
  code_of : (v : ℕ) → (elem m v).code ≡ clip m v
  unfolding element
  code_of v = refl

  -- What `inverse` answers, told in elements.
  pub inverse_some : {i : ℕ} (v : ℕ) → Some i ≡ inverted m v → (elem m v ≢ (ops m).zero) × (elem m i ≡ (ops m).inv (elem m v))
  inverse_some {i} v e =
      let s = some_of (ltb 0 (clip m v)) (m.inverse (clip m v)) i e in
      let h : 0 < clip m v = ltb-true 0 (clip m v) s.0 in
      ((λ z. omega (arith, h, sym (code_of v) ∙ ap (λ (x : Elem m). x.code) z ∙ code_of_zero)), Carrier.inverts m v (s.1 ∙ sym (cond-true (ltb 0 (clip m v)) (m.inverse (clip m v)) 0 s.0)))

  -- Only zero has no inverse.
  pub inverse_none : (v : ℕ) → None ≡ inverted m v → elem m v ≡ (ops m).zero
  inverse_none v e =
      let h = ltb-false 0 (clip m v) (none_of (ltb 0 (clip m v)) (m.inverse (clip m v)) e) in
      Carrier.same_code (elem m v) (ops m).zero (code_of v ∙ (let z : clip m v ≡ 0 = omega arith in z) ∙ sym code_of_zero)

  -- What `root` computes.
  pub root_is : (a v : ℕ) {i t s c : ℕ} → Some i ≡ inverted m v → t ≡ m.twist (clip m v) → s ≡ m.product (clip m t) (clip m a) → c ≡ m.product (clip m s) (clip m i) → Root m a v c
  root_is a v {i} {t} {s} {c} ei et es ec =
      let o = ops m in
      let n = inverse_some v ei in
      let e1 = Carrier.twists m v et in
      let e2 = Carrier.multiplies m t a es in
      let e4 = Carrier.multiplies m s i ec in
      let e5 = n.1 in
      let e : elem m c ≡ o.mul (step o (elem m a) (elem m v)) (o.inv (elem m v)) = cc in
      record { is = ap (λ w. o.mul w (elem m v)) e ∙ Basics.mul_assoc laws _ (o.inv (elem m v)) (elem m v) ∙ ap (o.mul _) (Inverses.inv_mul laws (elem m v) n.0) ∙ Basics.mul_one laws _ }

  -- What `linear` fills in.
  pub linear_is : (c : ℕ) {d : ℕ} {e p q : List ℕ} → e ≡ [] → d ≡ m.opposite (clip m c) → p ≡ take 48 (e ++ d ∷ []) → q ≡ take 48 (p ++ 1 ∷ []) → q ≡ codes (linear (ops m) (elem m c))
  linear_is c {d} {e} {p} {q} ee ed ep eq =
      eq ∙ ap (λ y. take 48 (y ++ 1 ∷ [])) (ep ∙ ap (λ y. take 48 (y ++ d ∷ [])) ee)
      ∙ ap (λ x. x ∷ 1 ∷ []) (Carrier.answers ((ops m).neg (elem m c)) (Carrier.opposite_counts l c ed) (Carrier.negates m c ed))
      ∙ ap (λ x. ((ops m).neg (elem m c)).code ∷ x ∷ []) (Carrier.answers (ops m).one (Carrier.one_counts l) (Carrier.one_is m))

  -- Both forms of the value.
  both : eval (ops m) ≡ value (ops m)
  both = Evaluation.both_values laws

  -- With a factor more.
  grown_more : (g : List ℕ) (p : Point) {s k f : List ℕ} {v c : ℕ} → s ≡ g → v ≡ eval_code m s p.parameter p.locator → (elem m v ≢ (ops m).zero) × Root m p.parameter v c → k ≡ codes (linear (ops m) (elem m c)) → Multiplied m k g f
      → Grown m g p f
  grown_more g p {s} {k} {f} {v} {c} es ev (nz, r) ek h =
      let o = ops m in
      let a = elem m p.parameter in
      let b = elem m p.locator in
      let V : elem m v ≡ eval o a (elems m g) b = Carrier.named _ ev ∙ ap (λ z. eval o a (elems m z) b) es in
      let K : elems m k ≡ linear o (elem m c) = ap (elems m) ek ∙ Carrier.elems_codes _ in
      let H : Product o (linear o (elem m c)) (elems m g) (elems m f) = subst (λ z. Product o z (elems m g) (elems m f)) K h.product in
      let n : length f ≤ suc (length g) = omega (arith, h.size, ap length ek) in
      record {
        proper = λ _. h.proper;
        size = n;
        monic = Vanishing.product_monic laws (elem m c) (elems m g) (elems m f) H (omega (arith, length-map f (elem m), length-map g (elem m)));
        there = subst (λ w. w a (elems m f) b ≡ o.zero) both (Vanishing.product_there laws (elem m c) (elems m g) (elems m f) H a b (subst (λ x. o.mul (elem m c) x ≡ step o a x) V r.is));
        keeps = subst (λ w. (t : Elem m × Elem m) → w t.0 (elems m g) t.1 ≡ o.zero → w t.0 (elems m f) t.1 ≡ o.zero) both
            (λ t. Vanishing.product_keeps laws (elem m c) (elems m g) (elems m f) H t.0 t.1);
        least = subst (λ w. (h : List (Elem m)) → (q : List (Elem m)) × ((e x : Elem m) → w e h x ≡ w e q (w e (elems m g) x)) → w a h b ≡ o.zero
            → (q : List (Elem m)) × ((e x : Elem m) → w e h x ≡ w e q (w e (elems m f) x))) both
            (λ h u z.
            let d = Vanishing.product_least laws (elem m c) (elems m g) (elems m f) H a b u.0 (λ y. nz (V ∙ y)) (subst (λ x. o.mul (elem m c) x ≡ step o a x) V r.is) (sym (u.1 a b) ∙ z) in
            (d.0, λ e x. u.1 e x ∙ d.1 e x));
      }

  -- What `product` answers for the factor and g.
  pub grown_product : (g : List ℕ) (p : Point) {s k : List ℕ} {v c : ℕ} → s ≡ g → v ≡ eval_code m s p.parameter p.locator → (elem m v ≢ (ops m).zero) × Root m p.parameter v c → k ≡ codes (linear (ops m) (elem m c))
      → (r : Option (Few ℕ 48)) → MatchOption r (49 < length k + length g) (λ f. Multiplied m k g (coefficients f)) → MatchOption r (47 < length g) (λ f. Grown m g p (coefficients f))
  grown_product g p es ev r ek None h = omega (arith, ap length ek)
  grown_product g p es ev r ek (Some f) h = grown_more g p es ev r ek h

  -- As it was, where it vanishes already.
  pub grown_same : (g : List ℕ) (p : Point) {s : List ℕ} {v : ℕ} → s ≡ g → v ≡ eval_code m s p.parameter p.locator → elem m v ≡ (ops m).zero → Grown m g p g
  grown_same g p {s} {v} es ev z =
      let o = ops m in
      let a = elem m p.parameter in
      let b = elem m p.locator in
      let V : elem m v ≡ eval o a (elems m g) b = Carrier.named _ ev ∙ ap (λ z. eval o a (elems m z) b) es in
      record { proper = λ h. h; size = omega arith; monic = λ h. h; there = subst (λ w. w a (elems m g) b ≡ o.zero) both (sym V ∙ z); keeps = λ t h. h; least = λ h u z. u }

  -- The polynomial 1 vanishes at no point.
  pub annihilator_starts : {e out : List ℕ} → e ≡ [] → out ≡ take 48 (e ++ 1 ∷ []) → Growing m [] out
  annihilator_starts {e} {out} ee eo =
      let e1 : out ≡ 1 ∷ [] = eo ∙ ap (λ ys. take 48 (ys ++ 1 ∷ [])) ee in
      let one : codes (elems m (1 ∷ [])) ≡ 1 ∷ [] = ap (λ x. x ∷ []) (sym (Carrier.code_elem m 1 (Carrier.one_counts l))) in
      record {
        proper = ap (λ z. codes (elems m z)) e1 ∙ one ∙ sym e1;
        monic = (0, length-map out (elem m) ∙ ap length e1, ap (λ z. coef (ops m) (elems m z) 0) e1 ∙ Carrier.one_is m);
        degree = omega (arith, ap length e1);
        vanishes = tt;
        least = λ h _. (h, λ e x. ap (value (ops m) e h) (sym (value_of_one e x e1)));
      }
    where
      value_of_one : (e x : Elem m) → out ≡ 1 ∷ [] → value (ops m) e (elems m out) x ≡ x
      value_of_one e x h =
          ap (λ z. value (ops m) e (elems m z) x) h ∙ ap (λ v. v e (elems m (1 ∷ [])) x) (sym both) ∙ ap (λ y. (ops m).add ((ops m).mul y x) (ops m).zero) (Carrier.one_is m)
          ∙ Basics.add_zero laws _ ∙ Basics.one_mul laws x

  -- One point more.
  pub annihilator_goes_on : (d : Point) (ps : List Point) {i : ℕ} {out out' : List ℕ} → i < length ps → Growing m (take i ps) out
      → Grown m out (get_or ps i d) out' → Growing m (take (i + 1) ps) out'
  annihilator_goes_on d ps {i} {out} {out'} h a r =
      let p = get_or ps i d in
      let V : Elem m × Elem m → Type 0 = Vanishes (ops m) (elems m out') in
      let old : AllByRecursion V (places m (take i ps)) = all_follow (Vanishes (ops m) (elems m out)) V r.keeps (places m (take i ps)) a.vanishes in
      let new : AllByRecursion V (places m (take i ps ++ p ∷ [])) = subst (AllByRecursion V) (sym (map-append (place m) (take i ps) (p ∷ []))) (all_append V (places m (take i ps)) (place m p ∷ []) old (r.there, tt)) in
      let k : length (take i ps ++ p ∷ []) ≡ suc (length (take i ps)) = length_push (take i ps) p ∙ omega arith in
      subst (λ qs. Growing m qs out') (sym (take_more ps i d h))
      (record {
        proper = r.proper a.proper;
        monic = r.monic a.monic;
        degree = omega (arith, r.size, a.degree);
        vanishes = new;
        least = λ f v.
            let w = subst (AllByRecursion (Vanishes (ops m) f)) (map-append (place m) (take i ps) (p ∷ [])) v in
            r.least f (a.least f (all_left (Vanishes (ops m) f) (places m (take i ps)) (place m p ∷ []) w))
            (all_right (Vanishes (ops m) f) (places m (take i ps)) (place m p ∷ []) w).0;
      })

  -- There is room as long as there are at most 24 points.
  pub annihilator_room : (ps : List Point) {i : ℕ} {out : List ℕ} → length ps ≤ 24 → i < length ps → Growing m (take i ps) out → 47 < length out → ⊥
  annihilator_room ps {i} few h a full = omega (arith, a.degree, length-take-le i ps (omega arith))

  -- After the last point.
  pub annihilator_ends : {ps : List Point} {i : ℕ} {out : List ℕ} → length ps ≤ 24 → length ps ≤ i → Growing m (take i ps) out → Annihilated m ps out
  annihilator_ends {ps} {i} {out} few h a' =
      let a : Growing m ps out = subst (λ qs. Growing m qs out) (take_all i ps h) a' in
      record {
        room = few;
        proper = a.proper;
        annihilator = Vanishing.is_annihilator laws (places m ps) (elems m out) a.monic (omega (arith, a.degree, length-map out (elem m), length-map {B = Elem m × Elem m} ps (place m)))
            (subst (λ v. AllByRecursion (λ t. v t.0 (elems m out) t.1 ≡ (ops m).zero) (places m ps)) (sym both) a.vanishes);
        least = a.least;
      }
