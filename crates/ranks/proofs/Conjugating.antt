-- The search for an element that makes two others conjugate.
--
--   Meets m a b c      the program's two products, with the code c, are equal
--   tried m            the codes that are tried
use Rattle.std.proofs.Common.{◌≡◌, ℕ, ◌+◌, ◌-◌, ◌<◌, ◌≤◌, Bool, true, false, MatchBool, ◌≢◌, List, length, get_or, sym, refl, ap, ◌∙◌, subst, inl, inr, arith}
use Rattle.std.specs.List.{HoldsAt, AllWithin, range_with_len}
use Rattle.std.proofs.lemmas.Bool.{cases_lt}
use Rattle.std.proofs.lemmas.List.FromFn.{length-range_with_len, get_or-range_with_len}
use Rattle.fields.specs.Field as field
use Rattle.fields.specs.Meaning.{Meaning, Laws, clip}
use Rattle.fields.specs.Elements.{Elem, elem, ops}
use Rattle.fields.specs.Basics
use Rattle.fields.specs.Inverses
use Rattle.fields.proofs.Carrier
use Rattle.skew.specs.Roots.{Conjugate}
use Rattle.skew.proofs.Growing
use Rattle.ranks.specs.Ranks.{Tells}

module _ (m : Meaning) where
  -- c makes a and b conjugate: c twisted times a is b times c.
  abbrev Makes : ℕ → ℕ → ℕ → Type 0
  Makes a b c = (ops m).mul ((ops m).twist (elem m c)) (elem m a) ≡ (ops m).mul (elem m b) (elem m c)

  abbrev pub Meets : ℕ → ℕ → ℕ → Type 0
  Meets a b c = m.product (clip m (m.twist (clip m c))) (clip m a) ≡ m.product (clip m b) (clip m c)

  abbrev pub tried : List ℕ
  tried = range_with_len 1 (m.size - 1)

module _ {m : Meaning} (l : Laws m) where
  -- The laws of the elements.
  laws : field.Laws (ops m)
  laws = Carrier.ops_laws l

  module _ (a b c : ℕ) where
    -- The product with a.
    with_a : elem m (m.product (clip m (m.twist (clip m c))) (clip m a)) ≡ (ops m).mul ((ops m).twist (elem m c)) (elem m a)
    with_a = Carrier.multiplies m (m.twist (clip m c)) a refl ∙ ap (λ x. (ops m).mul x (elem m a)) (Carrier.twists m c refl)

    -- The product with b.
    with_b : elem m (m.product (clip m b) (clip m c)) ≡ (ops m).mul (elem m b) (elem m c)
    with_b = Carrier.multiplies m b c refl

    -- Where c makes them conjugate the products are equal.
    meets : Makes m a b c → Meets m a b c
    meets made =
        Carrier.answers (elem m (m.product (clip m b) (clip m c))) (Carrier.product_counts l (m.twist (clip m c)) a refl) (with_a ∙ made ∙ sym with_b)
        ∙ sym (Carrier.answers (elem m (m.product (clip m b) (clip m c))) (Carrier.product_counts l b c refl) refl)

    -- Where they are equal c makes them conjugate.
    finds : 1 ≤ c → c < m.size → Meets m a b c → Conjugate (ops m) (elem m a) (elem m b)
    finds low lt e = (elem m c, n, sym divided)
      where
        n : elem m c ≢ (ops m).zero
        n z = omega (arith, Carrier.code_elem m c (Carrier.counts l c lt) ∙ ap (λ (x : Elem m). x.code) z ∙ Growing.code_of_zero l)

        divided : (ops m).mul ((ops m).mul ((ops m).twist (elem m c)) (elem m a)) ((ops m).inv (elem m c)) ≡ elem m b
        divided =
            ap (λ x. (ops m).mul x ((ops m).inv (elem m c))) (sym with_a ∙ ap (elem m) e ∙ with_b)
            ∙ Basics.mul_assoc laws (elem m b) (elem m c) ((ops m).inv (elem m c)) ∙ ap ((ops m).mul (elem m b)) (Inverses.mul_inv laws (elem m c) n) ∙ Basics.mul_one laws (elem m b)

  -- Two conjugate elements are made so by a code from 1 on.
  made_by : (a b : ℕ) → Conjugate (ops m) (elem m a) (elem m b) → (c : ℕ) × (1 ≤ c) × (c < m.size) × Meets m a b c
  made_by a b k = (k.0.code, above k.0 k.1, Carrier.is_code l k.0, meets a b k.0.code (subst (λ x. (ops m).mul ((ops m).twist x) (elem m a) ≡ (ops m).mul (elem m b) x) (sym (Carrier.elem_code k.0)) made))
    where
      above : (x : Elem m) → x ≢ (ops m).zero → 1 ≤ x.code
      above x n = elim (cases_lt 0 x.code) [ inl h ↦ omega arith | inr h ↦ absurd (n (Carrier.same_code x (ops m).zero (let z : x.code ≡ 0 = omega arith in z ∙ sym (Growing.code_of_zero l)))) ]

      made : (ops m).mul ((ops m).twist k.0) (elem m a) ≡ (ops m).mul (elem m b) k.0
      made =
          sym (ap (λ x. (ops m).mul x k.0) k.2 ∙ Basics.mul_assoc laws ((ops m).mul ((ops m).twist k.0) (elem m a)) ((ops m).inv k.0) k.0
          ∙ ap ((ops m).mul ((ops m).mul ((ops m).twist k.0) (elem m a))) (Inverses.inv_mul laws k.0 k.1) ∙ Basics.mul_one laws ((ops m).mul ((ops m).twist k.0) (elem m a)))

  -- What the search answers.
  pub searched : (a b : ℕ) (r : Bool) → MatchBool r ((i : ℕ) × (i < length (tried m)) × HoldsAt (Meets m a b) (tried m) i) (AllWithin (λ c. ¬ Meets m a b c) (tried m) 0 (length (tried m)))
      → Tells r (Conjugate (ops m) (elem m a) (elem m b))
  searched a b true h = finds a b (get_or (tried m) h.0 0) (omega (arith, is)) (omega (arith, is, long, h.1)) (h.2 0)
    where
      long : length (tried m) ≡ m.size - 1
      long = length-range_with_len 1 (m.size - 1)

      is : get_or (tried m) h.0 0 ≡ 1 + h.0
      is = get_or-range_with_len 1 (m.size - 1) h.0 0 (omega (arith, long, h.1))
  searched a b false h = λ k.
      let c = made_by a b k in
      let is : get_or (tried m) (c.0 - 1) 0 ≡ c.0 = get_or-range_with_len 1 (m.size - 1) (c.0 - 1) 0 (omega (arith, c.1, c.2)) ∙ omega (arith, c.1) in
      h (c.0 - 1) 0 (omega arith) (omega (arith, c.1, c.2, length-range_with_len 1 (m.size - 1))) (subst (Meets m a b) (sym is) c.3)
