-- The loop that cuts a list of coefficients or pads it with zeros, and lists that are in codes.
--
--   Resizing cap f i out    after i coefficients of f, where there is room for cap
use Rattle.std.proofs.Common.{◌≡◌, ℕ, suc, ◌+◌, ◌<◌, ◌≤◌, min, List, [], ◌∷◌, ◌++◌, length, get_or, take, drop, sym, refl, ap, ◌∙◌, subst, inl, inr, arith}
use Rattle.std.proofs.lemmas.List.{get_or-take, get_or_append_left, get_or_push, get_or_past, length-take, length_push}
use Rattle.std.proofs.lemmas.Bool.{cases_lt}
use Rattle.fields.specs.Meaning.{Meaning, Laws, Code, clip}
use Rattle.fields.specs.Elements.{elem, elems, codes}
use Rattle.fields.proofs.Carrier
use Rattle.skew.specs.Polynomials.{Codes}
use Rattle.skew.specs.Few.{Resized}

pub record Resizing (cap : ℕ) (f : List ℕ) (i : ℕ) (out : List ℕ) : Type 0 where
  pub size : length out ≡ min i cap
  pub same : (l : ℕ) → l < length out → get_or out l 0 ≡ get_or f l 0

-- Before the first coefficient.
pub resize_starts : {cap : ℕ} {f out : List ℕ} → out ≡ [] → Resizing cap f 0 out
resize_starts {f = f} {out = out} e = record { size = omega (arith, ap length e); same = λ l h. absurd (omega (arith, ap length e)) }

-- One coefficient more, as far as there is room.
pub resize_goes_on : {cap : ℕ} {f out out' : List ℕ} {i x : ℕ} → Resizing cap f i out → x ≡ get_or f i 0 → out' ≡ take cap (out ++ x ∷ []) → Resizing cap f (i + 1) out'
resize_goes_on {cap} {f} {out} {out'} {i} {x} r ex eo = record { size = omega (arith, n, r.size); same = same }
  where
    n : length out' ≡ min cap (length out + 1)
    n = ap length eo ∙ length-take cap (out ++ x ∷ []) ∙ ap (min cap) (length_push out x)

    at : (l : ℕ) → l < cap → get_or out' l 0 ≡ get_or (out ++ x ∷ []) l 0
    at l h = ap (λ z. get_or z l 0) eo ∙ get_or-take cap (out ++ x ∷ []) l 0 h

    same : (l : ℕ) → l < length out' → get_or out' l 0 ≡ get_or f l 0
    same l h = elim (cases_lt l (length out)) [
      | inl k ↦ at l (omega (arith, n)) ∙ get_or_append_left out (x ∷ []) 0 l k ∙ r.same l k
      | inr k ↦ (let e : l ≡ length out = omega (arith, n) in
          let ei : i ≡ l = omega (arith, n, r.size) in
          at l (omega (arith, n)) ∙ get_or_push out x 0 l (sym e) ∙ ex ∙ ap (λ j. get_or f j 0) ei)
    ]

-- After the last one.
pub resize_ends : {cap : ℕ} {f out : List ℕ} {i n : ℕ} → n ≤ i → i ≤ n → Resizing cap f i out → Resized cap f n out
resize_ends h k r = record { size = omega (arith, r.size); same = r.same }

-- A list of zeros, and the sums that it makes.
pub zeros_null : {e out : List ℕ} {k : ℕ} → e ≡ [] → Resized 48 e k out → (i : ℕ) → get_or out i 0 ≡ 0
zeros_null {e} {out} {k} ee z i = elim (cases_lt i (length out)) [ inl h ↦ z.same i h ∙ ap (λ y. get_or y i 0) ee | inr h ↦ get_or_past out i 0 h ]

module _ {m : Meaning} (l : Laws m) where
  -- A list is in codes exactly where each of its numbers counts as itself.
  pub codes_by : (f : List ℕ) → ((i : ℕ) → clip m (get_or f i 0) ≡ get_or f i 0) → Codes m f
  codes_by [] h = refl
  codes_by (x ∷ f) h = ap (λ y. y ∷ codes (elems m f)) (sym (Carrier.code_elem m x (h 0))) ∙ ap (λ ys. x ∷ ys) (codes_by f (λ i. h (suc i)))

  -- The other way.
  pub counted_by : (f : List ℕ) → Codes m f → (i : ℕ) → clip m (get_or f i 0) ≡ get_or f i 0
  counted_by [] h i = Carrier.zero_counts l
  counted_by (x ∷ f) h ℕ.zero = Carrier.counts l x (subst (λ y. Code m y) (ap (λ ys. get_or ys 0 0) h) (Carrier.is_code l (elem m x)))
  counted_by (x ∷ f) h (suc i) = counted_by f (ap (drop 1) h) i
