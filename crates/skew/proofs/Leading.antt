-- The loop that looks for the leading coefficient of a divisor, over plain numbers.
--
--   Clear m f i    no coefficient from i on is other than zero
use Rattle.std.proofs.Common.{◌≡◌, ℕ, suc, ◌≤◌, List, length, get_or, Some, None, sym, ap, ◌∙◌, inl, inr, arith}
use Rattle.std.proofs.lemmas.List.{length-map}
use Rattle.std.proofs.Math.ListN.{get_or-eq_default}
use Rattle.std.proofs.lemmas.Bool.{cases_lt}
use Rattle.std.specs.List.{AllByRecursion}
use Rattle.fields.specs.Field.{Zero}
use Rattle.fields.specs.Field as field
use Rattle.fields.specs.Meaning.{Meaning, Laws, inverted}
use Rattle.fields.specs.Elements.{elem, elems, ops}
use Rattle.fields.proofs.Carrier
use Rattle.skew.specs.Products.{coef, Below}
use Rattle.skew.specs.Quotients.{Leads}
use Rattle.skew.proofs.Coefficients
use Rattle.skew.proofs.Growing.{inverse_some, inverse_none}

pub record Clear (m : Meaning) (f : List ℕ) (i : ℕ) : Type 0 where
  pub null : Below (ops m) i (elems m f)

module _ {m : Meaning} (l : Laws m) where
  -- The laws of the elements.
  abbrev laws : field.Laws (ops m)
  laws = Carrier.ops_laws l

  -- `leading`, from the highest coefficient down.
  pub leading_starts : {f : List ℕ} {n : ℕ} → n ≡ length f → Clear m f n
  leading_starts {f} {n} e = record { null = λ i h. get_or-eq_default (elems m f) (ops m).zero (omega (arith, length-map f (elem m))) }

  -- A coefficient that has no inverse is zero.
  pub leading_goes_on : {f : List ℕ} {v : ℕ} (i j : ℕ) → i ≡ suc j → Clear m f i → v ≡ get_or f j 0 → None ≡ inverted m v → Clear m f j
  leading_goes_on {f} {v} i j ei h ev en = record { null = go }
    where
      here : coef (ops m) (elems m f) j ≡ (ops m).zero
      here = sym (Carrier.elem_at m f j) ∙ ap (elem m) (sym ev) ∙ inverse_none l v en

      go : (k : ℕ) → j ≤ k → coef (ops m) (elems m f) k ≡ (ops m).zero
      go k g = elim (cases_lt j k) [ inl q ↦ h.null k (omega arith) | inr q ↦ (let e : k ≡ j = omega arith in ap (coef (ops m) (elems m f)) e ∙ here) ]

  -- A coefficient that has an inverse is the leading one.
  pub leading_found : {f : List ℕ} {v x : ℕ} (i j : ℕ) → i ≡ suc j → Clear m f i → v ≡ get_or f j 0 → Some x ≡ inverted m v
      → Leads m f j x
  leading_found {f} {v} {x} i j ei h ev es =
      let n = inverse_some l v es in
      let e : elem m v ≡ coef (ops m) (elems m f) j = ap (elem m) ev ∙ Carrier.elem_at m f j in
      record { degree = ((λ z. n.0 (e ∙ z)), λ k g. h.null k (omega arith)); inverse = n.1 ∙ ap (ops m).inv e }

  -- With no such coefficient the polynomial is zero.
  pub leading_none : {f : List ℕ} {i : ℕ} → i ≤ 0 → Clear m f i → AllByRecursion (Zero (ops m)) (elems m f)
  leading_none {f} {i} e h = Coefficients.of_coef laws (elems m f) (λ k. h.null k (omega arith))
