-- A row that the program combined of two, place by place, is their combination.
use Rattle.std.proofs.Common.{◌≡◌, ℕ, ◌<◌, List, length, get_or, sym, refl, ap, ◌∙◌, inl, inr, arith}
use Rattle.std.proofs.Math.ListN.{get_or-eq_default}
use Rattle.std.proofs.lemmas.List.{length-map}
use Rattle.std.proofs.lemmas.Bool.{cases_lt}
use Rattle.fields.specs.Field.{plus, scale}
use Rattle.fields.specs.Field as field
use Rattle.fields.specs.Meaning.{Meaning, Laws, clip}
use Rattle.fields.specs.Elements.{Elem, elem, elems, ops}
use Rattle.fields.specs.Rows
use Rattle.fields.proofs.Carrier
use Rattle.skew.specs.Products.{coef}
use Rattle.skew.proofs.Coefficients
use Rattle.skew.proofs.Sums

module _ {m : Meaning} (l : Laws m) where
  open (ops m) use {zero}

  -- The laws of the elements.
  abbrev laws : field.Laws (ops m)
  laws = Carrier.ops_laws l

  -- A row that is a plus c times b at each place.
  pub combined_is : (a : List ℕ) (c : ℕ) (b out : List ℕ) → length a ≡ 8 → length b ≡ 8 → length out ≡ 8
      → ((i : ℕ) → i < 8 → get_or out i 0 ≡ m.sum (clip m (get_or a i 0)) (clip m (m.product (clip m c) (clip m (get_or b i 0)))))
      → elems m out ≡ plus (ops m) (elems m a) (scale (ops m) (elem m c) (elems m b))
  combined_is a c b out ea eb eo k = Sums.same_coefs laws (elems m out) sum (size ∙ sym long) same
    where
      sum : List (Elem m)
      sum = plus (ops m) (elems m a) (scale (ops m) (elem m c) (elems m b))

      size : length (elems m out) ≡ 8
      size = length-map out (elem m) ∙ eo

      long : length (plus (ops m) (elems m a) (scale (ops m) (elem m c) (elems m b))) ≡ 8
      long = Rows.length_plus laws (elems m a) (scale (ops m) (elem m c) (elems m b)) ∙ omega (arith, length-map a (elem m), length-map (elems m b) ((ops m).mul (elem m c)), length-map b (elem m))

      here : (j : ℕ) → j < 8 → elem m (get_or out j 0) ≡ (ops m).add (elem m (get_or a j 0)) ((ops m).mul (elem m c) (elem m (get_or b j 0)))
      here j lt =
          Carrier.sums m (get_or a j 0) (m.product (clip m c) (clip m (get_or b j 0))) (k j lt)
          ∙ ap ((ops m).add (elem m (get_or a j 0))) (Carrier.multiplies m c (get_or b j 0) refl)

      same : (j : ℕ) → coef (ops m) (elems m out) j ≡ coef (ops m) (plus (ops m) (elems m a) (scale (ops m) (elem m c) (elems m b))) j
      same j =
          elim (cases_lt j 8) [
            | inl lt ↦
                sym (Carrier.elem_at m out j) ∙ here j lt
                ∙ ap (λ w. (ops m).add w ((ops m).mul (elem m c) (elem m (get_or b j 0)))) (Carrier.elem_at m a j) ∙ ap (λ w. (ops m).add (coef (ops m) (elems m a) j) ((ops m).mul (elem m c) w)) (Carrier.elem_at m b j)
                ∙ sym (Coefficients.coef_plus laws (elems m a) (scale (ops m) (elem m c) (elems m b)) j ∙ ap ((ops m).add (coef (ops m) (elems m a) j)) (Coefficients.coef_scale laws (elem m c) (elems m b) j))
            | inr ge ↦ get_or-eq_default (elems m out) zero (omega (arith, size)) ∙ sym (get_or-eq_default sum zero (omega (arith, long)))
          ]
