-- Opposites of polynomials, and differences of words, as the program computes them.
use Rattle.std.proofs.Common.{◌≡◌, ℕ, ◌+◌, ◌<◌, List, [], ◌∷◌, ◌++◌, map, length, get_or, take, sym, refl, ap, ◌∙◌, arith}
use Rattle.std.proofs.lemmas.List.{length-map}
use Rattle.fields.specs.Field.{Ops, plus, scale}
use Rattle.fields.specs.Field as field
use Rattle.fields.specs.Meaning.{Meaning, Laws, clip}
use Rattle.fields.specs.Elements.{elem, elems, ops}
use Rattle.fields.specs.Basics.{ring}
use Rattle.fields.proofs.Carrier
use Rattle.fields.specs.Rows
use Rattle.skew.specs.Polynomials.{combined}
use Rattle.skew.proofs.Coefficients
use Rattle.skew.proofs.Sums.{cons_path}
use Rattle.codes.proofs.Holding
use Rattle.codes.proofs.Holding.{Filling}
use Rattle.recovery.proofs.Degrees

module _ {F : Type 0} {o : Ops F} (l : field.Laws o) where
  open o use {one, mul as ◌*◌, neg}

  infixl 70 ◌*◌
  -- The opposite of one times a row is the opposite row.
  pub minus_one : (u : List F) → plus o (scale o (neg one) u) [] ≡ map neg u
  minus_one [] = refl
  minus_one (x ∷ u) = cons_path (simp (ring, l)) (rest u)
    where
      rest : (v : List F) → scale o (neg one) v ≡ map neg v
      rest [] = refl
      rest (y ∷ v) = cons_path (simp (ring, l)) (rest v)

module _ {m : Meaning} (l : Laws m) where
  -- The laws of the elements.
  laws : field.Laws (ops m)
  laws = Carrier.ops_laws l

  -- A polynomial times the opposite of 1, and nothing more.
  pub negated_is : {c : ℕ} (f e : List ℕ) → c ≡ m.opposite (clip m 1) → e ≡ [] → combined m c f 0 e ≡ map (ops m).neg (elems m f)
  negated_is {c} f e ec ee =
      ap (λ z. combined m c f 0 z) ee ∙ ap (λ x. plus (ops m) (scale (ops m) x (elems m f)) []) (Carrier.negates m 1 ec ∙ ap (ops m).neg (Carrier.one_is m)) ∙ minus_one laws (elems m f)

  -- A difference has as many symbols as the word.
  pub length_difference : (w v : List ℕ) → length v ≡ length w → length (plus (ops m) (elems m w) (map (ops m).neg (elems m v))) ≡ length w
  length_difference w v same =
      Rows.length_plus laws (elems m w) (map (ops m).neg (elems m v)) ∙ omega (arith, length-map w (elem m), length-map (elems m v) (ops m).neg, length-map v (elem m), same)

  -- One symbol more of a difference.
  pub difference_goes_on : (w v : List ℕ) {i x y : ℕ} {out out' : List ℕ} → length v ≡ length w → i < length w → Filling (plus (ops m) (elems m w) (map (ops m).neg (elems m v))) i out
      → x ≡ m.opposite (clip m (get_or v i 0)) → y ≡ m.sum (clip m (get_or w i 0)) (clip m x) → out' ≡ take 24 (out ++ y ∷ [])
      → Filling (plus (ops m) (elems m w) (map (ops m).neg (elems m v))) (i + 1) out'
  difference_goes_on w v {i} {x} {y} {out} {out'} same h f ex ey eo =
      Holding.fill (ops m).zero
      (omega (arith, length_difference w v same, h)) f
      (Carrier.answers (get_or (plus (ops m) (elems m w) (map (ops m).neg (elems m v))) i (ops m).zero) (Carrier.sum_counts l (get_or w i 0) x ey) value) eo
    where
      value : elem m y ≡ get_or (plus (ops m) (elems m w) (map (ops m).neg (elems m v))) i (ops m).zero
      value =
          Carrier.sums m (get_or w i 0) x ey ∙ ap (λ z. (ops m).add z (elem m x)) (Carrier.elem_at m w i)
          ∙ ap ((ops m).add (get_or (elems m w) i (ops m).zero)) (Carrier.negates m (get_or v i 0) ex ∙ ap (ops m).neg (Carrier.elem_at m v i) ∙ sym (Degrees.coef_neg laws (elems m v) i))
          ∙ sym (Coefficients.coef_plus laws (elems m w) (map (ops m).neg (elems m v)) i)
