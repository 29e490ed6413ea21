-- Rows that are made place by place.
use Rattle.std.proofs.Common.{◌≡◌, ℕ, suc, ◌+◌, ◌-◌, ◌<◌, ◌≤◌, List, [], ◌∷◌, ◌++◌, map, length, get_or, replicate, sym, refl, ap, ◌∙◌, add-one, arith, length-append}
use Rattle.std.proofs.lemmas.Grind.{same_number_lists}
use Rattle.std.proofs.lemmas.List.{length-map, length-replicate, get_or-map}
use Rattle.fields.specs.Field.{plus}
use Rattle.fields.specs.Field as field
use Rattle.fields.specs.Meaning.{Meaning, Laws, clip}
use Rattle.fields.specs.Elements.{Elem, elem, elems, codes, ops}
use Rattle.fields.proofs.Carrier
use Rattle.fields.specs.Rows
use Rattle.skew.specs.Products.{coef}
use Rattle.skew.proofs.Coefficients
use Rattle.ranks.specs.Reduction.{marks_of, rows_of, eight}
use Rattle.ranks.specs.RowSteps.{clear}
use Rattle.ranks.specs.declared.rows.Form.{Form}
use Rattle.hints.specs.Shown.{from_digits, reduced_by}

-- The number of a basis element is one more than its place.
pub basis_next : (bs : List ℕ) (i : ℕ) → get_or (0 ∷ bs) (i + 1) 0 ≡ get_or bs i 0
basis_next bs i = ap (λ j. get_or (0 ∷ bs) j 0) (add-one i)

-- Past the end of zeros there is zero too.
zero_at : (n i : ℕ) → get_or (replicate {A = ℕ} n 0) i 0 ≡ 0
zero_at ℕ.zero i = refl
zero_at (suc n) ℕ.zero = refl
zero_at (suc n) (suc i) = zero_at n i

-- Numbers with zeros behind.
behind_at : (e : List ℕ) (n i : ℕ) → get_or (e ++ replicate {A = ℕ} n 0) i 0 ≡ get_or e i 0
behind_at [] n i = zero_at n i
behind_at (x ∷ e) n ℕ.zero = refl
behind_at (x ∷ e) n (suc i) = behind_at e n i

-- Eight places that are those of some numbers, and 0 past their end.
pub padded_cells : (e out : List ℕ) → length e ≤ 8 → length out ≡ 8 → ((i : ℕ) → i < 8 → get_or out i 0 ≡ get_or e i 0) → out ≡ e ++ replicate (8 - length e) 0
padded_cells e out le n k =
    same_number_lists out (e ++ replicate (8 - length e) 0) (omega (arith, n, le, length-append e (replicate (8 - length e) 0), length-replicate {A = ℕ} (8 - length e) 0))
    (λ i lt. k i (omega arith) ∙ sym (behind_at e (8 - length e) i))

module _ (m : Meaning) where
  -- Eight places with the codes of images.
  pub images_are : (T : Elem m → Elem m) (cells out : List ℕ) → length cells ≡ 8 → length out ≡ 8 → ((i : ℕ) → i < 8 → get_or out i 0 ≡ (T (elem m (get_or cells i 0))).code) → out ≡ codes (map T (elems m cells))
  images_are T cells out ec eo k =
      same_number_lists out (codes (map T (elems m cells))) (omega (arith, eo, ec, length-map (map T (elems m cells)) (λ x. x.code), length-map (elems m cells) T, length-map cells (elem m)))
      (λ i lt. k i (omega arith) ∙ sym (image_at i (omega arith)))
    where
      image_at : (i : ℕ) → i < length cells → get_or (codes (map T (elems m cells))) i 0 ≡ (T (elem m (get_or cells i 0))).code
      image_at i lt =
          get_or-map (λ x. x.code) (map T (elems m cells)) i (T (elem m 0)) 0 (omega (arith, length-map (elems m cells) T, length-map cells (elem m)))
          ∙ ap (λ x. x.code) (get_or-map T (elems m cells) i (elem m 0) (T (elem m 0)) (omega (arith, length-map cells (elem m))) ∙ ap T (get_or-map (elem m) cells i 0 (elem m 0) lt))

  -- What is left of the digits of x, as an element.
  pub reduced_is : (f : Form) (x : Elem m) (ds left : List ℕ) {r : ℕ} → elems m ds ≡ eight m x → elems m left ≡ clear (ops m) (marks_of f) (rows_of m f) (elems m ds)
      → r ≡ (from_digits m (elems m left)).code → r ≡ (reduced_by m f x).code
  reduced_is f x ds left ed el er = er ∙ ap (λ w. (from_digits m w).code) (el ∙ ap (clear (ops m) (marks_of f) (rows_of m f)) ed)

module _ {m : Meaning} (l : Laws m) where
  -- The laws of the elements.
  laws : field.Laws (ops m)
  laws = Carrier.ops_laws l

  -- a less b.
  abbrev pub minus : List ℕ → List ℕ → List (Elem m)
  minus a b = plus (ops m) (elems m a) (map (ops m).neg (elems m b))

  -- Eight places with the codes of the differences.
  pub minus_are : (a b out : List ℕ) → length a ≡ 8 → length b ≡ 8 → length out ≡ 8
      → ((i : ℕ) → i < 8 → get_or out i 0 ≡ m.sum (clip m (get_or a i 0)) (clip m (m.opposite (clip m (get_or b i 0))))) → out ≡ codes (minus a b)
  minus_are a b out ea eb eo k = same_number_lists out (codes (minus a b)) (eo ∙ sym long) (λ i lt. there i (omega arith))
    where
      long : length (codes (minus a b)) ≡ 8
      long =
          length-map (minus a b) (λ x. x.code) ∙ Rows.length_plus laws (elems m a) (map (ops m).neg (elems m b))
          ∙ omega (arith, length-map a (elem m), length-map (elems m b) (ops m).neg, length-map b (elem m))

      second : (i : ℕ) → i < 8 → coef (ops m) (map (ops m).neg (elems m b)) i ≡ (ops m).neg (elem m (get_or b i 0))
      second i lt =
          get_or-map (ops m).neg (elems m b) i (elem m 0) (ops m).zero (omega (arith, length-map b (elem m))) ∙ ap (ops m).neg (get_or-map (elem m) b i 0 (elem m 0) (omega arith))

      here : (i : ℕ) → i < 8 → elem m (get_or out i 0) ≡ coef (ops m) (minus a b) i
      here i lt =
          Carrier.sums m (get_or a i 0) (m.opposite (clip m (get_or b i 0))) (k i lt) ∙ ap ((ops m).add (elem m (get_or a i 0))) (Carrier.negates m (get_or b i 0) refl ∙ sym (second i lt))
          ∙ ap (λ w. (ops m).add w (coef (ops m) (map (ops m).neg (elems m b)) i)) (Carrier.elem_at m a i) ∙ sym (Coefficients.coef_plus laws (elems m a) (map (ops m).neg (elems m b)) i)

      there : (i : ℕ) → i < 8 → get_or out i 0 ≡ get_or (codes (minus a b)) i 0
      there i lt =
          Carrier.answers (coef (ops m) (minus a b) i) (Carrier.sum_counts l (get_or a i 0) (m.opposite (clip m (get_or b i 0))) (k i lt)) (here i lt)
          ∙ sym (get_or-map (λ x. x.code) (minus a b) i (ops m).zero 0 (omega (arith, length-map (minus a b) (λ x. x.code), long)))
