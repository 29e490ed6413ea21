-- The loop of `encode`, over plain numbers.
use Rattle.std.proofs.Common.{◌≡◌, ℕ, ◌+◌, ◌<◌, ◌≤◌, List, [], ◌∷◌, ◌++◌, length, get_or, take, sym, ap, ◌∙◌, arith}
use Rattle.std.proofs.lemmas.List.{length-map}
use Rattle.std.proofs.lemmas.List.{take_all, get_or-map}
use Rattle.fields.specs.Meaning.{Meaning}
use Rattle.fields.specs.Elements.{elems, codes, ops}
use Rattle.skew.specs.declared.points.Point.{Point}
use Rattle.skew.specs.Values.{value_code}
use Rattle.skew.specs.Roots.{at}
use Rattle.skew.specs.Annihilators.{place, places}
use Rattle.skew.specs.Interpolation.{values}
use Rattle.skew.proofs.Filling.{copied}

module _ (m : Meaning) (f : List ℕ) (ps : List Point) where
  abbrev pub row : List ℕ
  row = codes (values (ops m) (elems m f) (places m ps))

  row_length : length row ≡ length ps
  row_length = length-map (values (ops m) (elems m f) (places m ps)) (λ x. x.code) ∙ length-map (places m ps) (at (ops m) (elems m f)) ∙ length-map ps (place m)

  row_at : (d : Point) (i : ℕ) → i < length ps → get_or row i 0 ≡ value_code m f (get_or ps i d).parameter (get_or ps i d).locator
  row_at d i h =
      get_or-map (λ x. x.code) (values (ops m) (elems m f) (places m ps)) i (at (ops m) (elems m f) (place m d)) 0 (omega (arith, length-map (places m ps) (at (ops m) (elems m f)), length-map ps (place m)))
      ∙ ap (λ x. x.code) (get_or-map (at (ops m) (elems m f)) (places m ps) i (place m d) (at (ops m) (elems m f) (place m d)) (omega (arith, length-map ps (place m))))
      ∙ ap (λ t. (at (ops m) (elems m f) t).code) (get_or-map (place m) ps i d (place m d) h)

  -- One symbol more.
  pub goes_on : (d : Point) {out out' : List ℕ} {i x : ℕ} → length ps ≤ 24 → i < length ps → out ≡ take i row → x ≡ value_code m f (get_or ps i d).parameter (get_or ps i d).locator
      → out' ≡ take 24 (out ++ x ∷ []) → out' ≡ take (i + 1) row
  goes_on d {i = i} few h e ex eo = copied 24 row 0 (omega (arith, row_length)) (omega (arith, row_length)) e (ex ∙ sym (row_at d i h)) eo

  -- All of them.
  pub ends : {out : List ℕ} {i : ℕ} → length ps ≤ i → out ≡ take i row → out ≡ row
  ends {i = i} h e = e ∙ take_all i row (omega (arith, row_length))
