-- The loop that seeks the first place of a row with an inverse.
--
--   Seeking m h i    the first i places of h are zero
use Rattle.std.proofs.Common.{◌≡◌, ℕ, ◌+◌, ◌<◌, ◌≤◌, List, length, get_or, Some, None, sym, ap, ◌∙◌, inl, inr, arith, below_more}
use Rattle.std.proofs.Math.ListN.{get_or-eq_default}
use Rattle.std.proofs.lemmas.List.{length-map}
use Rattle.std.proofs.lemmas.Bool.{cases_lt}
use Rattle.std.specs.List.{AllByRecursion}
use Rattle.fields.specs.Field.{Zero}
use Rattle.fields.specs.Field as field
use Rattle.fields.specs.Meaning.{Meaning, Laws, inverted}
use Rattle.fields.specs.Elements.{elem, elems, ops}
use Rattle.fields.proofs.Carrier
use Rattle.skew.proofs.Coefficients
use Rattle.skew.proofs.Growing
use Rattle.ranks.specs.RowSteps.{PivotAt}

pub record Seeking (m : Meaning) (h : List ℕ) (i : ℕ) : Type 0 where
  pub none : (k : ℕ) → k < i → elem m (get_or h k 0) ≡ (ops m).zero

module _ {m : Meaning} (l : Laws m) where
  open (ops m) use {zero}

  -- The laws of the elements.
  abbrev laws : field.Laws (ops m)
  laws = Carrier.ops_laws l

  -- A place without an inverse is zero.
  pub seeking_goes_on : {h : List ℕ} {i : ℕ} → Seeking m h i → None ≡ inverted m (get_or h i 0) → Seeking m h (i + 1)
  seeking_goes_on {h} {i} k e = record { none = below_more _ i k.none (Growing.inverse_none l (get_or h i 0) e) }

  -- The first place with one.
  pub seeking_finds : (h : List ℕ) {i j : ℕ} → i < 8 → Some j ≡ inverted m (get_or h i 0) → PivotAt m (elems m h) i j
  seeking_finds h {i} {j} lt e =
      let n = Growing.inverse_some l (get_or h i 0) e in
      record { low = lt; nonzero = λ z. n.0 (Carrier.elem_at m h i ∙ z); inverse = n.1 ∙ ap (ops m).inv (Carrier.elem_at m h i) }

  -- No place has one.
  pub seeking_ends : {h : List ℕ} {i : ℕ} → 8 ≤ i → length h ≡ 8 → Seeking m h i → AllByRecursion (Zero (ops m)) (elems m h)
  seeking_ends {h} {i} le e k =
      Coefficients.of_coef laws (elems m h)
      (λ j. elim (cases_lt j 8) [ inl lt ↦ sym (Carrier.elem_at m h j) ∙ k.none j (omega arith) | inr ge ↦ get_or-eq_default (elems m h) (ops m).zero (omega (arith, length-map h (elem m))) ])
