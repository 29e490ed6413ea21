-- The loop that undoes twists of a symbol, over plain numbers.
--
--   Untwisting m x i y    after i turns: y, twisted i times, is x
use Rattle.std.proofs.Common.{◌≡◌, ℕ, ◌+◌, ◌≤◌, sym, ap, ◌∙◌, add-one, arith}
use Rattle.fields.specs.Field as field
use Rattle.fields.specs.Meaning.{Meaning, Laws, clip}
use Rattle.fields.specs.Elements.{elem, ops}
use Rattle.fields.proofs.Carrier
use Rattle.skew.specs.Values.{twisted}
use Rattle.skew.specs.Quotients.{Untwisted}
use Rattle.skew.proofs.Coefficients

pub record Untwisting (m : Meaning) (x i y : ℕ) : Type 0 where
  pub is : twisted (ops m) i (elem m y) ≡ elem m x
  pub counts : clip m y ≡ y

module _ {m : Meaning} (l : Laws m) where
  -- The laws of the elements.
  abbrev laws : field.Laws (ops m)
  laws = Carrier.ops_laws l

  -- Before the first turn.
  pub untwist_starts : (x : ℕ) {y : ℕ} → y ≡ clip m x → Untwisting m x 0 y
  untwist_starts x e = let c = Carrier.clips m x e in record { is = c.0; counts = c.1 }

  -- One twist more is undone.
  pub untwist_goes_on : {x i y y' : ℕ} → Untwisting m x i y → y' ≡ m.untwist (clip m y) → Untwisting m x (i + 1) y'
  untwist_goes_on {x} {i} {y} {y'} u e = record {
    is = rw add-one (sym (Coefficients.twisted_twist laws i (elem m y')) ∙ ap (λ w. twisted (ops m) i ((ops m).twist w)) (Carrier.untwists m y e) ∙ ap (twisted (ops m) i) (laws.twist_untwist (elem m y)) ∙ u.is);
    counts = Carrier.untwist_counts l y e;
  }

  -- After the last turn.
  pub untwist_ends : {x n i y : ℕ} → n ≤ i → i ≤ n → Untwisting m x i y → Untwisted m n x y
  untwist_ends {x} {n} {i} {y} h k u =
      let e : i ≡ n = omega arith in
      record { is = ap (λ z. twisted (ops m) z (elem m y)) (sym e) ∙ u.is; counts = u.counts }
