-- What the functions on duals and syndromes promise. The first two are for callers; the rest is between the functions.
--
--   Located m ps ds            ds is in codes, and is the row of dual locators of the points, where these are lawful
--   Checked m ps ds k w ss     ss are the first n - k syndromes of w; for lawful points and their dual locators, all are 0
--                              exactly where w is a codeword
--   unit o i r                 one behind i zeros and before r zeros
--   Multiplier o pts m i r w   w is the coefficient m of a polynomial with the values unit o i r at the points, and with at
--                              most as many coefficients as there are points
--   Multipliers o pts m i ws   so it is of each place from i on
--   MultiplierAt m ps i w     w is the multiplier of place i of the program's points, for the coefficient n - 1
--   MultipliersOf m ps ws     ws are the multipliers of all places
--   advanced m ps ts           each term times the parameter of its place, untwisted
use Rattle.std.specs.Prelude.{◌≡◌, ℕ, suc, ◌-◌, ◌<◌, ◌≤◌, ◌↔◌, List, [], ◌∷◌, ◌++◌, length, replicate, slice_index}
use Rattle.fields.specs.Field.{Ops}
use Rattle.fields.specs.Meaning.{Meaning}
use Rattle.fields.specs.Elements.{Elem, elem, elems, ops}
use Rattle.skew.specs.declared.points.Point.{Point}
use Rattle.skew.specs.Roots.{Block, points, Lawful}
use Rattle.skew.specs.Products.{coef}
use Rattle.skew.specs.Polynomials.{Codes}
use Rattle.skew.specs.Annihilators.{places}
use Rattle.skew.specs.Interpolation.{values}
use Rattle.codes.specs.Duals.{Codeword, DualLocators, syndrome, Duality}

pub record Located (m : Meaning) (ps : List Point) (ds : List ℕ) : Type 0 where
  pub some : 1 ≤ length ps
  pub room : length ps ≤ 24
  pub proper : Codes m ds
  pub size : length ds ≡ length ps
  -- the theorems; by them, where the points are lawful, no other row is dual
  pub duality : Duality (ops m)
  pub dual : (blocks : List (Block (Elem m))) → points blocks ≡ places m ps → Lawful (ops m) blocks → DualLocators (ops m) (places m ps) (elems m ds)

pub record Checked (m : Meaning) (ps : List Point) (ds : List ℕ) (k : ℕ) (w ss : List ℕ) : Type 0 where
  pub room : length ps ≤ 24
  pub fits : k ≤ length ps
  pub size : length ss ≡ length ps - k
  pub each : (j : ℕ) → j < length ss → slice_index ss j ≡ (syndrome (ops m) (places m ps) (elems m ds) (elems m w) j).code
  pub tell : (blocks : List (Block (Elem m))) → points blocks ≡ places m ps → Lawful (ops m) blocks → DualLocators (ops m) (places m ps) (elems m ds)
      → ((j : ℕ) → j < length ss → slice_index ss j ≡ 0) ↔ Codeword (ops m) (places m ps) k (elems m w)

module _ {F : Type 0} (o : Ops F) where
  abbrev pub unit : ℕ → ℕ → List F
  unit i r = replicate i o.zero ++ o.one ∷ replicate r o.zero

  abbrev pub Multiplier : List (F × F) → ℕ → ℕ → ℕ → F → Type 0
  Multiplier pts m i r w = (f : List F) × (length f ≤ length pts) × (values o f pts ≡ unit i r) × (coef o f m ≡ w)

  abbrev pub Multipliers : List (F × F) → ℕ → ℕ → List F → Type 0
  Multipliers pts m i [] = Unit {0}
  Multipliers pts m i (w ∷ ws) = Multiplier pts m i (length ws) w × Multipliers pts m (suc i) ws

pub record MultiplierAt (m : Meaning) (ps : List Point) (i w : ℕ) : Type 0 where
  pub multiplier : Multiplier (ops m) (places m ps) (length ps - 1) i (length ps - suc i) (elem m w)

pub record MultipliersOf (m : Meaning) (ps : List Point) (ws : List ℕ) : Type 0 where
  pub size : length ws ≡ length ps
  pub multipliers : Multipliers (ops m) (places m ps) (length ps - 1) 0 (elems m ws)

abbrev pub advanced : (m : Meaning) → List Point → List (Elem m) → List (Elem m)
advanced m [] ts = []
advanced m (p ∷ ps) [] = []
advanced m (p ∷ ps) (t ∷ ts) = (ops m).untwist ((ops m).mul t (elem m p.parameter)) ∷ advanced m ps ts
