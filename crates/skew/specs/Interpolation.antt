-- Polynomials with given values at given points.
--
--   values o f pts             the row of values of f
--   Unlawful m ps              however the points are grouped in blocks, these are not lawful
--   Stuck m ps vs              the points are not lawful, and no polynomial at all has these values at them
--   Interpolated m ps vs f     f has these values, and at most as many coefficients as there are points; where the points are
--                              lawful it is the only such polynomial
--   indicator n i              n numbers, 1 at place i and 0 elsewhere
--   Corrected m f g p v h      h has the value v at the point p, and those of f wherever g vanishes
use Rattle.std.specs.Prelude.{◌≡◌, ◌≢◌, ℕ, ◌≤◌, max, List, map, length, replicate, slice_set}
use Rattle.fields.specs.Field.{Ops}
use Rattle.fields.specs.Meaning.{Meaning}
use Rattle.fields.specs.Elements.{Elem, elem, elems, ops}
use Rattle.skew.specs.declared.points.Point.{Point}
use Rattle.skew.specs.Roots.{Block, points, Lawful, at, Vanishes, RootCount}
use Rattle.skew.specs.Products.{coef}
use Rattle.skew.specs.Polynomials.{Codes}
use Rattle.skew.specs.Annihilators.{place, places}

abbrev pub values : {F : Type 0} (o : Ops F) → List F → List (F × F) → List F
values o f pts = map (at o f) pts

abbrev pub Unlawful : Meaning → List Point → Type 0
Unlawful m ps = (blocks : List (Block (Elem m))) → points blocks ≡ places m ps → ¬ Lawful (ops m) blocks

pub record Stuck (m : Meaning) (ps : List Point) (vs : List ℕ) : Type 0 where
  pub unlawful : Unlawful m ps
  pub unmet : (g : List (Elem m)) → values (ops m) g (places m ps) ≢ elems m vs

-- n numbers, 1 at place i and 0 elsewhere.
abbrev pub indicator : ℕ → ℕ → List ℕ
indicator n i = slice_set (replicate n 0) i 1

pub record Interpolated (m : Meaning) (ps : List Point) (vs f : List ℕ) : Type 0 where
  pub room : length ps ≤ 24
  pub proper : Codes m f
  pub size : length f ≤ length ps
  pub has : values (ops m) (elems m f) (places m ps) ≡ elems m vs
  -- the root count; by it, where the points are lawful, no other polynomial has these values
  pub roots : RootCount (ops m)
  pub only : (blocks : List (Block (Elem m))) → points blocks ≡ places m ps → Lawful (ops m) blocks
      → (g : List (Elem m)) → length g ≤ length ps → values (ops m) g (places m ps) ≡ elems m vs → (i : ℕ) → coef (ops m) g i ≡ coef (ops m) (elems m f) i

pub record Corrected (m : Meaning) (f g : List ℕ) (p : Point) (v : ℕ) (h : List ℕ) : Type 0 where
  pub proper : Codes m f → Codes m h
  pub size : length h ≤ max (length f) (length g)
  pub there : at (ops m) (elems m h) (place m p) ≡ elem m v
  pub keeps : (t : Elem m × Elem m) → Vanishes (ops m) (elems m g) t → at (ops m) (elems m h) t ≡ at (ops m) (elems m f) t
