-- Polynomials, and what is promised of those that functions answer.
--
--   coefficients p         what a polynomial holds, as codes
--   Codes m f              each number of f is a code
--   combined m c f d g     c times f plus d times g
--   raised m c g           (x - c) times g
--   Added m p j c r s      s is r plus p × (c times the j-th power), as far as r reaches
--   Multiplied m f g p     p is the product of f and g, in codes, no longer than their product can be
use Rattle.std.specs.Prelude.{◌≡◌, ℕ, ◌+◌, ◌-◌, ◌<◌, ◌≤◌, List, ◌∷◌, map, length, slice_index}
use Rattle.fields.specs.Field.{plus, scale}
use Rattle.fields.specs.Meaning.{Meaning}
use Rattle.fields.specs.Elements.{Elem, elem, elems, codes, ops}
use Rattle.skew.specs.declared.few.Few.{Few}
use Rattle.skew.specs.Few.{held}
use Rattle.skew.specs.Values.{twisted}
use Rattle.skew.specs.Products.{coef, Product}

abbrev pub coefficients : Few ℕ 48 → List ℕ
coefficients p = held p

abbrev pub Codes : Meaning → List ℕ → Type 0
Codes m f = codes (elems m f) ≡ f

abbrev pub combined : (m : Meaning) → ℕ → List ℕ → ℕ → List ℕ → List (Elem m)
combined m c f d g = plus (ops m) (scale (ops m) (elem m c) (elems m f)) (scale (ops m) (elem m d) (elems m g))

abbrev pub raised : (m : Meaning) → ℕ → List ℕ → List (Elem m)
raised m c g = plus (ops m) (scale (ops m) ((ops m).neg (elem m c)) (elems m g)) ((ops m).zero ∷ map (ops m).twist (elems m g))

pub record Multiplied (m : Meaning) (f g p : List ℕ) : Type 0 where
  pub room : length f + length g ≤ 49
  pub proper : Codes m p
  pub size : length p ≤ length f + length g - 1
  pub product : Product (ops m) (elems m f) (elems m g) (elems m p)

pub record Added (m : Meaning) (p : List ℕ) (j c : ℕ) (r s : List ℕ) : Type 0 where
  pub size : length s ≡ length r
  pub below : (l : ℕ) → l < j → slice_index s l ≡ slice_index r l
  pub above : (l : ℕ) → l + j < length r → elem m (slice_index s (l + j)) ≡ (ops m).add (elem m (slice_index r (l + j))) ((ops m).mul (coef (ops m) (elems m p) l) (twisted (ops m) l (elem m c)))
  pub proper : Codes m r → Codes m s
