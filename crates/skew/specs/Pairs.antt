-- Two pairs of polynomials that vanish together at sites.
--
--   Spot F, Two F              a parameter, a locator and a second value; two polynomials q0 and q1
--   worth o q p                q0 at the locator plus q1 at the second value
--   Carried o k ps A B a b     both pairs vanish at each spot; A0 has degree a, and A1 is zero or has degree at most a - k; B1 has
--                              degree b, and B0 has degree at most b + k - 1; a + b is at most the number of spots
--   spot, spots, two           the same of the program's sites and pairs
--   Short n q                  no polynomial of q has more than n coefficients
--   Starts s                   the pairs (1, 0) and (0, 1)
--   Held m k ps s              the pairs of s are so carried, and no polynomial has more coefficients than spots, plus one
--   Turned, Raised, Crossed    what the parts of one step promise
use Rattle.std.specs.Prelude.{◌≡◌, ℕ, suc, ◌+◌, ◌<◌, ◌≤◌, ◌≢◌, ◌⊎◌, List, [], ◌∷◌, map, length, take}
use Rattle.std.specs.List.{AllByRecursion}
use Rattle.fields.specs.Field.{Ops}
use Rattle.fields.specs.Meaning.{Meaning, clip}
use Rattle.fields.specs.Elements.{Elem, elem, elems, codes, ops}
use Rattle.skew.specs.declared.points.Site.{Site}
use Rattle.skew.specs.declared.pairing.Pair.{Pair}
use Rattle.skew.specs.declared.pairing.TwoPairs.{TwoPairs}
use Rattle.skew.specs.declared.pairing.Turn.{Turn}
use Rattle.skew.specs.declared.pairing.Turn.TheVariants.{Stay, First, Second}
use Rattle.skew.specs.Values.{value}
use Rattle.skew.specs.Products.{coef, Degree}
use Rattle.skew.specs.Polynomials.{coefficients, combined, raised}
use Rattle.skew.specs.Annihilators.{Root}

pub record Spot (F : Type 0) : Type 0 where
  pub parameter : F
  pub locator : F
  pub second : F

pub record Two (F : Type 0) : Type 0 where
  pub q0 : List F
  pub q1 : List F

abbrev pub worth : {F : Type 0} (o : Ops F) → Two F → Spot F → F
worth o q p = o.add (value o p.parameter q.q0 p.locator) (value o p.parameter q.q1 p.second)

pub record Carried {F : Type 0} (o : Ops F) (k : ℕ) (ps : List (Spot F)) (A B : Two F) (a b : ℕ) : Type 0 where
  pub a_vanishes : AllByRecursion (λ p. worth o A p ≡ o.zero) ps
  pub b_vanishes : AllByRecursion (λ p. worth o B p ≡ o.zero) ps
  pub A0 : Degree o A.q0 a
  pub A1 : (i : ℕ) → a < i + k → coef o A.q1 i ≡ o.zero
  pub B1 : Degree o B.q1 b
  pub B0 : (i : ℕ) → b + k ≤ i → coef o B.q0 i ≡ o.zero
  pub few : a + b ≤ length ps

module _ (m : Meaning) where
  abbrev pub spot : Site → Spot (Elem m)
  spot p = record { parameter = elem m p.parameter; locator = elem m p.locator; second = elem m p.second }

  abbrev pub spots : List Site → List (Spot (Elem m))
  spots ps = map spot ps

  abbrev pub two : Pair → Two (Elem m)
  two q = record { q0 = elems m (coefficients q.q0); q1 = elems m (coefficients q.q1) }

pub record Starts (s : TwoPairs) : Type 0 where
  pub A0 : coefficients s.first.q0 ≡ 1 ∷ []
  pub A1 : coefficients s.first.q1 ≡ []
  pub B0 : coefficients s.second.q0 ≡ []
  pub B1 : coefficients s.second.q1 ≡ 1 ∷ []
  pub a : s.a ≡ 0
  pub b : s.b ≡ 0

pub record Short (n : ℕ) (q : Pair) : Type 0 where
  pub q0 : length (coefficients q.q0) ≤ n
  pub q1 : length (coefficients q.q1) ≤ n

pub record Held (m : Meaning) (k : ℕ) (ps : List (Spot (Elem m))) (s : TwoPairs) : Type 0 where
  pub carried : Carried (ops m) k ps (two m s.first) (two m s.second) s.a s.b
  pub first : Short (suc (length ps)) s.first
  pub second : Short (suc (length ps)) s.second

-- Of the pairs whose value is not zero the pivot is the one of smaller weight, a against b + k - 1, and the first on a tie.
abbrev pub Turned : Turn → ℕ → ℕ → ℕ → ℕ → ℕ → Type 0
Turned Stay x y a b k = (x ≡ 0) × (y ≡ 0)
Turned First x y a b k = (x ≢ 0) × ((y ≡ 0) ⊎ (a < b + k))
Turned Second x y a b k = (y ≢ 0) × ((x ≡ 0) ⊎ (b + k ≤ a))

-- r is x - c times q, cut to 48 coefficients, where x - c takes d to zero at the parameter a.
pub record Raised (m : Meaning) (a d : ℕ) (q r : Pair) : Type 0 where
  pub c : ℕ
  pub root : Root m a d c
  pub q0 : coefficients r.q0 ≡ take 48 (codes (raised m c (coefficients q.q0)))
  pub q1 : coefficients r.q1 ≡ take 48 (codes (raised m c (coefficients q.q1)))

-- r is c times q less d times p.
pub record Crossed (m : Meaning) (c : ℕ) (q : Pair) (d : ℕ) (p r : Pair) : Type 0 where
  pub minus : ℕ
  pub opposite : minus ≡ m.opposite (clip m d)
  pub q0 : coefficients r.q0 ≡ codes (combined m c (coefficients q.q0) minus (coefficients p.q0))
  pub q1 : coefficients r.q1 ≡ codes (combined m c (coefficients q.q1) minus (coefficients p.q1))
