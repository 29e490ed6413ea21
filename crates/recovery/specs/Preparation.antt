-- What is prepared once for a code, so that its words are recovered with less work.
--
--   word_spots pts w        each point with its symbol
--   turned o M f p          the spot p with M at its locator, and with its second value less f at its locator
--   stepped o a b n         b, and then each time the one before, twisted, times a: n of them, which the coefficients of a polynomial meet at b
--   Stepped m ps i s        so it is of point i: s holds the first 24
--   UnitAt m ps j f        f is one at point j and zero at the others, and has at most as many coefficients as there are points
--   Units m ps fs           so it is of each point and its polynomial of fs
--   Rebuilt m ps ys f       f has the value ys at each point, and at most as many coefficients as there are points
--   Prepares m c p          what p holds belongs to the code c of dimension k: a polynomial of degree k that vanishes at the first k points,
--                           its values at all points, the polynomials that are one at one of the first k, and what coefficients meet at each
use Rattle.std.specs.Prelude.{◌≡◌, ℕ, suc, ◌<◌, ◌≤◌, ◌≢◌, List, [], ◌∷◌, map, length, take, slice_index, slice_index_or}
use Rattle.std.specs.List.{AllByRecursion}
use Rattle.fields.specs.Field.{Ops}
use Rattle.fields.specs.Meaning.{Meaning}
use Rattle.fields.specs.Elements.{elem, elems, codes, ops}
use Rattle.skew.specs.declared.points.Point.{Point}
use Rattle.skew.specs.declared.few.Few.{Few}
use Rattle.skew.specs.Values.{value, step}
use Rattle.skew.specs.Roots.{at, Vanishes}
use Rattle.skew.specs.Products.{Degree}
use Rattle.skew.specs.Polynomials.{coefficients}
use Rattle.skew.specs.Annihilators.{place, places}
use Rattle.skew.specs.Pairs.{Spot}
use Rattle.codes.specs.declared.shape.Code.{Code}
use Rattle.codes.specs.Holdings.{held, stops}
use Rattle.codes.specs.Codes.{word_of}
use Rattle.recovery.specs.declared.prepared.Prepared.{Prepared}
use Rattle.recovery.specs.Steps.{no_point}

abbrev pub word_spots : {F : Type 0} → List (F × F) → List F → List (Spot F)
word_spots [] w = []
word_spots (t ∷ pts) [] = []
word_spots (t ∷ pts) (y ∷ w) = record { parameter = t.0; locator = t.1; second = y } ∷ word_spots pts w

abbrev pub turned : {F : Type 0} (o : Ops F) → List F → List F → Spot F → Spot F
turned o M f p = record {
  parameter = p.parameter;
  locator = value o p.parameter M p.locator;
  second = o.add p.second (o.neg (value o p.parameter f p.locator));
}

abbrev pub stepped : {F : Type 0} (o : Ops F) → F → F → ℕ → List F
stepped o a b ℕ.zero = []
stepped o a b (suc n) = b ∷ stepped o a (step o a b) n

abbrev pub Stepped : (m : Meaning) → List Point → ℕ → Few ℕ 24 → Type 0
Stepped m ps i s = elems m (held s) ≡ stepped (ops m) (elem m (slice_index_or ps i no_point).parameter) (elem m (slice_index_or ps i no_point).locator) 24

pub record UnitAt (m : Meaning) (ps : List Point) (j : ℕ) (f : List ℕ) : Type 0 where
  pub size : length f ≤ length ps
  pub here : at (ops m) (elems m f) (place m (slice_index_or ps j no_point)) ≡ (ops m).one
  pub elsewhere : (i : ℕ) → i < length ps → i ≢ j → at (ops m) (elems m f) (place m (slice_index_or ps i no_point)) ≡ (ops m).zero

abbrev pub Units : (m : Meaning) → List Point → List (List ℕ) → Type 0
Units m ps fs = (j : ℕ) → j < length ps → UnitAt m ps j (slice_index_or fs j [])

pub record Rebuilt (m : Meaning) (ps : List Point) (ys f : List ℕ) : Type 0 where
  pub size : length f ≤ length ps
  pub has : (i : ℕ) → i < length ps → at (ops m) (elems m f) (place m (slice_index_or ps i no_point)) ≡ elem m (slice_index ys i)

pub record Prepares (m : Meaning) (c : Code) (p : Prepared) : Type 0 where
  pub degree : Degree (ops m) (elems m (coefficients p.top)) c.dimension
  pub size : length (coefficients p.top) ≤ suc c.dimension
  pub vanishes : AllByRecursion (Vanishes (ops m) (elems m (coefficients p.top))) (places m (take c.dimension (stops c.course)))
  pub values : held p.values ≡ codes (word_of m c (elems m (coefficients p.top)))
  pub units : Units m (take c.dimension (stops c.course)) (map coefficients p.units)
  pub powers : (d : Few ℕ 24) (i : ℕ) → i < length (stops c.course) → Stepped m (stops c.course) i (slice_index_or p.powers i d)
