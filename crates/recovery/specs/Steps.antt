-- What the steps of recovery promise each other.
--
--   parameter_of m ps             the parameter of the first point
--   hint_points m a hs            the rows hs of digits as elements, each with the parameter a
--   all_hint_points m ns bs ps    so the row hints of all blocks
--   left_spots m a f marks us vs  the places that are not marked: the locator from us, and f at the symbol from vs
--   cleared_row m f h             the row h, with zeros behind, less what the form takes from it
--   block_spots m f n p ps ys     the left spots of one block of n points: locators and symbols less what its column hints take from them
--   all_spots m ns bs p ps ys     those of all blocks
use Rattle.std.specs.Prelude.{ℕ, Bool, true, false, List, [], ◌∷◌, ◌++◌, map, take, drop, slice_index_or}
use Rattle.fields.specs.Meaning.{Meaning}
use Rattle.fields.specs.Elements.{Elem, elem, elems, ops}
use Rattle.skew.specs.declared.points.Point.{Point}
use Rattle.skew.specs.Values.{eval}
use Rattle.skew.specs.Pairs.{Spot}
use Rattle.ranks.specs.Reduction.{marks_of, rows_of}
use Rattle.ranks.specs.RowSteps.{clear}
use Rattle.ranks.specs.declared.rows.Form.{Form}
use Rattle.hints.specs.declared.block.BlockHints.{BlockHints}
use Rattle.hints.specs.Holdings.{padded}
use Rattle.hints.specs.Shown.{from_digits}

-- What stands at no place of a list of points.
abbrev pub no_point : Point
no_point = record { parameter = 0; locator = 0 }

abbrev pub locators_of : List Point → List ℕ
locators_of ps = map (λ p. p.locator) ps

module _ (m : Meaning) where
  abbrev pub parameter_of : List Point → Elem m
  parameter_of ps = elem m (slice_index_or ps 0 no_point).parameter

  abbrev pub hint_points : Elem m → List (List (Elem m)) → List (Elem m × Elem m)
  hint_points a hs = map (λ h. (a, from_digits m h)) hs

  abbrev pub all_hint_points : List ℕ → List BlockHints → List Point → List (Elem m × Elem m)
  all_hint_points [] bs ps = []
  all_hint_points (n ∷ ns) [] ps = []
  all_hint_points (n ∷ ns) (b ∷ bs) ps = hint_points (parameter_of ps) (rows_of m b.rows) ++ all_hint_points ns bs (drop n ps)

  abbrev pub left_spots : Elem m → List (Elem m) → List Bool → List (Elem m) → List (Elem m) → List (Spot (Elem m))
  left_spots a f marks [] vs = []
  left_spots a f marks (u ∷ us) [] = []
  left_spots a f [] (u ∷ us) (v ∷ vs) = []
  left_spots a f (true ∷ marks) (u ∷ us) (v ∷ vs) = left_spots a f marks us vs
  left_spots a f (false ∷ marks) (u ∷ us) (v ∷ vs) = record { parameter = a; locator = u; second = eval (ops m) a f v } ∷ left_spots a f marks us vs

  abbrev pub cleared_row : Form → List (Elem m) → List (Elem m)
  cleared_row f h = clear (ops m) (marks_of f) (rows_of m f) (padded m h)

  abbrev pub block_spots : Form → ℕ → List (Elem m) → List Point → List ℕ → List (Spot (Elem m))
  block_spots f n p ps ys =
      left_spots (parameter_of ps) p (marks_of f) (take n (cleared_row f (elems m (locators_of (take n ps))))) (take n (cleared_row f (elems m (take n ys))))

  abbrev pub all_spots : List ℕ → List BlockHints → List (Elem m) → List Point → List ℕ → List (Spot (Elem m))
  all_spots [] bs p ps ys = []
  all_spots (n ∷ ns) [] p ps ys = []
  all_spots (n ∷ ns) (b ∷ bs) p ps ys = block_spots b.columns n p ps ys ++ all_spots ns bs p (drop n ps) (drop n ys)
