-- The hints that the program's forms show.
--
--   from_digits m r      the element with these digits
--   shown m n b          the hints of a block of n symbols: row hints by their digits, column hints with nothing behind n places
--   reduced_by m f x     x less what the elements whose digits stand in f span, by the digits of x at the pivots
use Rattle.std.specs.Prelude.{ℕ, List, map, take}
use Rattle.fields.specs.Field.{comb}
use Rattle.fields.specs.Meaning.{Meaning}
use Rattle.fields.specs.Elements.{Elem, ops, basis_of}
use Rattle.ranks.specs.Reduction.{marks_of, rows_of, eight}
use Rattle.ranks.specs.RowSteps.{clear}
use Rattle.ranks.specs.declared.rows.Form.{Form}
use Rattle.hints.specs.declared.block.BlockHints.{BlockHints}
use Rattle.hints.specs.Splittings.{Given}

module _ (m : Meaning) where
  abbrev pub from_digits : List (Elem m) → Elem m
  from_digits r = comb (ops m) r (basis_of m)

  abbrev pub shown : ℕ → BlockHints → Given (Elem m)
  shown n b = record { rows = map from_digits (rows_of m b.rows); columns = map (take n) (rows_of m b.columns) }

  abbrev pub reduced_by : Form → Elem m → Elem m
  reduced_by f x = from_digits (clear (ops m) (marks_of f) (rows_of m f) (eight m x))
