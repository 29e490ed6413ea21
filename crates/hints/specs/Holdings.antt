-- Which hints the program's hints stand for. Reduced forms keep only what hints span, so the same hints stand for each list that spans
-- the same with as many.
--
--   padded m h              a row with zeros behind, up to eight places
--   FormHolds m f hs       f is reduced, and its rows span what the rows hs of eight places span, with as many
--   BlockHolds m n b g     so it is of both sorts of hints of a block of n symbols
--   Holds m ns k h gs       so it is of every block of a code of these lengths and dimension k; and the hints are counted, and within n - k
use Rattle.std.specs.Prelude.{◌≡◌, ℕ, ◌+◌, ◌-◌, ◌<◌, ◌≤◌, List, [], ◌++◌, map, length, replicate, slice_index, slice_index_or}
use Rattle.std.specs.List.{AllByRecursion}
use Rattle.fields.specs.Meaning.{Meaning}
use Rattle.fields.specs.Elements.{Elem, ops}
use Rattle.ranks.specs.Ranks.{total}
use Rattle.ranks.specs.Reduction.{Row, AmongRows, rows_of, InForm, eight}
use Rattle.ranks.specs.declared.rows.Form.{Form}
use Rattle.hints.specs.declared.block.BlockHints.{BlockHints}
use Rattle.hints.specs.declared.holder.Hints.{Hints}
use Rattle.hints.specs.Splittings.{Given, row_count, column_count}

abbrev pub padded : (m : Meaning) → List (Elem m) → List (Elem m)
padded m h = h ++ replicate (8 - length h) (ops m).zero

pub record FormHolds (m : Meaning) (f : Form) (hs : List (List (Elem m))) : Type 0 where
  pub form : InForm m f
  pub size : length (rows_of m f) ≡ length hs
  pub from : AllByRecursion (AmongRows (ops m) 8 hs) (rows_of m f)
  pub back : AllByRecursion (AmongRows (ops m) 8 (rows_of m f)) hs

pub record BlockHolds (m : Meaning) (n : ℕ) (b : BlockHints) (g : Given (Elem m)) : Type 0 where
  pub rows : FormHolds m b.rows (map (eight m) g.rows)
  pub columns : FormHolds m b.columns (map (padded m) g.columns)
  pub fit : AllByRecursion (Row (ops m) n) g.columns

-- What stands at no place of a list of blocks, and no hints.
abbrev pub no_block : BlockHints
no_block = record { rows = record { rows = [] }; columns = record { rows = [] } }

abbrev pub no_hints : (m : Meaning) → Given (Elem m)
no_hints m = record { rows = []; columns = [] }

pub record Holds (m : Meaning) (ns : List ℕ) (k : ℕ) (h : Hints) (gs : List (Given (Elem m))) : Type 0 where
  pub size : length gs ≡ length ns
  pub blocks : (i : ℕ) → i < length ns → BlockHolds m (slice_index ns i) (slice_index_or h.blocks i no_block) (slice_index_or gs i (no_hints m))
  pub rows : h.rows ≡ row_count gs
  pub columns : h.columns ≡ column_count gs
  pub budget : k + (row_count gs + column_count gs) ≤ total ns
