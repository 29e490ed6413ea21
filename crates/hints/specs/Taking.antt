-- How a hint is judged: by the first of the reasons that holds, in the order of the lines; a hint without one is taken. Blocks count
-- from 1.
--
--   There ns b                     b is 1 to the number of blocks
--   block_of m gs b                the hints of block b
--   Left ns k gs                   fewer than n - k hints are there
--   FreshRow m gs b x             x is no sum of the row hints of block b times fixed coefficients
--   FreshColumn m ns gs b h       so of column hints
--   Unfixed m c                    c is no code, or twist alters it
--   RowJudged m ns k gs b x v     the verdict on a row hint: taken, or why not
--   ColumnJudged ..               the verdict on a column hint
--   with_row, with_column          the hints with one more in block b
use Rattle.std.specs.Prelude.{◌≡◌, ℕ, ◌+◌, ◌-◌, ◌<◌, ◌≤◌, ◌≢◌, ◌⊎◌, List, ◌∷◌, Result, Ok, Err, length, slice_index, slice_index_or, slice_set}
use Rattle.fields.specs.Meaning.{Meaning}
use Rattle.fields.specs.Elements.{Elem, elem, elems, ops}
use Rattle.ranks.specs.Ranks.{total, Spanned}
use Rattle.ranks.specs.Reduction.{AmongRows}
use Rattle.codes.specs.Fitness.{First, AllNot}
use Rattle.hints.specs.declared.not_taken.NotTaken.{NotTaken}
use Rattle.hints.specs.declared.not_taken.NotTaken.TheVariants.{NoBlock, WrongLength, NoCode, Dependent, Spent}
use Rattle.hints.specs.Splittings.{Given, row_count, column_count}
use Rattle.hints.specs.Holdings.{no_hints}

abbrev pub There : List ℕ → ℕ → Type 0
There ns b = (1 ≤ b) × (b ≤ length ns)

abbrev pub Unfixed : Meaning → ℕ → Type 0
Unfixed m c = (m.size ≤ c) ⊎ (m.twist c ≢ c)

module _ (m : Meaning) where
  abbrev pub block_of : List (Given (Elem m)) → ℕ → Given (Elem m)
  block_of gs b = slice_index_or gs (b - 1) (no_hints m)

  abbrev pub FreshRow : List (Given (Elem m)) → ℕ → ℕ → Type 0
  FreshRow gs b x = ¬ Spanned (ops m) (block_of gs b).rows (elem m x)

  abbrev pub FreshColumn : List ℕ → List (Given (Elem m)) → ℕ → List ℕ → Type 0
  FreshColumn ns gs b h = ¬ AmongRows (ops m) (slice_index ns (b - 1)) (block_of gs b).columns (elems m h)

  abbrev pub Left : List ℕ → ℕ → List (Given (Elem m)) → Type 0
  Left ns k gs = k + (row_count gs + column_count gs) < total ns

  abbrev pub RowJudged : List ℕ → ℕ → List (Given (Elem m)) → ℕ → ℕ → Result (Unit {0}) NotTaken → Type 0
  RowJudged ns k gs b x (Err NoBlock) = ¬ There ns b
  RowJudged ns k gs b x (Err WrongLength) = ⊥
  RowJudged ns k gs b x (Err (NoCode i)) = There ns b × (m.size ≤ x) × (i ≡ 0)
  RowJudged ns k gs b x (Err Dependent) = There ns b × (x < m.size) × Spanned (ops m) (block_of gs b).rows (elem m x)
  RowJudged ns k gs b x (Err Spent) = There ns b × (x < m.size) × FreshRow gs b x × (¬ Left ns k gs)
  RowJudged ns k gs b x (Ok tt) = There ns b × (x < m.size) × FreshRow gs b x × Left ns k gs

  abbrev pub ColumnJudged : List ℕ → ℕ → List (Given (Elem m)) → ℕ → List ℕ → Result (Unit {0}) NotTaken → Type 0
  ColumnJudged ns k gs b h (Err NoBlock) = ¬ There ns b
  ColumnJudged ns k gs b h (Err WrongLength) = There ns b × (length h ≢ slice_index ns (b - 1))
  ColumnJudged ns k gs b h (Err (NoCode i)) = There ns b × (length h ≡ slice_index ns (b - 1)) × First (Unfixed m) h i
  ColumnJudged ns k gs b h (Err Dependent) =
      There ns b × (length h ≡ slice_index ns (b - 1)) × AllNot (Unfixed m) h × AmongRows (ops m) (slice_index ns (b - 1)) (block_of gs b).columns (elems m h)
  ColumnJudged ns k gs b h (Err Spent) = There ns b × (length h ≡ slice_index ns (b - 1)) × AllNot (Unfixed m) h × FreshColumn ns gs b h × (¬ Left ns k gs)
  ColumnJudged ns k gs b h (Ok tt) = There ns b × (length h ≡ slice_index ns (b - 1)) × AllNot (Unfixed m) h × FreshColumn ns gs b h × Left ns k gs

  abbrev pub with_row : List (Given (Elem m)) → ℕ → ℕ → List (Given (Elem m))
  with_row gs b x = slice_set gs (b - 1) (record { rows = elem m x ∷ (block_of gs b).rows; columns = (block_of gs b).columns })

  abbrev pub with_column : List (Given (Elem m)) → ℕ → List ℕ → List (Given (Elem m))
  with_column gs b h = slice_set gs (b - 1) (record { rows = (block_of gs b).rows; columns = elems m h ∷ (block_of gs b).columns })
