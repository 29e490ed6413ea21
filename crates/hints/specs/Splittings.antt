-- Hints, and the splittings of a difference into a full, a row and a column part, block by block.
--
--   Given F                  the hints of one block: row hints are elements, column hints are rows of fixed coefficients
--   Parts F                  the parts of one block, each with a symbol for each place
--   Splits o g e p           the parts add up to e; each symbol of the row part is a sum of row hints times fixed coefficients; the
--                            column part is a sum of column hints times elements
--   Splitting o gs es ps     so it is in every block
--   full_part ps             the full part, as a word
--   row_count, column_count  how many hints of each sort there are
--   FreeRows o n hs         only fixed coefficients that are all zero combine these rows of n places to zero
--   IndependentHints o n g  the column hints are rows of n fixed coefficients, and the hints of each sort are independent
--   Alike o n g h            the row hints of g and h span the same elements, and their column hints the same rows
--   Everywhere R ns gs hs    R holds of every block with its length
use Rattle.std.specs.Prelude.{◌≡◌, ℕ, ◌+◌, List, [], ◌∷◌, map, length}
use Rattle.std.specs.List.{AllByRecursion}
use Rattle.fields.specs.Field.{Ops, Zero, Fixed, plus}
use Rattle.skew.specs.Roots.{Independent}
use Rattle.ranks.specs.Ranks.{Spanned}
use Rattle.ranks.specs.Reduction.{mix, Row, AmongRows}

pub record Given (F : Type 0) : Type 0 where
  pub rows : List F
  pub columns : List (List F)

pub record Parts (F : Type 0) : Type 0 where
  pub full : List F
  pub row : List F
  pub column : List F

abbrev pub full_part : {F : Type 0} → List (Parts F) → List (List F)
full_part ps = map (λ p. p.full) ps

abbrev pub row_count : {F : Type 0} → List (Given F) → ℕ
row_count [] = 0
row_count (g ∷ gs) = length g.rows + row_count gs

abbrev pub column_count : {F : Type 0} → List (Given F) → ℕ
column_count [] = 0
column_count (g ∷ gs) = length g.columns + column_count gs

pub record Splits {F : Type 0} (o : Ops F) (g : Given F) (e : List F) (p : Parts F) : Type 0 where
  pub sum : e ≡ plus o p.full (plus o p.row p.column)
  pub full_size : length p.full ≡ length e
  pub row_size : length p.row ≡ length e
  pub rows : AllByRecursion (Spanned o g.rows) p.row
  pub columns : (xs : List F) × (length xs ≡ length g.columns) × (p.column ≡ mix o (length e) g.columns xs)

module _ {F : Type 0} (o : Ops F) where
  abbrev pub Splitting : List (Given F) → List (List F) → List (Parts F) → Type 0
  Splitting [] [] [] = Unit {0}
  Splitting [] [] (p ∷ ps) = ⊥
  Splitting [] (e ∷ es) ps = ⊥
  Splitting (g ∷ gs) [] ps = ⊥
  Splitting (g ∷ gs) (e ∷ es) [] = ⊥
  Splitting (g ∷ gs) (e ∷ es) (p ∷ ps) = Splits o g e p × Splitting gs es ps

abbrev pub FreeRows : {F : Type 0} → Ops F → ℕ → List (List F) → Type 0
FreeRows o n hs = (cs : List _) → length cs ≡ length hs → AllByRecursion (Fixed o) cs → AllByRecursion (Zero o) (mix o n hs cs) → AllByRecursion (Zero o) cs

pub record IndependentHints {F : Type 0} (o : Ops F) (n : ℕ) (g : Given F) : Type 0 where
  pub rows : Independent o g.rows
  pub fit : AllByRecursion (Row o n) g.columns
  pub columns : FreeRows o n g.columns

pub record Alike {F : Type 0} (o : Ops F) (n : ℕ) (g h : Given F) : Type 0 where
  pub rows : AllByRecursion (Spanned o g.rows) h.rows
  pub rows_back : AllByRecursion (Spanned o h.rows) g.rows
  pub columns : AllByRecursion (AmongRows o n g.columns) h.columns
  pub columns_back : AllByRecursion (AmongRows o n h.columns) g.columns

abbrev pub Everywhere : {A B : Type 0} → (ℕ → A → B → Type 0) → List ℕ → List A → List B → Type 0
Everywhere R [] [] [] = Unit {0}
Everywhere R [] [] (h ∷ hs) = ⊥
Everywhere R [] (g ∷ gs) hs = ⊥
Everywhere R (n ∷ ns) [] hs = ⊥
Everywhere R (n ∷ ns) (g ∷ gs) [] = ⊥
Everywhere R (n ∷ ns) (g ∷ gs) (h ∷ hs) = R n g h × Everywhere R ns gs hs
