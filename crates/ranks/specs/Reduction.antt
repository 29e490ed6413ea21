-- Rows of fixed coefficients in reduced form.
--
--   count marks            how many are marked
--   heads, tails           the entries of rows at the first place, and the rows from the next place on
--   mix o n hs xs          the sum of the rows hs, each times its element of xs, at the first n places
--   Row o n h              h has n entries, all fixed
--   AmongRows o n hs h    h is a sum of the rows hs times fixed coefficients
--   Pivots o j marks hs    at the marked places, one after the other, row j, row j + 1 and so on has one, and each other row zero
--   Reduced o n marks hs   as many rows as marks among n places, fixed, with their pivots at the marked places
--   in_use xs              what stands in a list of which some is not in use
--   marks_of f             which places of a form of the program are in use
--   row, rows_of, InForm  a row and the rows of a form of the program, in elements; they are reduced
--   Inserted m f h r g     what the insertion of a row answers and leaves
--   eight m x              the digits of x, with zeros up to eight places
use Rattle.std.specs.Prelude.{◌≡◌, ℕ, suc, Bool, true, false, List, [], ◌∷◌, map, length, drop, Option, Some, None, is_some}
use Rattle.std.specs.List.{AllByRecursion}
use Rattle.fields.specs.Field.{Ops, Fixed, comb}
use Rattle.fields.specs.Meaning.{Meaning, digit_row}
use Rattle.fields.specs.Elements.{Elem, elems, ops}
use Rattle.skew.specs.Products.{coef}
use Rattle.ranks.specs.declared.rows.Row.{Row as RowCodes}
use Rattle.ranks.specs.declared.rows.Form.{Form}

abbrev pub count : List Bool → ℕ
count [] = 0
count (true ∷ marks) = suc (count marks)
count (false ∷ marks) = count marks

module _ {F : Type 0} (o : Ops F) where
  open o use {zero, one}

  abbrev pub heads : List (List F) → List F
  heads hs = map (λ h. coef o h 0) hs

  abbrev pub tails : List (List F) → List (List F)
  tails hs = map (drop 1) hs

  abbrev pub mix : ℕ → List (List F) → List F → List F
  mix ℕ.zero hs xs = []
  mix (suc n) hs xs = comb o (heads hs) xs ∷ mix n (tails hs) xs

  abbrev pub Row : ℕ → List F → Type 0
  Row n h = (length h ≡ n) × AllByRecursion (Fixed o) h

  abbrev pub AmongRows : ℕ → List (List F) → List F → Type 0
  AmongRows n hs h = (cs : List F) × (length cs ≡ length hs) × AllByRecursion (Fixed o) cs × (h ≡ mix n hs cs)

  -- n zeros, and n entries of which the j-th is one and the others are zero.
  abbrev pub zeros : ℕ → List F
  zeros ℕ.zero = []
  zeros (suc n) = zero ∷ zeros n

  abbrev pub unit : ℕ → ℕ → List F
  unit ℕ.zero j = []
  unit (suc n) ℕ.zero = one ∷ zeros n
  unit (suc n) (suc j) = zero ∷ unit n j

  abbrev pub Pivots : ℕ → List Bool → List (List F) → Type 0
  Pivots j [] hs = Unit {0}
  Pivots j (true ∷ marks) hs = (heads hs ≡ unit (length hs) j) × Pivots (suc j) marks (tails hs)
  Pivots j (false ∷ marks) hs = Pivots j marks (tails hs)

pub record Reduced {F : Type 0} (o : Ops F) (n : ℕ) (marks : List Bool) (hs : List (List F)) : Type 0 where
  pub size : length marks ≡ n
  pub full : count marks ≡ length hs
  pub pivots : Pivots o 0 marks hs
  pub rows : AllByRecursion (Row o n) hs

abbrev pub row : (m : Meaning) → RowCodes → List (Elem m)
row m r = elems m r.cells

abbrev pub in_use : {A : Type 0} → List (Option A) → List A
in_use [] = []
in_use (None ∷ xs) = in_use xs
in_use (Some x ∷ xs) = x ∷ in_use xs

abbrev pub marks_of : Form → List Bool
marks_of f = map is_some f.rows

abbrev pub rows_of : (m : Meaning) → Form → List (List (Elem m))
rows_of m f = map (row m) (in_use f.rows)

pub record InForm (m : Meaning) (f : Form) : Type 0 where
  pub room : length f.rows ≡ 8
  pub reduced : Reduced (ops m) 8 (marks_of f) (rows_of m f)

-- The form g has one row more than f, h was not among the sums of the rows of f, and the rows of g have the sums of h and those.
pub record Extended (m : Meaning) (f : Form) (h : List (Elem m)) (g : Form) : Type 0 where
  pub form : InForm m g
  pub more : length (rows_of m g) ≡ suc (length (rows_of m f))
  pub new : ¬ AmongRows (ops m) 8 (rows_of m f) h
  pub from : AllByRecursion (AmongRows (ops m) 8 (h ∷ rows_of m f)) (rows_of m g)
  pub back : AllByRecursion (AmongRows (ops m) 8 (rows_of m g)) (h ∷ rows_of m f)

-- Where h is among the sums already nothing is changed.
abbrev pub Inserted : (m : Meaning) → Form → List (Elem m) → Bool → Form → Type 0
Inserted m f h false g = (g ≡ f) × AmongRows (ops m) 8 (rows_of m f) h
Inserted m f h true g = Extended m f h g

abbrev pub eight : (m : Meaning) → Elem m → List (Elem m)
eight m x = elems m (digit_row m x.code)
