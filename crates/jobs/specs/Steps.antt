-- What the steps of the reader answer. Each says of the bytes up to some place what stands there, or that no job does.
--     Stand          from a place on stand the bytes xs
--     Judged         the byte x at a place is from low to high
--     PartRead       at a place stand as many bytes
--     WordRead       at a place stand a count, n, and as many symbols
--     InRange l b    b is the number of one of l blocks, from 1
--     RowsRead       at a place stand a count and as many row hints
--     OnBlock        a column hint is on a block, and as long as it; `lengths` are those of the blocks
--     ColumnsRead    at a place stand a count and as many column hints
--     StopsByte, ..  the refusal, where what stands before is in order
use Rattle.std.specs.Prelude.{◌≡◌, ℕ, ◌+◌, ◌-◌, ◌<◌, ◌≤◌, List, [], ◌∷◌, ◌++◌, length, take, sum, slice_index}
use Rattle.std.specs.List.{AllByRecursion}
use Rattle.sheets.specs.declared.faults.Fault.{Fault}
use Rattle.sheets.specs.Sheets.{Text, spelled}
use Rattle.jobs.specs.Jobs.{row_bytes, column_bytes, to_symbols, to_rows, Sheeted, Worded, Rowed, WantsCount, WantsBlock, Short, Refused}

pub record Stand (bytes : List ℕ) (at : ℕ) (xs : List ℕ) : Type 0 where
  pub there : at + length xs ≤ length bytes
  pub read : take (at + length xs) bytes ≡ take at bytes ++ xs

abbrev pub StopsByte : List ℕ → ℕ → Fault → Type 0
StopsByte bytes at e = (number : ℕ) → Short number (take at bytes) → Refused number bytes e

pub record Judged (bytes : List ℕ) (at low high x : ℕ) : Type 0 where
  pub stand : Stand bytes at (x ∷ [])
  pub least : low ≤ x
  pub most : x ≤ high

abbrev pub StopsCount : List ℕ → ℕ → ℕ → ℕ → Fault → Type 0
StopsCount bytes at low high e = (number : ℕ) → WantsCount number (take at bytes) low high → Refused number bytes e

abbrev pub StopsBlock : List ℕ → ℕ → ℕ → Fault → Type 0
StopsBlock bytes at blocks e = (number : ℕ) → WantsBlock number (take at bytes) blocks → Refused number bytes e

pub record PartRead (bytes : List ℕ) (at count : ℕ) (part : List ℕ) : Type 0 where
  pub stand : Stand bytes at part
  pub as_many : length part ≡ count

abbrev pub StopsPart : List ℕ → ℕ → ℕ → Fault → Type 0
StopsPart bytes at count e = (number : ℕ) → ((xs : List ℕ) → length xs < count → Short number (take at bytes ++ xs)) → Refused number bytes e

pub record WordRead (bytes : List ℕ) (at n : ℕ) (word : List ℕ) : Type 0 where
  pub stand : Stand bytes at (n ∷ word)
  pub as_many : length word ≡ n

abbrev pub StopsWord : List ℕ → ℕ → ℕ → Fault → Type 0
StopsWord bytes at n e = (number : ℕ) (t : Text) → Sheeted t → n ≡ sum t.blocks → take at bytes ≡ spelled number t → Refused number bytes e

abbrev pub InRange : ℕ → ℕ → Type 0
InRange l b = (1 ≤ b) × (b ≤ l)

pub record RowsRead (bytes : List ℕ) (at blocks : ℕ) (part : List ℕ) : Type 0 where
  pub rows : List (ℕ × ℕ)
  pub part_is : part ≡ row_bytes rows
  pub stand : Stand bytes at (length rows ∷ row_bytes rows)
  pub in_blocks : AllByRecursion (λ r. InRange blocks r.0) rows
  pub few : length rows ≤ 24

abbrev pub StopsRows : List ℕ → ℕ → ℕ → Fault → Type 0
StopsRows bytes at blocks e =
    (number : ℕ) (t : Text) (w : List ℕ) → Worded t w → blocks ≡ length t.blocks → take at bytes ≡ to_symbols number t w → Refused number bytes e

abbrev pub OnBlock : List ℕ → ℕ × List ℕ → Type 0
OnBlock lengths h = InRange (length lengths) h.0 × (length h.1 ≡ slice_index lengths (h.0 - 1))

pub record ColumnsRead (bytes : List ℕ) (at : ℕ) (lengths part : List ℕ) : Type 0 where
  pub columns : List (ℕ × List ℕ)
  pub part_is : part ≡ column_bytes columns
  pub stand : Stand bytes at (length columns ∷ column_bytes columns)
  pub on_blocks : AllByRecursion (OnBlock lengths) columns
  pub few : length columns ≤ 24

abbrev pub StopsColumns : List ℕ → ℕ → List ℕ → Fault → Type 0
StopsColumns bytes at lengths e =
    (number : ℕ) (t : Text) (w : List ℕ) (rs : List (ℕ × ℕ)) → Rowed t w rs → lengths ≡ t.blocks
    → take at bytes ≡ to_rows number t w (length rs) rs → Refused number bytes e
