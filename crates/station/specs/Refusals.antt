-- When a call is refused: the table of each call.
--
--   NoSymbolIn Bad xs     the row that refuses the first bad symbol of xs at its place
--   input, output         the rows of lengths
--   no_sheet x            the row of a sheet: its own refusal
--   code_rows, later_rows the table of a call, but for the row that comes first: those that report of a code, and all
--   rows_of p c           the table of the call c: each row refuses where its condition holds, and the first such row counts
use Rattle.std.specs.Prelude.{◌≡◌, ℕ, ◌+◌, ◌*◌, ◌-◌, ◌<◌, ◌≤◌, ◌≢◌, ◌⊎◌, false, List, [], ◌∷◌, length, slice_index}
use Rattle.fields.specs.Meaning.{Meaning}
use Rattle.fields.specs.Elements.{Elem, elem, elems, ops}
use Rattle.sheets.specs.declared.faults.Fault.{Fault}
use Rattle.sheets.specs.declared.faults.Reason.TheVariants.{NotOpen, WrongLength, NoSymbol, OutOfRange, DependentHint, Spent, OutOfReach, FullTally, NoCodeword, NoDual}
use Rattle.sheets.specs.Sheets.{Text, Spells}
use Rattle.sheets.specs.Sheets as sheet
use Rattle.ranks.specs.Ranks.{Spanned}
use Rattle.ranks.specs.Reduction.{AmongRows}
use Rattle.codes.specs.declared.shape.Code.{Code}
use Rattle.codes.specs.Holdings.{held as numbers}
use Rattle.codes.specs.Codes.{Codeword}
use Rattle.codes.specs.Fitness.{Outside, First, Unfit}
use Rattle.hints.specs.Taking.{There, Unfixed, block_of, Left}
use Rattle.recovery.specs.Reach.{InReach}
use Rattle.station.specs.Calls.{Command, set_up, load, row, column, decode, encode, message, syndromes, dual, weight, read, opens, at_station}
use Rattle.station.specs.Tables.{Row, where_so}
use Rattle.station.specs.Positions.{Standing, bare, ready, held, solved, Tallied, Position, most_words, size_of, blocks_of, item_size, stage}

-- The first symbol that is bad is refused at its place.
pub record NoSymbolIn (Bad : ℕ → Type 0) (xs : List ℕ) (e : Fault) : Type 0 where
  pub place : ℕ
  pub first : First Bad xs place
  pub fault : e ≡ at_station NoSymbol place

-- An input or a buffer has another length than n.
abbrev pub input : List ℕ → ℕ → Row
input x n = where_so (length x ≢ n) WrongLength 0

abbrev pub output : ℕ → ℕ → Row
output room n = where_so (room ≢ n) WrongLength 1

module _ (m : Meaning) where
  abbrev pub of_code : Standing m → (Code → List Row) → List Row
  of_code bare rows = []
  of_code (ready c) rows = rows c
  of_code (held c w gs) rows = rows c
  of_code (solved c gs r) rows = rows c

  abbrev pub no_sheet : List ℕ → Row
  no_sheet x e = sheet.Refused m.number x e ⊎ ((t : Text) × Spells m.number x t × Unfit m t e)

  -- The tables of the calls that report of a code, but for the row that comes first.
  abbrev pub code_rows : Command → Code → List Row
  code_rows (encode x room) c = input x c.dimension ∷ output room (size_of c) ∷ NoSymbolIn (Outside m 0) x ∷ []
  code_rows (message w room) c = input w (size_of c) ∷ output room c.dimension ∷ NoSymbolIn (Outside m 0) w ∷ where_so (¬ Codeword m c w) NoCodeword 0 ∷ []
  code_rows (syndromes w room) c = input w (size_of c) ∷ output room (size_of c - c.dimension) ∷ NoSymbolIn (Outside m 0) w ∷ []
  code_rows (dual room) c = where_so (c.dimension ≡ size_of c) NoDual 0 ∷ output room (5 + 2 * blocks_of c + size_of c) ∷ []
  code_rows (weight w) c = input w (size_of c) ∷ NoSymbolIn (Outside m 0) w ∷ []
  code_rows c code = []

  -- So of each call.
  abbrev pub later_rows : Command → Standing m → Tallied → List Row
  later_rows (set_up x) s t = no_sheet x ∷ []
  later_rows (load w) (ready c) t = input w (size_of c) ∷ NoSymbolIn (Outside m 0) w ∷ []
  later_rows (row b x) (held c w gs) t =
      where_so (¬ There (numbers c.lengths) b) OutOfRange 0 ∷ where_so (m.size ≤ x) NoSymbol 0 ∷ where_so (Spanned (ops m) (block_of m gs b).rows (elem m x)) DependentHint 0
      ∷ where_so (¬ Left m (numbers c.lengths) c.dimension gs) Spent 0 ∷ []
  later_rows (column b h) (held c w gs) t =
      where_so (¬ There (numbers c.lengths) b) OutOfRange 0 ∷ input h (slice_index (numbers c.lengths) (b - 1)) ∷ NoSymbolIn (Unfixed m) h
      ∷ where_so (AmongRows (ops m) (slice_index (numbers c.lengths) (b - 1)) (block_of m gs b).columns (elems m h)) DependentHint 0
      ∷ where_so (¬ Left m (numbers c.lengths) c.dimension gs) Spent 0 ∷ []
  later_rows decode (held c w gs) t = where_so (most_words ≤ t.words) FullTally 0 ∷ where_so ((v : List (Elem m)) → ¬ InReach m c gs (elems m w) v) OutOfReach 0 ∷ []
  later_rows (read i room) (solved c gs r) t = where_so (4 < i) OutOfRange 0 ∷ output room (item_size c i) ∷ []
  later_rows c s t = of_code s (code_rows c)

  abbrev pub rows_of : Position m → Command → List Row
  rows_of p c = where_so (opens (stage m p.standing) c ≡ false) NotOpen 0 ∷ later_rows c p.standing p.tally
