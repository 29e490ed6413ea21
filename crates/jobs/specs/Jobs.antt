-- The grammar of jobs: which bytes are a job, and which refusal every other string of bytes gets.
--
--   Job, job_bytes      what a job says, and its bytes: a sheet, then three sections, each after its count: the symbols of a word; the row hints, each
--                       a block and an element; the column hints, each a block and as many coefficients as the block has symbols
--   InBlocks t b        b is the number of a block, from 1
--   ColumnOf t h        the column hint h is on a block, and as long as it
--   WantsCount          the bytes so far are in order, and the next is a count from low to high
--   WantsBlock          the bytes so far are in order, and the next is the number of a block, of l
--   Short               the bytes so far are in order, and more are wanted
--   IsJob j             the sections of j are in order
--   Spells, Refused     the bytes are the job j; the bytes are none: no sheet stands in front, or at the first byte, as they are read, that is missing or breaks its
--                       limit, or since bytes follow
use Rattle.std.specs.Prelude.{◌≡◌, ℕ, ◌-◌, ◌<◌, ◌≤◌, ◌⊎◌, List, [], ◌∷◌, ◌++◌, length, sum, slice_index}
use Rattle.std.specs.List.{AllByRecursion}
use Rattle.sheets.specs.declared.faults.Fault.{Fault}
use Rattle.sheets.specs.declared.faults.Reason.{Reason}
use Rattle.sheets.specs.declared.faults.Reason.TheVariants.{MissingByte, ExtraBytes, Limit, OutOfRange}
use Rattle.sheets.specs.declared.faults.Layer.TheVariants as layer
use Rattle.sheets.specs.Faults.{refused_by}
use Rattle.sheets.specs.Sheets.{Text, Whole, spelled, Broken}

pub record Job : Type 0 where
  pub sheet : Text
  pub word : List ℕ
  -- block and element
  pub rows : List (ℕ × ℕ)
  -- block and coefficients
  pub columns : List (ℕ × List ℕ)

abbrev pub at_job : Reason → ℕ → Fault
at_job reason place = refused_by layer.Job reason place

abbrev pub row_bytes : List (ℕ × ℕ) → List ℕ
row_bytes [] = []
row_bytes (r ∷ rs) = r.0 ∷ r.1 ∷ row_bytes rs

abbrev pub column_bytes : List (ℕ × List ℕ) → List ℕ
column_bytes [] = []
column_bytes (h ∷ hs) = h.0 ∷ (h.1 ++ column_bytes hs)

-- up to some symbol; up to some row hint, behind the count r; up to some column hint, behind the count c
abbrev pub to_symbols : ℕ → Text → List ℕ → List ℕ
to_symbols number t w = spelled number t ++ sum t.blocks ∷ w

abbrev pub to_rows : ℕ → Text → List ℕ → ℕ → List (ℕ × ℕ) → List ℕ
to_rows number t w r rs = to_symbols number t w ++ r ∷ row_bytes rs

abbrev pub to_columns : ℕ → Text → List ℕ → List (ℕ × ℕ) → ℕ → List (ℕ × List ℕ) → List ℕ
to_columns number t w rs c hs = to_rows number t w (length rs) rs ++ c ∷ column_bytes hs

abbrev pub job_bytes : ℕ → Job → List ℕ
job_bytes number j = to_columns number j.sheet j.word j.rows (length j.columns) j.columns

abbrev pub InBlocks : Text → ℕ → Type 0
InBlocks t b = (1 ≤ b) × (b ≤ length t.blocks)

abbrev pub ColumnOf : Text → ℕ × List ℕ → Type 0
ColumnOf t h = InBlocks t h.0 × (length h.1 ≡ slice_index t.blocks (h.0 - 1))

abbrev pub Sheeted : Text → Type 0
Sheeted t = Whole t.dimension t.blocks t.parameters t.locators

-- a sheet and a word
pub record Worded (t : Text) (w : List ℕ) : Type 0 where
  pub sheet : Sheeted t
  pub word : length w ≡ sum t.blocks

-- and some row hints, of at most 24
pub record Rowed (t : Text) (w : List ℕ) (rs : List (ℕ × ℕ)) : Type 0 where
  pub worded : Worded t w
  pub rows : AllByRecursion (λ r. InBlocks t r.0) rs
  pub few : length rs ≤ 24

-- and some column hints, of at most 24
pub record Hinted (t : Text) (w : List ℕ) (rs : List (ℕ × ℕ)) (hs : List (ℕ × List ℕ)) : Type 0 where
  pub rowed : Rowed t w rs
  pub columns : AllByRecursion (ColumnOf t) hs
  pub few : length hs ≤ 24

abbrev pub IsJob : Job → Type 0
IsJob j = Hinted j.sheet j.word j.rows j.columns

pub data WantsCount (number : ℕ) : List ℕ → ℕ → ℕ → Type 0 where
  symbol_count : {t : Text} → Sheeted t → WantsCount number (spelled number t) (sum t.blocks) (sum t.blocks)
  row_count : {t : Text} {w : List ℕ} → Worded t w → WantsCount number (to_symbols number t w) 0 24
  column_count : {t : Text} {w : List ℕ} {rs : List (ℕ × ℕ)} → Rowed t w rs → WantsCount number (to_rows number t w (length rs) rs) 0 24

pub data WantsBlock (number : ℕ) : List ℕ → ℕ → Type 0 where
  row_block : {t : Text} {w : List ℕ} {rs : List (ℕ × ℕ)} (r : ℕ) → Rowed t w rs → length rs < r → r ≤ 24 → WantsBlock number (to_rows number t w r rs) (length t.blocks)
  column_block : {t : Text} {w : List ℕ} {rs : List (ℕ × ℕ)} {hs : List (ℕ × List ℕ)} (c : ℕ) → Hinted t w rs hs → length hs < c → c ≤ 24
      → WantsBlock number (to_columns number t w rs c hs) (length t.blocks)

pub data Short (number : ℕ) : List ℕ → Type 0 where
  at_count : {u : List ℕ} {low high : ℕ} → WantsCount number u low high → Short number u
  at_symbol : {t : Text} (w : List ℕ) → Sheeted t → length w < sum t.blocks → Short number (to_symbols number t w)
  at_block : {u : List ℕ} {l : ℕ} → WantsBlock number u l → Short number u
  at_element : {t : Text} {w : List ℕ} {rs : List (ℕ × ℕ)} (r b : ℕ) → Rowed t w rs → length rs < r → r ≤ 24 → InBlocks t b → Short number (to_rows number t w r rs ++ b ∷ [])
  at_coefficient : {t : Text} {w : List ℕ} {rs : List (ℕ × ℕ)} {hs : List (ℕ × List ℕ)} (c b : ℕ) (h : List ℕ) → Hinted t w rs hs → length hs < c → c ≤ 24 → InBlocks t b
      → length h < slice_index t.blocks (b - 1) → Short number (to_columns number t w rs c hs ++ b ∷ h)

pub record Spells (number : ℕ) (bytes : List ℕ) (j : Job) : Type 0 where
  pub job : IsJob j
  pub bytes_are : bytes ≡ job_bytes number j

pub data Refused (number : ℕ) : List ℕ → Fault → Type 0 where
  -- no sheet stands in front
  no_sheet : {u : List ℕ} {e : Fault} → Broken number u e → Refused number u e
  -- the next byte is missing
  missing : {u : List ℕ} → Short number u → Refused number u (at_job MissingByte (length u))
  -- the byte after those in order is a count that breaks its limit, or no block
  count : {u : List ℕ} {low high : ℕ} (x : ℕ) (v : List ℕ) → WantsCount number u low high → (x < low) ⊎ (high < x) → Refused number (u ++ x ∷ v) (at_job Limit (length u))
  block : {u : List ℕ} {l : ℕ} (x : ℕ) (v : List ℕ) → WantsBlock number u l → (x < 1) ⊎ (l < x) → Refused number (u ++ x ∷ v) (at_job OutOfRange (length u))
  -- some byte follows a job
  extra : (j : Job) (x : ℕ) (v : List ℕ) → IsJob j → Refused number (job_bytes number j ++ x ∷ v) (at_job ExtraBytes (length (job_bytes number j)))
