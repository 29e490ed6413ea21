-- What a job comes to: its calls are put to a station of its own, and the first refusal ends it.
--
--   calls_of number j      set up, load, the hints in order, and decode
--   Taken cs p             a bare station takes the calls cs and leads to p
--   Stopped cs c e         and it refuses the next call c with e
--   moved e place          the refusal e at another place
--   Ends bytes e           the job is refused: its bytes, or the first call that is, at its place among the bytes
--   Finds bytes f          the job is recovered, and f is what decode found
--   Comes bytes o          what the job comes to
use Rattle.std.specs.Prelude.{◌≡◌, ℕ, ◌+◌, List, [], ◌∷◌, ◌++◌, map, length, replicate, Result, Ok, Err}
use Rattle.fields.specs.Meaning.{Meaning}
use Rattle.fields.specs.Elements.{Elem}
use Rattle.sheets.specs.declared.faults.Fault.{Fault}
use Rattle.sheets.specs.Sheets.{spelled}
use Rattle.codes.specs.declared.shape.Code.{Code}
use Rattle.hints.specs.Splittings.{Given, row_count, column_count}
use Rattle.recovery.specs.declared.outcome.Recovery.{Recovery}
use Rattle.station.specs.Calls.{Command, set_up, load, row, column, decode, done}
use Rattle.station.specs.Positions.{Position, solved, item_of}
use Rattle.station.specs.Rules.{Answered}
use Rattle.station.specs.Histories.{start, History}
use Rattle.jobs.specs.Jobs.{Job, to_rows, to_columns, Spells, Refused}
use Rattle.jobs.specs.Texts.{Found}

abbrev pub row_calls : List (ℕ × ℕ) → List Command
row_calls rs = map (λ r. row r.0 r.1) rs

abbrev pub column_calls : List (ℕ × List ℕ) → List Command
column_calls hs = map (λ h. column h.0 h.1) hs

abbrev pub opening_calls : ℕ → Job → List Command
opening_calls number j = set_up (spelled number j.sheet) ∷ load j.word ∷ []

abbrev pub hint_calls : ℕ → Job → List Command
hint_calls number j = opening_calls number j ++ row_calls j.rows ++ column_calls j.columns

abbrev pub calls_of : ℕ → Job → List Command
calls_of number j = hint_calls number j ++ decode ∷ []

abbrev pub moved : Fault → ℕ → Fault
moved e place = record { reason = e.reason; layer = e.layer; place = place }

module _ (m : Meaning) where
  abbrev pub Taken : List Command → Position m → Type 0
  Taken cs p = History m (start m) cs (replicate (length cs) (Ok done)) p

  abbrev pub Stopped : List Command → Command → Fault → Type 0
  Stopped cs c e = (p : Position m) × Taken cs p × Answered m p c (Err e) p

  pub data Ends (bytes : List ℕ) : Fault → Type 0 where
    -- the bytes are no job
    unread : {e : Fault} → Refused m.number bytes e → Ends bytes e
    -- the sheet is refused at its own place
    no_code : {e : Fault} (j : Job) → Spells m.number bytes j → Stopped [] (set_up (spelled m.number j.sheet)) e → Ends bytes e
    -- the word at the symbol
    no_word : {e : Fault} (j : Job) → Spells m.number bytes j → Stopped (set_up (spelled m.number j.sheet) ∷ []) (load j.word) e
        → Ends bytes (moved e (length (spelled m.number j.sheet) + 1 + e.place))
    -- a hint at its first byte
    no_row : {e : Fault} (j : Job) (front : List (ℕ × ℕ)) (r : ℕ × ℕ) (rest : List (ℕ × ℕ)) → Spells m.number bytes j → j.rows ≡ front ++ r ∷ rest
        → Stopped (opening_calls m.number j ++ row_calls front) (row r.0 r.1) e → Ends bytes (moved e (length (to_rows m.number j.sheet j.word (length j.rows) front)))
    no_column : {e : Fault} (j : Job) (front : List (ℕ × List ℕ)) (h : ℕ × List ℕ) (rest : List (ℕ × List ℕ)) → Spells m.number bytes j → j.columns ≡ front ++ h ∷ rest
        → Stopped (opening_calls m.number j ++ row_calls j.rows ++ column_calls front) (column h.0 h.1) e
        → Ends bytes (moved e (length (to_columns m.number j.sheet j.word j.rows (length j.columns) front)))
    -- decode at the end of the job
    no_codeword : {e : Fault} (j : Job) → Spells m.number bytes j → Stopped (hint_calls m.number j) decode e → Ends bytes (moved e (length bytes))

  pub record Finds (bytes : List ℕ) (f : Found) : Type 0 where
    pub job : Job
    pub spells : Spells m.number bytes job
    pub position : Position m
    pub taken : Taken (calls_of m.number job) position
    pub code : Code
    pub hints : List (Given (Elem m))
    pub recovery : Recovery
    pub stands : position.standing ≡ solved code hints recovery
    pub message : f.message ≡ item_of recovery 0
    pub codeword : f.codeword ≡ item_of recovery 1
    pub full : f.full ≡ item_of recovery 2
    pub row : f.row ≡ item_of recovery 3
    pub column : f.column ≡ item_of recovery 4
    pub full_errors : f.full_errors ≡ recovery.errors
    pub row_hints : f.row_hints ≡ row_count hints
    pub column_hints : f.column_hints ≡ column_count hints

  abbrev pub Comes : List ℕ → Result Found Fault → Type 0
  Comes bytes (Ok f) = Finds bytes f
  Comes bytes (Err e) = Ends bytes e
