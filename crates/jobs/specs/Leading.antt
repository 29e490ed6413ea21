-- What the steps of a run promise each other.
--
--   Led m cs s                a bare station takes the calls cs and stands as the sound station s does
--   WordStops m cs w at e     behind the calls cs the word w, whose symbols stand at a place, is refused, and e is the refusal at its symbol
--   RowStops, ColumnStops     so of hints: one is, behind the calls cs and those of the hints before it, and e is the refusal at its first byte
--   OnBlocks lengths hs       the column hints are on blocks of these lengths, and as long as they
--   Solved m c gs r s         the sound station s has recovered r, by the code c and the hints gs
--   Hands m gs r i xs n       xs is the item i of what was recovered, and n are the counts
--   Shows m gs r f            f is what was recovered
use Rattle.std.specs.Prelude.{◌≡◌, ℕ, ◌+◌, List, ◌∷◌, ◌++◌, length}
use Rattle.std.specs.List.{AllByRecursion}
use Rattle.fields.specs.Meaning.{Meaning}
use Rattle.fields.specs.Elements.{Elem}
use Rattle.sheets.specs.declared.faults.Fault.{Fault}
use Rattle.codes.specs.declared.shape.Code.{Code}
use Rattle.hints.specs.Splittings.{Given, row_count, column_count}
use Rattle.recovery.specs.declared.outcome.Recovery.{Recovery}
use Rattle.station.specs.declared.answers.Counts.{Counts}
use Rattle.station.specs.declared.station.Station.{Station}
use Rattle.station.specs.Calls.{Command, load, row, column}
use Rattle.station.specs.Positions.{solved, item_of}
use Rattle.station.specs.Standings.{Sound, standing_of, position_of}
use Rattle.jobs.specs.Jobs.{row_bytes, column_bytes}
use Rattle.jobs.specs.Steps.{OnBlock}
use Rattle.jobs.specs.Texts.{Found}
use Rattle.jobs.specs.Runs.{Taken, Stopped, moved, row_calls, column_calls}

abbrev pub Led : (m : Meaning) → {K : Type 0} → List Command → Station K → Type 0
Led m cs s = (gs : List (Given (Elem m))) × Sound m s.state gs × Taken m cs (position_of m s gs)

pub record WordStops (m : Meaning) (cs : List Command) (w : List ℕ) (at : ℕ) (e : Fault) : Type 0 where
  pub refusal : Fault
  pub stopped : Stopped m cs (load w) refusal
  pub moved_is : e ≡ moved refusal (at + refusal.place)

pub record RowStops (m : Meaning) (cs : List Command) (rs : List (ℕ × ℕ)) (at : ℕ) (e : Fault) : Type 0 where
  pub front : List (ℕ × ℕ)
  pub hint : ℕ × ℕ
  pub rest : List (ℕ × ℕ)
  pub hints_are : rs ≡ front ++ hint ∷ rest
  pub refusal : Fault
  pub stopped : Stopped m (cs ++ row_calls front) (row hint.0 hint.1) refusal
  pub moved_is : e ≡ moved refusal (at + length (row_bytes front))

pub record ColumnStops (m : Meaning) (cs : List Command) (hs : List (ℕ × List ℕ)) (at : ℕ) (e : Fault) : Type 0 where
  pub front : List (ℕ × List ℕ)
  pub hint : ℕ × List ℕ
  pub rest : List (ℕ × List ℕ)
  pub hints_are : hs ≡ front ++ hint ∷ rest
  pub refusal : Fault
  pub stopped : Stopped m (cs ++ column_calls front) (column hint.0 hint.1) refusal
  pub moved_is : e ≡ moved refusal (at + length (column_bytes front))

abbrev pub OnBlocks : List ℕ → List (ℕ × List ℕ) → Type 0
OnBlocks lengths hs = AllByRecursion (OnBlock lengths) hs

pub record Solved (m : Meaning) {K : Type 0} (c : Code) (gs : List (Given (Elem m))) (r : Recovery) (s : Station K) : Type 0 where
  pub sound : Sound m s.state gs
  pub stands : standing_of m s.state gs ≡ solved c gs r

pub record Hands (m : Meaning) (gs : List (Given (Elem m))) (r : Recovery) (i : ℕ) (xs : List ℕ) (n : Counts) : Type 0 where
  pub item : xs ≡ item_of r i
  pub full : n.full ≡ r.errors
  pub row : n.row ≡ row_count gs
  pub column : n.column ≡ column_count gs

pub record Shows (m : Meaning) (gs : List (Given (Elem m))) (r : Recovery) (f : Found) : Type 0 where
  pub message : f.message ≡ item_of r 0
  pub codeword : f.codeword ≡ item_of r 1
  pub full : f.full ≡ item_of r 2
  pub row : f.row ≡ item_of r 3
  pub column : f.column ≡ item_of r 4
  pub full_errors : f.full_errors ≡ r.errors
  pub row_hints : f.row_hints ≡ row_count gs
  pub column_hints : f.column_hints ≡ column_count gs
