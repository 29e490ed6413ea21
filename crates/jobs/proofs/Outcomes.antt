-- What a run comes to: each step leads to the next, or ends the job at its place.
use Rattle.std.proofs.Common.{◌≡◌, ℕ, ◌+◌, ◌≤◌, List, [], ◌∷◌, ◌++◌, length, sum, Result, Ok, Err, MatchResult, sym, refl, ap, ◌∙◌, subst, arith}
use Rattle.std.proofs.lemmas.List.{length-append}
use Rattle.fields.specs.Meaning.{Meaning}
use Rattle.fields.specs.Elements.{Elem}
use Rattle.sheets.specs.declared.faults.Fault.{Fault}
use Rattle.sheets.specs.Sheets.{spelled}
use Rattle.codes.specs.declared.shape.Code.{Code}
use Rattle.hints.specs.Splittings.{Given}
use Rattle.recovery.specs.declared.outcome.Recovery.{Recovery}
use Rattle.station.specs.declared.station.Station.{Station}
use Rattle.station.specs.Calls.{Command, set_up, load, done}
use Rattle.station.specs.Positions.{size_of}
use Rattle.station.specs.Histories.{start}
use Rattle.station.specs.Standings.{Sound, position_of, Goes}
use Rattle.jobs.specs.declared.outcome.Recovered.{Recovered}
use Rattle.jobs.specs.declared.job.Job.{Job as JobParts}
use Rattle.jobs.specs.declared.sections.Section.{Section}
use Rattle.jobs.specs.declared.sections.Section.TheVariants.{Word, Rows, Columns}
use Rattle.jobs.specs.Jobs.{row_bytes, column_bytes, to_symbols, to_rows}
use Rattle.jobs.specs.Sections.{part_of, offset_of, Part, word, rows, columns, view}
use Rattle.jobs.specs.Readings.{Read}
use Rattle.jobs.specs.Texts.{Found, found_of, outcome_of}
use Rattle.jobs.specs.Runs.{row_calls, opening_calls, calls_of, moved, Stopped, Ends, no_word, no_row, no_column, Finds, Comes}
use Rattle.jobs.specs.Leading.{Led, WordStops, RowStops, ColumnStops, Solved, Shows}
use Rattle.jobs.proofs.Leads.{led_none, led_on}
use Rattle.jobs.proofs.Decoded.{Decoded, sizes}

-- The bytes of a section, as a value has them.
abbrev bytes_in : Part → List ℕ
bytes_in (word part at) = part
bytes_in (rows part at) = part
bytes_in (columns part at) = part

-- Its offset.
abbrev place_in : Part → ℕ
place_in (word part at) = at
place_in (rows part at) = at
place_in (columns part at) = at

-- They are those of the section.
part_in : (s : Section) → part_of s ≡ bytes_in (view s)
part_in (Word part at) = refl
part_in (Rows part at) = refl
part_in (Columns part at) = refl

-- So is the offset.
offset_in : (s : Section) → offset_of s ≡ place_in (view s)
offset_in (Word part at) = refl
offset_in (Rows part at) = refl
offset_in (Columns part at) = refl

-- What a step promises over the kind of its station holds over the kind of the run.
pub carried : {K : Type 0} (meaning : K → Meaning) {k : K} (X : Meaning → Type 0) (s : Station K) → s.kind ≡ k → (cs : List Command) → (Led (meaning s.kind) cs s → X (meaning s.kind))
    → Led (meaning k) cs s → X (meaning k)
carried meaning X s same cs f = subst (λ j. Led (meaning j) cs s → X (meaning j)) same f

module _ (m : Meaning) {bytes : List ℕ} {j : JobParts} (read : Read m.number bytes j) where
  -- The word is that of the job.
  word_part : part_of j.word ≡ read.job.word
  word_part = part_in j.word ∙ ap bytes_in read.word_at

  -- The bytes of the hints are theirs.
  pub rows_part : part_of j.rows ≡ row_bytes read.job.rows
  rows_part = part_in j.rows ∙ ap bytes_in read.rows_at

  -- So it is for the other sort.
  pub columns_part : part_of j.columns ≡ column_bytes read.job.columns
  columns_part = part_in j.columns ∙ ap bytes_in read.columns_at

  -- Each section stands behind its count: the word,
  word_offset : offset_of j.word ≡ length (spelled m.number read.job.sheet) + 1
  word_offset = offset_in j.word ∙ ap place_in read.word_at

  -- the row hints,
  rows_offset : offset_of j.rows ≡ length (to_symbols m.number read.job.sheet read.job.word) + 1
  rows_offset = offset_in j.rows ∙ ap place_in read.rows_at

  -- and the column hints.
  columns_offset : offset_of j.columns ≡ length (to_rows m.number read.job.sheet read.job.word (length read.job.rows) read.job.rows) + 1
  columns_offset = offset_in j.columns ∙ ap place_in read.columns_at

  -- The word lies within the bytes.
  pub word_within : offset_of j.word + length (part_of j.word) ≤ length bytes
  word_within =
      let t = read.job.sheet in
      let w = read.job.word in
      let rs = read.job.rows in
      omega (
        arith,
        word_offset,
        ap length word_part,
        ap length read.spells.bytes_are,
        length-append (spelled m.number t) (sum t.blocks ∷ w),
        length-append (to_symbols m.number t w) (length rs ∷ row_bytes rs),
        length-append (to_rows m.number t w (length rs) rs) (length read.job.columns ∷ column_bytes read.job.columns),
      )

  -- A symbol that is refused ends the job at its place.
  pub word_ends : {e : Fault} → WordStops m (set_up (spelled m.number read.job.sheet) ∷ []) (part_of j.word) (offset_of j.word) e → Ends m bytes e
  word_ends {e} stops =
      let f = stops.refusal in
      subst (Ends m bytes) (sym (stops.moved_is ∙ ap (λ at. moved f (at + f.place)) word_offset))
      (no_word read.job read.spells (subst (λ w. Stopped m (set_up (spelled m.number read.job.sheet) ∷ []) (load w) f) word_part stops.stopped))

  -- So does a row hint.
  pub rows_end : {e : Fault} → RowStops m (opening_calls m.number read.job) read.job.rows (offset_of j.rows) e → Ends m bytes e
  rows_end {e} stops =
      let f = stops.refusal in
      let up = to_symbols m.number read.job.sheet read.job.word in
      let place : offset_of j.rows + length (row_bytes stops.front) ≡ length (up ++ length read.job.rows ∷ row_bytes stops.front) =
      omega (arith, rows_offset, length-append up (length read.job.rows ∷ row_bytes stops.front))
      in
      subst (Ends m bytes) (sym (stops.moved_is ∙ ap (moved f) place)) (no_row read.job stops.front stops.hint stops.rest read.spells stops.hints_are stops.stopped)

  -- And a column hint.
  pub columns_end : {e : Fault} → ColumnStops m (opening_calls m.number read.job ++ row_calls read.job.rows) read.job.columns (offset_of j.columns) e → Ends m bytes e
  columns_end {e} stops =
      let f = stops.refusal in
      let up = to_rows m.number read.job.sheet read.job.word (length read.job.rows) read.job.rows in
      let place : offset_of j.columns + length (column_bytes stops.front) ≡ length (up ++ length read.job.columns ∷ column_bytes stops.front) =
      omega (arith, columns_offset, length-append up (length read.job.columns ∷ column_bytes stops.front))
      in
      subst (Ends m bytes) (sym (stops.moved_is ∙ ap (moved f) place)) (no_column read.job stops.front stops.hint stops.rest read.spells stops.hints_are stops.stopped)

  -- What is recovered is found.
  finds : {K : Type 0} (s : Station K) (f : Found) (d : Decoded m (spelled m.number read.job.sheet) (calls_of m.number read.job) s) → Shows m d.hints d.recovery f → Finds m bytes f
  finds s f d shows =
      record {
        job = read.job;
        spells = read.spells;
        position = position_of m s d.hints;
        taken = d.taken;
        code = d.code;
        hints = d.hints;
        recovery = d.recovery;
        stands = d.solved.stands;
        message = shows.message;
        codeword = shows.codeword;
        full = shows.full;
        row = shows.row;
        column = shows.column;
        full_errors = shows.full_errors;
        row_hints = shows.row_hints;
        column_hints = shows.column_hints;
      }

module _ {K : Type 0} (meaning : K → Meaning) {k : K} {bytes : List ℕ} {j : JobParts} (read : Read (meaning k).number bytes j) (s t : Station K) (same : s.kind ≡ k) where
  -- The bytes of the sheet.
  abbrev sheet_bytes : List ℕ
  sheet_bytes = spelled (meaning k).number read.job.sheet

  -- The sheet is set up.
  pub set_up_led : Sound (meaning k) s.state [] × (position_of (meaning k) s [] ≡ start (meaning k)) → Goes (meaning s.kind) s (set_up j.sheet.now) (Ok done) t → Led (meaning k) (set_up sheet_bytes ∷ []) t
  set_up_led bare goes = led_on meaning k s t same [] (ap set_up read.sheet) goes (led_none (meaning k) s bare.0 bare.1)

  -- The word is loaded.
  pub load_led : Led (meaning k) (set_up sheet_bytes ∷ []) s → (Led (meaning s.kind) (set_up sheet_bytes ∷ []) s → Led (meaning s.kind) (set_up sheet_bytes ∷ load (part_of j.word) ∷ []) t)
      → Led (meaning k) (opening_calls (meaning k).number read.job) t
  load_led led f =
      subst (λ w. Led (meaning k) (set_up sheet_bytes ∷ load w ∷ []) t) (word_part (meaning k) read)
      (carried meaning (λ m. Led m (set_up sheet_bytes ∷ load (part_of j.word) ∷ []) t) s same (set_up sheet_bytes ∷ []) f led)

  -- What was found is what a decode left there.
  pub comes : (n dimension : ℕ) (found : Result Recovered Fault) → n ≡ length (part_of j.word) → dimension ≡ j.dimension
      → ((c : Code) (gs : List (Given (Elem (meaning t.kind)))) (r : Recovery) → Solved (meaning t.kind) c gs r t → n ≡ size_of c → dimension ≡ c.dimension
      → MatchResult found (λ f. Shows (meaning t.kind) gs r (found_of f)) (λ _. ⊥))
      → t.kind ≡ k → Decoded (meaning k) sheet_bytes (calls_of (meaning k).number read.job) t → Comes (meaning k) bytes (outcome_of found)
  comes n dimension found long as_read f kind d = of_found found (shows d.code d.hints d.recovery d.solved (long ∙ as_long) (as_read ∙ read.dimension ∙ sym size.0)) where
    -- It is shown over the kind of the run.
    shows : (c : Code) (gs : List (Given (Elem (meaning k)))) (r : Recovery) → Solved (meaning k) c gs r t → n ≡ size_of c → dimension ≡ c.dimension
        → MatchResult found (λ f. Shows (meaning k) gs r (found_of f)) (λ _. ⊥)
    shows =
        subst (λ i. (c : Code) (gs : List (Given (Elem (meaning i)))) (r : Recovery) → Solved (meaning i) c gs r t → n ≡ size_of c → dimension ≡ c.dimension
        → MatchResult found (λ f. Shows (meaning i) gs r (found_of f)) (λ _. ⊥)) kind f

    -- The code has the sizes of the sheet.
    size : (d.code.dimension ≡ read.job.sheet.dimension) × (size_of d.code ≡ sum read.job.sheet.blocks)
    size = sizes d.of_sheet (record { whole = read.spells.job.rowed.worded.sheet; bytes_are = refl })

    -- So has the word.
    as_long : length (part_of j.word) ≡ size_of d.code
    as_long = ap length (word_part (meaning k) read) ∙ read.spells.job.rowed.worded.word ∙ sym size.1

    -- There is no refusal.
    of_found : (o : Result Recovered Fault) → MatchResult o (λ f. Shows (meaning k) d.hints d.recovery (found_of f)) (λ _. ⊥) → Comes (meaning k) bytes (outcome_of o)
    of_found (Ok f) h = finds (meaning k) read t (found_of f) d h
    of_found (Err e) h = absurd h
