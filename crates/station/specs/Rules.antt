-- The rules of a station over a kind that means m: what a call does where nothing refuses it, and what it is answered.
--
--   Told c code r         what the call c, which reports of a code, says
--   Solves c gs w r       r has what decode finds: a codeword in reach, its message, and a splitting of its difference with least full errors
--   Acts c s t r q        the call c, where nothing refuses it, is answered r and leads to q
--   Answered p c a q      the call c is answered a and leads to q: with the fault of its table and no change, or as it acts
use Rattle.std.specs.Prelude.{◌≡◌, ℕ, ◌+◌, ◌-◌, ◌<◌, ◌≤◌, List, map, length, slice_index, Result, Ok, Err}
use Rattle.fields.specs.Meaning.{Meaning}
use Rattle.fields.specs.Elements.{Elem, elems, codes, ops}
use Rattle.skew.specs.Polynomials.{coefficients, Codes}
use Rattle.sheets.specs.declared.faults.Fault.{Fault}
use Rattle.sheets.specs.Sheets.{Text, Spells}
use Rattle.ranks.specs.Ranks.{Weighs, cut}
use Rattle.codes.specs.declared.shape.Code.{Code}
use Rattle.codes.specs.Holdings.{held as numbers}
use Rattle.codes.specs.Codes.{pts, word_of, Message}
use Rattle.codes.specs.Duals.{DualLocators, syndrome}
use Rattle.codes.specs.Dualizing.{DualSheet}
use Rattle.codes.specs.Fitness.{Made}
use Rattle.hints.specs.Splittings.{Given, Parts, Splitting, full_part, row_count, column_count}
use Rattle.hints.specs.Outcomes.{parts_of}
use Rattle.hints.specs.Taking.{with_row, with_column}
use Rattle.recovery.specs.declared.outcome.Recovery.{Recovery}
use Rattle.recovery.specs.Reach.{InReach, apart}
use Rattle.station.specs.Calls.{Command, set_up, load, row, column, decode, clear, encode, message, syndromes, dual, weight, tally, read, Reply, done, wrote, weighs, counted, handed}
use Rattle.station.specs.Tables.{Refuses, Accepts}
use Rattle.station.specs.Positions.{Standing, bare, ready, held, solved, Tallied, Position, size_of, item_of, at, unhinted, OfCode}
use Rattle.station.specs.Refusals.{rows_of}

module _ (m : Meaning) where
  -- The syndromes of a word, by the dual locators of the code.
  abbrev pub Syndromes : Code → List ℕ → List ℕ → Type 0
  Syndromes c w ss =
      (alpha : List (Elem m)) × DualLocators (ops m) (pts m c) alpha × (length ss ≡ size_of c - c.dimension)
      × ((j : ℕ) → j < length ss → slice_index ss j ≡ (syndrome (ops m) (pts m c) alpha (elems m w) j).code)

  -- What a call that reports of a code says.
  abbrev pub Told : Command → Code → Reply → Type 0
  Told (encode x room) c (wrote ys) = ys ≡ codes (word_of m c (elems m x))
  Told (message w room) c (wrote ys) = Codes m ys × Message m c w (elems m ys)
  Told (syndromes w room) c (wrote ys) = Syndromes c w ys
  Told (dual room) c (wrote ys) = DualSheet m c ys
  Told (weight w) c (weighs n) = Weighs (ops m) (map (elems m) (cut (numbers c.lengths) w)) n
  Told command c r = ⊥

  -- A codeword in reach with its message, and a splitting of its difference with least full errors.
  pub record Solves (c : Code) (gs : List (Given (Elem m))) (w : List ℕ) (r : Recovery) : Type 0 where
    pub reach : InReach m c gs (elems m w) (elems m (numbers r.codeword))
    pub message : Message m c (numbers r.codeword) (elems m (coefficients r.message))
    pub splitting : Splitting (ops m) gs (apart m c (elems m w) (elems m (numbers r.codeword))) (parts_of m (numbers c.lengths) r.parts)
    pub weight : Weighs (ops m) (full_part (parts_of m (numbers c.lengths) r.parts)) r.errors
    pub least : (ps : List (Parts (Elem m))) (n : ℕ) → Splitting (ops m) gs (apart m c (elems m w) (elems m (numbers r.codeword))) ps → Weighs (ops m) (full_part ps) n → r.errors ≤ n
    -- everything is in codes, and as long as read hands it out
    pub codes : Codes m (coefficients r.message) × Codes m (numbers r.codeword) × Codes m (numbers r.parts.full) × Codes m (numbers r.parts.row) × Codes m (numbers r.parts.column)
    pub sizes : (length (numbers r.codeword) ≡ size_of c) × (length (numbers r.parts.full) ≡ size_of c) × (length (numbers r.parts.row) ≡ size_of c) × (length (numbers r.parts.column) ≡ size_of c)

  abbrev pub Acts : Command → Standing m → Tallied → Reply → Position m → Type 0
  Acts (set_up x) bare t done q = (text : Text) × (c : Code) × Spells m.number x text × Made m text c × (q ≡ at m (ready c) t)
  Acts (load w) (ready c) t done q = q ≡ at m (held c w (unhinted m c)) t
  Acts (row b x) (held c w gs) t done q = q ≡ at m (held c w (with_row m gs b x)) t
  Acts (column b h) (held c w gs) t done q = q ≡ at m (held c w (with_column m gs b h)) t
  Acts decode (held c w gs) t done q = (r : Recovery) × Solves c gs w r × (q ≡ at m (solved c gs r) (record { words = t.words + 1; errors = t.errors + r.errors }))
  Acts clear (held c w gs) t done q = q ≡ at m (ready c) t
  Acts clear (solved c gs r) t done q = q ≡ at m (ready c) t
  Acts (read i room) (solved c gs r) t (handed xs f a b) q = (xs ≡ item_of r i) × (f ≡ r.errors) × (a ≡ row_count gs) × (b ≡ column_count gs) × (q ≡ at m (solved c gs r) t)
  Acts tally s t (counted words errors) q = (words ≡ t.words) × (errors ≡ t.errors) × (q ≡ at m s t)
  Acts c s t r q = OfCode m s (λ code. Told c code r) × (q ≡ at m s t)

  abbrev pub Answered : Position m → Command → Result Reply Fault → Position m → Type 0
  Answered p c (Err e) q = Refuses (rows_of m p c) e × (q ≡ p)
  Answered p c (Ok r) q = Accepts (rows_of m p c) × Acts c p.standing p.tally r q
