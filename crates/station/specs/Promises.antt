-- What holds of a station after every list of calls, over a kind that means m.
--
--   Reached p              some list of calls leads a bare station to p
--   Uncleared cs           no call of the list is clear
--   HandsOut gs r q        from q until the next clear, read hands out r: by item its message, its codeword or a part, with tF, tR and tC
--   Waits c w gs t         calls lead to this word, held with these hints and this tally, which is not full
--   SameCode c d           c and d have the same dimension, lengths and points
--   Agree a p b q          two decodes, answered a and b, that led to p and q: both gave the same codeword and tF, or both refused
--   Promises m             wherever calls lead to a word that is held with a tally that is not full:
--     exact                decode gives a codeword exactly when one is in reach
--     outcome              what it gives is handed out until the next clear: a codeword that alone is in reach, its message, and a splitting of
--                          its difference with least full errors; without hints the full part is the difference
--     spans_only           two stations with one code and word whose hints span the same agree
use Rattle.std.specs.Prelude.{◌≡◌, ℕ, ◌+◌, ◌<◌, ◌≢◌, ◌↔◌, List, map, Result, Ok, IsOk}
use Rattle.std.specs.List.{AllByRecursion}
use Rattle.fields.specs.Field.{plus}
use Rattle.fields.specs.Meaning.{Meaning}
use Rattle.fields.specs.Elements.{Elem, elems, ops}
use Rattle.sheets.specs.declared.faults.Fault.{Fault}
use Rattle.codes.specs.declared.shape.Code.{Code}
use Rattle.codes.specs.Holdings.{held as numbers, stops}
use Rattle.hints.specs.Splittings.{Given, row_count, column_count, Alike, Everywhere}
use Rattle.recovery.specs.declared.outcome.Recovery.{Recovery}
use Rattle.recovery.specs.Reach.{InReach}
use Rattle.station.specs.Calls.{Command, clear, decode, read, Reply, done, handed}
use Rattle.station.specs.Positions.{held, solved, Tallied, Position, at, most_words, item_of}
use Rattle.station.specs.Rules.{Solves, Answered}
use Rattle.station.specs.Histories.{start, History}

pub record SameCode (c d : Code) : Type 0 where
  pub dimension : c.dimension ≡ d.dimension
  pub lengths : numbers c.lengths ≡ numbers d.lengths
  pub points : stops c.course ≡ stops d.course

module _ (m : Meaning) where
  abbrev pub Reached : Position m → Type 0
  Reached p = (cs : List Command) × (rs : List (Result Reply Fault)) × History m (start m) cs rs p

  abbrev pub Uncleared : List Command → Type 0
  Uncleared cs = AllByRecursion (λ c. c ≢ clear) cs

  abbrev pub HandsOut : List (Given (Elem m)) → Recovery → Position m → Type 0
  HandsOut gs r q =
      (cs : List Command) (rs : List (Result Reply Fault)) (p : Position m) → History m q cs rs p → Uncleared cs
      → (i room : ℕ) (xs : List ℕ) (f a b : ℕ) (p' : Position m) → Answered m p (read i room) (Ok (handed xs f a b)) p'
      → (xs ≡ item_of r i) × (f ≡ r.errors) × (a ≡ row_count gs) × (b ≡ column_count gs)

  -- A word is held with these hints and this tally, and the tally is not full.
  pub record Waits (c : Code) (w : List ℕ) (gs : List (Given (Elem m))) (t : Tallied) : Type 0 where
    pub reached : Reached (at m (held c w gs) t)
    pub room : t.words < most_words

  -- What was recovered of the word w, and stands in q.
  pub record Outcome (c : Code) (w : List ℕ) (gs : List (Given (Elem m))) (q : Position m) (r : Recovery) : Type 0 where
    pub handed_out : HandsOut gs r q
    -- the codeword is in reach, with its message and a splitting with least full errors; and every other codeword is not in reach
    pub solves : Solves m c gs w r
    pub only_one : (v : List (Elem m)) → InReach m c gs (elems m w) v → v ≡ elems m (numbers r.codeword)
    -- where there are no hints, the full part is the word less the codeword
    pub hintless : row_count gs + column_count gs ≡ 0 → elems m (numbers r.parts.full) ≡ plus (ops m) (elems m w) (map (ops m).neg (elems m (numbers r.codeword)))

  abbrev pub Agree : Result Reply Fault → Position m → Result Reply Fault → Position m → Type 0
  Agree a p b q =
      (IsOk a ↔ IsOk b)
      × ((c d : Code) (gs hs : List (Given (Elem m))) (r s : Recovery) → p.standing ≡ solved c gs r → q.standing ≡ solved d hs s
      → (numbers r.codeword ≡ numbers s.codeword) × (r.errors ≡ s.errors))

pub record Promises (m : Meaning) : Type 0 where
  pub exact : (c : Code) (w : List ℕ) (gs : List (Given (Elem m))) (t : Tallied) → Waits m c w gs t
      → (a : Result Reply Fault) (q : Position m) → Answered m (at m (held c w gs) t) decode a q → IsOk a ↔ ((v : List (Elem m)) × InReach m c gs (elems m w) v)
  pub outcome : (c : Code) (w : List ℕ) (gs : List (Given (Elem m))) (t : Tallied) → Waits m c w gs t
      → (q : Position m) → Answered m (at m (held c w gs) t) decode (Ok done) q → (r : Recovery) × Outcome m c w gs q r
  pub spans_only : (c d : Code) (w : List ℕ) (gs hs : List (Given (Elem m))) (t u : Tallied) → Waits m c w gs t → Waits m d w hs u → SameCode c d
      → Everywhere (Alike (ops m)) (numbers c.lengths) gs hs
      → (a b : Result Reply Fault) (p q : Position m) → Answered m (at m (held c w gs) t) decode a p → Answered m (at m (held d w hs) u) decode b q → Agree m a p b q
