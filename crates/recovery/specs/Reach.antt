-- Codewords in reach of a word under hints, and what is recovered.
--
--   apart m c w v           the word less the codeword, block by block
--   InReach m c gs w v     v is a codeword, and its difference from w has a splitting with 2 tF + tR + tC ≤ n - k
--   AlikeHints m n g h     independent hints of a block of n symbols that span the same elements and the same rows
--   SpansOnly m c w        what is in reach of w, and how its difference splits, is the same for hints that span the same
--   Recovered m c gs w r    r has the one codeword in reach, its one message, and a splitting of its difference with least full errors
use Rattle.std.specs.Prelude.{◌≡◌, ℕ, ◌+◌, ◌*◌, ◌≤◌, List, map, length}
use Rattle.fields.specs.Field.{plus}
use Rattle.fields.specs.Meaning.{Meaning}
use Rattle.fields.specs.Elements.{Elem, elems, ops}
use Rattle.skew.specs.Polynomials.{coefficients, Codes}
use Rattle.ranks.specs.Ranks.{Weighs, cut}
use Rattle.codes.specs.declared.shape.Code.{Code}
use Rattle.codes.specs.Holdings.{held, stops}
use Rattle.codes.specs.Codes.{pts, word_of}
use Rattle.codes.specs.Duals.{Codeword}
use Rattle.hints.specs.Splittings.{Given, Parts, Splitting, full_part, row_count, column_count, IndependentHints, Alike, Everywhere}
use Rattle.hints.specs.Outcomes.{parts_of}
use Rattle.recovery.specs.declared.outcome.Recovery.{Recovery}

abbrev pub apart : (m : Meaning) → Code → List (Elem m) → List (Elem m) → List (List (Elem m))
apart m c w v = cut (held c.lengths) (plus (ops m) w (map (ops m).neg v))

pub record InReach (m : Meaning) (c : Code) (gs : List (Given (Elem m))) (w v : List (Elem m)) : Type 0 where
  pub codeword : Codeword (ops m) (pts m c) c.dimension v
  pub parts : List (Parts (Elem m))
  pub splitting : Splitting (ops m) gs (apart m c w v) parts
  pub errors : ℕ
  pub weight : Weighs (ops m) (full_part parts) errors
  pub budget : 2 * errors + (row_count gs + column_count gs) + c.dimension ≤ length (stops c.course)

pub record AlikeHints (m : Meaning) (n : ℕ) (g h : Given (Elem m)) : Type 0 where
  pub first : IndependentHints (ops m) n g
  pub second : IndependentHints (ops m) n h
  pub alike : Alike (ops m) n g h

pub record SpansOnly (m : Meaning) (c : Code) (w : List (Elem m)) : Type 0 where
  pub reach : (gs hs : List (Given (Elem m))) → Everywhere (AlikeHints m) (held c.lengths) gs hs → (v : List (Elem m)) → InReach m c gs w v → InReach m c hs w v
  pub splits : (gs hs : List (Given (Elem m))) → Everywhere (AlikeHints m) (held c.lengths) gs hs → (v : List (Elem m)) (ps : List (Parts (Elem m)))
      → Splitting (ops m) gs (apart m c w v) ps → Splitting (ops m) hs (apart m c w v) ps

pub record Recovered (m : Meaning) (c : Code) (gs : List (Given (Elem m))) (w : List (Elem m)) (r : Recovery) : Type 0 where
  -- the codeword is in reach, and no other is
  pub reach : InReach m c gs w (elems m (held r.codeword))
  pub only : (v : List (Elem m)) → InReach m c gs w v → v ≡ elems m (held r.codeword)
  -- the parts are a splitting of its difference, and no splitting has fewer full errors
  pub splitting : Splitting (ops m) gs (apart m c w (elems m (held r.codeword))) (parts_of m (held c.lengths) r.parts)
  pub weight : Weighs (ops m) (full_part (parts_of m (held c.lengths) r.parts)) r.errors
  pub least : (ps : List (Parts (Elem m))) (t : ℕ) → Splitting (ops m) gs (apart m c w (elems m (held r.codeword))) ps → Weighs (ops m) (full_part ps) t → r.errors ≤ t
  pub budget : 2 * r.errors + (row_count gs + column_count gs) + c.dimension ≤ length (stops c.course)
  -- the message has this codeword, and no other message has
  pub message : (length (coefficients r.message) ≡ c.dimension) × (word_of m c (elems m (coefficients r.message)) ≡ elems m (held r.codeword))
  pub one_message : (f : List (Elem m)) → length f ≡ c.dimension → word_of m c f ≡ elems m (held r.codeword) → f ≡ elems m (coefficients r.message)
  -- everything is in codes, and of its length
  pub codes : Codes m (coefficients r.message) × Codes m (held r.codeword) × Codes m (held r.parts.full) × Codes m (held r.parts.row) × Codes m (held r.parts.column)
  pub sizes : (length (held r.codeword) ≡ length (stops c.course)) × (length (held r.parts.full) ≡ length (stops c.course))
      × (length (held r.parts.row) ≡ length (stops c.course)) × (length (held r.parts.column) ≡ length (stops c.course))
