-- Where a station stands, over a kind that means m.
--
--   Standing              bare; ready with a code; held with a word and its hints, a list for each block; solved with what was recovered
--   Tallied               how many words were recovered, and the sum of their full errors
--   Position              where it stands, with its tally
--   size_of, blocks_of    n and l of a code
--   item_of, item_size    the items of a solved station, and how many symbols each has
--   stage                 the state
--   OfCode s P            s has a code, and P holds of it
use Rattle.std.specs.Prelude.{ℕ, List, [], ◌∷◌, length, replicate, slice_index_or, cond, nat_eq}
use Rattle.fields.specs.Meaning.{Meaning}
use Rattle.fields.specs.Elements.{Elem}
use Rattle.skew.specs.Polynomials.{coefficients}
use Rattle.codes.specs.declared.shape.Code.{Code}
use Rattle.codes.specs.Holdings.{held as numbers, stops}
use Rattle.hints.specs.Splittings.{Given}
use Rattle.hints.specs.Holdings.{no_hints}
use Rattle.recovery.specs.declared.outcome.Recovery.{Recovery}
use Rattle.station.specs.Calls.{row, column, message, tally, Stage}
use Rattle.station.specs.Calls as calls

pub data Standing (m : Meaning) : Type 0 where
  bare : Standing m
  ready : Code → Standing m
  held : Code → List ℕ → List (Given (Elem m)) → Standing m
  solved : Code → List (Given (Elem m)) → Recovery → Standing m

pub record Tallied : Type 0 where
  pub words : ℕ
  pub errors : ℕ

pub record Position (m : Meaning) : Type 0 where
  pub standing : Standing m
  pub tally : Tallied

-- A tally of this many words is full.
abbrev pub most_words : ℕ
most_words = 1000000

abbrev pub size_of : Code → ℕ
size_of c = length (stops c.course)

abbrev pub blocks_of : Code → ℕ
blocks_of c = length (numbers c.lengths)

-- The items of a solved station: message, codeword, full, row and column part; and how many symbols each has.
abbrev pub item_of : Recovery → ℕ → List ℕ
item_of r i = slice_index_or (coefficients r.message ∷ numbers r.codeword ∷ numbers r.parts.full ∷ numbers r.parts.row ∷ numbers r.parts.column ∷ []) i []

abbrev pub item_size : Code → ℕ → ℕ
item_size c i = cond (nat_eq i 0) c.dimension (size_of c)

module _ (m : Meaning) where
  abbrev pub at : Standing m → Tallied → Position m
  at s t = record { standing = s; tally = t }

  -- No hints in any block.
  abbrev pub unhinted : Code → List (Given (Elem m))
  unhinted c = replicate (blocks_of c) (no_hints m)

  abbrev pub stage : Standing m → Stage
  stage bare = calls.bare
  stage (ready c) = calls.ready
  stage (held c w gs) = calls.held
  stage (solved c gs r) = calls.solved

  abbrev pub OfCode : Standing m → (Code → Type 0) → Type 0
  OfCode bare P = ⊥
  OfCode (ready c) P = P c
  OfCode (held c w gs) P = P c
  OfCode (solved c gs r) P = P c
