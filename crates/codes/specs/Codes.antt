-- Codes over a kind of field.
--
--   pts m c               the points of a code, in elements
--   block_size b          how many locators a block has
--   LawfulCode m c       the points stand in lawful blocks of the code's lengths, and the dimension k is 1 to n
--   word_of m c f         the row of values of f at the points
--   Message m c w f       f has k coefficients and w is its row of values
--   Codeword m c w        w is the row of values of some such f
--   Read m c w f          what is read is a message of w, and for a lawful code the only one
--   Unread m c w          w has another length than the code, or, for a lawful code, is no codeword
use Rattle.std.specs.Prelude.{◌≡◌, ℕ, ◌≤◌, ◌≢◌, ◌⊎◌, List, map, length}
use Rattle.fields.specs.Meaning.{Meaning}
use Rattle.fields.specs.Elements.{Elem, elems, ops}
use Rattle.skew.specs.Roots.{Block, block, points, Lawful}
use Rattle.skew.specs.Polynomials.{Codes}
use Rattle.skew.specs.Annihilators.{places}
use Rattle.skew.specs.Interpolation.{values}
use Rattle.codes.specs.declared.shape.Code.{Code}
use Rattle.codes.specs.Holdings.{held, stops}

abbrev pub pts : (m : Meaning) → Code → List (Elem m × Elem m)
pts m c = places m (stops c.course)

abbrev pub block_size : {F : Type 0} → Block F → ℕ
block_size (block a bs) = length bs

pub record LawfulCode (m : Meaning) (c : Code) : Type 0 where
  pub blocks : List (Block (Elem m))
  pub grouped : points blocks ≡ pts m c
  pub sizes : map block_size blocks ≡ held c.lengths
  pub lawful : Lawful (ops m) blocks
  pub some : 1 ≤ c.dimension
  pub most : c.dimension ≤ length (stops c.course)

abbrev pub word_of : (m : Meaning) → Code → List (Elem m) → List (Elem m)
word_of m c f = values (ops m) f (pts m c)

abbrev pub Message : (m : Meaning) → Code → List ℕ → List (Elem m) → Type 0
Message m c w f = (length f ≡ c.dimension) × (word_of m c f ≡ elems m w)

abbrev pub Codeword : (m : Meaning) → Code → List ℕ → Type 0
Codeword m c w = (f : List (Elem m)) × Message m c w f

pub record Read (m : Meaning) (c : Code) (w f : List ℕ) : Type 0 where
  pub proper : Codes m f
  pub given : Message m c w (elems m f)
  pub only : LawfulCode m c → (g : List (Elem m)) → Message m c w g → g ≡ elems m f

abbrev pub Unread : Meaning → Code → List ℕ → Type 0
Unread m c w = (length w ≢ length (stops c.course)) ⊎ (LawfulCode m c → ¬ Codeword m c w)
