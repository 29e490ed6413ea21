-- What the parts of recovery promise: the one candidate, and its weighing.
--
--   Candidate m c gs w f     f is a message in codes, and no codeword but its own can be in reach of w
use Rattle.std.specs.Prelude.{◌≡◌, ℕ, List, length}
use Rattle.fields.specs.Meaning.{Meaning}
use Rattle.fields.specs.Elements.{Elem, elems}
use Rattle.skew.specs.Polynomials.{Codes}
use Rattle.codes.specs.declared.shape.Code.{Code}
use Rattle.codes.specs.Codes.{word_of}
use Rattle.hints.specs.Splittings.{Given}
use Rattle.recovery.specs.Reach.{InReach}

pub record Candidate (m : Meaning) (c : Code) (gs : List (Given (Elem m))) (w : List (Elem m)) (f : List ℕ) : Type 0 where
  pub proper : Codes m f
  pub size : length f ≡ c.dimension
  pub only : (v : List (Elem m)) → InReach m c gs w v → v ≡ word_of m c (elems m f)
