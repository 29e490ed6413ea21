-- Parts that no splitting has lighter.
--
--   LeastParts o g e p     p splits e, and no splitting of e has a full part of smaller rank
--   Lightest o gs es ps     so in every block
use Rattle.std.specs.Prelude.{ℕ, ◌≤◌, List, [], ◌∷◌}
use Rattle.fields.specs.Field.{Ops}
use Rattle.ranks.specs.Ranks.{IsRank}
use Rattle.hints.specs.Splittings.{Given, Parts, Splits}

pub record LeastParts {F : Type 0} (o : Ops F) (g : Given F) (e : List F) (p : Parts F) : Type 0 where
  pub splits : Splits o g e p
  pub least : (q : Parts F) (r s : ℕ) → Splits o g e q → IsRank o p.full r → IsRank o q.full s → r ≤ s

module _ {F : Type 0} (o : Ops F) where
  abbrev pub Lightest : List (Given F) → List (List F) → List (Parts F) → Type 0
  Lightest [] [] [] = Unit {0}
  Lightest [] [] (p ∷ ps) = ⊥
  Lightest [] (e ∷ es) ps = ⊥
  Lightest (g ∷ gs) [] ps = ⊥
  Lightest (g ∷ gs) (e ∷ es) [] = ⊥
  Lightest (g ∷ gs) (e ∷ es) (p ∷ ps) = LeastParts o g e p × Lightest gs es ps
