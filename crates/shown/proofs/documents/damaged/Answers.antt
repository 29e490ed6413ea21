-- One symbol more, as far as there is room.
use Rattle.std.proofs.Common.{◌≡◌, ℕ, ◌+◌, min, List, [], ◌∷◌, ◌++◌, length, take, ◌∙◌, arith}
use Rattle.std.proofs.lemmas.List.{length-take, length-append}
use Rattle.codes.specs.Holdings.{held}
use Rattle.shown.proofs.documents.damaged.Goals as goal

pub loop-i-preserved : goal.loop-i-preserved
loop-i-preserved g c = rw c.push.ensures (grown (held c.loop-i.out) _ c.loop-i.i c.loop-i.invariant)
  where
    grown : (xs : List ℕ) (x i : ℕ) → length xs ≡ min 24 i → length (take 24 (xs ++ x ∷ [])) ≡ min 24 (i + 1)
    grown xs x i e = let n = length-append xs (x ∷ []) in length-take 24 (xs ++ x ∷ []) ∙ omega (arith, n, e)
