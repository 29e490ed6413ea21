-- One symbol more, as far as there is room.
use Rattle.std.proofs.Common.{◌≡◌, ℕ, ◌+◌, min, List, [], ◌∷◌, ◌++◌, length, take, ◌∙◌, arith}
use Rattle.std.proofs.lemmas.List.{length-take, length-append}
use Rattle.skew.specs.Few.{held}
use Rattle.drills.proofs.random.Random.drawn.Goals as goal

pub loop-i-preserved : goal.loop-i-preserved
loop-i-preserved g c = rw c.push.ensures (grown g.row.N (held c.loop-i.out) _ c.loop-i._i c.loop-i.invariant)
  where
    grown : (m : ℕ) (xs : List ℕ) (x i : ℕ) → length xs ≡ min m i → length (take m (xs ++ x ∷ [])) ≡ min m (i + 1)
    grown m xs x i e = let n = length-append xs (x ∷ []) in length-take m (xs ++ x ∷ []) ∙ omega (arith, n, e)
