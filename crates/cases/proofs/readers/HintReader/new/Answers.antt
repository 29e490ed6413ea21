-- The parts of a list are together as long as the list.
use Rattle.std.proofs.Common.{◌≡◌, ℕ, ◌+◌, ◌≤◌, List, length, take, drop, ap, ◌∙◌, arith}
use Rattle.std.proofs.lemmas.List.{length-take, length-drop}
use Rattle.cases.proofs.readers.HintReader.new.Goals as goal

pub returns : goal.returns
returns c = parted _ _ _ _ _ _ c.counted-count.ensures c.split.ensures.front c.split.ensures.back c.counted-columns.ensures
  where
    parted : (n k : ℕ) (all front back rest : List ℕ) → length all ≤ n → front ≡ take k all → back ≡ drop k all
        → length rest ≤ length back → length front + length rest ≤ n
    parted n k all _ _ _ a f b r = omega (arith, a, ap length f ∙ length-take k all, ap length b ∙ length-drop k all, r)
