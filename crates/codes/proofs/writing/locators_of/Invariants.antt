use Rattle.std.proofs.Common.{◌≡◌, [], ◌++◌, map, take}
use Rattle.codes.specs.Holdings.{held}
use Rattle.codes.proofs.writing.locators_of.Given as goal

abbrev pub invariant-loop-p : goal.invariant-loop-p
invariant-loop-p l = held l.out ≡ take 24 ([] ++ take l.p-index (map (λ p. p.locator) l.points))
