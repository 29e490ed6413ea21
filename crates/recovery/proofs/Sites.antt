-- Blocks of a code with a word's symbols and the hints on it, and what is left of them once the column hints are taken away.
--
--   Site F                         a parameter, its locators, a symbol for each, and the hints of the block
--   code, givens                   the blocks of the code, and the hints of each
--   difference, differences        what the word has beyond the codeword of f, in a block and block by block
--   omit marks xs                  the elements of xs that are not marked
--   left_locators, left_symbols    what is left of them, once cleared by the column hints, at the places that are no pivots
--   ReducedSite o marks s         the column hints are reduced, with pivots at the marked places; there is a symbol for each locator
--   AllReduced, left_code         the same block by block, and the blocks that are left
--   points_at, all_points          each locator that is left, with the value of σ at its symbol
--   Annihilates o σ sites          σ vanishes at each row hint, is not zero, and has at most one coefficient more than there are row hints
use Rattle.std.proofs.Common.{◌≡◌, suc, Bool, true, false, List, [], ◌∷◌, ◌++◌, map, length}
use Rattle.std.specs.List.{AllByRecursion}
use Rattle.fields.specs.Field.{Ops, Zero, plus}
use Rattle.skew.specs.Values.{eval}
use Rattle.skew.specs.Products.{Below}
use Rattle.skew.specs.Roots.{Block, block}
use Rattle.skew.specs.Pairs.{Spot}
use Rattle.ranks.specs.Reduction.{Reduced}
use Rattle.ranks.specs.RowSteps.{clear}
use Rattle.hints.specs.Splittings.{Given, row_count}

pub record Site (F : Type 0) : Type 0 where
  pub parameter : F
  pub locators : List F
  pub symbols : List F
  pub given : Given F

abbrev pub code : {F : Type 0} → List (Site F) → List (Block F)
code sites = map (λ s. block s.parameter s.locators) sites

abbrev pub givens : {F : Type 0} → List (Site F) → List (Given F)
givens sites = map (λ s. s.given) sites

abbrev pub omit : {A : Type 0} → List Bool → List A → List A
omit [] xs = []
omit (m ∷ marks) [] = []
omit (true ∷ marks) (x ∷ xs) = omit marks xs
omit (false ∷ marks) (x ∷ xs) = x ∷ omit marks xs

pub record ReducedSite {F : Type 0} (o : Ops F) (marks : List Bool) (s : Site F) : Type 0 where
  pub form : Reduced o (length s.locators) marks s.given.columns
  pub size : length s.symbols ≡ length s.locators

module _ {F : Type 0} (o : Ops F) where
  abbrev pub difference : List F → Site F → List F
  difference f s = plus o s.symbols (map o.neg (map (eval o s.parameter f) s.locators))

  abbrev pub differences : List F → List (Site F) → List (List F)
  differences f sites = map (difference f) sites

  abbrev pub left_locators : List Bool → Site F → List F
  left_locators marks s = omit marks (clear o marks s.given.columns s.locators)

  abbrev pub left_symbols : List Bool → Site F → List F
  left_symbols marks s = omit marks (clear o marks s.given.columns s.symbols)

  abbrev pub AllReduced : List (List Bool) → List (Site F) → Type 0
  AllReduced [] [] = Unit {0}
  AllReduced [] (s ∷ sites) = ⊥
  AllReduced (m ∷ marks) [] = ⊥
  AllReduced (m ∷ marks) (s ∷ sites) = ReducedSite o m s × AllReduced marks sites

  abbrev pub left_code : List (List Bool) → List (Site F) → List (Block F)
  left_code [] sites = []
  left_code (m ∷ marks) [] = []
  left_code (m ∷ marks) (s ∷ sites) = block s.parameter (left_locators m s) ∷ left_code marks sites

  abbrev pub points_at : F → List F → List F → List F → List (Spot F)
  points_at a σ [] ys = []
  points_at a σ (b ∷ bs) [] = []
  points_at a σ (b ∷ bs) (y ∷ ys) = record { parameter = a; locator = b; second = eval o a σ y } ∷ points_at a σ bs ys

  abbrev pub all_points : List F → List (List Bool) → List (Site F) → List (Spot F)
  all_points σ [] sites = []
  all_points σ (m ∷ marks) [] = []
  all_points σ (m ∷ marks) (s ∷ sites) = points_at s.parameter σ (left_locators m s) (left_symbols m s) ++ all_points σ marks sites

  abbrev pub Annihilates : List F → List (Site F) → Type 0
  Annihilates σ sites =
      Below o (suc (row_count (givens sites))) σ × (¬ AllByRecursion (Zero o) σ) × AllByRecursion (λ s. AllByRecursion (λ u. eval o s.parameter σ u ≡ o.zero) s.given.rows) sites
