-- How far codewords are apart.
--
--   codeword o f blocks        the values of f at the locators, block by block
--   difference o us vs         us less vs, place by place, block by block
--   MinimumDistance o         the two statements: weight of a codeword other than zero, and of the difference of two
use Rattle.std.specs.Prelude.{◌≡◌, ℕ, ◌+◌, ◌<◌, ◌≤◌, List, [], ◌∷◌, map, length}
use Rattle.std.specs.List.{AllByRecursion}
use Rattle.fields.specs.Field.{Ops, Zero, plus}
use Rattle.skew.specs.Values.{value}
use Rattle.skew.specs.Roots.{Block, block, locator_count, Lawful}
use Rattle.ranks.specs.Ranks.{Weighs}

module _ {F : Type 0} (o : Ops F) where
  abbrev pub codeword : List F → List (Block F) → List (List F)
  codeword f [] = []
  codeword f (block a bs ∷ blocks) = map (value o a f) bs ∷ codeword f blocks

  abbrev pub difference : List (List F) → List (List F) → List (List F)
  difference [] vs = []
  difference (u ∷ us) [] = []
  difference (u ∷ us) (v ∷ vs) = plus o u (map o.neg v) ∷ difference us vs

-- With n places and k coefficients: a codeword other than zero weighs more than n - k, and two messages with codewords whose
-- difference weighs at most n - k are equal.
pub record MinimumDistance {F : Type 0} (o : Ops F) : Type 0 where
  pub nonzero : (blocks : List (Block F)) (f : List F) (t : ℕ) → Lawful o blocks → Weighs o (codeword o f blocks) t
      → ¬ AllByRecursion (AllByRecursion (Zero o)) (codeword o f blocks) → locator_count blocks < length f + t
  pub apart : (blocks : List (Block F)) (f g : List F) (t : ℕ) → Lawful o blocks → length f ≡ length g
      → Weighs o (difference o (codeword o f blocks) (codeword o g blocks)) t → length f + t ≤ locator_count blocks → f ≡ g
