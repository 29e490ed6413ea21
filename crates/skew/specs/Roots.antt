-- The root count: how many zeros a skew polynomial can have at lawful points.
--
--   Block F           a parameter, and the locators that are read at it
--   locator_count blocks   how many locators there are
--   points blocks     the points (parameter, locator), block after block
--   Independent bs    only fixed coefficients that are all zero combine bs to zero
--   Conjugate a b     b is (c twisted) × a × (inverse of c) for some c other than zero
--   Lawful blocks     no parameter is zero, no two are conjugate, the locators of each block are independent
--   at o f t          the value of f at a point
--   RootCount o      a polynomial with at most n coefficients that vanishes at n lawful locators is zero
use Rattle.std.specs.Prelude.{◌≡◌, ℕ, ◌+◌, ◌≤◌, ◌≢◌, List, [], ◌∷◌, ◌++◌, map, length}
use Rattle.std.specs.List.{AllByRecursion}
use Rattle.fields.specs.Field.{Ops, Zero, Fixed, comb}
use Rattle.skew.specs.Values.{value}

pub data Block (F : Type 0) : Type 0 where
  block : F → List F → Block F

abbrev pub locator_count : {F : Type 0} → List (Block F) → ℕ
locator_count [] = 0
locator_count (block a bs ∷ rest) = length bs + locator_count rest

abbrev pub points : {F : Type 0} → List (Block F) → List (F × F)
points [] = []
points (block a bs ∷ rest) = map (λ b. (a, b)) bs ++ points rest

module _ {F : Type 0} (o : Ops F) where
  abbrev pub Independent : List F → Type 0
  Independent bs = (cs : List F) → length cs ≡ length bs → AllByRecursion (Fixed o) cs → comb o cs bs ≡ o.zero → AllByRecursion (Zero o) cs

  abbrev pub Conjugate : F → F → Type 0
  Conjugate a b = (c : F) × (c ≢ o.zero) × (b ≡ o.mul (o.mul (o.twist c) a) (o.inv c))

  abbrev pub Apart : F → Block F → Type 0
  Apart a (block b bs) = ¬ Conjugate a b

  abbrev pub Lawful : List (Block F) → Type 0
  Lawful [] = Unit {0}
  Lawful (block a bs ∷ rest) = (a ≢ o.zero) × Independent bs × AllByRecursion (Apart a) rest × Lawful rest

  abbrev pub at : List F → F × F → F
  at f t = value o t.0 f t.1

  abbrev pub Vanishes : List F → F × F → Type 0
  Vanishes f t = at f t ≡ o.zero

  abbrev pub RootCount : Type 0
  RootCount = (blocks : List (Block F)) (f : List F) → Lawful blocks → length f ≤ locator_count blocks → AllByRecursion (Vanishes f) (points blocks) → AllByRecursion (Zero o) f
