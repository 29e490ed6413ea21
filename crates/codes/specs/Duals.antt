-- The dual of a code, and syndromes. A code is given by its points (parameter, locator), n in number, and its dimension k.
--
--   Codeword o pts k w         w is the row of values of some polynomial with k coefficients
--   powers o i pts             (locator twisted i times) × N(i, parameter), place by place
--   DualLocators o pts al     al has an element for each place and begins with one; and for each i from 0 to n - 2 the sum over the
--                              places of al × (locator twisted i times) × N(i, parameter) is zero
--   dual_points o pts al       the points of the dual code, over the mirror: the untwisted parameters with the dual locators
--   dual_blocks o blocks al    the same, block by block
--   syndrome o pts al w j      the sum over the places of w × (dual locator untwisted j times) × N(j, untwisted parameter), N taken in
--                              the mirror; counted from 0, so that it is the (j + 1)-th syndrome
--   Duality o                  what holds of the dual locators, the dual code and the syndromes of every lawful code
use Rattle.std.specs.Prelude.{◌≡◌, ℕ, ◌+◌, ◌<◌, ◌≤◌, ◌↔◌, List, [], ◌∷◌, map, length, take, drop}
use Rattle.fields.specs.Field.{Ops, mirror, comb}
use Rattle.skew.specs.Values.{twisted, norm}
use Rattle.skew.specs.Products.{coef}
use Rattle.skew.specs.Roots.{Block, block, locator_count, points, Lawful}
use Rattle.skew.specs.Interpolation.{values}

module _ {F : Type 0} (o : Ops F) where
  abbrev pub Codeword : List (F × F) → ℕ → List F → Type 0
  Codeword pts k w = (f : List F) × (length f ≡ k) × (values o f pts ≡ w)

  abbrev pub powers : ℕ → List (F × F) → List F
  powers i pts = map (λ t. o.mul (twisted o i t.1) (norm o i t.0)) pts

  abbrev pub dual_points : List (F × F) → List F → List (F × F)
  dual_points [] alpha = []
  dual_points (t ∷ pts) [] = []
  dual_points (t ∷ pts) (x ∷ alpha) = (o.untwist t.0, x) ∷ dual_points pts alpha

  abbrev pub dual_blocks : List (Block F) → List F → List (Block F)
  dual_blocks [] alpha = []
  dual_blocks (block a bs ∷ rest) alpha = block (o.untwist a) (take (length bs) alpha) ∷ dual_blocks rest (drop (length bs) alpha)

pub record DualLocators {F : Type 0} (o : Ops F) (pts : List (F × F)) (alpha : List F) : Type 0 where
  pub size : length alpha ≡ length pts
  pub first : coef o alpha 0 ≡ o.one
  pub null : (i : ℕ) → i + 2 ≤ length pts → comb o alpha (powers o i pts) ≡ o.zero

module _ {F : Type 0} (o : Ops F) where
  abbrev pub syndrome : List (F × F) → List F → List F → ℕ → F
  syndrome pts alpha w j = comb o w (powers (mirror o) j (dual_points o pts alpha))

  -- Lawful points, one at least, have dual locators.
  abbrev pub DualsThere : Type 0
  DualsThere = (blocks : List (Block F)) → Lawful o blocks → 1 ≤ locator_count blocks → (alpha : List F) × DualLocators o (points blocks) alpha

  -- They have no others.
  abbrev pub DualsAlone : Type 0
  DualsAlone = (blocks : List (Block F)) (alpha beta : List F) → Lawful o blocks → DualLocators o (points blocks) alpha → DualLocators o (points blocks) beta → alpha ≡ beta

  -- The dual blocks have the dual points, and are lawful over the mirror.
  abbrev pub DualLawful : Type 0
  DualLawful = (blocks : List (Block F)) (alpha : List F) → Lawful o blocks → DualLocators o (points blocks) alpha
      → (points (dual_blocks o blocks alpha) ≡ dual_points o (points blocks) alpha) × Lawful (mirror o) (dual_blocks o blocks alpha)

  -- The codewords of the dual code, of dimension j = n - k, are the words whose sum of products with each codeword is zero.
  abbrev pub Orthogonal : Type 0
  Orthogonal = (blocks : List (Block F)) (alpha : List F) (k j : ℕ) (c : List F) → Lawful o blocks → DualLocators o (points blocks) alpha → j + k ≡ locator_count blocks → length c ≡ locator_count blocks
      → Codeword (mirror o) (points (dual_blocks o blocks alpha)) j c ↔ ((w : List F) → Codeword o (points blocks) k w → comb o w c ≡ o.zero)

  -- The dual of the dual code has the codewords of the first.
  abbrev pub DualOfDual : Type 0
  DualOfDual = (blocks : List (Block F)) (alpha beta : List F) → Lawful o blocks → DualLocators o (points blocks) alpha → DualLocators (mirror o) (points (dual_blocks o blocks alpha)) beta
      → (k : ℕ) (w : List F) → Codeword o (points (dual_blocks (mirror o) (dual_blocks o blocks alpha) beta)) k w ↔ Codeword o (points blocks) k w

  -- The first n - k syndromes of a word of n symbols are all zero exactly where it is a codeword.
  abbrev pub SyndromesTell : Type 0
  SyndromesTell = (blocks : List (Block F)) (alpha : List F) (k : ℕ) (w : List F) → Lawful o blocks → DualLocators o (points blocks) alpha → k ≤ locator_count blocks → length w ≡ locator_count blocks
      → ((j : ℕ) → j + k < locator_count blocks → syndrome (points blocks) alpha w j ≡ o.zero) ↔ Codeword o (points blocks) k w

pub record Duality {F : Type 0} (o : Ops F) : Type 0 where
  pub there : DualsThere o
  pub alone : DualsAlone o
  pub lawful : DualLawful o
  pub orthogonal : Orthogonal o
  pub back : DualOfDual o
  pub tell : SyndromesTell o
