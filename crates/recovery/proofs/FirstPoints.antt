-- The first points of lawful blocks are those of lawful blocks.
--
--   first_blocks k blocks    blocks with only the first k points
--   padded cs bs             cs with zeros behind, as long as bs
use Rattle.std.proofs.Common.{◌≡◌, ℕ, suc, ◌-◌, ◌≤◌, List, [], ◌∷◌, ◌++◌, map, length, take, sym, refl, ap, ◌∙◌, arith}
use Rattle.std.proofs.lemmas.List.{length-map}
use Rattle.std.proofs.lemmas.List.{take-map, length-take}
use Rattle.std.specs.List.{AllByRecursion}
use Rattle.fields.specs.Field.{Ops, Laws, Zero, Fixed, comb}
use Rattle.fields.specs.Twists
use Rattle.fields.specs.Basics.{ring}
use Rattle.skew.specs.Roots.{Block, block, points, Independent, Apart, Lawful}

abbrev pub first_blocks : {F : Type 0} → ℕ → List (Block F) → List (Block F)
first_blocks k [] = []
first_blocks k (block a bs ∷ blocks) = block a (take k bs) ∷ first_blocks (k - length bs) blocks

-- There is nothing to take from nothing.
take_nil : {A : Type 0} (n : ℕ) → take {A = A} n [] ≡ []
take_nil ℕ.zero = refl
take_nil (suc n) = refl

-- The first of two joined lists, and of the second what is left to take.
take_joined : {A : Type 0} (k : ℕ) (xs ys : List A) → take k (xs ++ ys) ≡ take k xs ++ take (k - length xs) ys
take_joined k [] ys = ap (λ n. take n ys) none ∙ ap (λ zs. zs ++ take (k - 0) ys) (sym (take_nil k))
  where
    none : k ≡ k - 0
    none = omega arith
take_joined ℕ.zero (x ∷ xs) ys = ap (λ n. take n ys) none
  where
    none : 0 ≡ 0 - suc (length xs)
    none = omega arith
take_joined (suc k) (x ∷ xs) ys = ap (λ zs. x ∷ zs) (take_joined k xs ys) ∙ ap (λ n. x ∷ take k xs ++ take n ys) less
  where
    less : k - length xs ≡ suc k - suc (length xs)
    less = omega arith

module _ {F : Type 0} {o : Ops F} (l : Laws o) where
  open o use {zero, add as ◌+◌, mul as ◌*◌}

  infixl 65 ◌+◌
  infixl 70 ◌*◌
  -- They have the first points.
  pub points_first : (k : ℕ) (blocks : List (Block F)) → points (first_blocks k blocks) ≡ take k (points blocks)
  points_first ℕ.zero [] = refl
  points_first (suc k) [] = refl
  points_first k (block a bs ∷ blocks) =
      ap (λ ts. ts ++ points (first_blocks (k - length bs) blocks)) (sym (take-map (λ b. (a, b)) k bs))
      ∙ ap (λ ts. take k (map (λ b. (a, b)) bs) ++ ts) (points_first (k - length bs) blocks)
      ∙ ap (λ n. take k (map (λ b. (a, b)) bs) ++ take (k - n) (points blocks)) (sym (length-map {B = F × F} bs (λ b. (a, b))))
      ∙ sym (take_joined k (map (λ b. (a, b)) bs) (points blocks))

  abbrev padded : List F → List F → List F
  padded cs [] = []
  padded [] (b ∷ bs) = zero ∷ padded [] bs
  padded (c ∷ cs) (b ∷ bs) = c ∷ padded cs bs

  -- How long it is.
  length_padded : (cs bs : List F) → length (padded cs bs) ≡ length bs
  length_padded cs [] = refl
  length_padded [] (b ∷ bs) = ap suc (length_padded [] bs)
  length_padded (c ∷ cs) (b ∷ bs) = ap suc (length_padded cs bs)

  -- It is fixed where cs is.
  fixed_padded : (cs bs : List F) → AllByRecursion (Fixed o) cs → AllByRecursion (Fixed o) (padded cs bs)
  fixed_padded cs [] h = tt
  fixed_padded [] (b ∷ bs) h = (Twists.fixed_zero l, fixed_padded [] bs h)
  fixed_padded (c ∷ cs) (b ∷ bs) h = (h.0, fixed_padded cs bs h.1)

  -- Zeros combine to zero.
  comb_nil : (bs : List F) → comb o (padded [] bs) bs ≡ zero
  comb_nil [] = refl
  comb_nil (b ∷ bs) = ap (λ w. zero * b + w) (comb_nil bs) ∙ simp (ring, l)

  -- It combines bs to what cs combines the first of them to.
  comb_padded : (k : ℕ) (cs bs : List F) → length cs ≡ length (take k bs) → comb o (padded cs bs) bs ≡ comb o cs (take k bs)
  comb_padded ℕ.zero [] bs e = comb_nil bs
  comb_padded ℕ.zero (c ∷ cs) bs e = absurd (omega arith)
  comb_padded (suc k) [] bs e = comb_nil bs
  comb_padded (suc k) (c ∷ cs) [] e = absurd (omega arith)
  comb_padded (suc k) (c ∷ cs) (b ∷ bs) e = ap (λ w. c * b + w) (comb_padded k cs bs (omega arith))

  -- Where it is zero so is cs.
  zeros_padded : (cs bs : List F) → length cs ≤ length bs → AllByRecursion (Zero o) (padded cs bs) → AllByRecursion (Zero o) cs
  zeros_padded [] bs e h = tt
  zeros_padded (c ∷ cs) [] e h = absurd (omega arith)
  zeros_padded (c ∷ cs) (b ∷ bs) e h = (h.0, zeros_padded cs bs (omega arith) h.1)

  -- The first of independent elements are independent.
  independent_first : (k : ℕ) (bs : List F) → Independent o bs → Independent o (take k bs)
  independent_first k bs free cs e fixed z =
      zeros_padded cs bs (omega (arith, e, length-take k bs)) (free (padded cs bs) (length_padded cs bs) (fixed_padded cs bs fixed) (comb_padded k cs bs e ∙ z))

  -- What is apart from all blocks is apart from the first.
  apart_first : (a : F) (k : ℕ) (blocks : List (Block F)) → AllByRecursion (Apart o a) blocks → AllByRecursion (Apart o a) (first_blocks k blocks)
  apart_first a k [] h = tt
  apart_first a k (block b bs ∷ blocks) h = (h.0, apart_first a (k - length bs) blocks h.1)

  -- The first points are lawful.
  pub lawful_first : (k : ℕ) (blocks : List (Block F)) → Lawful o blocks → Lawful o (first_blocks k blocks)
  lawful_first k [] h = tt
  lawful_first k (block a bs ∷ blocks) h = (h.0, independent_first k bs h.1, apart_first a (k - length bs) blocks h.2, lawful_first (k - length bs) blocks h.3)
