-- A skew polynomial with at most n coefficients that vanishes at n lawful locators is zero.
--
-- By induction on n. The first locator b with parameter a is a root of x - c, where c is `ratio a b`. Dividing on the right by
-- x - c leaves a quotient with a coefficient less, whose roots are the images of the other locators under `less c`; and these are
-- lawful again, since what `less c` takes to zero is a fixed multiple of b in b's own block and makes parameters conjugate in another.
--
--   Vanishing f b    f is zero at each locator of the block b
--   Few n            the root count for at most n coefficients
use Rattle.std.proofs.Common.{◌≡◌, ℕ, suc, ◌≤◌, ◌≢◌, List, [], ◌∷◌, map, length, sym, refl, ap, ◌∙◌, subst, arith}
use Rattle.std.proofs.lemmas.List.{length-map}
use Rattle.std.specs.List.{AllByRecursion}
use Rattle.fields.specs.Field.{Ops, Laws, Zero}
use Rattle.fields.specs.Inverses
use Rattle.fields.specs.Basics
use Rattle.fields.specs.Basics.{ring}
use Rattle.skew.specs.Values.{eval}
use Rattle.skew.specs.Roots.{Block, block, locator_count, points, Apart, Lawful, RootCount}
use Rattle.skew.proofs.Evaluation
use Rattle.skew.proofs.Everywhere.{all_left, all_right, all_map}
use Rattle.skew.proofs.IndependentLocators
use Rattle.skew.proofs.RightDivision
use Rattle.skew.proofs.RightDivision.{less, quotient, rest}
use Rattle.skew.proofs.IndependentLocators.{ratio}

module _ {F : Type 0} {o : Ops F} (l : Laws o) where
  open o use {zero, add as ◌+◌, mul as ◌*◌}

  infixl 65 ◌+◌
  infixl 70 ◌*◌
  -- f is zero at each locator of the block.
  abbrev Vanishing : List F → Block F → Type 0
  Vanishing f (block a bs) = AllByRecursion (λ b. eval o a f b ≡ zero) bs

  -- The blocks that are left, with their new locators.
  abbrev lower : F → Block F → Block F
  lower c (block a bs) = block a (map (less l c a) bs)

  -- Their parameters are the same.
  lower_apart : (c a : F) (blocks : List (Block F)) → AllByRecursion (Apart o a) blocks → AllByRecursion (Apart o a) (map (lower c) blocks)
  lower_apart c a [] h = tt
  lower_apart c a (block a' bs ∷ blocks) h = (h.0, lower_apart c a blocks h.1)

  -- There are as many locators.
  lower_places : (c : F) (blocks : List (Block F)) → locator_count (map (lower c) blocks) ≡ locator_count blocks
  lower_places c [] = refl
  lower_places c (block a bs ∷ blocks) = rw (length-map bs (less l c a), lower_places c blocks)

  -- They are lawful again.
  lower_lawful : (a b : F) (blocks : List (Block F)) → b ≢ zero → AllByRecursion (Apart o a) blocks → Lawful o blocks → Lawful o (map (lower (ratio l a b)) blocks)
  lower_lawful a b [] n apart h = tt
  lower_lawful a b (block a' bs ∷ blocks) n apart h =
      (h.0, IndependentLocators.other_block l a b a' bs n apart.0 h.1, lower_apart (ratio l a b) a' blocks h.2, lower_lawful a b blocks n apart.1 h.3)

  -- Where x - c divides f, the quotient is zero at the new locators.
  lower_values : (c a x : F) (f : List F) → rest l c (x ∷ f) ≡ zero → (bs : List F) → AllByRecursion (λ b. eval o a (x ∷ f) b ≡ zero) bs
      → AllByRecursion (λ b. eval o a (quotient l c f) b ≡ zero) (map (less l c a) bs)
  lower_values c a x f r [] h = tt
  lower_values c a x f r (b ∷ bs) h =
      (sym (RightDivision.divide l c a x f b ∙ ap (λ w. eval o a (quotient l c f) (less l c a b) + w * b) r ∙ simp (ring, l)) ∙ h.0, lower_values c a x f r bs h.1)

  -- The same of all blocks.
  lower_vanishes : (c x : F) (f : List F) → rest l c (x ∷ f) ≡ zero → (blocks : List (Block F)) → AllByRecursion (Vanishing (x ∷ f)) blocks
      → AllByRecursion (Vanishing (quotient l c f)) (map (lower c) blocks)
  lower_vanishes c x f r [] h = tt
  lower_vanishes c x f r (block a bs ∷ blocks) h = (lower_values c a x f r bs h.0, lower_vanishes c x f r blocks h.1)

  -- A root leaves no rest.
  root_rest : (a b x : F) (f : List F) → b ≢ zero → eval o a (x ∷ f) b ≡ zero → rest l (ratio l a b) (x ∷ f) ≡ zero
  root_rest a b x f n e =
      Inverses.left_zero l (rest l (ratio l a b) (x ∷ f)) b n
      (sym (RightDivision.divide l (ratio l a b) a x f b ∙ ap (λ w. eval o a (quotient l (ratio l a b) f) w + rest l (ratio l a b) (x ∷ f) * b) (IndependentLocators.ratio_root l a b n)
      ∙ ap (λ w. w + rest l (ratio l a b) (x ∷ f) * b) (Evaluation.eval_zero l a (quotient l (ratio l a b) f)) ∙ Basics.zero_add l _) ∙ e)

  -- The root count for at most n coefficients.
  Few : ℕ → Type 0
  Few n = (blocks : List (Block F)) (f : List F) → length f ≤ n → Lawful o blocks → length f ≤ locator_count blocks → AllByRecursion (Vanishing f) blocks → AllByRecursion (Zero o) f

  -- The first locator of the first block that has one takes a coefficient away.
  few_more : (n : ℕ) → Few n → (x : F) (f : List F) → length f ≤ n → (blocks : List (Block F)) → Lawful o blocks → suc (length f) ≤ locator_count blocks
      → AllByRecursion (Vanishing (x ∷ f)) blocks → AllByRecursion (Zero o) (x ∷ f)
  unfolding Few
  few_more n ih x f m [] h k v = absurd (omega arith)
  few_more n ih x f m (block a [] ∷ blocks) h k v = few_more n ih x f m blocks h.3 (omega arith) v.1
  few_more n ih x f m (block a (b ∷ bs) ∷ blocks) h k v =
      RightDivision.undivide l c x f r (ih (block a (map (less l c a) bs) ∷ map (lower c) blocks) (quotient l c f) (omega (arith, RightDivision.length_quotient l c f))
      (h.0, IndependentLocators.same_block l a b bs h.0 h.1, lower_apart c a blocks h.2, lower_lawful a b blocks nb h.2 h.3) (omega (arith, RightDivision.length_quotient l c f, length-map bs (less l c a), lower_places c blocks))
      (lower_values c a x f r bs v.0.1, lower_vanishes c x f r blocks v.1))
    where
      c : F
      c = ratio l a b

      nb : b ≢ zero
      nb = IndependentLocators.independent_nonzero l b bs h.1

      r : rest l (ratio l a b) (x ∷ f) ≡ zero
      r = root_rest a b x f nb v.0.0

  -- By induction on n.
  few : (n : ℕ) → Few n
  unfolding Few
  few ℕ.zero blocks [] m h k v = tt
  few ℕ.zero blocks (x ∷ f) m h k v = absurd (omega arith)
  few (suc n) blocks [] m h k v = tt
  few (suc n) blocks (x ∷ f) m h k v = few_more n (few n) x f (omega arith) blocks h k v

  -- What holds of each point holds of each locator, block by block.
  by_blocks : (f : List F) (blocks : List (Block F)) → AllByRecursion (λ t. eval o t.0 f t.1 ≡ zero) (points blocks) → AllByRecursion (Vanishing f) blocks
  by_blocks f [] h = tt
  by_blocks f (block a bs ∷ blocks) h = (
    all_map P (λ b. (a, b)) bs (all_left P (map (λ b. (a, b)) bs) (points blocks) h),
    by_blocks f blocks (all_right P (map (λ b. (a, b)) bs) (points blocks) h),
  )
    where
      P : F × F → Type 0
      P t = eval o t.0 f t.1 ≡ zero

  -- The root count, by the recursion and by the sum.
  pub roots_few : (blocks : List (Block F)) (f : List F) → Lawful o blocks → length f ≤ locator_count blocks → AllByRecursion (λ t. eval o t.0 f t.1 ≡ zero) (points blocks) → AllByRecursion (Zero o) f
  unfolding Few
  roots_few blocks f h k v = few (length f) blocks f (omega arith) h k (by_blocks f blocks v)

  -- By the sum that readers see.
  pub root_count : RootCount o
  root_count = subst (λ v. (blocks : List (Block F)) (f : List F) → Lawful o blocks → length f ≤ locator_count blocks → AllByRecursion (λ t. v t.0 f t.1 ≡ zero) (points blocks) → AllByRecursion (Zero o) f) (Evaluation.both_values l) roots_few
