-- A message within the budget is found: it is the quotient that the second pair of polynomials leaves.
--
--   nonzero_product    the divisor is not zero
--   finds              each message with a splitting within the budget is the quotient
use Rattle.std.proofs.Common.{◌≡◌, ℕ, suc, ◌+◌ as ◌+ℕ◌, ◌-◌, ◌*◌ as ◌*ℕ◌, ◌≤◌, Bool, List, [], ◌∷◌, map, length, sym, ap, ◌∙◌, subst, inl, inr, arith, length-append}
use Rattle.std.proofs.lemmas.Bool.{cases_lt}
use Rattle.std.specs.List.{AllByRecursion}
use Rattle.fields.specs.Field.{Ops, Laws, Zero}
use Rattle.fields.specs.Basics
use Rattle.skew.specs.Values.{twisted}
use Rattle.skew.specs.Products.{coef, coefficient, Below, Product}
use Rattle.skew.specs.Quotients.{Quotient}
use Rattle.skew.specs.Roots.{locator_count, Lawful}
use Rattle.skew.specs.Pairs.{Spot, Two, worth, Carried}
use Rattle.skew.proofs.Evaluation
use Rattle.skew.proofs.Coefficients
use Rattle.skew.proofs.Multiplication
use Rattle.skew.proofs.Multiplication.{times}
use Rattle.ranks.specs.Ranks.{Weighs}
use Rattle.hints.specs.Splittings.{Parts, Splitting, full_part, row_count, column_count}
use Rattle.recovery.proofs.Sites.{Site, code, givens, differences, left_locators, left_symbols, AllReduced, left_code, points_at, all_points, Annihilates}
use Rattle.recovery.proofs.Clearing
use Rattle.recovery.proofs.Leftovers
use Rattle.recovery.proofs.Degrees

module _ {F : Type 0} {o : Ops F} (l : Laws o) where
  open o use {zero, add as ◌+◌, mul as ◌*◌, neg}

  infixl 65 ◌+◌
  infixl 70 ◌*◌
  -- There are no more spots than locators that are left: in a block.
  length_points_at : (a : F) (σ bs ys : List F) → length (points_at o a σ bs ys) ≤ length bs
  length_points_at a σ [] ys = omega arith
  length_points_at a σ (b ∷ bs) [] = omega arith
  length_points_at a σ (b ∷ bs) (y ∷ ys) = omega (arith, length_points_at a σ bs ys)

  -- In all blocks.
  pub length_points : (σ : List F) (marks : List (List Bool)) (sites : List (Site F)) → length (all_points o σ marks sites) ≤ locator_count (left_code o marks sites)
  length_points σ [] sites = omega arith
  length_points σ (m ∷ marks) [] = omega arith
  length_points σ (m ∷ marks) (s ∷ sites) =
      omega (
        arith,
        length-append (points_at o s.parameter σ (left_locators o m s) (left_symbols o m s)) (all_points o σ marks sites),
        length_points_at s.parameter σ (left_locators o m s) (left_symbols o m s),
        length_points σ marks sites,
      )

  -- A pair that vanishes at spots vanishes there by the recursion.
  by_recursion : (q : Two F) (ps : List (Spot F)) → AllByRecursion (λ s. worth o q s ≡ zero) ps → AllByRecursion (Leftovers.Null l q) ps
  by_recursion q ps h =
      subst (λ v. AllByRecursion (λ s. v s.parameter q.q0 s.locator + v s.parameter q.q1 s.second ≡ zero) ps) (sym (Evaluation.both_values l)) h

  -- The divisor is not zero.
  pub nonzero_product : {k a b : ℕ} {ps : List (Spot F)} {A B : Two F} {σ p : List F} (sites : List (Site F))
      → Carried o k ps A B a b → Annihilates o σ sites → Product o B.q1 σ p → ¬ AllByRecursion (Zero o) p
  nonzero_product {b = b} {B = B} sites carried kills product = product.nonzero (λ z. carried.B1.0 (Coefficients.coef_of l B.q1 z b)) kills.1

  -- Both pairs give a polynomial with f that few elements span. For the first it is not zero, so the first has a large degree and the
  -- second a small one; so for the second it is zero, and tells f.
  pub finds : (k : ℕ) (marks : List (List Bool)) (sites : List (Site F)) (σ p q : List F) (A B : Two F) (a b d : ℕ)
      → Lawful o (code sites) → AllReduced o marks sites → Annihilates o σ sites
      → Carried o (k +ℕ row_count (givens sites)) (all_points o σ marks sites) A B a b
      → Product o B.q1 σ p → Quotient o (map neg B.q0) p d k q
      → (f : List F) → length f ≡ k → (parts : List (Parts F)) (t : ℕ) → Splitting o (givens sites) (differences o f sites) parts → Weighs o (full_part parts) t
      → 2 *ℕ t +ℕ (row_count (givens sites) +ℕ column_count (givens sites)) +ℕ k ≤ locator_count (code sites) → f ≡ q
  finds k marks sites σ p q A B a b d lawful red kills carried product quotient f len parts t splitting weight budget = quotient.only f len (λ i low high. same i)
    where
      r : ℕ
      r = row_count (givens sites)

      law : Lawful o (left_code o marks sites) × (locator_count (left_code o marks sites) +ℕ column_count (givens sites) ≡ locator_count (code sites))
      law = Clearing.left_lawful l marks sites lawful red

      vanishes : (w : Two F) (n : ℕ) → AllByRecursion (λ s. worth o w s ≡ zero) (all_points o σ marks sites) → Below o n (Leftovers.joint l w σ f) → n +ℕ t ≤ locator_count (left_code o marks sites)
          → (i : ℕ) → coef o (Leftovers.joint l w σ f) i ≡ zero
      vanishes w n z low fits =
          let s = Leftovers.at_sites l w σ f marks sites parts t red kills.2 splitting weight (by_recursion w (all_points o σ marks sites) z) in
          Degrees.far_below l n (left_code o marks sites) s.0 (Leftovers.joint l w σ f) law.0 s.2 low (omega (arith, s.1))

      first : Below o a (times o (times o A.q1 σ) f)
      first = Degrees.below_both l a k r A.q1 σ f carried.A1 kills.0 len

      first_not : suc a +ℕ t ≤ locator_count (left_code o marks sites) → ⊥
      first_not fits =
          carried.A0.0 (sym (Coefficients.coef_plus l A.q0 (times o (times o A.q1 σ) f) a ∙ ap (λ w. coef o A.q0 a + w) (first a (omega arith)) ∙ Basics.add_zero l _)
          ∙ vanishes A (suc a) carried.a_vanishes (Degrees.below_plus l (suc a) A.q0 _ carried.A0.1 (λ i e. first i (omega arith))) fits a)

      large : locator_count (left_code o marks sites) ≤ a +ℕ t
      large = elim (cases_lt (a +ℕ t) (locator_count (left_code o marks sites))) [ inl m ↦ absurd (first_not (omega arith)) | inr m ↦ m ]

      second : Below o (b +ℕ (k +ℕ row_count (givens sites))) (times o (times o B.q1 σ) f)
      second i e =
          Degrees.below_times l (b +ℕ r) k (times o B.q1 σ) f (λ j u. Degrees.below_times l b (suc r) B.q1 σ carried.B1.1 kills.0 j (omega arith))
          (λ j u. Degrees.below_length l f j (omega (arith, len))) i (omega arith)

      null : (i : ℕ) → coef o (Leftovers.joint l B σ f) i ≡ zero
      null =
          vanishes B (b +ℕ (k +ℕ r)) carried.b_vanishes (Degrees.below_plus l (b +ℕ (k +ℕ r)) B.q0 _ carried.B0 second)
          (omega (arith, large, carried.few, length_points σ marks sites, budget, law.1))

      same : (i : ℕ) → coef o (map neg B.q0) i ≡ coefficient o p f i
      same i =
          Degrees.coef_neg l B.q0 i
          ∙ sym (Basics.neg_unique l (coef o B.q0 i) (coef o (times o (times o B.q1 σ) f) i) (sym (Coefficients.coef_plus l B.q0 (times o (times o B.q1 σ) f) i) ∙ null i))
          ∙ Multiplication.coef_product l (times o B.q1 σ) f i
          ∙ Coefficients.total_same l (λ j. coef o (times o B.q1 σ) j * twisted o j (coef o f (i - j))) (λ j. coef o p j * twisted o j (coef o f (i - j))) (suc i)
          (λ j m. ap (λ w. w * twisted o j (coef o f (i - j))) (Multiplication.coef_product l B.q1 σ j ∙ sym (product.coefficients j)))
