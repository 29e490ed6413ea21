-- How far products and sums of polynomials reach, and the minimum distance of polynomials by how far they reach.
use Rattle.std.proofs.Common.{◌≡◌, ℕ, suc, ◌+◌ as ◌+ℕ◌, ◌-◌, ◌<◌, ◌≤◌, List, [], ◌∷◌, map, length, take, sym, refl, ap, ◌∙◌, subst, inl, inr, arith, length-take, get_or-take}
use Rattle.std.proofs.Math.ListN.{get_or-eq_default}
use Rattle.std.proofs.lemmas.Bool.{cases_lt}
use Rattle.std.specs.List.{AllByRecursion}
use Rattle.fields.specs.Field.{Ops, Laws, Zero, plus}
use Rattle.fields.specs.Basics
use Rattle.fields.specs.Basics.{ring}
use Rattle.fields.specs.Lists.{all_follow}
use Rattle.skew.specs.Values.{step, eval}
use Rattle.skew.specs.Products.{coef, Below}
use Rattle.skew.specs.Roots.{Block, block, locator_count, Lawful}
use Rattle.skew.proofs.Coefficients
use Rattle.skew.proofs.Multiplication
use Rattle.skew.proofs.Multiplication.{shift, times}
use Rattle.skew.proofs.PairDegrees
use Rattle.ranks.specs.Ranks.{Spanned}
use Rattle.ranks.proofs.Separating
use Rattle.ranks.proofs.Separating.{together}

module _ {F : Type 0} {o : Ops F} (l : Laws o) where
  open o use {zero, add as ◌+◌, mul as ◌*◌, neg}

  infixl 65 ◌+◌
  infixl 70 ◌*◌
  -- The coefficients of the opposite.
  pub coef_neg : (g : List F) (i : ℕ) → coef o (map neg g) i ≡ neg (coef o g i)
  coef_neg [] i = sym (Basics.neg_zero l)
  coef_neg (x ∷ g) ℕ.zero = refl
  coef_neg (x ∷ g) (suc i) = coef_neg g i

  -- A list has no coefficients past its end.
  pub below_length : (f : List F) → Below o (length f) f
  below_length f i e = get_or-eq_default f zero e

  -- A sum reaches no farther than its parts.
  pub below_plus : (n : ℕ) (f g : List F) → Below o n f → Below o n g → Below o n (plus o f g)
  below_plus n f g h k i e = Coefficients.coef_plus l f g i ∙ ap (λ w. w + coef o g i) (h i e) ∙ ap (λ w. zero + w) (k i e) ∙ Basics.add_zero l zero

  -- Zero times anything.
  pub times_null : (p q : List F) → ((i : ℕ) → coef o p i ≡ zero) → (i : ℕ) → coef o (times o p q) i ≡ zero
  times_null [] q h i = refl
  times_null (c ∷ p) q h i =
      Multiplication.coef_times l c p q i ∙ ap (λ w. w * coef o q i + coef o (times o p (shift o q)) i) (h 0)
      ∙ ap (λ w. zero * coef o q i + w) (times_null p (shift o q) (λ j. h (suc j)) i) ∙ nought (coef o q i)
    where
      nought : (w : F) → zero * w + zero ≡ zero
      nought w = simp (ring, l)

  -- A product reaches as far as its factors together.
  pub below_times : (n m : ℕ) (p q : List F) → Below o (suc n) p → Below o m q → Below o (n +ℕ m) (times o p q)
  below_times n m [] q h k i e = refl
  below_times ℕ.zero m (c ∷ p) q h k i e =
      Multiplication.coef_times l c p q i ∙ ap (λ w. c * w + coef o (times o p (shift o q)) i) (k i (omega arith))
      ∙ ap (λ w. c * zero + w) (times_null p (shift o q) (λ j. h (suc j) (omega arith)) i) ∙ simp (ring, l)
  below_times (suc n) m (c ∷ p) q h k i e =
      Multiplication.coef_times l c p q i ∙ ap (λ w. c * w + coef o (times o p (shift o q)) i) (k i (omega arith))
      ∙ ap (λ w. c * zero + w) (below_times n (suc m) p (shift o q) (λ j g. h (suc j) (omega arith)) (PairDegrees.below_shift l m (suc m) q (omega arith) k) i (omega arith)) ∙ simp (ring, l)

  -- With k coefficients in f and t above the lowest in σ, a q that stays k + t below the place a keeps the product below a.
  below_by : (a k t n : ℕ) (q σ f : List F) → suc a - (k +ℕ t) ≡ n → ((i : ℕ) → a < i +ℕ (k +ℕ t) → coef o q i ≡ zero) → Below o (suc t) σ → length f ≡ k
      → Below o a (times o (times o q σ) f)
  below_by a k t ℕ.zero q σ f e h s len i g = times_null (times o q σ) f (times_null q σ (λ j. h j (omega arith))) i
  below_by a k t (suc n) q σ f e h s len i g =
      below_times (n +ℕ t) k (times o q σ) f (λ j u. below_times n (suc t) q σ (λ m v. h m (omega arith)) s j (omega arith)) (λ j u. below_length f j (omega arith)) i (omega arith)

  -- The same without the difference of numbers.
  pub below_both : (a k t : ℕ) (q σ f : List F) → ((i : ℕ) → a < i +ℕ (k +ℕ t) → coef o q i ≡ zero) → Below o (suc t) σ → length f ≡ k → Below o a (times o (times o q σ) f)
  below_both a k t q σ f = below_by a k t (suc a - (k +ℕ t)) q σ f refl

  -- A polynomial without its zeros has the same values.
  eval_take : (n : ℕ) (f : List F) → Below o n f → (a b : F) → eval o a f b ≡ eval o a (take n f) b
  eval_take ℕ.zero f h a b = Separating.eval_null l a f b (Coefficients.of_coef l f (λ i. h i (omega arith)))
  eval_take (suc n) [] h a b = refl
  eval_take (suc n) (x ∷ f) h a b = ap (λ w. x * b + w) (eval_take n f (λ j e. h (suc j) (omega arith)) a (step o a b))

  -- What spans the values of a polynomial spans those of one with the same values.
  within_same : (f g : List F) → ((a b : F) → eval o a f b ≡ eval o a g b) → (blocks : List (Block F)) (spans : List (List F))
      → Separating.Within l f blocks spans → Separating.Within l g blocks spans
  within_same f g same [] [] h = tt
  within_same f g same [] (es ∷ spans) h = absurd h
  within_same f g same (block a bs ∷ blocks) [] h = absurd h
  within_same f g same (block a bs ∷ blocks) (es ∷ spans) h = (
    all_follow (λ b. Spanned o es (eval o a f b)) (λ b. Spanned o es (eval o a g b)) (λ b. subst (Spanned o es) (same a b)) bs h.0,
    within_same f g same blocks spans h.1,
  )

  -- A polynomial with no coefficients from n on, and with values that few elements span, is zero.
  pub far_below : (n : ℕ) (blocks : List (Block F)) (spans : List (List F)) (f : List F) → Lawful o blocks → Separating.Within l f blocks spans → Below o n f
      → n +ℕ together spans ≤ locator_count blocks → (i : ℕ) → coef o f i ≡ zero
  far_below n blocks spans f lawful near h fits i = elim (cases_lt i n) [ inl k ↦ sym (get_or-take n f i zero k) ∙ Coefficients.coef_of l (take n f) null i | inr k ↦ h i k ]
    where
      null : AllByRecursion (Zero o) (take n f)
      null = Separating.far_apart l blocks spans (take n f) lawful (within_same f (take n f) (eval_take n f h) blocks spans near) (omega (arith, length-take n f))
