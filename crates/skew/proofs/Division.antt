-- Division on the left, over any field with an automorphism: how one coefficient more changes a product, and that places d to
-- d + k - 1 of a product with a polynomial of degree d tell its k coefficients.
--
--   coefficient_more, coefficient_same, coefficient_null    what one coefficient of q adds to p × q
--   quotient_only                                           no two quotients agree with one dividend
use Rattle.std.proofs.Common.{◌≡◌, ℕ, suc, ◌+◌ as ◌+ℕ◌, ◌-◌, ◌<◌, ◌≤◌, ◌≢◌, List, length, sym, ap, ◌∙◌, inl, inr, arith}
use Rattle.std.proofs.Math.ListN.{get_or-eq_default}
use Rattle.std.proofs.lemmas.Bool.{cases_lt}
use Rattle.fields.specs.Field.{Ops, Laws}
use Rattle.fields.specs.Basics
use Rattle.fields.specs.Twists
use Rattle.fields.specs.Inverses
use Rattle.fields.specs.Basics.{ring}
use Rattle.skew.specs.Values.{twisted}
use Rattle.skew.specs.Products.{coef, total, coefficient, Degree}
use Rattle.skew.proofs.Sums
use Rattle.skew.proofs.Coefficients

module _ {F : Type 0} {o : Ops F} (l : Laws o) where
  open o use {zero, add as ◌+◌, mul as ◌*◌, neg, untwist}

  infixl 65 ◌+◌
  infixl 70 ◌*◌
  -- Sums that differ in one term.
  total_but_one : (u v : ℕ → F) (n p : ℕ) (t : F) → p < n → u p ≡ v p + t → ((i : ℕ) → i < n → i ≢ p → u i ≡ v i) → total o u n ≡ total o v n + t
  total_but_one u v ℕ.zero p t h e same = absurd (omega arith)
  total_but_one u v (suc n) ℕ.zero t h e same =
      ap (λ w. w + total o (λ i. u (suc i)) n) e ∙ ap (λ w. v 0 + t + w) (Coefficients.total_same l (λ i. u (suc i)) (λ i. v (suc i)) n (λ i k. same (suc i) (omega arith) (λ q. omega arith)))
      ∙ regroup (v 0) (total o (λ i. v (suc i)) n)
    where
      regroup : (x y : F) → x + t + y ≡ x + y + t
      regroup x y = simp (ring, l)
  total_but_one u v (suc n) (suc p) t h e same =
      ap (λ w. w + total o (λ i. u (suc i)) n) (same 0 (omega arith) (λ q. omega arith))
      ∙ ap (λ w. v 0 + w) (total_but_one (λ i. u (suc i)) (λ i. v (suc i)) n p t (omega arith) e (λ i k ne. same (suc i) (omega arith) (λ q. ne (omega arith))))
      ∙ sym (Basics.add_assoc l (v 0) (total o (λ i. v (suc i)) n) t)

  -- What coefficient j of q adds to a product, where it was zero.
  pub coefficient_more : (p q r : List F) (j : ℕ) (c : F) → coef o q j ≡ zero → coef o r j ≡ c → ((i : ℕ) → i ≢ j → coef o r i ≡ coef o q i) → (n : ℕ) → j ≤ n
      → coefficient o p r n ≡ coefficient o p q n + coef o p (n - j) * twisted o (n - j) c
  coefficient_more p q r j c z e same n h =
      total_but_one (λ i. coef o p i * twisted o i (coef o r (n - i))) (λ i. coef o p i * twisted o i (coef o q (n - i))) (suc n) (n - j) (coef o p (n - j) * twisted o (n - j) c) (omega arith)
      (ap (λ k. coef o p (n - j) * twisted o (n - j) (coef o r k)) back ∙ ap (λ w. coef o p (n - j) * twisted o (n - j) w) e
      ∙ sym (ap (λ w. w + coef o p (n - j) * twisted o (n - j) c) none ∙ Basics.zero_add l _))
      (λ i k ne. ap (λ w. coef o p i * twisted o i w) (same (n - i) (λ q. ne (omega arith))))
    where
      back : n - (n - j) ≡ j
      back = omega arith

      none : coef o p (n - j) * twisted o (n - j) (coef o q (n - (n - j))) ≡ zero
      none =
          ap (λ k. coef o p (n - j) * twisted o (n - j) (coef o q k)) back ∙ ap (λ w. coef o p (n - j) * twisted o (n - j) w) z
          ∙ ap (λ w. coef o p (n - j) * w) (Coefficients.twisted_zero l (n - j)) ∙ Basics.mul_zero l _

  -- Below place j it adds nothing.
  pub coefficient_same : (p q r : List F) (j : ℕ) → ((i : ℕ) → i ≢ j → coef o r i ≡ coef o q i) → (n : ℕ) → n < j → coefficient o p r n ≡ coefficient o p q n
  coefficient_same p q r j same n h =
      Coefficients.total_same l (λ i. coef o p i * twisted o i (coef o r (n - i))) (λ i. coef o p i * twisted o i (coef o q (n - i))) (suc n)
      (λ i k. ap (λ w. coef o p i * twisted o i w) (same (n - i) (λ q. omega arith)))

  -- A product with zero.
  pub coefficient_null : (p q : List F) → ((i : ℕ) → coef o q i ≡ zero) → (n : ℕ) → coefficient o p q n ≡ zero
  coefficient_null p q h n =
      Coefficients.total_same l (λ i. coef o p i * twisted o i (coef o q (n - i))) (λ i. zero) (suc n)
      (λ i k. ap (λ w. coef o p i * twisted o i w) (h (n - i)) ∙ ap (λ w. coef o p i * w) (Coefficients.twisted_zero l i) ∙ Basics.mul_zero l _)
      ∙ Coefficients.total_null l (suc n)

  -- Equal sums that agree in all terms but one agree in that one.
  total_tells : (u v : ℕ → F) (n p : ℕ) → p < n → ((i : ℕ) → i < n → i ≢ p → u i ≡ v i) → total o u n ≡ total o v n → u p ≡ v p
  total_tells u v n p h same e = Basics.equal_of_sub l (u p) (v p) (Basics.add_cancel l (total o v n) (u p + neg (v p)) zero (sym more ∙ e ∙ sym (Basics.add_zero l _)))
    where
      split : (x y : F) → x ≡ y + (x + neg y)
      split x y = simp (ring, l)

      more : total o u n ≡ total o v n + (u p + neg (v p))
      more = total_but_one u v n p (u p + neg (v p)) h (split (u p) (v p)) same

  -- Twists tell elements apart.
  twisted_inj : (n : ℕ) (x y : F) → twisted o n x ≡ twisted o n y → x ≡ y
  twisted_inj ℕ.zero x y e = e
  twisted_inj (suc n) x y e = twisted_inj n x y (Twists.twist_inj l (twisted o n x) (twisted o n y) e)

  module _ (d k : ℕ) (p f g : List F) (deg : Degree o p d) (lf : length f ≡ k) (lg : length g ≡ k) (e : (n : ℕ) → d ≤ n → n < d +ℕ k → coefficient o p f n ≡ coefficient o p g n) where
    -- From the highest coefficient down.
    from_top : (n i : ℕ) → k ≤ i +ℕ n → coef o f i ≡ coef o g i
    from_top ℕ.zero i h = get_or-eq_default f zero (omega arith) ∙ sym (get_or-eq_default g zero (omega arith))
    from_top (suc n) i h = elim (cases_lt (i +ℕ n) k) [ inr q ↦ from_top n i q | inl q ↦ here q (from_top n) ]
      where
        here : i +ℕ n < k → ((j : ℕ) → k ≤ j +ℕ n → coef o f j ≡ coef o g j) → coef o f i ≡ coef o g i
        here q above = twisted_inj d (coef o f i) (coef o g i) (Inverses.mul_cancel l (coef o p d) _ _ deg.0 (sym (there f) ∙ term ∙ there g))
          where
            back : d +ℕ i - d ≡ i
            back = omega arith

            there : (w : List F) → coef o p d * twisted o d (coef o w (d +ℕ i - d)) ≡ coef o p d * twisted o d (coef o w i)
            there w = ap (λ j. coef o p d * twisted o d (coef o w j)) back

            both_zero : (x y z : F) → x ≡ zero → x * y ≡ x * z
            both_zero x y z q = ap (λ w. w * y) q ∙ Basics.zero_mul l y ∙ sym (ap (λ w. w * z) q ∙ Basics.zero_mul l z)

            agree : (j : ℕ) → j < suc (d +ℕ i) → j ≢ d → coef o p j * twisted o j (coef o f (d +ℕ i - j)) ≡ coef o p j * twisted o j (coef o g (d +ℕ i - j))
            agree j r ne = elim (cases_lt j d) [
              | inl s ↦ ap (λ w. coef o p j * twisted o j w) (above (d +ℕ i - j) (omega arith))
              | inr s ↦ both_zero (coef o p j) _ _ (deg.1 j (let t : suc d ≤ j = strict j s ne in t))
            ]
              where
                strict : (j : ℕ) → d ≤ j → j ≢ d → suc d ≤ j
                strict j s ne = elim (cases_lt d j) [ inl t ↦ t | inr t ↦ absurd (ne (omega arith)) ]

            term : coef o p d * twisted o d (coef o f (d +ℕ i - d)) ≡ coef o p d * twisted o d (coef o g (d +ℕ i - d))
            term =
                total_tells (λ j. coef o p j * twisted o j (coef o f (d +ℕ i - j))) (λ j. coef o p j * twisted o j (coef o g (d +ℕ i - j))) (suc (d +ℕ i)) d (omega arith) agree
                (e (d +ℕ i) (omega arith) (omega arith))

    -- A quotient is the only one.
    pub quotient_only : f ≡ g
    quotient_only = Sums.same_coefs l f g (lf ∙ sym lg) (λ i. from_top k i (omega arith))
