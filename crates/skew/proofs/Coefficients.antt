-- Coefficients of sums, multiples and twisted polynomials; sums of terms; and repeated twists.
--
--   coef_of, of_coef    zero coefficients, one by one and all at once
--   total o u n         u 0 + .. + u (n - 1)
use Rattle.std.proofs.Common.{◌≡◌, ℕ, suc, ◌<◌, List, [], ◌∷◌, map, sym, refl, ap, ◌∙◌, arith}
use Rattle.std.specs.List.{AllByRecursion}
use Rattle.fields.specs.Field.{Ops, Laws, Zero, plus, scale}
use Rattle.fields.specs.Twists
use Rattle.fields.specs.Basics
use Rattle.skew.specs.Values.{twisted}
use Rattle.skew.specs.Products.{coef, total}

module _ {F : Type 0} {o : Ops F} (l : Laws o) where
  open o use {zero, add as ◌+◌, mul as ◌*◌, neg, twist}

  infixl 65 ◌+◌
  infixl 70 ◌*◌
  -- A polynomial of zeros has no coefficient other than zero.
  pub coef_of : (f : List F) → AllByRecursion (Zero o) f → (i : ℕ) → coef o f i ≡ zero
  coef_of [] h i = refl
  coef_of (x ∷ f) h ℕ.zero = h.0
  coef_of (x ∷ f) h (suc i) = coef_of f h.1 i

  -- And the other way.
  pub of_coef : (f : List F) → ((i : ℕ) → coef o f i ≡ zero) → AllByRecursion (Zero o) f
  of_coef [] h = tt
  of_coef (x ∷ f) h = (h 0, of_coef f (λ i. h (suc i)))

  -- Coefficients of a sum.
  pub coef_plus : (f g : List F) (i : ℕ) → coef o (plus o f g) i ≡ coef o f i + coef o g i
  coef_plus [] g i = sym (Basics.zero_add l _)
  coef_plus (x ∷ f) [] i = sym (Basics.add_zero l _)
  coef_plus (x ∷ f) (y ∷ g) ℕ.zero = refl
  coef_plus (x ∷ f) (y ∷ g) (suc i) = coef_plus f g i

  -- Coefficients of a multiple.
  pub coef_scale : (c : F) (g : List F) (i : ℕ) → coef o (scale o c g) i ≡ c * coef o g i
  coef_scale c [] i = sym (Basics.mul_zero l c)
  coef_scale c (x ∷ g) ℕ.zero = refl
  coef_scale c (x ∷ g) (suc i) = coef_scale c g i

  -- Coefficients twisted.
  pub coef_twist : (g : List F) (i : ℕ) → coef o (map twist g) i ≡ twist (coef o g i)
  coef_twist [] i = sym (Twists.twist_zero l)
  coef_twist (x ∷ g) ℕ.zero = refl
  coef_twist (x ∷ g) (suc i) = coef_twist g i

  -- Sums of equal terms are equal.
  pub total_same : (u v : ℕ → F) (n : ℕ) → ((i : ℕ) → i < n → u i ≡ v i) → total o u n ≡ total o v n
  total_same u v ℕ.zero h = refl
  total_same u v (suc n) h =
      ap (λ w. w + total o (λ i. u (suc i)) n) (h 0 (omega arith)) ∙ ap (λ w. v 0 + w) (total_same (λ i. u (suc i)) (λ i. v (suc i)) n (λ i k. h (suc i) (omega arith)))

  -- A sum of zeros.
  pub total_null : (n : ℕ) → total o (λ i. zero) n ≡ zero
  total_null ℕ.zero = refl
  total_null (suc n) = Basics.zero_add l _ ∙ total_null n

  -- A sum by its last term.
  pub total_last : (u : ℕ → F) (n : ℕ) → total o u (suc n) ≡ total o u n + u n
  total_last u ℕ.zero = Basics.add_comm l (u 0) zero
  total_last u (suc n) = ap (λ w. u 0 + w) (total_last (λ i. u (suc i)) n) ∙ sym (Basics.add_assoc l (u 0) _ _)

  -- A twist before or after others.
  pub twisted_twist : (i : ℕ) (x : F) → twisted o i (twist x) ≡ twist (twisted o i x)
  twisted_twist ℕ.zero x = refl
  twisted_twist (suc i) x = ap twist (twisted_twist i x)

  -- Zero twisted is zero.
  pub twisted_zero : (i : ℕ) → twisted o i zero ≡ zero
  twisted_zero ℕ.zero = refl
  twisted_zero (suc i) = ap twist (twisted_zero i) ∙ Twists.twist_zero l

  -- An opposite twisted is the opposite of what is twisted.
  pub twisted_neg : (i : ℕ) (x : F) → twisted o i (neg x) ≡ neg (twisted o i x)
  twisted_neg ℕ.zero x = refl
  twisted_neg (suc i) x = ap twist (twisted_neg i x) ∙ Twists.twist_neg l (twisted o i x)
