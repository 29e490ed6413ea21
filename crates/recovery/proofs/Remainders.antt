-- The quotient of a product less something: the other factor less the quotient of that.
--
--   less f g           f less g
--   quotient_less      if g is the quotient of n by v, then f less g is that of v × f less n
use Rattle.std.proofs.Common.{◌≡◌, ℕ, suc, ◌-◌, ◌≤◌, List, length, sym, refl, ap, ◌∙◌, arith}
use Rattle.fields.specs.Field.{Ops, Laws, plus, scale}
use Rattle.fields.specs.Basics.{ring}
use Rattle.fields.specs.Twists.{twists}
use Rattle.skew.specs.Values.{twisted}
use Rattle.skew.specs.Products.{coef, total, coefficient}
use Rattle.skew.specs.Quotients.{Quotient}
use Rattle.skew.proofs.Combining.{coef_combined, length_combined}
use Rattle.skew.proofs.Coefficients
use Rattle.skew.proofs.Sums

module _ {F : Type 0} {o : Ops F} (l : Laws o) where
  open o use {zero, one, add as ◌+◌, mul as ◌*◌, neg, twist}

  infixl 65 ◌+◌
  infixl 70 ◌*◌
  -- Twists keep differences.
  twisted_minus : (i : ℕ) (x y : F) → twisted o i (x + neg y) ≡ twisted o i x + neg (twisted o i y)
  twisted_minus ℕ.zero x y = refl
  twisted_minus (suc i) x y = ap twist (twisted_minus i x y) ∙ keep (twisted o i x) (twisted o i y)
    where
      keep : (u v : F) → twist (u + neg v) ≡ twist u + neg (twist v)
      keep u v = simp (ring, twists, l)

  -- So do sums.
  total_minus : (u v : ℕ → F) (n : ℕ) → total o (λ i. u i + neg (v i)) n ≡ total o u n + neg (total o v n)
  total_minus u v ℕ.zero = nil
    where
      nil : zero ≡ zero + neg zero
      nil = simp (ring, l)
  total_minus u v (suc n) =
      ap (λ w. u 0 + neg (v 0) + w) (total_minus (λ i. u (suc i)) (λ i. v (suc i)) n) ∙ gather (u 0) (v 0) (total o (λ i. u (suc i)) n) (total o (λ i. v (suc i)) n)
    where
      gather : (a b c d : F) → a + neg b + (c + neg d) ≡ a + c + neg (b + d)
      gather a b c d = simp (ring, l)

  -- A term of a coefficient of a product.
  abbrev term : List F → ℕ → List F → ℕ → F
  term v n q i = coef o v i * twisted o i (coef o q (n - i))

  -- So do products on the right.
  coefficient_minus : (v f g h : List F) → ((i : ℕ) → coef o h i ≡ coef o f i + neg (coef o g i)) → (n : ℕ) → coefficient o v h n ≡ coefficient o v f n + neg (coefficient o v g n)
  coefficient_minus v f g h e n =
      Coefficients.total_same l (term v n h) (λ i. term v n f i + neg (term v n g i)) (suc n)
      (λ i k. ap (λ w. coef o v i * twisted o i w) (e (n - i)) ∙ ap (λ w. coef o v i * w) (twisted_minus i (coef o f (n - i)) (coef o g (n - i)))
      ∙ spread (coef o v i) (twisted o i (coef o f (n - i))) (twisted o i (coef o g (n - i))))
      ∙ total_minus (term v n f) (term v n g) (suc n)
    where
      spread : (c x y : F) → c * (x + neg y) ≡ c * x + neg (c * y)
      spread c x y = simp (ring, l)

  abbrev pub less : List F → List F → List F
  less f g = plus o (scale o one f) (scale o (neg one) g)

  -- The coefficients of a difference.
  pub coef_less : (f g : List F) (i : ℕ) → coef o (less f g) i ≡ coef o f i + neg (coef o g i)
  coef_less f g i = coef_combined l one (neg one) f g i ∙ once (coef o f i) (coef o g i)
    where
      once : (x y : F) → one * x + neg one * y ≡ x + neg y
      once x y = simp (ring, l)

  -- What is taken away twice is there again.
  undo : (x y : F) → x + neg (x + neg y) ≡ y
  undo x y = simp (ring, l)

  -- If g is the quotient of n by v, then f less g is that of v × f less n.
  pub quotient_less : (k d : ℕ) (n v f g r : List F) → length f ≤ k → Quotient o n v d k g → ((i : ℕ) → coef o r i ≡ coefficient o v f i + neg (coef o n i)) → Quotient o r v d k (less f g)
  quotient_less k d n v f g r short q e = record {
    size = size g q.size;
    agrees = λ i low high. e i ∙ ap (λ w. coefficient o v f i + neg w) (q.agrees i low high) ∙ sym (coefficient_minus v f g (less f g) (coef_less f g) i);
    only = λ h len same.
        let back : less f h ≡ g =
        q.only (less f h) (size h len)
        (λ i low high. sym (coefficient_minus v f h (less f h) (coef_less f h) i ∙ ap (λ w. coefficient o v f i + neg w) (sym (same i low high) ∙ e i) ∙ undo (coefficient o v f i) (coef o n i))) in
        Sums.same_coefs l h (less f g) (len ∙ sym (size g q.size))
        (λ i. sym (coef_less f g i ∙ ap (λ w. coef o f i + neg (coef o w i)) (sym back) ∙ ap (λ w. coef o f i + neg w) (coef_less f h i) ∙ undo (coef o f i) (coef o h i)));
  }
    where
      size : (h : List F) → length h ≡ k → length (less f h) ≡ k
      size h len = length_combined l one (neg one) f h ∙ omega (arith, short, len)
