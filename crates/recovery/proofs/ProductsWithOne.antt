-- A polynomial is its product with one.
--
--   one ∷ []    the polynomial one
use Rattle.std.proofs.Common.{◌≡◌, ℕ, suc, ◌-◌, List, [], ◌∷◌, sym, ap, ◌∙◌, subst, ap₂, arith}
use Rattle.std.proofs.lemmas.List.{get_or_past}
use Rattle.fields.specs.Field.{Ops, Laws}
use Rattle.fields.specs.Twists
use Rattle.fields.specs.Basics
use Rattle.fields.specs.Basics.{ring}
use Rattle.skew.specs.Values.{twisted, eval}
use Rattle.skew.specs.Products.{coef, coefficient, Product}
use Rattle.skew.proofs.Evaluation
use Rattle.skew.proofs.Coefficients

module _ {F : Type 0} {o : Ops F} (l : Laws o) where
  open o use {zero, one, add as ◌+◌, mul as ◌*◌, twist}

  infixl 65 ◌+◌
  infixl 70 ◌*◌
  -- The coefficients of one are fixed.
  fixed_coef : (j : ℕ) → twist (coef o (one ∷ []) j) ≡ coef o (one ∷ []) j
  fixed_coef ℕ.zero = Twists.fixed_one l
  fixed_coef (suc j) = Twists.twist_zero l

  -- A product with one has the coefficients of the other factor.
  once_coef : (v : List F) (n : ℕ) → coefficient o v (one ∷ []) n ≡ coef o v n
  once_coef [] n = Coefficients.total_same l _ (λ i. zero) (suc n) (λ i k. Basics.zero_mul l (twisted o i (coef o (one ∷ []) (n - i)))) ∙ Coefficients.total_null l (suc n)
  once_coef (c ∷ v) ℕ.zero = simp (ring, l)
  once_coef (c ∷ v) (suc n) =
      ap₂ (λ x y. c * x + y) (get_or_past (one ∷ []) (suc n - 0) zero (omega arith))
      (Coefficients.total_same l _ (λ i. coef o v i * twisted o i (coef o (one ∷ []) (n - i))) (suc n) (λ i k. ap (λ x. coef o v i * x) (same i)) ∙ once_coef v n)
      ∙ last (coef o v n)
    where
      less : (i : ℕ) → suc n - suc i ≡ n - i
      less i = omega arith

      same : (i : ℕ) → twisted o (suc i) (coef o (one ∷ []) (suc n - suc i)) ≡ twisted o i (coef o (one ∷ []) (n - i))
      same i =
          ap (λ j. twisted o (suc i) (coef o (one ∷ []) j)) (less i) ∙ sym (Coefficients.twisted_twist l i (coef o (one ∷ []) (n - i))) ∙ ap (twisted o i) (fixed_coef (n - i))

      last : (x : F) → c * zero + x ≡ x
      last x = simp (ring, l)

  -- A polynomial is its product with one.
  pub product_once : (v : List F) → Product o v (one ∷ []) v
  product_once v = record {
    coefficients = λ i. sym (once_coef v i);
    applies = subst (λ n. (a b : F) → n a v b ≡ n a v (n a (one ∷ []) b)) (Evaluation.both_values l) (λ a b. ap (eval o a v) (sym (once b)));
    nonzero = λ nv no z. nv z;
  }
    where
      once : (b : F) → one * b + zero ≡ b
      once b = simp (ring, l)
