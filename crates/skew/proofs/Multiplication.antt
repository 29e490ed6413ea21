-- The product of skew polynomials by recursion: its coefficients are the sums of the definition, its values those of one factor
-- at the value of the other, and it has no zero divisors.
--
--   shift g      x times g
--   times f g    the product: c × g, and for the other coefficients of f the product with x times g
use Rattle.std.proofs.Common.{◌≡◌, ℕ, suc, ◌+◌ as ◌+ℕ◌, ◌-◌, ◌<◌, ◌≤◌, ◌≢◌, List, [], ◌∷◌, map, length, sym, refl, ap, ◌∙◌, subst, arith}
use Rattle.std.proofs.lemmas.List.{length-map}
use Rattle.std.specs.List.{AllByRecursion}
use Rattle.fields.specs.Field.{Ops, Laws, Zero, plus, scale}
use Rattle.fields.specs.Twists
use Rattle.fields.specs.Basics
use Rattle.fields.specs.Inverses
use Rattle.fields.specs.Basics.{ring}
use Rattle.fields.specs.Twists.{twists}
use Rattle.fields.specs.Rows
use Rattle.skew.specs.Values.{twisted, step, eval}
use Rattle.skew.specs.Products.{coef, total, coefficient, Product}
use Rattle.skew.proofs.Evaluation
use Rattle.skew.proofs.Coefficients

module _ {F : Type 0} (o : Ops F) where
  -- x times g.
  abbrev pub shift : List F → List F
  shift g = o.zero ∷ map o.twist g

  -- The product by recursion on its first factor.
  abbrev pub times : List F → List F → List F
  times [] g = []
  times (c ∷ f) g = plus o (scale o c g) (times f (shift g))

module _ {F : Type 0} {o : Ops F} (l : Laws o) where
  open o use {zero, add as ◌+◌, mul as ◌*◌, twist}

  infixl 65 ◌+◌
  infixl 70 ◌*◌
  -- To twist the coefficients and to step first is to step after.
  eval_twisted : (a : F) (g : List F) (b : F) → eval o a (map twist g) (step o a b) ≡ step o a (eval o a g b)
  eval_twisted a [] b = sym (ap (λ w. w * a) (Twists.twist_zero l) ∙ Basics.zero_mul l a)
  eval_twisted a (x ∷ g) b = ap (λ w. twist x * step o a b + w) (eval_twisted a g (step o a b)) ∙ gather (eval o a g (step o a b))
    where
      gather : (e : F) → twist x * (twist b * a) + twist e * a ≡ twist (x * b + e) * a
      gather e = simp (ring, twists, l)

  -- The value of x times g.
  pub eval_shift : (a : F) (g : List F) (b : F) → eval o a (shift o g) b ≡ step o a (eval o a g b)
  eval_shift a g b = ap (λ w. w + eval o a (map twist g) (step o a b)) (Basics.zero_mul l b) ∙ Basics.zero_add l _ ∙ eval_twisted a g b

  -- To apply a product is to apply one factor after the other.
  pub product_applies : (a : F) (f g : List F) (b : F) → eval o a (times o f g) b ≡ eval o a f (eval o a g b)
  product_applies a [] g b = refl
  product_applies a (c ∷ f) g b =
      Evaluation.eval_plus l a (scale o c g) (times o f (shift o g)) b
      ∙ ap (λ w. w + eval o a (times o f (shift o g)) b) (Evaluation.eval_scaled l a c g b)
      ∙ ap (λ w. c * eval o a g b + w) (product_applies a f (shift o g) b ∙ ap (eval o a f) (eval_shift a g b))

  -- Coefficients of a product, by the first coefficient of its first factor.
  pub coef_times : (c : F) (f g : List F) (i : ℕ) → coef o (times o (c ∷ f) g) i ≡ c * coef o g i + coef o (times o f (shift o g)) i
  coef_times c f g i = Coefficients.coef_plus l (scale o c g) (times o f (shift o g)) i ∙ ap (λ w. w + coef o (times o f (shift o g)) i) (Coefficients.coef_scale l c g i)

  -- The lowest coefficient of a product with x times something.
  lowest_zero : (f g : List F) → coef o (times o f (zero ∷ g)) 0 ≡ zero
  lowest_zero [] g = refl
  lowest_zero (c ∷ f) g = coef_times c f (zero ∷ g) 0 ∙ ap (λ w. c * zero + w) (lowest_zero f (map twist (zero ∷ g))) ∙ simp (ring, l)

  -- The lowest coefficient of a product.
  lowest : (c z : F) (f g : List F) → coef o (times o (c ∷ f) (z ∷ g)) 0 ≡ c * z
  lowest c z f g = coef_times c f (z ∷ g) 0 ∙ ap (λ w. c * z + w) (lowest_zero f (map twist (z ∷ g))) ∙ Basics.add_zero l (c * z)

  -- A product with x times something, one place higher.
  raised : (f g : List F) (i : ℕ) → coef o (times o f (zero ∷ g)) (suc i) ≡ coef o (times o f g) i
  raised [] g i = refl
  raised (c ∷ f) g i =
      coef_times c f (zero ∷ g) (suc i)
      ∙ ap (λ w. c * coef o g i + w) (raised f (twist zero ∷ map twist g) i)
      ∙ ap (λ w. c * coef o g i + coef o (times o f (w ∷ map twist g)) i) (Twists.twist_zero l)
      ∙ sym (coef_times c f g i)

  -- Where the lowest coefficient of f is not zero, f × g is zero for no g but zero.
  no_divisors_low : (c : F) (f : List F) → c ≢ zero → (g : List F) → ((i : ℕ) → coef o (times o (c ∷ f) g) i ≡ zero) → AllByRecursion (Zero o) g
  no_divisors_low c f n [] h = tt
  no_divisors_low c f n (z ∷ g) h =
      (first, no_divisors_low c f n g (λ i. sym (raised (c ∷ f) g i) ∙ ap (λ w. coef o (times o (c ∷ f) (w ∷ g)) (suc i)) (sym first) ∙ h (suc i)))
    where
      first : z ≡ zero
      first = Inverses.right_zero l c z n (sym (lowest c z f g) ∙ h 0)

  -- What is zero once twisted is zero.
  untwist_null : (g : List F) → AllByRecursion (Zero o) (map twist g) → AllByRecursion (Zero o) g
  untwist_null [] h = tt
  untwist_null (x ∷ g) h = (Twists.twist_inj l x zero (h.0 ∙ sym (Twists.twist_zero l)), untwist_null g h.1)

  -- The first coefficient of f that is not zero is met in time.
  no_divisors_coef : (f g : List F) → ¬ AllByRecursion (Zero o) f → ((i : ℕ) → coef o (times o f g) i ≡ zero) → AllByRecursion (Zero o) g
  no_divisors_coef [] g n h = absurd (n tt)
  no_divisors_coef (c ∷ f) g n h =
      elim (l.same c zero) [ yes z ↦ untwist_null g (no_divisors_coef f (shift o g) (λ m. n (z, m)) (next z)).1 | no m ↦ no_divisors_low c f m g h ]
    where
      next : c ≡ zero → (i : ℕ) → coef o (times o f (shift o g)) i ≡ zero
      next z i =
          sym (coef_times c f g i ∙ ap (λ w. w * coef o g i + coef o (times o f (shift o g)) i) z
          ∙ ap (λ w. w + coef o (times o f (shift o g)) i) (Basics.zero_mul l _) ∙ Basics.zero_add l _) ∙ h i

  -- No product is zero but where a factor is.
  pub no_divisors : (f g : List F) → ¬ AllByRecursion (Zero o) f → AllByRecursion (Zero o) (times o f g) → AllByRecursion (Zero o) g
  no_divisors f g n h = no_divisors_coef f g n (Coefficients.coef_of l (times o f g) h)

  -- How many coefficients a product has.
  pub length_times : (c : F) (f g : List F) → length (times o (c ∷ f) g) ≡ length f +ℕ length g
  length_times c [] g = Rows.length_plus l (scale o c g) [] ∙ omega (arith, length-map g (o.mul c))
  length_times c (d ∷ f) g =
      Rows.length_plus l (scale o c g) (times o (d ∷ f) (shift o g))
      ∙ omega (arith, length-map g (o.mul c), length-map g twist, length_times d f (shift o g))

  -- What x times g adds, one place higher.
  shift_term : (f g : List F) (n i : ℕ) → i < n → coef o f i * twisted o i (coef o (shift o g) (n - i)) ≡ coef o f i * twisted o (suc i) (coef o g (n - suc i))
  shift_term f g n i h =
      ap (λ k. coef o f i * twisted o i (coef o (shift o g) k)) step_down
      ∙ ap (λ w. coef o f i * twisted o i w) (Coefficients.coef_twist l g (n - suc i)) ∙ ap (λ w. coef o f i * w) (Coefficients.twisted_twist l i (coef o g (n - suc i)))
    where
      step_down : n - i ≡ suc (n - suc i)
      step_down = omega arith

  -- The coefficients of a product.
  pub coef_product : (f g : List F) (n : ℕ) → coef o (times o f g) n ≡ coefficient o f g n
  coef_product [] g n = sym (Coefficients.total_same l _ (λ i. zero) (suc n) (λ i k. Basics.zero_mul l (twisted o i (coef o g (n - i)))) ∙ Coefficients.total_null l (suc n))
  coef_product (c ∷ f) g n =
      coef_times c f g n ∙ ap (λ w. c * coef o g n + w) (coef_product f (shift o g) n ∙ Coefficients.total_last l u n ∙ ap (λ w. total o u n + w) end ∙ Basics.add_zero l _ ∙ Coefficients.total_same l u v n (shift_term f g n))
      ∙ ap (λ k. c * coef o g k + total o v n) none
    where
      u : ℕ → F
      u i = coef o f i * twisted o i (coef o (shift o g) (n - i))

      v : ℕ → F
      v i = coef o f i * twisted o (suc i) (coef o g (n - suc i))

      none : n ≡ n - 0
      none = omega arith

      self : n - n ≡ 0
      self = omega arith

      end : u n ≡ zero
      end = ap (λ k. coef o f n * twisted o n (coef o (shift o g) k)) self ∙ ap (λ w. coef o f n * w) (Coefficients.twisted_zero l n) ∙ Basics.mul_zero l _

  -- What has the coefficients of the product keeps what a product keeps.
  pub same_product : (f g p : List F) → ((i : ℕ) → coef o p i ≡ coef o (times o f g) i) → Product o f g p
  same_product f g p h = record {
    coefficients = λ i. h i ∙ coef_product f g i;
    applies = subst (λ v. (a b : F) → v a p b ≡ v a f (v a g b)) (Evaluation.both_values l) (λ a b. Evaluation.eval_same l a p (times o f g) b h ∙ product_applies a f g b);
    nonzero = λ nf ng z. ng (no_divisors f g nf (Coefficients.of_coef l (times o f g) (λ i. sym (h i) ∙ Coefficients.coef_of l p z i)));
  }

  -- The product itself keeps it.
  pub is_product : (f g : List F) → Product o f g (times o f g)
  is_product f g = same_product f g (times o f g) (λ i. refl)

  -- How long a product is at most.
  pub length_product : (f g : List F) → length (times o f g) ≤ length f +ℕ length g - 1
  length_product [] g = omega arith
  length_product (c ∷ f) g = omega (arith, length_times c f g)
