-- The value of a skew polynomial as a map: it keeps sums of polynomials and of locators, and products with fixed elements.
--
--   Linear T     T keeps sums, and products with a fixed element
use Rattle.std.proofs.Common.{◌≡◌, ℕ, suc, List, [], ◌∷◌, map, sym, refl, ap, ◌∙◌}
use Rattle.std.proofs.Math.Path.{fun_ext}
use Rattle.std.specs.List.{AllByRecursion}
use Rattle.fields.specs.Field.{Ops, Laws, Fixed, plus, scale, comb}
use Rattle.fields.specs.Basics
use Rattle.fields.specs.Twists
use Rattle.fields.specs.Basics.{ring}
use Rattle.fields.specs.Twists.{twists}
use Rattle.skew.specs.Values.{step, eval, value}
use Rattle.skew.specs.Products.{coef}
use Rattle.skew.proofs.Values.{eval_value}

module _ {F : Type 0} {o : Ops F} (l : Laws o) where
  open o use {zero, one, add as ◌+◌, mul as ◌*◌, neg, inv, twist}

  infixl 65 ◌+◌
  infixl 70 ◌*◌
  -- The recursion and the sum are the same function.
  pub both_values : eval o ≡ value o
  both_values = fun_ext (λ a. fun_ext (λ f. fun_ext (λ b. eval_value l a f b)))

  -- One step keeps sums.
  step_add : (a x y : F) → step o a (x + y) ≡ step o a x + step o a y
  step_add a x y = simp (ring, twists, l)

  -- One step keeps products with a fixed element.
  step_scale : (a d x : F) → Fixed o d → step o a (d * x) ≡ d * step o a x
  step_scale a d x p = simp (ring, twists, l, p)

  -- The value at a sum of locators.
  pub eval_add : (a : F) (f : List F) (x y : F) → eval o a f (x + y) ≡ eval o a f x + eval o a f y
  eval_add a [] x y = sym (Basics.add_zero l zero)
  eval_add a (c ∷ f) x y =
      ap (λ w. c * (x + y) + eval o a f w) (step_add a x y) ∙ ap (λ w. c * (x + y) + w) (eval_add a f (step o a x) (step o a y)) ∙ simp (ring, l)

  -- The value at a locator times a fixed element.
  pub eval_scale : (a : F) (f : List F) (d x : F) → Fixed o d → eval o a f (d * x) ≡ d * eval o a f x
  eval_scale a [] d x p = sym (Basics.mul_zero l d)
  eval_scale a (c ∷ f) d x p =
      ap (λ w. c * (d * x) + eval o a f w) (step_scale a d x p) ∙ ap (λ w. c * (d * x) + w) (eval_scale a f d (step o a x) p) ∙ simp (ring, l)

  -- The value of a sum of polynomials.
  pub eval_plus : (a : F) (f g : List F) (x : F) → eval o a (plus o f g) x ≡ eval o a f x + eval o a g x
  eval_plus a [] g x = sym (Basics.zero_add l _)
  eval_plus a (c ∷ f) [] x = sym (Basics.add_zero l _)
  eval_plus a (c ∷ f) (d ∷ g) x = ap (λ w. (c + d) * x + w) (eval_plus a f g (step o a x)) ∙ simp (ring, l)

  -- The value of a polynomial times an element.
  pub eval_scaled : (a c : F) (g : List F) (b : F) → eval o a (scale o c g) b ≡ c * eval o a g b
  eval_scaled a c [] b = sym (Basics.mul_zero l c)
  eval_scaled a c (x ∷ g) b = ap (λ w. c * x * b + w) (eval_scaled a c g (step o a b)) ∙ simp (ring, l)

  -- The value at zero.
  pub eval_zero : (a : F) (f : List F) → eval o a f zero ≡ zero
  eval_zero a [] = refl
  eval_zero a (c ∷ f) = ap (λ w. c * zero + eval o a f w) (simp (ring, twists, l)) ∙ ap (λ w. c * zero + w) (eval_zero a f) ∙ simp (ring, l)

  -- A polynomial whose coefficients are all zero has the value zero.
  eval_none : (a : F) (f : List F) (b : F) → ((i : ℕ) → coef o f i ≡ zero) → eval o a f b ≡ zero
  eval_none a [] b h = refl
  eval_none a (c ∷ f) b h = ap (λ w. w * b + eval o a f (step o a b)) (h 0) ∙ ap (λ w. zero * b + w) (eval_none a f (step o a b) (λ i. h (suc i))) ∙ simp (ring, l)

  -- Only coefficients count, and not how many zeros stand behind them.
  pub eval_same : (a : F) (f g : List F) (b : F) → ((i : ℕ) → coef o f i ≡ coef o g i) → eval o a f b ≡ eval o a g b
  eval_same a [] g b h = sym (eval_none a g b (λ i. sym (h i)))
  eval_same a (c ∷ f) [] b h = eval_none a (c ∷ f) b h
  eval_same a (c ∷ f) (d ∷ g) b h = ap (λ w. w * b + eval o a f (step o a b)) (h 0) ∙ ap (λ w. d * b + w) (eval_same a f g (step o a b) (λ i. h (suc i)))

  -- T keeps sums and products with a fixed element.
  abbrev pub Linear : (F → F) → Type 0
  Linear T = ((x y : F) → T (x + y) ≡ T x + T y) × ((d x : F) → Fixed o d → T (d * x) ≡ d * T x)

  -- The value is linear in the locator.
  pub eval_linear : (a : F) (p : List F) → Linear (eval o a p)
  eval_linear a p = (eval_add a p, eval_scale a p)

  -- A linear map takes zero to zero.
  pub linear_zero : (T : F → F) → Linear T → T zero ≡ zero
  linear_zero T L =
      ap T (sym (Basics.zero_mul l zero)) ∙ L.1 zero zero (Twists.fixed_zero l) ∙ Basics.zero_mul l (T zero)

  -- A linear map goes inside a combination with fixed coefficients.
  pub comb_map : (T : F → F) → Linear T → (cs bs : List F) → AllByRecursion (Fixed o) cs → comb o cs (map T bs) ≡ T (comb o cs bs)
  comb_map T L [] bs p = sym (linear_zero T L)
  comb_map T L (c ∷ cs) [] p = sym (linear_zero T L)
  comb_map T L (c ∷ cs) (b ∷ bs) p =
      ap (λ w. c * T b + w) (comb_map T L cs bs p.1) ∙ ap (λ w. w + T (comb o cs bs)) (sym (L.1 c b p.0)) ∙ sym (L.0 (c * b) (comb o cs bs))
