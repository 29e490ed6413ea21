-- The product of skew polynomials.
--
--   coef o f i            coefficient i of f, zero past its end
--   total o u n           u 0 + u 1 + .. up to u (n - 1)
--   coefficient o f g l   the sum over i + j = l of f_i × (g_j twisted i times)
--   Below o n f           all coefficients of f from n on are zero
--   Degree o f n          coefficient n of f is not zero, and all above it are zero
--   Product o f g p       what a product p of f and g keeps
use Rattle.std.specs.Prelude.{◌≡◌, ℕ, suc, ◌-◌, ◌≤◌, ◌≢◌, List, slice_index_or}
use Rattle.std.specs.List.{AllByRecursion}
use Rattle.fields.specs.Field.{Ops, Zero}
use Rattle.skew.specs.Values.{twisted, value}

module _ {F : Type 0} (o : Ops F) where
  abbrev pub coef : List F → ℕ → F
  coef f i = slice_index_or f i o.zero

  abbrev pub total : (ℕ → F) → ℕ → F
  total u ℕ.zero = o.zero
  total u (suc n) = o.add (u 0) (total (λ i. u (suc i)) n)

  abbrev pub coefficient : List F → List F → ℕ → F
  coefficient f g l = total (λ i. o.mul (coef f i) (twisted o i (coef g (l - i)))) (suc l)

  abbrev pub Below : ℕ → List F → Type 0
  Below n f = (i : ℕ) → n ≤ i → coef f i ≡ o.zero

  abbrev pub Degree : List F → ℕ → Type 0
  Degree f n = (coef f n ≢ o.zero) × Below (suc n) f

pub record Product {F : Type 0} (o : Ops F) (f g p : List F) : Type 0 where
  pub coefficients : (l : ℕ) → coef o p l ≡ coefficient o f g l
  -- its value at b is the value of f at the value of g at b
  pub applies : (a b : F) → value o a p b ≡ value o a f (value o a g b)
  pub nonzero : ¬ AllByRecursion (Zero o) f → ¬ AllByRecursion (Zero o) g → ¬ AllByRecursion (Zero o) p
