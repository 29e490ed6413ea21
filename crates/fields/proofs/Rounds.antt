-- The product of codes, one digit of the second factor at a time: what a loop that scales, adds and raises computes.
--
--   scaled q c a     the constant c times a
--   rounds q k x y   x times the polynomial of y's k lowest digits: what k more rounds add
use Rattle.std.proofs.Common.{◌≡◌, ℕ, suc, ◌/◌, ◌%◌, ◌^◌, ◌<◌, sym, refl, ap, ◌∙◌, ap₂}
use Rattle.fields.specs.Residues.{coefficients, code, plus, scale, Modulus, degree, raise, times, polynomial, sum, raised, product}
use Rattle.fields.specs.Coefficients.{code_below, coefficients_code, code_zeros}
use Rattle.fields.specs.Rings.{polynomial_reduced}
use Rattle.fields.specs.ProperLists.{scale_proper}
use Rattle.fields.specs.PolynomialProducts.{raise_reduced, times_reduced, times_raise_left}

unfoldable pub scaled : Modulus → ℕ → ℕ → ℕ
scaled q c a = code q.base (scale q.base c (polynomial q a))

unfoldable pub rounds : Modulus → ℕ → ℕ → ℕ → ℕ
rounds q k x y = code q.base (times q (polynomial q x) (coefficients q.base k y))

-- A round for each digit gives the product.
pub rounds_all : (q : Modulus) (a b : ℕ) → rounds q (degree q) a b ≡ product q a b
unfolding rounds product
rounds_all q a b = refl

-- After the last round nothing is left to add.
pub rounds_none : (q : Modulus) (x y : ℕ) → rounds q 0 x y ≡ 0
unfolding rounds
rounds_none q x y = code_zeros q.base (degree q)

module _ (q : Modulus) (pos : 0 < q.base) where
  -- A constant times a code is a code.
  pub scaled_code : (c a : ℕ) → scaled q c a < q.base ^ degree q
  unfolding scaled
  scaled_code c a = code_below q.base (scale_proper q.base pos c (polynomial_reduced q pos a))

  -- z times a code is a code.
  pub raised_code : (a : ℕ) → raised q a < q.base ^ degree q
  unfolding raised
  raised_code a = code_below q.base (raise_reduced q pos (polynomial_reduced q pos a))

  -- What is left to add is a code.
  pub rounds_code : (k x y : ℕ) → rounds q k x y < q.base ^ degree q
  unfolding rounds
  rounds_code k x y = code_below q.base (times_reduced q pos (polynomial_reduced q pos x) (coefficients q.base k y))

  -- One round adds the lowest digit of y times x, and the others go on with z x and the other digits.
  pub rounds_more : (k x y : ℕ) → rounds q (suc k) x y ≡ sum q (scaled q (y % q.base) x) (rounds q k (raised q x) (y / q.base))
  unfolding rounds scaled raised sum
  rounds_more k x y = ap (code q.base) (sym (ap₂ (plus q.base) lowest others))
    where
      lowest : polynomial q (scaled q (y % q.base) x) ≡ scale q.base (y % q.base) (polynomial q x)
      lowest = coefficients_code q.base (scale_proper q.base pos (y % q.base) (polynomial_reduced q pos x))

      others : polynomial q (rounds q k (raised q x) (y / q.base)) ≡ raise q (times q (polynomial q x) (coefficients q.base k (y / q.base)))
      others =
          coefficients_code q.base (times_reduced q pos (polynomial_reduced q pos (raised q x)) (coefficients q.base k (y / q.base)))
          ∙ ap (λ f. times q f (coefficients q.base k (y / q.base))) (coefficients_code q.base (raise_reduced q pos (polynomial_reduced q pos x)))
          ∙ times_raise_left q pos (polynomial_reduced q pos x) (coefficients q.base k (y / q.base))
