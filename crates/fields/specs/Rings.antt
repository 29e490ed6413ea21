-- The codes of a modulus form a commutative ring.
--
--   Ring q size    the rules of `sum`, `opposite` and `product` for all codes below size
use Rattle.std.specs.Prelude.{◌≡◌, ℕ, ◌-◌, ◌*◌, ◌^◌, ◌<◌, List}
use Rattle.std.proofs.Math.Path.{sym, ap}
use Rattle.std.proofs.Common.{ap₂, ◌∙◌, subst, one-mul, pow-suc, le_of_lt, lt_of_lt_of_le, lit<}
use Rattle.std.proofs.Math.Nat.{pow-zero, pow-le-pow_right}
use Rattle.fields.specs.Residues.{code, plus, Modulus, degree, times, polynomial, sum, opposite, product}
use Rattle.fields.specs.Shipped.{modulus256, modulus16, modulus81}
use Rattle.fields.specs.Coefficients
use Rattle.fields.specs.PolynomialProducts
use Rattle.fields.specs.ProperLists
use Rattle.fields.specs.PolynomialProducts.{Reduced}

pub record Ring (q : Modulus) (size : ℕ) : Type 0 where
  pub one_code : 1 < size
  pub sum_code : (a b : ℕ) → a < size → b < size → sum q a b < size
  pub opposite_code : (a : ℕ) → a < size → opposite q a < size
  pub product_code : (a b : ℕ) → a < size → b < size → product q a b < size
  pub sum_zero : (a : ℕ) → a < size → sum q a 0 ≡ a
  pub sum_comm : (a b : ℕ) → a < size → b < size → sum q a b ≡ sum q b a
  pub sum_assoc : (a b c : ℕ) → a < size → b < size → c < size → sum q (sum q a b) c ≡ sum q a (sum q b c)
  pub sum_opposite : (a : ℕ) → a < size → sum q a (opposite q a) ≡ 0
  pub product_zero : (a : ℕ) → a < size → product q a 0 ≡ 0
  pub product_one : (a : ℕ) → a < size → product q a 1 ≡ a
  pub product_comm : (a b : ℕ) → a < size → b < size → product q a b ≡ product q b a
  pub product_assoc : (a b c : ℕ) → a < size → b < size → c < size → product q (product q a b) c ≡ product q a (product q b c)
  pub product_sum : (a b c : ℕ) → a < size → b < size → c < size → product q a (sum q b c) ≡ sum q (product q a b) (product q a c)

module _ (q : Modulus) (pos : 0 < q.base) where
  -- The polynomial of a code is reduced.
  pub polynomial_reduced : (a : ℕ) → Reduced q (polynomial q a)
  polynomial_reduced a = ProperLists.coefficients_proper q.base pos (degree q) a

  -- The polynomial of a sum of codes.
  sum_polynomial : (a b : ℕ) → polynomial q (sum q a b) ≡ plus q.base (polynomial q a) (polynomial q b)
  unfolding sum
  sum_polynomial a b = Coefficients.coefficients_code q.base (ProperLists.plus_proper q.base pos (polynomial_reduced a) (polynomial_reduced b))

  -- The polynomial of a product of codes.
  product_polynomial : (a b : ℕ) → polynomial q (product q a b) ≡ times q (polynomial q a) (polynomial q b)
  unfolding product
  product_polynomial a b = Coefficients.coefficients_code q.base (PolynomialProducts.times_reduced q pos (polynomial_reduced a) (polynomial q b))

-- The codes of every modulus of a degree above 0 are a ring.
pub ring : (q : Modulus) → 1 < q.base → 0 < degree q → Ring q (q.base ^ degree q)
unfolding sum opposite product
ring q large some =
    record {
      one_code = lt_of_lt_of_le (subst (λ n. 1 < n) (sym (pow-suc p 0 ∙ ap (λ n. n * p) (pow-zero p) ∙ one-mul p)) large) (pow-le-pow_right pos some);
      sum_code = λ a b ha hb. Coefficients.code_below p (ProperLists.plus_proper p pos (reduced a) (reduced b));
      opposite_code = λ a ha. Coefficients.code_below p (ProperLists.scale_proper p pos (p - 1) (reduced a));
      product_code = λ a b ha hb. Coefficients.code_below p (PolynomialProducts.times_reduced q pos (reduced a) (poly b));
      sum_zero = λ a ha.
          ap (λ f. code p (plus p (poly a) f)) (Coefficients.coefficients_zero p (degree q)) ∙ ap (code p) (Coefficients.plus_zeros p (reduced a)) ∙ Coefficients.code_coefficients p pos (degree q) a ha;
      sum_comm = λ a b ha hb. ap (code p) (Coefficients.plus_comm p (poly a) (poly b));
      sum_assoc = λ a b c ha hb hc.
          ap (code p) (ap (λ f. plus p f (poly c)) (sum_polynomial q pos a b) ∙ Coefficients.plus_assoc p (poly a) (poly b) (poly c) ∙ ap (plus p (poly a)) (sym (sum_polynomial q pos b c)));
      sum_opposite = λ a ha.
          ap (code p) (ap (plus p (poly a)) (Coefficients.coefficients_code p (ProperLists.scale_proper p pos (p - 1) (reduced a))) ∙ Coefficients.plus_opposite p pos (reduced a))
          ∙ Coefficients.code_zeros p (degree q);
      product_zero = λ a ha. ap (code p) (ap (times q (poly a)) (Coefficients.coefficients_zero p (degree q)) ∙ PolynomialProducts.times_zeros q large (reduced a)) ∙ Coefficients.code_zeros p (degree q);
      product_one = λ a ha.
          ap (code p) (ap (times q (poly a)) (Coefficients.coefficients_one p large (degree q)) ∙ PolynomialProducts.times_comm q large (reduced a) (PolynomialProducts.one_reduced q large) ∙ PolynomialProducts.times_one_left q large (reduced a))
          ∙ Coefficients.code_coefficients p pos (degree q) a ha;
      product_comm = λ a b ha hb. ap (code p) (PolynomialProducts.times_comm q large (reduced a) (reduced b));
      product_assoc = λ a b c ha hb hc.
          ap (code p)
          (ap (λ f. times q f (poly c)) (product_polynomial q pos a b) ∙ PolynomialProducts.times_assoc q large (reduced a) (reduced b) (poly c)
          ∙ ap (times q (poly a)) (sym (product_polynomial q pos b c)));
      product_sum = λ a b c ha hb hc.
          ap (code p)
          (ap (times q (poly a)) (sum_polynomial q pos b c) ∙ PolynomialProducts.times_plus q large (reduced a) (reduced b) (reduced c)
          ∙ ap₂ (plus p) (sym (product_polynomial q pos a b)) (sym (product_polynomial q pos a c)));
    }
  where
    p : ℕ
    p = q.base

    pos : 0 < p
    pos = le_of_lt large

    poly : ℕ → List ℕ
    poly = polynomial q

    reduced : (a : ℕ) → Reduced q (poly a)
    reduced = polynomial_reduced q pos

-- The three rings in use.
pub ring256 : Ring modulus256 256
ring256 = ring modulus256 (lit< tt) (lit< tt)

pub ring16 : Ring modulus16 16
ring16 = ring modulus16 (lit< tt) (lit< tt)

pub ring81 : Ring modulus81 81
ring81 = ring modulus81 (lit< tt) (lit< tt)
