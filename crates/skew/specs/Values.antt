-- Skew polynomials and their values. A polynomial is the list of its coefficients, the lowest first.
--
--   twisted o i b     b twisted i times
--   norm o i a        N(0, a) = 1 and N(i, a) = (a twisted i - 1 times) × N(i - 1, a)
--   series o u f      the sum of f_i × u_i, counted from 0
--   value o a f b     the value of f at the locator b with the parameter a
--   step o a b        what one more power of the variable does to b: (b twisted) × a
--   eval o a f b      the value by recursion; equal to `value`, and what proofs use
--   value_code, eval_code     both of codes, over a kind's meaning
use Rattle.std.specs.Prelude.{ℕ, suc, List, [], ◌∷◌}
use Rattle.fields.specs.Field.{Ops}
use Rattle.fields.specs.Meaning.{Meaning}
use Rattle.fields.specs.Elements.{elem, elems, ops}

module _ {F : Type 0} (o : Ops F) where
  open o use {zero, one, add, mul, twist}

  abbrev pub twisted : ℕ → F → F
  twisted ℕ.zero b = b
  twisted (suc i) b = twist (twisted i b)

  abbrev pub norm : ℕ → F → F
  norm ℕ.zero a = one
  norm (suc i) a = mul (twisted i a) (norm i a)

  abbrev pub series : (ℕ → F) → List F → F
  series u [] = zero
  series u (c ∷ f) = add (mul c (u 0)) (series (λ i. u (suc i)) f)

  abbrev pub value : F → List F → F → F
  value a f b = series (λ i. mul (twisted i b) (norm i a)) f

  abbrev pub step : F → F → F
  step a b = mul (twist b) a

  abbrev pub eval : F → List F → F → F
  eval a [] b = zero
  eval a (c ∷ f) b = add (mul c b) (eval a f (step a b))

abbrev pub value_code : Meaning → List ℕ → ℕ → ℕ → ℕ
value_code m f parameter locator = (value (ops m) (elem m parameter) (elems m f) (elem m locator)).code

abbrev pub eval_code : Meaning → List ℕ → ℕ → ℕ → ℕ
eval_code m f parameter locator = (eval (ops m) (elem m parameter) (elems m f) (elem m locator)).code
