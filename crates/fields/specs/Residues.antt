-- Polynomials over the integers modulo p, taken modulo one polynomial of degree d whose top coefficient is 1.
--
--   coefficients p d a   the digits of a in base p, the lowest first: the polynomial that a codes
--   code p f             the number with these digits
--   plus, scale          sum, and product with a constant, coefficient by coefficient modulo p
--   raise q f            z times f, modulo q
--   times q f g          f times g, modulo q
--   sum, opposite, raised, product, power     the same on codes
--   trace, traces        sums of repeated powers: digits over a subfield
--   residues             a kind of field made of these
use Rattle.std.specs.Prelude.{ℕ, zero, suc, ◌+◌, ◌-◌, ◌*◌, ◌/◌, ◌%◌, ◌^◌, List, [], ◌∷◌, map, length, replicate}
use Rattle.fields.specs.Meaning.{Meaning}

abbrev pub coefficients : ℕ → ℕ → ℕ → List ℕ
coefficients p zero a = []
coefficients p (suc d) a = (a % p) ∷ coefficients p d (a / p)

abbrev pub code : ℕ → List ℕ → ℕ
code p [] = 0
code p (x ∷ f) = code p f * p + x

abbrev pub plus : ℕ → List ℕ → List ℕ → List ℕ
plus p [] g = []
plus p (x ∷ f) [] = []
plus p (x ∷ f) (y ∷ g) = ((x + y) % p) ∷ plus p f g

abbrev pub scale : ℕ → ℕ → List ℕ → List ℕ
scale p c [] = []
scale p c (x ∷ f) = ((c * x) % p) ∷ scale p c f

-- f moved up by one place, with c in the lowest; and the coefficient that leaves at the top.
abbrev pub moved : ℕ → List ℕ → List ℕ
moved c [] = []
moved c (x ∷ f) = c ∷ moved x f

abbrev pub top : ℕ → List ℕ → ℕ
top c [] = c
top c (x ∷ f) = top x f

-- The polynomial z^d + .. to reduce by: the prime p, and its d coefficients below the top one.
pub record Modulus : Type 0 where
  pub base : ℕ
  pub low : List ℕ

module _ (q : Modulus) where
  abbrev pub degree : ℕ
  degree = length q.low

  -- z f, less the modulus as often as z^d stands in z f.
  abbrev pub raise : List ℕ → List ℕ
  raise f = plus q.base (moved 0 f) (scale q.base (top 0 f * (q.base - 1)) q.low)

  -- f (y + z g) = f y + z (f g)
  abbrev pub times : List ℕ → List ℕ → List ℕ
  times f [] = replicate degree 0
  times f (y ∷ g) = plus q.base (scale q.base y f) (raise (times f g))

  abbrev pub polynomial : ℕ → List ℕ
  polynomial a = coefficients q.base degree a

  unfoldable pub sum : ℕ → ℕ → ℕ
  sum a b = code q.base (plus q.base (polynomial a) (polynomial b))

  unfoldable pub opposite : ℕ → ℕ
  opposite a = code q.base (scale q.base (q.base - 1) (polynomial a))

  -- z times a.
  unfoldable pub raised : ℕ → ℕ
  raised a = code q.base (raise (polynomial a))

  unfoldable pub product : ℕ → ℕ → ℕ
  product a b = code q.base (times (polynomial a) (polynomial b))

  unfoldable pub power : ℕ → ℕ → ℕ
  power zero a = 1
  power (suc n) a = product a (power n a)

  -- The sum of a, a^t, a^(t·t) and so on: k terms.
  unfoldable pub trace : ℕ → ℕ → ℕ → ℕ
  trace t zero a = 0
  trace t (suc k) a = sum a (trace t k (power t a))

  -- For each c the trace of c a.
  unfoldable pub traces : ℕ → List ℕ → ℕ → List ℕ
  traces t cs a = map (λ c. trace t (length cs) (product c a)) cs

  -- A kind of field whose elements are the polynomials modulo q: twist is the t-th power and untwist the u-th.
  abbrev pub residues : ℕ → ℕ → ℕ → List ℕ → (ℕ → List ℕ) → Meaning
  residues number t u basis digits = record {
    number = number;
    size = q.base ^ degree;
    sum = sum;
    opposite = opposite;
    product = product;
    inverse = power (q.base ^ degree - 2);
    twist = power t;
    untwist = power u;
    width = length basis;
    basis = basis;
    digits = digits;
  }
