-- Powers and traces of the codes of a ring: they are codes, and the exponents add.
--
--   power q n a    the n-th power of the code a
--   r : Ring q size    the rules of the codes below size
use Rattle.std.specs.Prelude.{◌≡◌, ℕ, zero, suc, ◌+◌, ◌<◌}
use Rattle.std.proofs.Math.Path.{sym, ap}
use Rattle.std.proofs.Common.{◌∙◌, zero-add, suc-add, le_of_lt, lt_of_lt_of_le, lit<}
use Rattle.fields.specs.Residues.{Modulus, product, power, trace}
use Rattle.fields.specs.Rings.{Ring}

module _ (q : Modulus) (size : ℕ) (r : Ring q size) where
  -- A power of a code is a code.
  pub power_code : (n a : ℕ) → a < size → power q n a < size
  unfolding power
  power_code zero a h = r.one_code
  power_code (suc n) a h = r.product_code a (power q n a) h (power_code n a h)

  -- And so is a trace of one.
  pub trace_code : (t k a : ℕ) → a < size → trace q t k a < size
  unfolding trace
  trace_code t zero a h = lt_of_lt_of_le (lit< tt) (le_of_lt r.one_code)
  trace_code t (suc k) a h = r.sum_code a (trace q t k (power q t a)) h (trace_code t k (power q t a) (power_code t a h))

  -- The product of two powers of a.
  pub power_add : (m n a : ℕ) → a < size → product q (power q m a) (power q n a) ≡ power q (m + n) a
  unfolding power
  power_add zero n a h =
      r.product_comm 1 (power q n a) r.one_code (power_code n a h) ∙ r.product_one (power q n a) (power_code n a h) ∙ ap (λ k. power q k a) (sym (zero-add n))
  power_add (suc m) n a h =
      r.product_assoc a (power q m a) (power q n a) h (power_code m a h) (power_code n a h)
      ∙ ap (product q a) (power_add m n a h) ∙ ap (λ k. power q k a) (sym (suc-add m n))

  -- (a b) (c d) = (a c) (b d)
  product_swap : (a b c d : ℕ) → a < size → b < size → c < size → d < size → product q (product q a b) (product q c d) ≡ product q (product q a c) (product q b d)
  product_swap a b c d ha hb hc hd =
      r.product_assoc a b (product q c d) ha hb (r.product_code c d hc hd)
      ∙ ap (product q a)
      (sym (r.product_assoc b c d hb hc hd) ∙ ap (λ x. product q x d) (r.product_comm b c hb hc) ∙ r.product_assoc c b d hc hb hd)
      ∙ sym (r.product_assoc a c (product q b d) ha hc (r.product_code b d hb hd))

  -- A power of a product is the product of the powers.
  pub power_product : (n a b : ℕ) → a < size → b < size → power q n (product q a b) ≡ product q (power q n a) (power q n b)
  unfolding power
  power_product zero a b ha hb = sym (r.product_one 1 r.one_code)
  power_product (suc n) a b ha hb =
      ap (product q (product q a b)) (power_product n a b ha hb) ∙ product_swap a b (power q n a) (power q n b) ha hb (power_code n a ha) (power_code n b hb)
