-- Traces of codes keep sums where the power that they repeat does.
use Rattle.std.proofs.Common.{◌≡◌, ℕ, suc, ◌<◌, sym, ap, ◌∙◌, arith}
use Rattle.fields.specs.Residues.{Modulus, sum, product, power, trace}
use Rattle.fields.specs.Rings.{Ring}
use Rattle.fields.specs.CodePowers.{power_code, trace_code}

module _ (q : Modulus) (size : ℕ) (r : Ring q size) where
  zero_code : 0 < size
  zero_code = omega (arith, r.one_code)

  -- Of two sums the middle terms can change places.
  sum_swap : (a b c d : ℕ) → a < size → b < size → c < size → d < size → sum q (sum q a b) (sum q c d) ≡ sum q (sum q a c) (sum q b d)
  sum_swap a b c d ha hb hc hd =
      r.sum_assoc a b (sum q c d) ha hb (r.sum_code c d hc hd)
      ∙ ap (sum q a) (sym (r.sum_assoc b c d hb hc hd) ∙ ap (λ x. sum q x d) (r.sum_comm b c hb hc) ∙ r.sum_assoc c b d hc hb hd)
      ∙ sym (r.sum_assoc a c (sum q b d) ha hc (r.sum_code b d hb hd))

  module _ (t : ℕ) (additive : (a b : ℕ) → a < size → b < size → power q t (sum q a b) ≡ sum q (power q t a) (power q t b)) where
    -- A trace keeps sums,
    pub trace_sum : (k a b : ℕ) → a < size → b < size → trace q t k (sum q a b) ≡ sum q (trace q t k a) (trace q t k b)
    unfolding trace
    trace_sum ℕ.zero a b ha hb = sym (r.sum_zero 0 zero_code)
    trace_sum (suc k) a b ha hb =
        let pa = power_code q size r t a ha in
        let pb = power_code q size r t b hb in
        ap (λ x. sum q (sum q a b) (trace q t k x)) (additive a b ha hb) ∙ ap (sum q (sum q a b)) (trace_sum k (power q t a) (power q t b) pa pb)
        ∙ sum_swap a b (trace q t k (power q t a)) (trace q t k (power q t b)) ha hb (trace_code q size r t k (power q t a) pa) (trace_code q size r t k (power q t b) pb)

    -- and so does the trace of c a, in a.
    pub trace_product_sum : (k c a b : ℕ) → c < size → a < size → b < size
        → trace q t k (product q c (sum q a b)) ≡ sum q (trace q t k (product q c a)) (trace q t k (product q c b))
    trace_product_sum k c a b hc ha hb =
        ap (trace q t k) (r.product_sum c a b hc ha hb) ∙ trace_sum k (product q c a) (product q c b) (r.product_code c a hc ha) (r.product_code c b hc hb)
