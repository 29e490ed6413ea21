-- A field of residues by the powers of one element g that every code but 0 is a power of: products are sums of exponents.
--
--   chain q g x ps            ps begins with x, and each entry is g times the one before
--   logged powers logs n a    entry a of logs is a place below n - 1 where powers holds a
--   Generator q g powers logs     powers holds 1, g, g², .. up to g^(Q-1) = 1, and logs the exponent of each code but 0
--   log logs a                the exponent of a
use Rattle.std.specs.Prelude.{◌≡◌, ℕ, zero, suc, ◌+◌, ◌-◌, ◌*◌, ◌/◌, ◌%◌, ◌<◌, ◌≤◌, Bool, true, T, List, [], ◌∷◌, length, ◌==◌, nat_lt, slice_index, slice_index_or}
use Rattle.std.proofs.Math.Path.{refl, ap}
use Rattle.std.proofs.Common.{sym, ap₂, ◌∙◌, subst, mul_comm, mod-lt, div-add-mod', arith, eqb→eq, ltb→lt}
use Rattle.fields.specs.Residues.{Modulus, product, power}
use Rattle.fields.specs.Range.{both, both_left, both_right, below, at, unless0, from0}
use Rattle.fields.specs.Rings.{Ring}
use Rattle.fields.specs.CodePowers.{power_code, power_add}
use Rattle.fields.specs.ResidueKinds.{size, Ordered, power_next, power_mul}

abbrev pub chain : Modulus → ℕ → ℕ → List ℕ → Bool
chain q g x [] = true
chain q g x (y ∷ ys) = both (x == y) (chain q g (product q g y) ys)

abbrev pub log : List ℕ → ℕ → ℕ
log logs a = slice_index logs a

abbrev pub logged : List ℕ → List ℕ → ℕ → ℕ → Bool
logged powers logs n a = both (slice_index powers (log logs a) == a) (nat_lt (log logs a) (n - 1))

pub record Generator (q : Modulus) (g : ℕ) (powers logs : List ℕ) : Type 0 where
  pub is_code : g < size q
  pub many : length powers ≡ size q
  pub chained : T (chain q g 1 powers)
  pub returns : slice_index_or powers (size q - 1) 0 ≡ 1
  pub each_logged : T (below (λ a. unless0 a (logged powers logs (size q) a)) (size q))

module _ {q : Modulus} (r : Ring q (size q)) where
  -- A power of 1 is 1.
  power_of_one : (n : ℕ) → power q n 1 ≡ 1
  unfolding power
  power_of_one zero = refl
  power_of_one (suc n) = ap (product q 1) (power_of_one n) ∙ r.product_one 1 r.one_code

  -- In a chain that begins with a power of g, entry i is the power i later.
  chain_from : (g n : ℕ) (ps : List ℕ) → T (chain q g (power q n g) ps) → (i : ℕ) → i < length ps → slice_index ps i ≡ power q (i + n) g
  chain_from g n [] t i h = absurd (omega arith)
  chain_from g n (p ∷ ps) t zero h = sym (eqb→eq _ _ (both_left (power q n g == p) (chain q g (product q g p) ps) t)) ∙ ap (λ k. power q k g) (omega arith)
  chain_from g n (p ∷ ps) t (suc i) h =
      let e : p ≡ power q n g = sym (eqb→eq _ _ (both_left (power q n g == p) (chain q g (product q g p) ps) t)) in
      let u = both_right (power q n g == p) (chain q g (product q g p) ps) t in
      chain_from g (suc n) ps (subst (λ x. T (chain q g x ps)) (ap (product q g) e ∙ sym (power_next q r n g)) u) i (omega arith) ∙ ap (λ k. power q k g) (omega arith)

  -- In a chain that begins with 1, entry i is the i-th power of g.
  pub chain_power : (g : ℕ) (ps : List ℕ) → T (chain q g 1 ps) → (i : ℕ) → i < length ps → slice_index ps i ≡ power q i g
  unfolding power
  chain_power g ps t i h = chain_from g 0 ps t i h ∙ ap (λ k. power q k g) (omega arith)

module _ {q : Modulus} {g : ℕ} {powers logs : List ℕ} (r : Ring q (size q)) (made : Generator q g powers logs) where
  -- Entry i of powers is the i-th power of g.
  pub powers_at : (i : ℕ) → i < size q → slice_index powers i ≡ power q i g
  powers_at i h = chain_power r g powers made.chained i (subst (λ n. i < n) (sym made.many) h)

  -- g to the power Q - 1 is 1.
  whole : power q (size q - 1) g ≡ 1
  whole = sym (powers_at (size q - 1) (omega (arith, r.one_code))) ∙ made.returns

  -- What was tested of the exponent of a.
  at_log : (a : ℕ) → a < size q → 0 < a → T (logged powers logs (size q) a)
  at_log a h p = from0 a _ p (at (λ a. unless0 a (logged powers logs (size q) a)) (size q) made.each_logged a h)

  -- The exponent of a code but 0 is below Q - 1,
  pub log_below : (a : ℕ) → a < size q → 0 < a → log logs a < size q - 1
  log_below a h p = ltb→lt _ _ (both_right (slice_index powers (log logs a) == a) (nat_lt (log logs a) (size q - 1)) (at_log a h p))

  -- and the code is that power of g.
  pub power_log : (a : ℕ) → a < size q → 0 < a → power q (log logs a) g ≡ a
  power_log a h p =
      sym (powers_at (log logs a) (omega (arith, log_below a h p)))
      ∙ eqb→eq _ _ (both_left (slice_index powers (log logs a) == a) (nat_lt (log logs a) (size q - 1)) (at_log a h p))

  -- So each of them to the power Q - 1 is 1.
  pub generated_order : Ordered q r
  generated_order a h p =
      ap (power q (size q - 1)) (sym (power_log a h p)) ∙ power_mul q r (size q - 1) (log logs a) g made.is_code
      ∙ ap (λ k. power q k g) (mul_comm (log logs a) (size q - 1)) ∙ sym (power_mul q r (log logs a) (size q - 1) g made.is_code)
      ∙ ap (power q (log logs a)) whole ∙ power_of_one r (log logs a)

  -- Exponents count modulo Q - 1.
  pub power_at : (n : ℕ) → power q n g ≡ slice_index powers (n % (size q - 1))
  power_at n =
      let k = size q - 1 in
      let rest : n % k < k = mod-lt n (omega (arith, r.one_code)) in
      let turns : power q (n / k * k) g ≡ 1 =
      ap (λ i. power q i g) (mul_comm (n / k) k) ∙ sym (power_mul q r (n / k) k g made.is_code) ∙ ap (power q (n / k)) whole ∙ power_of_one r (n / k) in
      let c = power_code q (size q) r (n % k) g made.is_code in
      ap (λ i. power q i g) (sym (div-add-mod' n k)) ∙ sym (power_add q (size q) r (n / k * k) (n % k) g made.is_code)
      ∙ ap (λ x. product q x (power q (n % k) g)) turns ∙ r.product_comm 1 (power q (n % k) g) r.one_code c ∙ r.product_one (power q (n % k) g) c
      ∙ sym (powers_at (n % k) (omega arith))

  -- A product is the power with the sum of the exponents,
  pub product_power : (a b : ℕ) → a < size q → b < size q → 0 < a → 0 < b → product q a b ≡ power q (log logs a + log logs b) g
  product_power a b ha hb pa pb =
      sym (ap₂ (product q) (power_log a ha pa) (power_log b hb pb)) ∙ power_add q (size q) r (log logs a) (log logs b) g made.is_code

  -- as the list of powers has it,
  pub product_at : (a b : ℕ) → a < size q → b < size q → 0 < a → 0 < b → product q a b ≡ slice_index powers ((log logs a + log logs b) % (size q - 1))
  product_at a b ha hb pa pb = product_power a b ha hb pa pb ∙ power_at (log logs a + log logs b)

  -- or, with no remainder to take, a list twice as long.
  pub product_doubled :
      (doubled : List ℕ) → T (chain q g 1 doubled) → 2 * (size q - 1) ≤ length doubled
      → (a b : ℕ) → a < size q → b < size q → 0 < a → 0 < b → product q a b ≡ slice_index doubled (log logs a + log logs b)
  product_doubled doubled t n a b ha hb pa pb =
      product_power a b ha hb pa pb
      ∙ sym (chain_power r g doubled t (log logs a + log logs b) (omega (arith, log_below a ha pa, log_below b hb pb)))

  -- A power of a code but 0.
  pub power_of_at : (n a : ℕ) → a < size q → 0 < a → power q n a ≡ slice_index powers ((n * log logs a) % (size q - 1))
  power_of_at n a h p =
      ap (power q n) (sym (power_log a h p)) ∙ power_mul q r n (log logs a) g made.is_code ∙ ap (λ k. power q k g) (mul_comm (log logs a) n)
      ∙ power_at (n * log logs a)
