-- Over the integers modulo 2 the sum of codes is the exclusive or of their bits, and a round of the product chooses x or
-- nothing. `Rounds` has the glossary.
use Rattle.std.proofs.Common.{◌≡◌, ℕ, zero, suc, ◌+◌, ◌-◌, ◌*◌, ◌/◌, ◌%◌, ◌^◌, ◌<◌, cond, eqb, sym, refl, ap, ◌∙◌, subst, ap₂, mod-lt, div-lt_iff_lt-mul, pow-suc, arith, lit<, eqb→eq}
use Rattle.std.proofs.Math.Arith.{lt-one}
use Prim.Native.Nat.{differ}
use Rattle.std.specs.Int.Bits.{bit_xor, xor_step}
use Rattle.fields.specs.Residues.{coefficients, code, plus, scale, Modulus, degree, polynomial, sum, opposite, raised}
use Rattle.fields.specs.Shipped.{modulus256}
use Rattle.fields.specs.Range.{at}
use Rattle.fields.specs.Coefficients.{scale_zero, scale_one, code_zeros, code_coefficients}
use Rattle.fields.specs.Rings.{polynomial_reduced}
use Rattle.fields.proofs.Rounds.{scaled, rounds, scaled_code, rounds_code, rounds_more}

-- The sum of two bits modulo 2 says whether they differ.
bits_differ : (x y : ℕ) → x < 2 → y < 2 → (x + y) % 2 ≡ differ x y
bits_differ zero zero hx hy = refl
bits_differ zero (suc zero) hx hy = refl
bits_differ (suc zero) zero hx hy = refl
bits_differ (suc zero) (suc zero) hx hy = refl
bits_differ (suc (suc x)) y hx hy = let z : ⊥ = omega arith in absurd z
bits_differ zero (suc (suc y)) hx hy = let z : ⊥ = omega arith in absurd z
bits_differ (suc zero) (suc (suc y)) hx hy = let z : ⊥ = omega arith in absurd z

-- The sum of the lowest d bits, coded again, is the exclusive or.
bits_xor : (d a b : ℕ) → a < 2 ^ d → b < 2 ^ d → code 2 (plus 2 (coefficients 2 d a) (coefficients 2 d b)) ≡ bit_xor a b
bits_xor zero a b ha hb = sym (ap₂ bit_xor (lt-one ha) (lt-one hb))
bits_xor (suc d) a b ha hb =
    ap₂ (λ m n. m * 2 + n) (bits_xor d (a / 2) (b / 2) (half a ha) (half b hb)) (bits_differ (a % 2) (b % 2) (mod-lt a (lit< tt)) (mod-lt b (lit< tt)))
    ∙ sym (xor_step a b)
  where
    half : (n : ℕ) → n < 2 ^ suc d → n / 2 < 2 ^ d
    half n h = (div-lt_iff_lt-mul (lit< tt)).1 (subst (λ m. n < m) (pow-suc 2 d) h)

module _ (q : Modulus) (two : q.base ≡ 2) where
  -- The sum of codes is the exclusive or of their bits.
  pub sum_xor : (a b : ℕ) → a < 2 ^ degree q → b < 2 ^ degree q → sum q a b ≡ bit_xor a b
  unfolding sum
  sum_xor a b ha hb =
      subst (λ p. code p (plus p (coefficients p (degree q) a) (coefficients p (degree q) b)) ≡ bit_xor a b) (sym two) (bits_xor (degree q) a b ha hb)

  pos : 0 < q.base
  pos = subst (λ p. 0 < p) (sym two) (lit< tt)

  -- A code below base ^ degree is below 2 ^ degree, and the other way round.
  size : (P : ℕ → Type 0) → P (q.base ^ degree q) → P (2 ^ degree q)
  size P = subst (λ p. P (p ^ degree q)) two

  -- Every code is its own opposite.
  pub opposite_same : (a : ℕ) → a < 2 ^ degree q → opposite q a ≡ a
  unfolding opposite
  opposite_same a h =
      ap (λ p. code q.base (scale q.base (p - 1) (polynomial q a))) two ∙ ap (code q.base) (scale_one q.base (polynomial_reduced q pos a))
      ∙ code_coefficients q.base pos (degree q) a (subst (λ p. a < p ^ degree q) (sym two) h)

  -- A bit times x is x or nothing.
  scaled_bit : (c x : ℕ) → c < 2 → x < 2 ^ degree q → scaled q c x ≡ cond (eqb c 1) x 0
  unfolding scaled
  scaled_bit zero x hc hx = ap (code q.base) (scale_zero q.base (polynomial_reduced q pos x)) ∙ code_zeros q.base (degree q)
  scaled_bit (suc zero) x hc hx =
      ap (code q.base) (scale_one q.base (polynomial_reduced q pos x))
      ∙ code_coefficients q.base pos (degree q) x (subst (λ p. x < p ^ degree q) (sym two) hx)
  scaled_bit (suc (suc c)) x hc hx = let z : ⊥ = omega arith in absurd z

  -- One round adds x if the lowest bit of y is 1, and the others go on with z x and the other bits.
  pub rounds_xor : (k x y : ℕ) → x < 2 ^ degree q → rounds q (suc k) x y ≡ bit_xor (cond (eqb (y % 2) 1) x 0) (rounds q k (raised q x) (y / 2))
  rounds_xor k x y h =
      rounds_more q pos k x y
      ∙ ap (λ p. sum q (scaled q (y % p) x) (rounds q k (raised q x) (y / p))) two
      ∙ sum_xor (scaled q (y % 2) x) (rounds q k (raised q x) (y / 2))
      (size (λ n. scaled q (y % 2) x < n) (scaled_code q pos (y % 2) x))
      (size (λ n. rounds q k (raised q x) (y / 2) < n) (rounds_code q pos k (raised q x) (y / 2)))
      ∙ ap (λ a. bit_xor a (rounds q k (raised q x) (y / 2))) (scaled_bit (y % 2) x (mod-lt y (lit< tt)) h)

-- z a modulo z^8 + z^4 + z^3 + z^2 + 1 is a moved up by one bit, and the modulus taken away where a ninth bit stands.
pub raised256 : (a : ℕ) → a < 256 → raised modulus256 a ≡ bit_xor ((a * 2) % 256) (29 * (a / 128))
unfolding raised
raised256 a h = eqb→eq _ _ (at (λ a. eqb (raised modulus256 a) (bit_xor ((a * 2) % 256) (29 * (a / 128)))) 256 tt a h)
