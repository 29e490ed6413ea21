-- A map of bytes that keeps exclusive or is the one that its values at 1, 2, 4, .., 128 spread.
use Rattle.std.proofs.Common.{◌≡◌, ℕ, suc, ◌+◌, ◌*◌, ◌/◌, ◌%◌, ◌^◌, ◌<◌, ◌≤◌, cond, eqb, List, [], ◌∷◌, sym, refl, ap, ◌∙◌, subst, ap₂, lt_of_lt_of_le, mod-lt, mul_assoc, mul_comm, div-lt_iff_lt-mul, add-mul, mul-lt-mul_of_pos_right, one-mul, pow-suc, div-add-mod', zero-mul, mul-one, arith, lit<, pow_mono}
use Rattle.std.specs.Int.Bits.{bit_xor, xor_shifted}
use Rattle.std.proofs.lemmas.Nat.{xor_comm}
use Rattle.std.proofs.lemmas.Nat.{pow_pos, pow-add}
use Rattle.fields.specs.Additive.{spread}

-- f keeps exclusive or on bytes.
pub record KeepsXor (f : ℕ → ℕ) : Type 0 where
  pub at_zero : f 0 ≡ 0
  pub at_xor : (a b : ℕ) → a < 256 → b < 256 → f (bit_xor a b) ≡ bit_xor (f a) (f b)

-- The values of f at 2^j, 2^(j + 1) and so on: k of them.
abbrev pub images : (ℕ → ℕ) → ℕ → ℕ → List ℕ
images f ℕ.zero j = []
images f (suc k) j = f (2 ^ j) ∷ images f k (suc j)

-- One bit at the place j.
one_bit : (f : ℕ → ℕ) → KeepsXor f → (b j : ℕ) → b < 2 → f (b * 2 ^ j) ≡ cond (eqb b 1) (f (2 ^ j)) 0
one_bit f w ℕ.zero j h = ap f (zero-mul (2 ^ j)) ∙ w.at_zero
one_bit f w (suc ℕ.zero) j h = ap f (one-mul (2 ^ j))
one_bit f w (suc (suc b)) j h = let z : ⊥ = omega arith in absurd z

-- y at the place j is its lowest bit there and the others one place higher.
halves : (y j : ℕ) → bit_xor (y / 2 * 2 ^ suc j) (y % 2 * 2 ^ j) ≡ y * 2 ^ j
halves y j =
    let p : 2 ^ suc j ≡ 2 ^ j * 2 = pow-suc 2 j in
    let low : y % 2 * 2 ^ j < 2 ^ suc j = subst (λ n. y % 2 * 2 ^ j < n) (mul_comm 2 (2 ^ j) ∙ sym p) (mul_small (y % 2) (mod-lt y (lit< tt))) in
    xor_shifted (y / 2) (suc j) (y % 2 * 2 ^ j) low
    ∙ ap (λ n. y / 2 * n + y % 2 * 2 ^ j) (p ∙ mul_comm (2 ^ j) 2) ∙ ap (λ n. n + y % 2 * 2 ^ j) (sym (mul_assoc (y / 2) 2 (2 ^ j)))
    ∙ sym (add-mul (y / 2 * 2) (y % 2) (2 ^ j)) ∙ ap (λ n. n * 2 ^ j) (div-add-mod' y 2)
  where
    mul_small : (b : ℕ) → b < 2 → b * 2 ^ j < 2 * 2 ^ j
    mul_small b h = mul-lt-mul_of_pos_right h (pow_pos j)

spreads_from : (f : ℕ → ℕ) → KeepsXor f → (k j y : ℕ) → k + j ≡ 8 → y < 2 ^ k → f (y * 2 ^ j) ≡ spread (images f k j) y
spreads_from f w ℕ.zero j y e h = let z : y ≡ 0 = omega arith in ap (λ n. f (n * 2 ^ j)) z ∙ ap f (zero-mul (2 ^ j)) ∙ w.at_zero
spreads_from f w (suc k) j y e h =
    let half : y / 2 < 2 ^ k = (div-lt_iff_lt-mul (lit< tt)).1 (subst (λ n. y < n) (pow-suc 2 k) h) in
    let high : y / 2 * 2 ^ suc j < 256 = below (y / 2) (suc j) k half (omega arith) in
    let low : y % 2 * 2 ^ j < 256 = below (y % 2) j 1 (mod-lt y (lit< tt)) (omega arith) in
    ap f (sym (halves y j)) ∙ w.at_xor (y / 2 * 2 ^ suc j) (y % 2 * 2 ^ j) high low
    ∙ xor_comm (f (y / 2 * 2 ^ suc j)) (f (y % 2 * 2 ^ j))
    ∙ ap₂ bit_xor (one_bit f w (y % 2) j (mod-lt y (lit< tt))) (spreads_from f w k (suc j) (y / 2) (omega arith) half)
  where
    below : (x i n : ℕ) → x < 2 ^ n → n + i ≤ 8 → x * 2 ^ i < 256
    below x i n hx hn =
        lt_of_lt_of_le (subst (λ m. x * 2 ^ i < m) (sym (pow-add 2 n i)) (mul-lt-mul_of_pos_right hx (pow_pos i))) (pow_mono {i = n + i} {j = 8} hn)

pub additive_spread : (f : ℕ → ℕ) → KeepsXor f → (a : ℕ) → a < 256 → f a ≡ spread (images f 8 0) a
additive_spread f w a h = ap f (sym (mul-one a)) ∙ spreads_from f w 8 0 a refl h
