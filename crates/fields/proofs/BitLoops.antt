-- The loops over bits: the product by shifts, and additive maps by their images.
use Rattle.std.proofs.Common.{◌≡◌, ℕ, suc, ◌+◌, ◌-◌, ◌*◌, ◌/◌, ◌%◌, ◌<◌, ◌≤◌, cond, eqb, List, drop, sym, refl, ap, ◌∙◌, subst, ap₂, mod-lt, mod-eq_of_lt, arith, lit<}
use Rattle.std.specs.Int.Bits.{bit_and, bit_xor, xor_assoc, xor_zero_l, xor_zero_r}
use Rattle.std.proofs.lemmas.Nat.{and_mask, and_comm}
use Rattle.fields.specs.Residues.{raised, product}
use Rattle.fields.specs.Shipped.{modulus256}
use Rattle.fields.specs.Additive.{spread}
use Rattle.fields.proofs.Rounds.{rounds, rounds_all, rounds_none, raised_code}
use Rattle.fields.proofs.Binary.{rounds_xor, raised256}

-- A mask of ones keeps a byte, and one of zeros clears it.
masked_by : (x b : ℕ) → x < 256 → b < 2 → bit_and x ((0 + (256 - b)) % 256) ≡ cond (eqb b 1) x 0
masked_by x ℕ.zero h k = and_comm x 0
masked_by x (suc ℕ.zero) h k = and_mask x 8 ∙ mod-eq_of_lt h
masked_by x (suc (suc b)) h k = let z : ⊥ = omega arith in absurd z

pub masked : (x c : ℕ) → x < 256 → bit_and x ((0 + (256 - bit_and c 1)) % 256) ≡ cond (eqb (c % 2) 1) x 0
masked x c h = ap (λ b. bit_and x ((0 + (256 - b)) % 256)) (and_mask c 1) ∙ masked_by x (c % 2) h (mod-lt c (lit< tt))

-- The highest bit of a byte chooses what z^8 comes to.
high_bit : (b : ℕ) → b < 2 → cond (eqb (b % 2) 1) 29 0 ≡ 29 * b
high_bit ℕ.zero h = refl
high_bit (suc ℕ.zero) h = refl
high_bit (suc (suc b)) h = let z : ⊥ = omega arith in absurd z

pub doubled : (a c : ℕ) → a < 256 → c ≡ cond (eqb (a / 128 % 2) 1) 29 0 → bit_xor ((a * 2) % 256) c ≡ raised modulus256 a
doubled a c h e = ap (bit_xor ((a * 2) % 256)) (e ∙ high_bit (a / 128) (omega arith)) ∙ sym (raised256 a h)

-- After i rounds the sum and what the other rounds add make the product.
pub record Multiplying (a b i sum x y : ℕ) : Type 0 where
  pub byte : x < 256
  pub whole : bit_xor sum (rounds modulus256 (8 - i) x y) ≡ product modulus256 a b

pub times_starts : (a b : ℕ) → a < 256 → Multiplying a b 0 0 a b
times_starts a b h = record { byte = h; whole = xor_zero_l (rounds modulus256 8 a b) ∙ rounds_all modulus256 a b }

pub times_goes_on : {a b i s x y c x' : ℕ} → i < 8 → Multiplying a b i s x y → c ≡ cond (eqb (y % 2) 1) x 0 → x' ≡ raised modulus256 x
    → Multiplying a b (i + 1) (bit_xor s c) x' (y / 2)
times_goes_on {a} {b} {i} {s} {x} {y} {c} {x'} h w ec ex = record {
  byte = subst (λ n. n < 256) (sym ex) (raised_code modulus256 (lit< tt) x);
  whole = xor_assoc s c (rounds modulus256 (8 - (i + 1)) x' (y / 2))
      ∙ ap (bit_xor s) (ap₂ (λ u v. bit_xor u (rounds modulus256 (8 - (i + 1)) v (y / 2))) ec ex ∙ sym (rounds_xor modulus256 refl (8 - (i + 1)) x y w.byte))
      ∙ ap (λ k. bit_xor s (rounds modulus256 k x y)) (let k : suc (8 - (i + 1)) ≡ 8 - i = omega arith in k) ∙ w.whole;
}

pub times_ends : {a b i s x y : ℕ} → 8 ≤ i → Multiplying a b i s x y → s ≡ product modulus256 a b
times_ends {a} {b} {i} {s} {x} {y} h w =
    sym (xor_zero_r s) ∙ sym (ap (bit_xor s) (ap (λ k. rounds modulus256 k x y) (let k : 8 - i ≡ 0 = omega arith in k) ∙ rounds_none modulus256 x y)) ∙ w.whole

-- After i images the sum and what the other bits choose make the whole.
pub record Mapping (images : List ℕ) (a i sum y : ℕ) : Type 0 where
  pub whole : bit_xor sum (spread (drop i images) y) ≡ spread images a
