-- What the calls of the brought kind answer is what its meaning says: the rules of its tables, and sums by exclusive or.
use Rattle.std.proofs.Common.{◌≡◌, ℕ, suc, ◌+◌, ◌-◌, ◌*◌, ◌%◌, ◌<◌, cond, T, eqb, ltb, ◌⊎◌, [], ◌∷◌, get_or, Some, None, sym, refl, ap, ◌∙◌, ap₂, inl, inr, mod-lt, arith, lit<, lit≤, eqb→eq}
use Rattle.std.proofs.Math.Nat.{mod-mod}
use Rattle.std.specs.Int.Bits.{bit_xor}
use Rattle.std.proofs.lemmas.Bool.{cond-true, lt-ltb}
use Rattle.fields.specs.Meaning.{clip, inverted, digit_row}
use Rattle.fields.specs.Residues.{sum, opposite, product, power, trace, traces}
use Rattle.fields.specs.Shipped.{modulus256}
use Rattle.fields.specs.Range.{at, unless0, from0}
use Rattle.fields.specs.Rings.{ring256}
use Rattle.fields.specs.CodePowers.{power_code}
use Rattle.fields.proofs.Binary.{sum_xor, opposite_same}
use Rattle.fields.specs.ResidueKinds.{power_zero}
use Rattle.fields.specs.Generators.{chain, chain_power, log_below, power_at, product_doubled, power_of_at}
use Rattle.fields.specs.Tables256.{powers256, logs256}
use Rattle.fields.specs.ShippedLaws.{generator256}
use Rattle.brought.specs.Over16.{over16}
use Rattle.brought.specs.declared.tables.TheConstants.{POWERS, TWISTS}

-- Every byte is a code.
clipped : (a : ℕ) → a < 256 → clip over16 a ≡ a
clipped a h = cond-true (ltb a 256) a 0 (lt-ltb a 256 h)

-- The rule of the table of powers, tested over the whole table: each entry is 2 times the one before.
powers_double : T (chain modulus256 2 1 POWERS)
unfolding product
powers_double = tt

-- So entry i is the i-th power of 2.
power_entry : (i : ℕ) → i < 511 → get_or POWERS i 0 ≡ power modulus256 i 2
power_entry = chain_power ring256 2 POWERS powers_double

-- Products by logarithms.
pub times_rule : (a b : ℕ) → a < 256 → b < 256 → 0 < a → 0 < b → get_or POWERS (get_or logs256 a 0 + get_or logs256 b 0) 0 ≡ product modulus256 a b
times_rule a b ha hb pa pb = sym (product_doubled ring256 generator256 POWERS powers_double (lit≤ tt) a b ha hb pa pb)

pub times_zero : (a b : ℕ) → a < 256 → b < 256 → (a ≡ 0) ⊎ (b ≡ 0) → 0 ≡ product modulus256 a b
times_zero a b ha hb (inl e) = sym (ap (λ x. product modulus256 x b) e ∙ ring256.product_comm 0 b (lit< tt) hb ∙ ring256.product_zero b hb)
times_zero a b ha hb (inr e) = sym (ap (product modulus256 a) e ∙ ring256.product_zero a ha)

-- A power by logarithms: the exponents are multiplied, modulo 255.
power_rule : (n i a : ℕ) → a < 256 → 0 < a → i < 511 → i % 255 ≡ (n * get_or logs256 a 0) % 255 → get_or POWERS i 0 ≡ power modulus256 n a
power_rule n i a h p hi e =
    power_entry i hi ∙ power_at ring256 generator256 i ∙ ap (λ k. get_or powers256 k 0) e ∙ sym (power_of_at ring256 generator256 n a h p)

-- The rule of the table of twists, tested over the whole table: the entry of a has 16 times the exponent of a.
twist_entry : (a : ℕ) → a < 256 → 0 < a → get_or TWISTS a 0 ≡ get_or POWERS ((16 * get_or logs256 a 0) % 255) 0
twist_entry a h p = eqb→eq _ _ (from0 a _ p (at (λ a. unless0 a (eqb (get_or TWISTS a 0) (get_or POWERS ((16 * get_or logs256 a 0) % 255) 0))) 256 tt a h))

-- So it is the 16th power of a.
pub sixteenth_rule : (a : ℕ) → a < 256 → get_or TWISTS a 0 ≡ power modulus256 16 a
sixteenth_rule ℕ.zero h = sym (power_zero modulus256 ring256 16 (lit< tt))
sixteenth_rule (suc n) h =
    let a = suc n in
    let k : (16 * get_or logs256 a 0) % 255 < 255 = mod-lt (16 * get_or logs256 a 0) (lit< tt) in
    twist_entry a h (omega arith) ∙ power_rule 16 ((16 * get_or logs256 a 0) % 255) a h (omega arith) (omega arith) (mod-mod (16 * get_or logs256 a 0) 255)

-- 254 times an exponent and 255 less the exponent are the same modulo 255.
around : (l : ℕ) → l < 255 → (255 - l) % 255 ≡ (254 * l) % 255
around l h = eqb→eq _ _ (at (λ l. eqb ((255 - l) % 255) ((254 * l) % 255)) 255 tt l h)

pub inverse_answers : (a : ℕ) → a < 256 → 0 < a → Some (get_or POWERS (255 - get_or logs256 a 0) 0) ≡ inverted over16 a
inverse_answers a h p =
    ap Some (power_rule 254 (255 - get_or logs256 a 0) a h p (omega arith) (around (get_or logs256 a 0) (log_below ring256 generator256 a h p)))
    ∙ sym (cond-true (ltb 0 a) (Some (power modulus256 254 a)) None (lt-ltb 0 a p))
    ∙ ap (λ x. cond (ltb 0 x) (Some (power modulus256 254 x)) None) (sym (clipped a h))

pub sum_answers : (a b : ℕ) → a < 256 → b < 256 → bit_xor a b ≡ sum modulus256 (clip over16 a) (clip over16 b)
sum_answers a b ha hb = sym (ap₂ (sum modulus256) (clipped a ha) (clipped b hb) ∙ sum_xor modulus256 refl a b ha hb)

pub opposite_answers : (a : ℕ) → a < 256 → a ≡ opposite modulus256 (clip over16 a)
opposite_answers a h = sym (ap (opposite modulus256) (clipped a h) ∙ opposite_same modulus256 refl a h)

-- The trace of x is x plus its 16th power.
trace_two : (x : ℕ) → x < 256 → bit_xor x (power modulus256 16 x) ≡ trace modulus256 16 2 x
unfolding trace
trace_two x h =
    let k = power_code modulus256 256 ring256 16 x h in
    sym (ap (sum modulus256 x) (ring256.sum_zero (power modulus256 16 x) k) ∙ sum_xor modulus256 refl x (power modulus256 16 x) h k)

-- One digit.
digit : (c a x y : ℕ) → c < 256 → a < 256 → x ≡ product modulus256 c a → y ≡ power modulus256 16 x → bit_xor x y ≡ trace modulus256 16 2 (product modulus256 c (clip over16 a))
digit c a x y hc h ex ey =
    ap (bit_xor x) (ey ∙ ap (power modulus256 16) ex) ∙ ap (λ n. bit_xor n (power modulus256 16 (product modulus256 c a))) ex
    ∙ trace_two (product modulus256 c a) (ring256.product_code c a hc h) ∙ ap (λ n. trace modulus256 16 2 (product modulus256 c n)) (sym (clipped a h))

pub digits_answer : (a x x' y y' : ℕ) → a < 256 → x ≡ product modulus256 139 a → x' ≡ power modulus256 16 x → y ≡ product modulus256 69 a → y' ≡ power modulus256 16 y
    → bit_xor x x' ∷ bit_xor y y' ∷ 0 ∷ 0 ∷ 0 ∷ 0 ∷ 0 ∷ 0 ∷ [] ≡ digit_row over16 a
unfolding traces
digits_answer a x x' y y' h ex ex' ey ey' =
    ap₂ (λ u v. u ∷ v ∷ 0 ∷ 0 ∷ 0 ∷ 0 ∷ 0 ∷ 0 ∷ []) (digit 139 a x x' (lit< tt) h ex ex') (digit 69 a y y' (lit< tt) h ey ey')

-- What the check takes for the calls of the kind.
pub ruleset answers = (times_rule, times_zero, sixteenth_rule, inverse_answers, sum_answers, opposite_answers, digits_answer)
