-- What the calls of kind 1 answer is what its meaning says.
use Rattle.std.proofs.Common.{◌≡◌, ℕ, ◌<◌, ltb, [], ◌∷◌, sym, refl, ap, ◌∙◌, ap₂, lit<, lit≤}
use Rattle.std.specs.Int.Bits.{bit_xor}
use Rattle.std.proofs.lemmas.Bool.{cond-true, lt-ltb}
use Rattle.fields.specs.Meaning.{clip, digit_row}
use Rattle.fields.specs.Residues.{sum, opposite, product, power, trace, traces}
use Rattle.fields.specs.Shipped.{modulus256, gf256}
use Rattle.fields.specs.Additive.{spread}
use Rattle.fields.specs.declared.bits.TheConstants.{FOURTH, SIXTY_FOURTH, DIGIT_1, DIGIT_2, DIGIT_3, DIGIT_4}
use Rattle.fields.specs.Rings.{ring256}
use Rattle.fields.specs.CodePowers.{power_code, trace_code}
use Rattle.fields.proofs.Binary.{sum_xor, opposite_same}
use Rattle.fields.specs.ResidueKinds.{Additive, powers_additive}
use Rattle.fields.proofs.BitLoops.{masked, doubled, times_starts, times_goes_on, times_ends}
use Rattle.fields.proofs.CodeTraces.{trace_product_sum}
use Rattle.fields.specs.ShippedLaws.{order256, fourths256}
use Rattle.fields.proofs.Additive.{KeepsXor, images, additive_spread}

-- Every byte is a code.
pub clip256 : (a : ℕ) → a < 256 → clip gf256 a ≡ a
clip256 a h = cond-true (ltb a 256) a 0 (lt-ltb a 256 h)

pub sum_answers : (a b : ℕ) → a < 256 → b < 256 → bit_xor a b ≡ sum modulus256 (clip gf256 a) (clip gf256 b)
sum_answers a b ha hb = sym (ap₂ (sum modulus256) (clip256 a ha) (clip256 b hb) ∙ sum_xor modulus256 refl a b ha hb)

pub opposite_answers : (a : ℕ) → a < 256 → a ≡ opposite modulus256 (clip gf256 a)
opposite_answers a h = sym (ap (opposite modulus256) (clip256 a h) ∙ opposite_same modulus256 refl a h)

-- A map of codes to codes that keeps sums keeps exclusive or.
keeps_xor : (f : ℕ → ℕ) → f 0 ≡ 0 → ((a : ℕ) → a < 256 → f a < 256) → ((a b : ℕ) → a < 256 → b < 256 → f (sum modulus256 a b) ≡ sum modulus256 (f a) (f b)) → KeepsXor f
keeps_xor f z c s = record {
  at_zero = z;
  at_xor = λ a b ha hb. ap f (sym (sum_xor modulus256 refl a b ha hb)) ∙ s a b ha hb ∙ sum_xor modulus256 refl (f a) (f b) (c a ha) (c b hb);
}

-- The 64th power keeps sums.
sixty_fourth_additive : Additive modulus256 ring256 order256 (lit≤ tt) 64
sixty_fourth_additive =
    powers_additive modulus256 ring256 order256 (lit≤ tt) 16 4 (powers_additive modulus256 ring256 order256 (lit≤ tt) 4 4 fourths256 fourths256) fourths256

-- So these powers are spread by their images of the bits.
fourth_spreads : (a : ℕ) → a < 256 → power modulus256 4 a ≡ spread FOURTH a
unfolding power product
fourth_spreads = additive_spread (power modulus256 4) (keeps_xor (power modulus256 4) refl (power_code modulus256 256 ring256 4) fourths256)

pub twist_answers : (r a : ℕ) → a < 256 → r ≡ spread FOURTH a → r ≡ power modulus256 4 (clip gf256 a)
twist_answers r a h e = e ∙ sym (ap (power modulus256 4) (clip256 a h) ∙ fourth_spreads a h)

sixty_fourth_spreads : (a : ℕ) → a < 256 → power modulus256 64 a ≡ spread SIXTY_FOURTH a
unfolding power product
sixty_fourth_spreads = additive_spread (power modulus256 64) (keeps_xor (power modulus256 64) refl (power_code modulus256 256 ring256 64) sixty_fourth_additive)

pub untwist_answers : (r a : ℕ) → a < 256 → r ≡ spread SIXTY_FOURTH a → r ≡ power modulus256 64 (clip gf256 a)
untwist_answers r a h e = e ∙ sym (ap (power modulus256 64) (clip256 a h) ∙ sixty_fourth_spreads a h)

-- The trace of c a.
abbrev digit : ℕ → ℕ → ℕ
digit c a = trace modulus256 4 4 (product modulus256 c a)

digit_spreads : (c : ℕ) → c < 256 → digit c 0 ≡ 0 → (a : ℕ) → a < 256 → digit c a ≡ spread (images (digit c) 8 0) a
digit_spreads c h z =
    additive_spread (digit c) (keeps_xor (digit c) z (λ a ha. trace_code modulus256 256 ring256 4 4 (product modulus256 c a) (ring256.product_code c a h ha))
    (λ a b. trace_product_sum modulus256 256 ring256 4 fourths256 4 c a b h))

-- The digits of a byte, each spread by its images of the bits.
pub digits_answer : (r1 r2 r3 r4 a : ℕ) → a < 256 → r1 ≡ spread DIGIT_1 a → r2 ≡ spread DIGIT_2 a
    → r3 ≡ spread DIGIT_3 a → r4 ≡ spread DIGIT_4 a
    → r1 ∷ r2 ∷ r3 ∷ r4 ∷ 0 ∷ 0 ∷ 0 ∷ 0 ∷ [] ≡ digit_row gf256 a
unfolding power product sum trace traces
digits_answer r1 r2 r3 r4 a h e1 e2 e3 e4 =
    ap₂ (λ x y. x ∷ y ∷ r3 ∷ r4 ∷ 0 ∷ 0 ∷ 0 ∷ 0 ∷ []) (e1 ∙ sym (digit_spreads 3 (lit< tt) refl a h)) (e2 ∙ sym (digit_spreads 140 (lit< tt) refl a h))
    ∙ ap₂ (λ x y. digit 3 a ∷ digit 140 a ∷ x ∷ y ∷ 0 ∷ 0 ∷ 0 ∷ 0 ∷ []) (e3 ∙ sym (digit_spreads 69 (lit< tt) refl a h)) (e4 ∙ sym (digit_spreads 200 (lit< tt) refl a h))
    ∙ sym (ap (λ x. digit 3 x ∷ digit 140 x ∷ digit 69 x ∷ digit 200 x ∷ 0 ∷ 0 ∷ 0 ∷ 0 ∷ []) (clip256 a h))

-- What the check takes for the calls of src/bits.rt.
pub ruleset answers = (masked, doubled, times_starts, times_goes_on, times_ends, sum_answers, opposite_answers, twist_answers, untwist_answers, digits_answer)
