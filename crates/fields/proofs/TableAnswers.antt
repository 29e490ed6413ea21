-- The tables of kind 2, each with its rule, tested over the whole table; and what its calls answer.
use Rattle.std.proofs.Common.{◌≡◌, ℕ, ◌+◌, ◌-◌, ◌*◌, ◌%◌, ◌<◌, cond, eqb, ltb, ◌⊎◌, [], ◌∷◌, ◌++◌, get_or, Some, None, sym, refl, ap, ◌∙◌, ap₂, inl, inr, lit<, eqb→eq}
use Rattle.std.specs.Int.Bits.{bit_xor}
use Rattle.std.proofs.lemmas.Bool.{cond-true, lt-ltb}
use Rattle.fields.specs.Meaning.{clip, inverted, digit_row}
use Rattle.fields.specs.Residues.{sum, opposite, product, power, trace, traces}
use Rattle.fields.specs.Shipped.{modulus16, gf16}
use Rattle.fields.specs.Range.{at, unless0, from0}
use Rattle.fields.specs.DigitTests.{same, same_is}
use Rattle.fields.specs.Rings.{ring16}
use Rattle.fields.specs.Generators.{product_at}
use Rattle.fields.specs.Tables16.{powers16, logs16}
use Rattle.fields.specs.ShippedLaws.{generator16}
use Rattle.fields.specs.declared.tables.TheConstants.{DIGIT_1, DIGIT_2}
use Rattle.fields.proofs.Binary.{sum_xor, opposite_same}

-- The rule of both tables: the product of elements other than 0 is the power whose exponent is the sum of theirs.
pub product_rule : (a b : ℕ) → a < 16 → b < 16 → 0 < a → 0 < b → get_or powers16 ((get_or logs16 a 0 + get_or logs16 b 0) % 15) 0 ≡ product modulus16 a b
product_rule a b ha hb pa pb = sym (product_at ring16 generator16 a b ha hb pa pb)

pub zero_product : (a b : ℕ) → a < 16 → b < 16 → (a ≡ 0) ⊎ (b ≡ 0) → 0 ≡ product modulus16 a b
zero_product a b ha hb (inl e) = sym (ap (λ x. product modulus16 x b) e ∙ ring16.product_comm 0 b (lit< tt) hb ∙ ring16.product_zero b hb)
zero_product a b ha hb (inr e) = sym (ap (product modulus16 a) e ∙ ring16.product_zero a ha)

-- The inverse has the exponent that makes 15.
pub inverse_rule : (a : ℕ) → a < 16 → 0 < a → get_or powers16 ((15 - get_or logs16 a 0) % 15) 0 ≡ power modulus16 14 a
unfolding power product
inverse_rule a h p = eqb→eq _ _ (from0 a _ p (at (λ a. unless0 a (eqb (get_or powers16 ((15 - get_or logs16 a 0) % 15) 0) (power modulus16 14 a))) 16 tt a h))

-- The square of the square has four times the exponent.
pub fourth_rule : (a : ℕ) → a < 16 → 0 < a → get_or powers16 ((4 * get_or logs16 a 0) % 15) 0 ≡ product modulus16 (product modulus16 a a) (product modulus16 a a)
unfolding product
fourth_rule a h p = eqb→eq _ _ (from0 a _ p (at (λ a. unless0 a (eqb (get_or powers16 ((4 * get_or logs16 a 0) % 15) 0) (product modulus16 (product modulus16 a a) (product modulus16 a a)))) 16 tt a h))

-- That of 0 is 0.
pub fourth_zero : (a : ℕ) → a ≡ 0 → 0 ≡ product modulus16 (product modulus16 a a) (product modulus16 a a)
unfolding product
fourth_zero a e = sym (ap (λ x. product modulus16 (product modulus16 x x) (product modulus16 x x)) e)

-- The square of the square is the fourth power.
pub fourth_power : (a : ℕ) → a < 16 → product modulus16 (product modulus16 a a) (product modulus16 a a) ≡ power modulus16 4 a
unfolding power product
fourth_power a h = eqb→eq _ _ (at (λ a. eqb (product modulus16 (product modulus16 a a) (product modulus16 a a)) (power modulus16 4 a)) 16 tt a h)

-- The tables of digits have the digits.
pub digits_rule : (a : ℕ) → a < 16 → get_or DIGIT_1 a 0 ∷ get_or DIGIT_2 a 0 ∷ 0 ∷ 0 ∷ 0 ∷ 0 ∷ 0 ∷ 0 ∷ [] ≡ digit_row gf16 a
unfolding power product sum trace traces
digits_rule a h =
    same_is _ _ (at (λ a. same (get_or DIGIT_1 a 0 ∷ get_or DIGIT_2 a 0 ∷ 0 ∷ 0 ∷ 0 ∷ 0 ∷ 0 ∷ 0 ∷ []) (digit_row gf16 a)) 16 tt a h)

-- What the calls answer, where x and y are what the arguments count as.
pub sum_answers : (a b x y : ℕ) → x ≡ clip gf16 a → y ≡ clip gf16 b → x < 16 → y < 16 → bit_xor x y ≡ sum modulus16 (clip gf16 a) (clip gf16 b)
sum_answers a b x y ex ey hx hy = sym (ap₂ (sum modulus16) (sym ex) (sym ey) ∙ sum_xor modulus16 refl x y hx hy)

pub opposite_answers : (a x : ℕ) → x ≡ clip gf16 a → x < 16 → x ≡ opposite modulus16 (clip gf16 a)
opposite_answers a x e h = sym (ap (opposite modulus16) (sym e) ∙ opposite_same modulus16 refl x h)

pub fourth_answers : (a x r : ℕ) → x ≡ clip gf16 a → x < 16 → r ≡ product modulus16 (product modulus16 x x) (product modulus16 x x) → r ≡ power modulus16 4 (clip gf16 a)
fourth_answers a x r e h k = k ∙ fourth_power x h ∙ ap (power modulus16 4) e

pub inverse_answers : (a x : ℕ) → x ≡ clip gf16 a → x < 16 → 0 < x → Some (get_or powers16 ((15 - get_or logs16 x 0) % 15) 0) ≡ inverted gf16 a
inverse_answers a x e h p =
    ap Some (inverse_rule x h p) ∙ sym (cond-true (ltb 0 x) (Some (power modulus16 14 x)) None (lt-ltb 0 x p))
    ∙ ap (λ y. cond (ltb 0 y) (Some (power modulus16 14 y)) None) e

pub digits_answer : (a x : ℕ) → x ≡ clip gf16 a → x < 16 → get_or DIGIT_1 x 0 ∷ get_or DIGIT_2 x 0 ∷ 0 ∷ 0 ∷ 0 ∷ 0 ∷ 0 ∷ 0 ∷ [] ≡ digit_row gf16 a
digits_answer a x e h = digits_rule x h ∙ ap (λ y. gf16.digits y ++ 0 ∷ 0 ∷ 0 ∷ 0 ∷ 0 ∷ 0 ∷ []) (cond-true (ltb x 16) x 0 (lt-ltb x 16 h) ∙ e)

-- What the check takes for the calls of src/tables.rt.
pub ruleset answers = (product_rule, zero_product, fourth_rule, fourth_zero, sum_answers, opposite_answers, inverse_answers, digits_answer, fourth_answers)
