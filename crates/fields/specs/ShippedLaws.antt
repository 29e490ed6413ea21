-- The laws of the shipped kinds of residues.
--
--   generator16, generator256    2 makes every code but 0: the lists of its powers, and of the exponents, are right
--   order16, order81, order256   every code but 0 to the power Q - 1 is 1
--   two16, two256, three81       that many ones make 0
--   fourths16, fourths256        fourth powers keep sums
--   digits16, digits81, digits256    the laws of digits: traces by their two tables, coefficients by tests over codes and rows
use Rattle.std.specs.Prelude.{◌≡◌, ℕ, ◌<◌, Bool, List, [], ◌∷◌, length, ◌==◌, refl}
use Rattle.std.proofs.Common.{sym, ap, ◌∙◌, eqb→eq, lit<, lit≤}
use Rattle.std.proofs.lemmas.List.{length-map}
use Rattle.fields.specs.Meaning.{Laws}
use Rattle.fields.specs.Residues.{Modulus, sum, product, power, trace, traces}
use Rattle.fields.specs.Shipped.{modulus256, gf256, modulus16, gf16, modulus81, gf81}
use Rattle.fields.specs.Range.{at, unless0, from0}
use Rattle.fields.specs.Rings.{ring256, ring16, ring81}
use Rattle.fields.specs.DigitTests.{DigitLaws, digit_laws}
use Rattle.fields.specs.ResidueKinds.{Ordered, Additive, power_mul, power_whole, residue_laws, squares_additive, cubes_additive, powers_additive}
use Rattle.fields.specs.TraceDigits.{trace_digits}
use Rattle.fields.specs.Generators.{Generator, generated_order}
use Rattle.fields.specs.Tables16.{powers16, logs16}
use Rattle.fields.specs.Tables256.{powers256, logs256}

-- As many traces as elements to take them with.
pub traces_length : (q : Modulus) (t : ℕ) (cs : List ℕ) (a : ℕ) → length (traces q t cs a) ≡ length cs
unfolding traces
traces_length q t cs a = length-map cs (λ c. trace q t (length cs) (product q c a))

-- ---- GF(16)

-- The lists that generate the field.
pub generator16 : Generator modulus16 2 powers16 logs16
unfolding product
generator16 = record { is_code = lit< tt; many = refl; chained = tt; returns = refl; each_logged = tt }

-- So every code but 0 has its order.
order16 : Ordered modulus16 ring16
order16 = generated_order ring16 generator16

-- 1 + 1 is 0,
two16 : sum modulus16 1 1 ≡ 0
unfolding sum
two16 = refl

-- so squares keep sums, and squares of squares.
fourths16 : Additive modulus16 ring16 order16 (lit≤ tt) 4
fourths16 =
    let squares = squares_additive modulus16 ring16 order16 (lit≤ tt) two16 in
    powers_additive modulus16 ring16 order16 (lit≤ tt) 2 2 squares squares

-- The digits are traces.
digits16 : DigitLaws gf16
unfolding power product sum trace
digits16 =
    trace_digits modulus16 ring16 order16 (lit≤ tt) 4 fourths16 _ _ (lit< tt, (lit< tt, tt)) (lit< tt, (lit< tt, tt)) 1 refl refl refl refl refl 2 4

-- The laws of GF(16).
pub gf16_laws : Laws gf16
gf16_laws =
    residue_laws modulus16 ring16 order16 2 4 4 _ _ (lit≤ tt) (lit< tt) (lit≤ tt) (lit≤ tt) fourths16 (power_whole modulus16 ring16 order16)
    (lit< tt, (lit< tt, tt)) (traces_length modulus16 4 (3 ∷ 1 ∷ [])) digits16

-- ---- GF(81)

-- Every code but 0 has its order: the power 80 is taken in three steps.
order81 : Ordered modulus81 ring81
unfolding power product
order81 a h p =
    let test : ℕ → Bool = λ a. unless0 a (power modulus81 5 (power modulus81 4 (power modulus81 4 a)) == 1) in
    sym (steps a h) ∙ eqb→eq _ _ (from0 a _ p (at test 81 tt a h))
  where
    steps : (a : ℕ) → a < 81 → power modulus81 5 (power modulus81 4 (power modulus81 4 a)) ≡ power modulus81 80 a
    steps a h = ap (power modulus81 5) (power_mul modulus81 ring81 4 4 a h) ∙ power_mul modulus81 ring81 5 16 a h

-- 1 + 1 + 1 is 0.
three81 : sum modulus81 1 (sum modulus81 1 1) ≡ 0
unfolding sum
three81 = refl

-- The digits are coefficients.
digits81 : DigitLaws gf81
unfolding power product sum
digits81 = digit_laws gf81 (0 ∷ 1 ∷ 2 ∷ []) tt tt tt tt

-- The laws of GF(81).
pub gf81_laws : Laws gf81
gf81_laws =
    residue_laws modulus81 ring81 order81 3 3 27 _ _ (lit≤ tt) (lit< tt) (lit≤ tt) (lit≤ tt)
    (cubes_additive modulus81 ring81 order81 (lit≤ tt) three81) (power_whole modulus81 ring81 order81)
    (lit< tt, (lit< tt, (lit< tt, (lit< tt, tt)))) (λ a. refl) digits81

-- ---- GF(256)

-- The lists that generate the field.
pub generator256 : Generator modulus256 2 powers256 logs256
unfolding product
generator256 = record { is_code = lit< tt; many = refl; chained = tt; returns = refl; each_logged = tt }

-- So every code but 0 has its order.
pub order256 : Ordered modulus256 ring256
order256 = generated_order ring256 generator256

-- 1 + 1 is 0,
two256 : sum modulus256 1 1 ≡ 0
unfolding sum
two256 = refl

-- so squares keep sums, and squares of squares.
pub fourths256 : Additive modulus256 ring256 order256 (lit≤ tt) 4
fourths256 =
    let squares = squares_additive modulus256 ring256 order256 (lit≤ tt) two256 in
    powers_additive modulus256 ring256 order256 (lit≤ tt) 2 2 squares squares

-- The digits are traces.
digits256 : DigitLaws gf256
unfolding power product sum trace
digits256 =
    trace_digits modulus256 ring256 order256 (lit≤ tt) 4 fourths256 _ _
    (lit< tt, (lit< tt, (lit< tt, (lit< tt, tt)))) (lit< tt, (lit< tt, (lit< tt, (lit< tt, tt)))) 3 refl refl refl refl refl 1 64

-- The laws of GF(256).
pub gf256_laws : Laws gf256
gf256_laws =
    residue_laws modulus256 ring256 order256 1 4 64 _ _ (lit≤ tt) (lit< tt) (lit≤ tt) (lit≤ tt) fourths256 (power_whole modulus256 ring256 order256)
    (lit< tt, (lit< tt, (lit< tt, (lit< tt, tt)))) (traces_length modulus256 4 (3 ∷ 140 ∷ 69 ∷ 200 ∷ [])) digits256
