-- What the calls of kind 3 answer is what its meaning says, where x and y are what the arguments count as.
use Rattle.std.proofs.Common.{◌≡◌, ℕ, Bool, ◌*◌, ◌%◌, ◌+◌, ◌<◌, eqb, List, [], ◌∷◌, get_or, sym, ap, ◌∙◌, subst, ap₂, eqb→eq}
use Rattle.fields.specs.Meaning.{clip}
use Rattle.fields.specs.Residues.{coefficients, code, plus, scale, times, sum, opposite, product, power}
use Rattle.fields.specs.Shipped.{modulus81, gf81}
use Rattle.fields.specs.Rings.{ring81}
use Rattle.fields.specs.CodePowers.{power_code}
use Rattle.fields.specs.Range.{at, at2, below2}
use Rattle.fields.specs.DigitTests.{same, same_is}
use Rattle.fields.specs.declared.ternary.TheConstants.{CUBES, CUBE_ROOTS}
use Rattle.fields.proofs.PowerLoops.{cubes_start, cubes_code}

pub sum_answers : {x y r : ℕ} {f g h : List ℕ} (a b : ℕ) → x ≡ clip gf81 a → y ≡ clip gf81 b → f ≡ coefficients 3 4 x → g ≡ coefficients 3 4 y → h ≡ plus 3 f g → r ≡ code 3 h
    → r ≡ sum modulus81 (clip gf81 a) (clip gf81 b)
unfolding sum
sum_answers a b ex ey ef eg eh er =
    er ∙ ap (code 3) (eh ∙ ap₂ (plus 3) (ef ∙ ap (coefficients 3 4) ex) (eg ∙ ap (coefficients 3 4) ey))

pub opposite_answers : {x r : ℕ} {f h : List ℕ} (a : ℕ) → x ≡ clip gf81 a → f ≡ coefficients 3 4 x → h ≡ scale 3 2 f → r ≡ code 3 h → r ≡ opposite modulus81 (clip gf81 a)
unfolding opposite
opposite_answers a ex ef eh er = er ∙ ap (code 3) (eh ∙ ap (scale 3 2) (ef ∙ ap (coefficients 3 4) ex))

-- The product of two polynomials, reduced once: z^4 is 2 z + 1. Tested for all coefficients below 3.
abbrev reduced_once : (f0 f1 f2 f3 g0 g1 g2 g3 : ℕ) → List ℕ
reduced_once f0 f1 f2 f3 g0 g1 g2 g3 =
    let z4 = f1 * g3 + f2 * g2 + f3 * g1 in
    let z5 = f2 * g3 + f3 * g2 in
    let z6 = f3 * g3 in (f0 * g0 + z4) % 3 ∷ (f0 * g1 + f1 * g0 + 2 * z4 + z5) % 3 ∷ (f0 * g2 + f1 * g1 + f2 * g0 + 2 * z5 + z6) % 3
    ∷ (f0 * g3 + f1 * g2 + f2 * g1 + f3 * g0 + 2 * z6) % 3 ∷ []

abbrev agrees : (f0 f1 f2 f3 g0 g1 g2 g3 : ℕ) → Bool
agrees f0 f1 f2 f3 g0 g1 g2 g3 = same (reduced_once f0 f1 f2 f3 g0 g1 g2 g3) (times modulus81 (f0 ∷ f1 ∷ f2 ∷ f3 ∷ []) (g0 ∷ g1 ∷ g2 ∷ g3 ∷ []))

pub times_rule : (f0 f1 f2 f3 g0 g1 g2 g3 : ℕ) → (f0 < 3) × (f1 < 3) × (f2 < 3) × (f3 < 3) → (g0 < 3) × (g1 < 3) × (g2 < 3) × (g3 < 3)
    → reduced_once f0 f1 f2 f3 g0 g1 g2 g3 ≡ times modulus81 (f0 ∷ f1 ∷ f2 ∷ f3 ∷ []) (g0 ∷ g1 ∷ g2 ∷ g3 ∷ [])
times_rule f0 f1 f2 f3 g0 g1 g2 g3 f g =
    let all = at2 (λ f0 f1. below2 (λ f2 f3. below2 (λ g0 g1. below2 (agrees f0 f1 f2 f3 g0 g1) 3) 3) 3) 3 tt f0 f1 f.0 f.1 in
    let more = at2 (λ f2 f3. below2 (λ g0 g1. below2 (agrees f0 f1 f2 f3 g0 g1) 3) 3) 3 all f2 f3 f.2 f.3 in
    let most = at2 (λ g0 g1. below2 (agrees f0 f1 f2 f3 g0 g1) 3) 3 more g0 g1 g.0 g.1 in
    same_is _ _ (at2 (agrees f0 f1 f2 f3 g0 g1) 3 most g2 g3 g.2 g.3)

pub product_answers : {r : ℕ} {f g h : List ℕ} (a b : ℕ) → f ≡ coefficients 3 4 a → g ≡ coefficients 3 4 b → h ≡ times modulus81 f g → r ≡ code 3 h → r ≡ product modulus81 a b
unfolding product
product_answers a b ef eg eh er = er ∙ ap (code 3) (eh ∙ ap₂ (times modulus81) ef eg)

-- The tables have the cubes and their roots.
pub cube_rule : (a : ℕ) → a < 81 → get_or CUBES a 0 ≡ power modulus81 3 a
unfolding power product
cube_rule a h = eqb→eq _ _ (at (λ a. eqb (get_or CUBES a 0) (power modulus81 3 a)) 81 tt a h)

pub root_rule : (a : ℕ) → a < 81 → get_or CUBE_ROOTS a 0 ≡ power modulus81 27 a
unfolding power product
root_rule a h = eqb→eq _ _ (at (λ a. eqb (get_or CUBE_ROOTS a 0) (power modulus81 27 a)) 81 tt a h)

pub cube_below : (a : ℕ) → a < 81 → get_or CUBES a 0 < 81
cube_below a h = subst (λ n. n < 81) (sym (cube_rule a h)) (power_code modulus81 81 ring81 3 a h)

-- What the check takes for the calls of src/ternary.rt.
pub ruleset answers = (cubes_start, cubes_code, sum_answers, opposite_answers, product_answers, cube_rule, root_rule)
