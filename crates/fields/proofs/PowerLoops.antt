-- The loop that raises a to the power p^d - 2, its inverse, by p-th powers.
use Rattle.std.proofs.Common.{◌≡◌, ℕ, ◌+◌, ◌-◌, ◌*◌, ◌^◌, ◌<◌, sym, refl, ap, ◌∙◌, subst, ap₂, pow-suc, add-one, arith, lit<}
use Rattle.std.proofs.Math.Nat.{one-le-pow}
use Rattle.std.proofs.lemmas.Nat.{pow_pos}
use Rattle.fields.specs.Residues.{Modulus, degree, product, power}
use Rattle.fields.specs.Shipped.{modulus256, modulus81}
use Rattle.fields.specs.Rings.{Ring, ring256, ring81}
use Rattle.fields.specs.CodePowers.{power_add, power_code}
use Rattle.fields.specs.ResidueKinds.{power_mul, power_once, square_is}

-- After i rounds x is the power p^i of a, and the other the power p^(i + 1) - 2.
pub record Powering (q : Modulus) (a i x all : ℕ) : Type 0 where
  pub x_is : x ≡ power q (q.base ^ i) a
  pub all_is : all ≡ power q (q.base * q.base ^ i - 2) a

module _ (q : Modulus) (r : Ring q (q.base ^ degree q)) where
  -- A round: x to the power p, and the other times this to the power p - 1.
  goes_on : {a i x all x' all' : ℕ} → a < q.base ^ degree q → Powering q a i x all → x' ≡ power q q.base x → all' ≡ product q all (power q (q.base - 1) x')
      → q.base * q.base ^ i - 2 + q.base ^ i * q.base * (q.base - 1) ≡ q.base * (q.base ^ i * q.base) - 2 → Powering q a (i + 1) x' all'
  goes_on {a} {i} {x} {all} {x'} {all'} h w ex ea sums =
      let up : q.base ^ i * q.base ≡ q.base ^ (i + 1) = sym (ap (λ k. q.base ^ k) (add-one i) ∙ pow-suc q.base i) in
      let e : x' ≡ power q (q.base ^ i * q.base) a = ex ∙ ap (power q q.base) w.x_is ∙ power_mul q r q.base (q.base ^ i) a h in
      record {
        x_is = e ∙ ap (λ k. power q k a) up;
        all_is = ea ∙ ap₂ (λ u v. product q u (power q (q.base - 1) v)) w.all_is e
            ∙ ap (product q (power q (q.base * q.base ^ i - 2) a)) (power_mul q r (q.base - 1) (q.base ^ i * q.base) a h)
            ∙ power_add q (q.base ^ degree q) r (q.base * q.base ^ i - 2) (q.base ^ i * q.base * (q.base - 1)) a h
            ∙ ap (λ k. power q k a) (sums ∙ ap (λ n. q.base * n - 2) up);
      }

-- Bytes: the square, and the other times it.
pub squares_start : (a : ℕ) → a < 256 → Powering modulus256 a 0 a 1
unfolding power
squares_start a h = record { x_is = sym (ring256.product_one a h); all_is = refl }

pub squares_go_on : {a i x all x' all' : ℕ} → a < 256 → Powering modulus256 a i x all → x' ≡ product modulus256 x x → all' ≡ product modulus256 all x' → Powering modulus256 a (i + 1) x' all'
squares_go_on {a} {i} {x} {all} {x'} {all'} h w ex ea =
    let hx : x < 256 = subst (λ n. n < 256) (sym w.x_is) (power_code modulus256 256 ring256 (2 ^ i) a h) in
    let hx' : x' < 256 = subst (λ n. n < 256) (sym ex) (ring256.product_code x x hx hx) in
    let p = pow_pos i in
    goes_on modulus256 ring256 h w (ex ∙ square_is modulus256 ring256 x hx) (ea ∙ ap (product modulus256 all) (sym (power_once modulus256 ring256 x' hx'))) (omega arith)

-- Codes in base 3: the cube, and the other times it twice.
pub cubes_start : (a : ℕ) → a < 81 → Powering modulus81 a 0 a a
cubes_start a h = record { x_is = sym (power_once modulus81 ring81 a h); all_is = sym (power_once modulus81 ring81 a h) }

pub cubes_go_on : {a i x all x' some all' : ℕ} → a < 81 → Powering modulus81 a i x all → x' ≡ power modulus81 3 x → some ≡ product modulus81 all x' → all' ≡ product modulus81 some x'
    → Powering modulus81 a (i + 1) x' all'
cubes_go_on {a} {i} {x} {all} {x'} {some} {all'} h w ex es ea =
    let hx : x < 81 = subst (λ n. n < 81) (sym w.x_is) (power_code modulus81 81 ring81 (3 ^ i) a h) in
    let hx' : x' < 81 = subst (λ n. n < 81) (sym ex) (power_code modulus81 81 ring81 3 x hx) in
    let ha : all < 81 = subst (λ n. n < 81) (sym w.all_is) (power_code modulus81 81 ring81 (3 * 3 ^ i - 2) a h) in
    let e : all' ≡ product modulus81 all (power modulus81 2 x') =
    ea ∙ ap (λ n. product modulus81 n x') es ∙ ring81.product_assoc all x' x' ha hx' hx' ∙ ap (product modulus81 all) (square_is modulus81 ring81 x' hx') in
    let p = one-le-pow i 3 (lit< tt) in
    goes_on modulus81 ring81 h w ex e (omega arith)

pub cubes_code : {a i x all : ℕ} → a < 81 → Powering modulus81 a i x all → x < 81
cubes_code {a} {i} h w = subst (λ n. n < 81) (sym w.x_is) (power_code modulus81 81 ring81 (3 ^ i) a h)
