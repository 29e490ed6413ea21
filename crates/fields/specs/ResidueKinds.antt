-- Polynomials modulo q as a kind of field: the laws from those of the ring, from the order of its elements and from those of
-- twist and digits.
use Rattle.std.specs.Prelude.{◌≡◌, ℕ, zero, suc, ◌+◌, ◌-◌, ◌*◌, ◌^◌, ◌<◌, ◌≤◌, List, [], ◌∷◌, length}
use Rattle.std.proofs.Math.Path.{refl, sym, ap}
use Rattle.std.proofs.Common.{ap₂, ◌∙◌, subst, inl, inr, mul-zero, mul-suc, mul_comm, add_comm, arith, lit<, lit≤}
use Rattle.std.proofs.lemmas.Bool.{cases_lt}
use Rattle.std.specs.List.{AllByRecursion}
use Rattle.fields.specs.Meaning.{Meaning, Laws, Fixed, combined}
use Rattle.fields.specs.Residues.{Modulus, degree, sum, product, power, residues}
use Rattle.fields.specs.Elements.{Elem, elem}
use Rattle.fields.specs.Carried.{carried}
use Rattle.fields.specs.Rings.{Ring}
use Rattle.fields.specs.CodePowers.{power_code, power_add, power_product}
use Rattle.fields.specs.DigitTests.{DigitLaws}
use Rattle.fields.specs.Carried
use Rattle.fields.specs.Frobenius

-- How many codes there are.
abbrev pub size : Modulus → ℕ
size q = q.base ^ degree q

module _ (q : Modulus) (r : Ring q (size q)) where
  -- The first power.
  pub power_once : (a : ℕ) → a < size q → power q 1 a ≡ a
  unfolding power
  power_once a h = r.product_one a h

  -- The next power.
  pub power_next : (n a : ℕ) → power q (suc n) a ≡ product q a (power q n a)
  unfolding power
  power_next n a = refl

  -- The square and the cube by products.
  pub square_is : (a : ℕ) → a < size q → product q a a ≡ power q 2 a
  square_is a h = sym (power_next 1 a ∙ ap (product q a) (power_once a h))

  pub cube_is : (a : ℕ) → a < size q → product q a (product q a a) ≡ power q 3 a
  cube_is a h = ap (product q a) (square_is a h) ∙ sym (power_next 2 a)

  -- A power of a power.
  pub power_mul : (m n a : ℕ) → a < size q → power q m (power q n a) ≡ power q (n * m) a
  unfolding power
  power_mul zero n a h = ap (λ k. power q k a) (sym (mul-zero n))
  power_mul (suc m) n a h =
      ap (product q (power q n a)) (power_mul m n a h) ∙ power_add q (size q) r n (n * m) a h ∙ ap (λ k. power q k a) (add_comm n (n * m) ∙ sym (mul-suc n m))

  -- 0 stays 0.
  pub power_zero : (n : ℕ) → 0 < n → power q n 0 ≡ 0
  unfolding power
  power_zero zero h = absurd (omega arith)
  power_zero (suc n) h =
      let z : 0 < size q = omega (arith, r.one_code) in
      let c = power_code q (size q) r n 0 z in
      r.product_comm 0 (power q n 0) z c ∙ r.product_zero (power q n 0) c

  -- Every element but 0 to the power Q - 1 is 1.
  abbrev pub Ordered : Type 0
  Ordered = (a : ℕ) → a < size q → 0 < a → power q (size q - 1) a ≡ 1

  module _ (order : Ordered) where
    -- So every element to the power Q is itself,
    pub power_whole : (a : ℕ) → a < size q → power q (size q) a ≡ a
    power_whole a h =
        elim (cases_lt 0 a) [
          | inl p ↦ let n : size q ≡ suc (size q - 1) = omega (arith, r.one_code) in
              ap (λ k. power q k a) n ∙ power_next (size q - 1) a ∙ ap (product q a) (order a h p) ∙ r.product_one a h
          | inr z ↦ let e : a ≡ 0 = omega arith in subst (λ b. power q (size q) b ≡ b) (sym e) (power_zero (size q) (omega (arith, r.one_code)))
        ]

    -- and its power Q - 2 is its inverse.
    product_inverse : (a : ℕ) → a < size q → 0 < a → product q a (power q (size q - 2) a) ≡ 1
    product_inverse a h p =
        ap (λ b. product q b (power q (size q - 2) a)) (sym (power_once a h)) ∙ power_add q (size q) r 1 (size q - 2) a h
        ∙ ap (λ k. power q k a) (let n : 1 + (size q - 2) ≡ size q - 1 = omega (arith, r.one_code) in n) ∙ order a h p

    module _ (number t u : ℕ) (basis : List ℕ) (digits : ℕ → List ℕ) where
      abbrev kind : Meaning
      kind = residues q number t u basis digits

      -- The laws of a kind of residues, from what its own numbers have to give.
      pub residue_laws :
          size q ≤ 256 → number < 256 → 1 ≤ length basis → length basis ≤ 8
          → ((a b : ℕ) → a < size q → b < size q → power q t (sum q a b) ≡ sum q (power q t a) (power q t b))
          → ((a : ℕ) → a < size q → power q (t * u) a ≡ a)
          → AllByRecursion (λ b. b < size q) basis → ((a : ℕ) → length (digits a) ≡ length basis) → DigitLaws kind → Laws kind
      residue_laws small byte low high additive whole codes lengths d = record {
        number_byte = byte;
        size_low = r.one_code;
        size_high = small;
        width_low = low;
        width_high = high;
        sum_code = r.sum_code;
        opposite_code = r.opposite_code;
        product_code = r.product_code;
        inverse_code = λ a h. power_code q (size q) r (size q - 2) a h;
        twist_code = λ a h. power_code q (size q) r t a h;
        untwist_code = λ a h. power_code q (size q) r u a h;
        sum_comm = r.sum_comm;
        sum_assoc = r.sum_assoc;
        sum_zero = r.sum_zero;
        sum_opposite = r.sum_opposite;
        product_comm = r.product_comm;
        product_assoc = r.product_assoc;
        product_one = r.product_one;
        product_inverse = product_inverse;
        product_sum = r.product_sum;
        twist_sum = additive;
        twist_product = λ a b ha hb. power_product q (size q) r t a b ha hb;
        twist_untwist = λ a h. power_mul t u a h ∙ ap (λ k. power q k a) (mul_comm u t) ∙ whole a h;
        untwist_twist = λ a h. power_mul u t a h ∙ whole a h;
        basis_length = refl;
        basis_codes = codes;
        digits_length = λ a h. lengths a;
        digits_fixed = d.digits_fixed;
        digits_give = d.digits_give;
        digits_only = d.digits_only;
      }

    -- The field alone: the first power for its twist, and one digit.
    abbrev pub plain : Meaning
    plain = residues q 0 1 1 (1 ∷ []) (λ a. a ∷ [])

    one_digit : (a : ℕ) → a < size q → combined plain (a ∷ []) (1 ∷ []) ≡ a
    one_digit a h = ap (λ b. sum q b 0) (r.product_one a h) ∙ r.sum_zero a h

    plain_digits : DigitLaws plain
    plain_digits = record { digits_fixed = λ a h. ((h, power_once a h), tt); digits_give = one_digit; digits_only = only }
      where
        only : (a : ℕ) (ds : List ℕ) → a < size q → length ds ≡ 1 → AllByRecursion (Fixed plain) ds → combined plain ds (1 ∷ []) ≡ a → ds ≡ a ∷ []
        only a [] h n f e = absurd (omega arith)
        only a (d ∷ []) h n f e = ap (λ x. x ∷ []) (sym (one_digit d f.0.0) ∙ e)
        only a (d ∷ c ∷ ds) h n f e = absurd (omega arith)

    module _ (small : size q ≤ 256) where
      pub plain_laws : Laws plain
      plain_laws =
          residue_laws 0 1 1 (1 ∷ []) (λ a. a ∷ []) small (lit< tt) (lit≤ tt) (lit≤ tt)
          (λ a b ha hb. power_once (sum q a b) (r.sum_code a b ha hb) ∙ sym (ap₂ (sum q) (power_once a ha) (power_once b hb)))
          power_once (r.one_code, tt) (λ a. refl) plain_digits

      -- The power t keeps sums.
      abbrev pub Additive : ℕ → Type 0
      Additive t = (a b : ℕ) → a < size q → b < size q → power q t (sum q a b) ≡ sum q (power q t a) (power q t b)

      -- It does where a map of elements that keeps sums stands for it.
      additive_from : (t : ℕ) (τ : Elem plain → Elem plain) → ((a : ℕ) → a < size q → elem plain (power q t a) ≡ τ (elem plain a)) → ((x y : Elem plain) → τ ((carried plain).add x y) ≡ (carried plain).add (τ x) (τ y)) → Additive t
      additive_from t τ stands adds a b ha hb =
          let hs = r.sum_code a b ha hb in
          let pa = power_code q (size q) r t a ha in
          let pb = power_code q (size q) r t b hb in
          Carried.same_elem plain_laws _ _ (power_code q (size q) r t (sum q a b) hs) (r.sum_code _ _ pa pb)
          (stands (sum q a b) hs ∙ ap τ (Carried.sum_elem plain_laws a b ha hb) ∙ adds (elem plain a) (elem plain b)
          ∙ sym (Carried.sum_elem plain_laws _ _ pa pb ∙ ap₂ (carried plain).add (stands a ha) (stands b hb)))

      -- The square and the cube of an element, and 1 + 1.
      square_elem : (a : ℕ) → a < size q → elem plain (power q 2 a) ≡ (carried plain).mul (elem plain a) (elem plain a)
      square_elem a h = ap (elem plain) (sym (square_is a h)) ∙ Carried.product_elem plain_laws a a h h

      cube_elem : (a : ℕ) → a < size q → elem plain (power q 3 a) ≡ (carried plain).mul (elem plain a) ((carried plain).mul (elem plain a) (elem plain a))
      cube_elem a h =
          ap (elem plain) (power_next 2 a) ∙ Carried.product_elem plain_laws a (power q 2 a) h (power_code q (size q) r 2 a h) ∙ ap ((carried plain).mul (elem plain a)) (square_elem a h)

      two_elem : (carried plain).add (carried plain).one (carried plain).one ≡ elem plain (sum q 1 1)
      two_elem = sym (Carried.sum_elem plain_laws 1 1 r.one_code r.one_code ∙ ap₂ (carried plain).add (Carried.one_is plain) (Carried.one_is plain))

      -- Squares do where 1 + 1 is 0.
      pub squares_additive : sum q 1 1 ≡ 0 → Additive 2
      squares_additive two =
          additive_from 2 (λ x. (carried plain).mul x x) square_elem (Frobenius.square_add (Carried.carried_laws plain_laws) (two_elem ∙ ap (elem plain) two ∙ Carried.zero_is plain))

      -- Cubes do where 1 + (1 + 1) is 0.
      pub cubes_additive : sum q 1 (sum q 1 1) ≡ 0 → Additive 3
      cubes_additive three =
          let none : (carried plain).add (carried plain).one ((carried plain).add (carried plain).one (carried plain).one) ≡ (carried plain).zero =
          ap₂ (carried plain).add (sym (Carried.one_is plain)) two_elem ∙ sym (Carried.sum_elem plain_laws 1 (sum q 1 1) r.one_code (r.sum_code 1 1 r.one_code r.one_code))
          ∙ ap (elem plain) three ∙ Carried.zero_is plain in
          additive_from 3 (λ x. (carried plain).mul x ((carried plain).mul x x)) cube_elem (Frobenius.cube_add (Carried.carried_laws plain_laws) none)

      -- A power of a power does where both do.
      pub powers_additive : (s t : ℕ) → Additive s → Additive t → Additive (s * t)
      powers_additive s t p p' a b ha hb =
          sym (power_mul t s (sum q a b) (r.sum_code a b ha hb)) ∙ ap (power q t) (p a b ha hb)
          ∙ p' (power q s a) (power q s b) (power_code q (size q) r s a ha) (power_code q (size q) r s b hb) ∙ ap₂ (sum q) (power_mul t s a ha) (power_mul t s b hb)
