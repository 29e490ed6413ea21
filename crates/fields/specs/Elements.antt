-- The elements of a kind, and its operations on them, as a field with an automorphism has them.
--
--   Element n, Elem m    numbers that count as themselves: the codes
--   elem m a, elems      the element with this code; what is no code counts as 0
--   x.code, codes       back to the code
--   ops m                the operations of a kind on its elements
--   basis_of, digits_of  its basis, and the digits of an element, as elements
--   DigitsLinear o ..   digits are fixed, combine the basis to their element, and keep sums and products with fixed elements
use Rattle.std.specs.Prelude.{◌≡◌, ℕ, Bool, true, false, cond, List, map, length, nat_lt, refl}
use Rattle.std.proofs.Common.{ap}
use Rattle.std.specs.List.{AllByRecursion}
use Rattle.fields.specs.Field.{Ops, Fixed, plus, scale, comb}
use Rattle.fields.specs.Meaning.{Meaning}

-- An element of a field of n elements is a number that counts as itself, its code; what is not below n counts as 0.
pub record Element (n : ℕ) : Type 0 where
  pub code : ℕ
  pub counts : cond (nat_lt code n) code 0 ≡ code

-- The codes of elements.
abbrev pub codes : {n : ℕ} → List (Element n) → List ℕ
codes xs = map (λ x. x.code) xs

zero_same : (b : Bool) → ◌≡◌ {A = ℕ} (cond b 0 0) 0
zero_same true = refl
zero_same false = refl

pub clip_at : (n a : ℕ) (b : Bool) → nat_lt a n ≡ b → cond (nat_lt (cond b a 0) n) (cond b a 0) 0 ≡ cond b a 0
clip_at n a true e = ap (λ t. cond t a 0) e
clip_at n a false e = zero_same (nat_lt 0 n)

-- The element with this code; a number that is no code counts as 0.
unfoldable pub element : (n : ℕ) → ℕ → Element n
element n a = record { code = cond (nat_lt a n) a 0; counts = clip_at n a (nat_lt a n) refl }

-- The elements of a kind. They depend on its size alone, so that a kind and its mirror have the same.
abbrev pub Elem : Meaning → Type 0
Elem m = Element m.size

-- The inverse of a code, and 0 at 0.
abbrev pub reciprocal_of : Meaning → ℕ → ℕ
reciprocal_of m a = cond (nat_lt 0 a) (m.inverse a) 0

module _ (m : Meaning) where
  abbrev pub elem : ℕ → Elem m
  elem = element m.size

  abbrev pub elems : List ℕ → List (Elem m)
  elems = map elem

  unfoldable pub ops : Ops (Elem m)
  ops = record {
    zero = elem 0;
    one = elem 1;
    add = λ x y. elem (m.sum x.code y.code);
    mul = λ x y. elem (m.product x.code y.code);
    neg = λ x. elem (m.opposite x.code);
    inv = λ x. elem (reciprocal_of m x.code);
    twist = λ x. elem (m.twist x.code);
    untwist = λ x. elem (m.untwist x.code);
  }

  abbrev pub basis_of : List (Elem m)
  basis_of = elems m.basis

  abbrev pub digits_of : Elem m → List (Elem m)
  digits_of x = elems (m.digits x.code)

-- Rows of fixed elements, as many as the basis has, stand for elements and keep their sums and their products with fixed ones.
pub record DigitsLinear {F : Type 0} (o : Ops F) (basis : List F) (digits : F → List F) : Type 0 where
  pub digits_length : (x : F) → length (digits x) ≡ length basis
  pub digits_fixed : (x : F) → AllByRecursion (Fixed o) (digits x)
  pub digits_give : (x : F) → comb o (digits x) basis ≡ x
  pub digits_only : (x : F) (ds : List F) → length ds ≡ length basis → AllByRecursion (Fixed o) ds → comb o ds basis ≡ x → ds ≡ digits x
  pub digits_add : (x y : F) → digits (o.add x y) ≡ plus o (digits x) (digits y)
  pub digits_mul : (c x : F) → Fixed o c → digits (o.mul c x) ≡ scale o c (digits x)
