-- What the laws of a field with an automorphism give at once of sums, opposites and products: zero, and cancellation.
-- `Inverses` has quotients, `Twists` the automorphism. The rulesets are for `simp`:
--
--   sums, products, ring    a sum or product is sorted and collected; `ring` multiplies out too
use Rattle.std.specs.Prelude.{◌≡◌}
use Rattle.std.proofs.Common.{sym, ◌∙◌, ap}
use Rattle.fields.specs.Field.{Ops, Laws}

module _ {F : Type 0} {o : Ops F} (l : Laws o) where
  open o use {zero, one, add as ◌+◌, mul as ◌*◌, neg}

  infixl 65 ◌+◌
  infixl 70 ◌*◌
  -- A sum is commutative.
  pub add_comm : (x y : F) → x + y ≡ y + x
  add_comm = l.add_comm

  -- It is associative.
  pub add_assoc : (x y z : F) → x + y + z ≡ x + (y + z)
  add_assoc = l.add_assoc

  -- Its first two terms can change places.
  pub add_left_comm : (x y z : F) → x + (y + z) ≡ y + (x + z)
  add_left_comm x y z = sym (add_assoc x y z) ∙ ap (λ w. w + z) (add_comm x y) ∙ add_assoc y x z

  -- A product is commutative.
  pub mul_comm : (x y : F) → x * y ≡ y * x
  mul_comm = l.mul_comm

  -- It is associative.
  pub mul_assoc : (x y z : F) → x * y * z ≡ x * (y * z)
  mul_assoc = l.mul_assoc

  -- Its first two factors can change places.
  pub mul_left_comm : (x y z : F) → x * (y * z) ≡ y * (x * z)
  mul_left_comm x y z = sym (mul_assoc x y z) ∙ ap (λ w. w * z) (mul_comm x y) ∙ mul_assoc y x z

  -- A factor before a sum.
  pub mul_add : (x y z : F) → x * (y + z) ≡ x * y + x * z
  mul_add = l.mul_add

  -- A factor behind it.
  pub add_mul : (x y z : F) → (x + y) * z ≡ x * z + y * z
  add_mul x y z = simp (mul_comm x z, mul_comm y z, mul_comm (x + y) z, mul_add)

  -- Zero behind a term.
  pub add_zero : (x : F) → x + zero ≡ x
  add_zero = l.add_zero

  -- Zero before it.
  pub zero_add : (x : F) → zero + x ≡ x
  zero_add x = add_comm zero x ∙ add_zero x

  -- An element and its opposite.
  pub add_neg : (x : F) → x + neg x ≡ zero
  add_neg = l.add_neg

  -- The opposite before it.
  pub neg_add : (x : F) → neg x + x ≡ zero
  neg_add x = add_comm (neg x) x ∙ add_neg x

  -- One behind a factor.
  pub mul_one : (x : F) → x * one ≡ x
  mul_one = l.mul_one

  -- One before it.
  pub one_mul : (x : F) → one * x ≡ x
  one_mul x = mul_comm one x ∙ mul_one x

  -- An opposite meets its element at the head of a sum.
  pub neg_cancel : (x y : F) → neg x + (x + y) ≡ y
  neg_cancel x y = sym (add_assoc (neg x) x y) ∙ ap (λ w. w + y) (neg_add x) ∙ zero_add y

  -- An element meets its opposite there.
  pub cancel_neg : (x y : F) → x + (neg x + y) ≡ y
  cancel_neg x y = sym (add_assoc x (neg x) y) ∙ ap (λ w. w + y) (add_neg x) ∙ zero_add y

  -- A term can be taken from both sides.
  pub add_cancel : (x y z : F) → x + y ≡ x + z → y ≡ z
  add_cancel x y z e = sym (neg_cancel x y) ∙ ap (λ w. neg x + w) e ∙ neg_cancel x z

  -- What makes zero with x is its opposite.
  pub neg_unique : (x y : F) → x + y ≡ zero → y ≡ neg x
  neg_unique x y e = add_cancel x y (neg x) (e ∙ sym (add_neg x))

  -- A product with zero.
  pub mul_zero : (x : F) → x * zero ≡ zero
  mul_zero x = add_cancel (x * zero) (x * zero) zero (sym (mul_add x zero zero) ∙ ap (λ w. x * w) (add_zero zero) ∙ sym (add_zero (x * zero)))

  -- The same with zero in front.
  pub zero_mul : (x : F) → zero * x ≡ zero
  zero_mul x = mul_comm zero x ∙ mul_zero x

  -- The opposite of zero.
  pub neg_zero : neg zero ≡ zero
  neg_zero = sym (neg_unique zero zero (add_zero zero))

  -- The opposite of an opposite.
  pub neg_neg : (x : F) → neg (neg x) ≡ x
  neg_neg x = sym (neg_unique (neg x) x (neg_add x))

  -- The opposite of a sum.
  pub neg_sum : (x y : F) → neg (x + y) ≡ neg x + neg y
  neg_sum x y = sym (neg_unique (x + y) (neg x + neg y) (add_assoc x y (neg x + neg y) ∙ ap (λ w. x + w) (ap (λ w. y + w) (add_comm (neg x) (neg y)) ∙ cancel_neg y (neg x)) ∙ add_neg x))

  -- An opposite as the first factor.
  pub neg_mul : (x y : F) → neg x * y ≡ neg (x * y)
  neg_mul x y = neg_unique (x * y) (neg x * y) (sym (add_mul x (neg x) y) ∙ ap (λ w. w * y) (add_neg x) ∙ zero_mul y)

  -- As the second.
  pub mul_neg : (x y : F) → x * neg y ≡ neg (x * y)
  mul_neg x y = mul_comm x (neg y) ∙ neg_mul y x ∙ ap neg (mul_comm y x)

  -- A term and its negation with others between: `simp` sorts a sum, which leaves the two apart.
  pub past_one : (x y : F) → x + (y + neg x) ≡ y
  past_one x y = ap (λ w. x + w) (add_comm y (neg x)) ∙ cancel_neg x y

  pub past_one_more : (x y z : F) → x + (y + (neg x + z)) ≡ y + z
  past_one_more x y z = ap (λ w. x + w) (add_left_comm y (neg x) z) ∙ cancel_neg x (y + z)

  pub past_two : (x y z : F) → x + (y + (z + neg x)) ≡ y + z
  past_two x y z = ap (λ w. x + w) (sym (add_assoc y z (neg x))) ∙ past_one x (y + z)

  pub past_two_more : (x y z u : F) → x + (y + (z + (neg x + u))) ≡ y + (z + u)
  past_two_more x y z u = ap (λ w. x + w) (sym (add_assoc y z (neg x + u))) ∙ past_one_more x (y + z) u ∙ add_assoc y z u

  pub past_three : (x y z u : F) → x + (y + (z + (u + neg x))) ≡ y + (z + u)
  past_three x y z u = ap (λ w. x + (y + w)) (sym (add_assoc z u (neg x))) ∙ past_two x y (z + u)

  pub past_three_more : (x y z u v : F) → x + (y + (z + (u + (neg x + v)))) ≡ y + (z + (u + v))
  past_three_more x y z u v = ap (λ w. x + (y + w)) (sym (add_assoc z u (neg x + v))) ∙ past_two_more x y (z + u) v ∙ ap (λ w. y + w) (add_assoc z u v)

  pub ruleset sums = (add_comm, add_assoc, add_left_comm, add_zero, zero_add, neg_zero, neg_neg, neg_sum, add_neg, neg_add, neg_cancel, cancel_neg, past_one, past_one_more, past_two, past_two_more, past_three, past_three_more)

  pub ruleset products = (mul_comm, mul_assoc, mul_left_comm, mul_one, one_mul, mul_zero, zero_mul)

  pub ruleset ring = (sums, products, mul_add, add_mul, neg_mul, mul_neg)

  -- Elements with the difference zero are equal.
  pub equal_of_sub : (x y : F) → x + neg y ≡ zero → x ≡ y
  equal_of_sub x y e = sym (add_zero x) ∙ ap (λ w. x + w) (sym (neg_add y)) ∙ sym (add_assoc x (neg y) y) ∙ ap (λ w. w + y) e ∙ zero_add y

  -- And the other way.
  pub sub_of_equal : (x y : F) → x ≡ y → x + neg y ≡ zero
  sub_of_equal x y e = rw e (add_neg y)
