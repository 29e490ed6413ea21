-- Inverses of the elements of a field: cancellation, no zero divisors, inverses of products. The ruleset is for `simp`:
--
--   quotients               an element meets its inverse (where it is known to differ from zero)
use Rattle.std.specs.Prelude.{◌≡◌, ◌≢◌, ◌⊎◌}
use Rattle.std.proofs.Common.{sym, ◌∙◌, ap, inl, inr}
use Rattle.fields.specs.Field.{Ops, Laws}
use Rattle.fields.specs.Basics

module _ {F : Type 0} {o : Ops F} (l : Laws o) where
  open o use {zero, one, mul as ◌*◌, inv}

  infixl 70 ◌*◌
  -- One is not zero.
  pub one_zero : one ≢ zero
  one_zero = l.one_zero

  -- An element and its inverse.
  pub mul_inv : (x : F) → x ≢ zero → x * inv x ≡ one
  mul_inv = l.mul_inv

  -- The inverse before it.
  pub inv_mul : (x : F) → x ≢ zero → inv x * x ≡ one
  inv_mul x n = Basics.mul_comm l (inv x) x ∙ mul_inv x n

  -- An element meets its inverse at the head of a product.
  pub mul_inv_cancel : (x y : F) → x ≢ zero → x * (inv x * y) ≡ y
  mul_inv_cancel x y n = sym (Basics.mul_assoc l x (inv x) y) ∙ ap (λ w. w * y) (mul_inv x n) ∙ Basics.one_mul l y

  -- An inverse meets its element there.
  pub inv_mul_cancel : (x y : F) → x ≢ zero → inv x * (x * y) ≡ y
  inv_mul_cancel x y n = sym (Basics.mul_assoc l (inv x) x y) ∙ ap (λ w. w * y) (inv_mul x n) ∙ Basics.one_mul l y

  -- An element and its inverse with others between, as `simp` sorts a product.
  pub div_past_one : (x y : F) → x ≢ zero → x * (y * inv x) ≡ y
  div_past_one x y n = ap (λ w. x * w) (Basics.mul_comm l y (inv x)) ∙ mul_inv_cancel x y n

  pub div_past_one_more : (x y z : F) → x ≢ zero → x * (y * (inv x * z)) ≡ y * z
  div_past_one_more x y z n = ap (λ w. x * w) (Basics.mul_left_comm l y (inv x) z) ∙ mul_inv_cancel x (y * z) n

  pub div_past_two : (x y z : F) → x ≢ zero → x * (y * (z * inv x)) ≡ y * z
  div_past_two x y z n = ap (λ w. x * w) (sym (Basics.mul_assoc l y z (inv x))) ∙ div_past_one x (y * z) n

  pub div_past_two_more : (x y z u : F) → x ≢ zero → x * (y * (z * (inv x * u))) ≡ y * (z * u)
  div_past_two_more x y z u n = ap (λ w. x * w) (sym (Basics.mul_assoc l y z (inv x * u))) ∙ div_past_one_more x (y * z) u n ∙ Basics.mul_assoc l y z u

  pub ruleset quotients = (mul_inv, inv_mul, mul_inv_cancel, inv_mul_cancel, div_past_one, div_past_one_more, div_past_two, div_past_two_more)

  -- A factor other than zero can be taken from both sides.
  pub mul_cancel : (x y z : F) → x ≢ zero → x * y ≡ x * z → y ≡ z
  mul_cancel x y z n e = sym (inv_mul_cancel x y n) ∙ ap (λ w. inv x * w) e ∙ inv_mul_cancel x z n

  -- The same with it behind.
  pub mul_cancel_right : (x y z : F) → x ≢ zero → y * x ≡ z * x → y ≡ z
  mul_cancel_right x y z n e = mul_cancel x y z n (Basics.mul_comm l x y ∙ e ∙ Basics.mul_comm l z x)

  -- There are no zero divisors: a second factor is zero where the first is not.
  pub right_zero : (x y : F) → x ≢ zero → x * y ≡ zero → y ≡ zero
  right_zero x y n e = mul_cancel x y zero n (e ∙ sym (Basics.mul_zero l x))

  -- The same of the first factor.
  pub left_zero : (x y : F) → y ≢ zero → x * y ≡ zero → x ≡ zero
  left_zero x y n e = right_zero y x n (Basics.mul_comm l y x ∙ e)

  -- A product of elements other than zero.
  pub mul_nonzero : (x y : F) → x ≢ zero → y ≢ zero → x * y ≢ zero
  mul_nonzero x y n m e = m (right_zero x y n e)

  -- A factor of a product zero is zero.
  pub some_zero : (x y : F) → x * y ≡ zero → (x ≡ zero) ⊎ (y ≡ zero)
  some_zero x y e = elim (l.same x zero) [ yes p ↦ inl p | no n ↦ inr (right_zero x y n e) ]

  -- A first factor of one is not zero.
  pub unit_nonzero : (x y : F) → x * y ≡ one → x ≢ zero
  unit_nonzero x y e z = one_zero (sym e ∙ ap (λ w. w * y) z ∙ Basics.zero_mul l y)

  -- The second factor is the inverse of the first.
  pub inv_unique : (x y : F) → x * y ≡ one → inv x ≡ y
  inv_unique x y e = let n : x ≢ zero = unit_nonzero x y e in mul_cancel x (inv x) y n (mul_inv x n ∙ sym e)

  -- An inverse is not zero.
  pub inv_nonzero : (x : F) → x ≢ zero → inv x ≢ zero
  inv_nonzero x n = unit_nonzero (inv x) x (inv_mul x n)

  -- The inverse of an inverse.
  pub inv_inv : (x : F) → x ≢ zero → inv (inv x) ≡ x
  inv_inv x n = inv_unique (inv x) x (inv_mul x n)

  -- The inverse of a product.
  pub inv_product : (x y : F) → x ≢ zero → y ≢ zero → inv (x * y) ≡ inv x * inv y
  inv_product x y n m = inv_unique (x * y) (inv x * inv y) (rw (Basics.mul_assoc l x y (inv x * inv y), Basics.mul_left_comm l y (inv x) (inv y), mul_inv y m, Basics.mul_one l (inv x), mul_inv x n))
