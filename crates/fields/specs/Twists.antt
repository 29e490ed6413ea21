-- The automorphism of a field, its twist, and the fixed elements, which it leaves. The ruleset is for `simp`:
--
--   twists                  a twist goes inside
use Rattle.std.specs.Prelude.{◌≡◌, ◌≢◌}
use Rattle.std.proofs.Common.{sym, ◌∙◌, ap}
use Rattle.fields.specs.Field.{Ops, Laws, Fixed}
use Rattle.fields.specs.Basics
use Rattle.fields.specs.Inverses

module _ {F : Type 0} {o : Ops F} (l : Laws o) where
  open o use {zero, one, add as ◌+◌, mul as ◌*◌, neg, inv, twist, untwist}

  infixl 65 ◌+◌
  infixl 70 ◌*◌
  -- A twist keeps sums.
  pub twist_add : (x y : F) → twist (x + y) ≡ twist x + twist y
  twist_add = l.twist_add

  -- It keeps products.
  pub twist_mul : (x y : F) → twist (x * y) ≡ twist x * twist y
  twist_mul = l.twist_mul

  -- It tells elements apart.
  pub twist_inj : (x y : F) → twist x ≡ twist y → x ≡ y
  twist_inj x y e = sym (l.untwist_twist x) ∙ ap untwist e ∙ l.untwist_twist y

  -- It keeps zero,
  pub twist_zero : twist zero ≡ zero
  twist_zero = Basics.add_cancel l (twist zero) (twist zero) zero (sym (twist_add zero zero) ∙ ap twist (Basics.add_zero l zero) ∙ sym (Basics.add_zero l (twist zero)))

  -- and nothing else comes to zero.
  pub twist_nonzero : (x : F) → x ≢ zero → twist x ≢ zero
  twist_nonzero x n e = n (twist_inj x zero (e ∙ sym twist_zero))

  -- It keeps one.
  pub twist_one : twist one ≡ one
  twist_one = Inverses.mul_cancel l (twist one) (twist one) one (twist_nonzero one (Inverses.one_zero l)) (sym (twist_mul one one) ∙ ap twist (Basics.mul_one l one) ∙ sym (Basics.mul_one l (twist one)))

  -- It keeps opposites.
  pub twist_neg : (x : F) → twist (neg x) ≡ neg (twist x)
  twist_neg x = Basics.neg_unique l (twist x) (twist (neg x)) (sym (twist_add x (neg x)) ∙ ap twist (Basics.add_neg l x) ∙ twist_zero)

  -- It keeps inverses.
  pub twist_inv : (x : F) → x ≢ zero → twist (inv x) ≡ inv (twist x)
  twist_inv x n = sym (Inverses.inv_unique l (twist x) (twist (inv x)) (sym (twist_mul x (inv x)) ∙ ap twist (Inverses.mul_inv l x n) ∙ twist_one))

  pub ruleset twists = (twist_add, twist_mul, twist_zero, twist_one, twist_neg)

  -- Zero is fixed; the fixed elements are a field.
  pub fixed_zero : Fixed o zero
  fixed_zero = twist_zero

  -- One is fixed.
  pub fixed_one : Fixed o one
  fixed_one = twist_one

  -- A sum of fixed elements is fixed.
  pub fixed_add : (x y : F) → Fixed o x → Fixed o y → Fixed o (x + y)
  fixed_add x y p q = rw (twist_add, p, q)

  -- So is a product.
  pub fixed_mul : (x y : F) → Fixed o x → Fixed o y → Fixed o (x * y)
  fixed_mul x y p q = rw (twist_mul, p, q)

  -- So is an opposite.
  pub fixed_neg : (x : F) → Fixed o x → Fixed o (neg x)
  fixed_neg x p = rw (twist_neg, p)

  -- So is an inverse.
  pub fixed_inv : (x : F) → x ≢ zero → Fixed o x → Fixed o (inv x)
  fixed_inv x n p = twist_inv x n ∙ ap inv p
