-- A field with an automorphism, over any carrier: the operations, the laws that they keep, and rows of elements.
--
--   Ops F, Laws o       the operations on F, and what they keep
--   mirror o            the operations with twist and untwist exchanged
--   Zero, Fixed         x is zero; twist leaves x as it is
--   plus, scale, comb   sum of rows, product of a row with an element, sum of the products place by place
use Rattle.std.specs.Prelude.{◌≡◌, ◌≢◌, List, [], ◌∷◌, map}

pub record Ops (F : Type 0) : Type 0 where
  pub zero : F
  pub one : F
  pub add : F → F → F
  pub mul : F → F → F
  pub neg : F → F
  pub inv : F → F
  pub twist : F → F
  pub untwist : F → F

pub record Laws {F : Type 0} (o : Ops F) : Type 0 where
  pub same : (x y : F) → Dec (x ≡ y)
  pub add_comm : (x y : F) → o.add x y ≡ o.add y x
  pub add_assoc : (x y z : F) → o.add (o.add x y) z ≡ o.add x (o.add y z)
  pub add_zero : (x : F) → o.add x o.zero ≡ x
  pub add_neg : (x : F) → o.add x (o.neg x) ≡ o.zero
  pub mul_comm : (x y : F) → o.mul x y ≡ o.mul y x
  pub mul_assoc : (x y z : F) → o.mul (o.mul x y) z ≡ o.mul x (o.mul y z)
  pub mul_one : (x : F) → o.mul x o.one ≡ x
  pub one_zero : o.one ≢ o.zero
  pub mul_inv : (x : F) → x ≢ o.zero → o.mul x (o.inv x) ≡ o.one
  pub mul_add : (x y z : F) → o.mul x (o.add y z) ≡ o.add (o.mul x y) (o.mul x z)
  pub twist_add : (x y : F) → o.twist (o.add x y) ≡ o.add (o.twist x) (o.twist y)
  pub twist_mul : (x y : F) → o.twist (o.mul x y) ≡ o.mul (o.twist x) (o.twist y)
  pub twist_untwist : (x : F) → o.twist (o.untwist x) ≡ x
  pub untwist_twist : (x : F) → o.untwist (o.twist x) ≡ x

module _ {F : Type 0} (o : Ops F) where
  abbrev pub mirror : Ops F
  mirror = record {
    zero = o.zero;
    one = o.one;
    add = o.add;
    mul = o.mul;
    neg = o.neg;
    inv = o.inv;
    twist = o.untwist;
    untwist = o.twist;
  }

  abbrev pub Zero : F → Type 0
  Zero x = x ≡ o.zero

  abbrev pub Fixed : F → Type 0
  Fixed x = o.twist x ≡ x

  abbrev pub plus : List F → List F → List F
  plus [] g = g
  plus (x ∷ f) [] = x ∷ f
  plus (x ∷ f) (y ∷ g) = o.add x y ∷ plus f g

  abbrev pub scale : F → List F → List F
  scale c f = map (o.mul c) f

  abbrev pub comb : List F → List F → F
  comb [] bs = o.zero
  comb (c ∷ cs) [] = o.zero
  comb (c ∷ cs) (b ∷ bs) = o.add (o.mul c b) (comb cs bs)
