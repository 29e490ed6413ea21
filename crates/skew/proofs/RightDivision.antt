-- Division on the right by x - c: its quotient and rest, and what x - c does to a locator.
--
--   less c a b        what x - c takes b to at the parameter a
--   quotient c f      the quotient, which does not depend on the lowest coefficient; rest c f: what is left
use Rattle.std.proofs.Common.{◌≡◌, ◌≢◌, suc, List, [], ◌∷◌, length, sym, refl, ap, ◌∙◌}
use Rattle.std.specs.List.{AllByRecursion}
use Rattle.fields.specs.Field.{Ops, Laws, Zero}
use Rattle.fields.specs.Basics
use Rattle.fields.specs.Inverses
use Rattle.fields.specs.Basics.{ring}
use Rattle.fields.specs.Twists.{twists}
use Rattle.skew.specs.Values.{step, eval}
use Rattle.skew.proofs.Evaluation

module _ {F : Type 0} {o : Ops F} (l : Laws o) where
  open o use {zero, add as ◌+◌, mul as ◌*◌, neg, twist}

  infixl 65 ◌+◌
  infixl 70 ◌*◌
  -- What x - c does to b at the parameter a.
  abbrev pub less : F → F → F → F
  less c a b = step o a b + neg (c * b)

  -- It is linear.
  pub less_linear : (c a : F) → Evaluation.Linear l (less c a)
  less_linear c a =
      ((λ x y. simp (ring, twists, l)), (λ d x p. simp (ring, twists, l, p)))

  -- Division on the right by x - c.
  abbrev pub rest : F → List F → F
  rest c [] = zero
  rest c (x ∷ f) = x + rest (twist c) f * c

  -- The quotient does not depend on the lowest coefficient, which is left out here.
  abbrev pub quotient : F → List F → List F
  quotient c [] = []
  quotient c (x ∷ f) = rest (twist c) (x ∷ f) ∷ quotient (twist c) f

  -- The quotient has a coefficient less than f with its lowest.
  pub length_quotient : (c : F) (f : List F) → length (quotient c f) ≡ length f
  length_quotient c [] = refl
  length_quotient c (x ∷ f) = ap suc (length_quotient (twist c) f)

  -- To step after x - c is to step first, with c twisted.
  less_step : (c a b : F) → step o a (less c a b) ≡ less (twist c) a (step o a b)
  less_step c a b = go
    where
      go : twist (twist b * a + neg (c * b)) * a ≡ twist (twist b * a) * a + neg (twist c * (twist b * a))
      go = simp (ring, twists, l)

  -- The value by quotient and rest.
  pub divide : (c a x : F) (f : List F) (b : F) → eval o a (x ∷ f) b ≡ eval o a (quotient c f) (less c a b) + rest c (x ∷ f) * b
  divide c a x [] b = simp (ring, l)
  divide c a x (y ∷ f) b =
      ap (λ w. x * b + w) (divide (twist c) a y f (step o a b))
      ∙ ap (λ w. x * b + (eval o a (quotient (twist c) f) w + rest (twist c) (y ∷ f) * step o a b)) (sym (less_step c a b))
      ∙ gather (rest (twist c) (y ∷ f)) (eval o a (quotient (twist c) f) (step o a (less c a b))) (step o a b)
    where
      gather : (r e d : F) → x * b + (e + r * d) ≡ r * (d + neg (c * b)) + e + (x + r * c) * b
      gather r e d = simp (ring, l)

  -- What vanishes where x - c does, at a v other than zero, is a multiple of x - c.
  pub root_divides : (c a v : F) (f : List F) → v ≢ zero → less c a v ≡ zero → eval o a f v ≡ zero → (q : List F) × ((e b : F) → eval o e f b ≡ eval o e q (less c e b))
  root_divides c a v [] n r z = ([], λ e b. refl)
  root_divides c a v (x ∷ f) n r z = (quotient c f, λ e b. divide c e x f b ∙ ap (λ w. eval o e (quotient c f) (less c e b) + w * b) none ∙ simp (ring, l))
    where
      none : rest c (x ∷ f) ≡ zero
      none =
          Inverses.left_zero l (rest c (x ∷ f)) v n
          (sym (Basics.zero_add l _) ∙ ap (λ w. w + rest c (x ∷ f) * v) (sym (Evaluation.eval_zero l a (quotient c f)))
          ∙ ap (λ w. eval o a (quotient c f) w + rest c (x ∷ f) * v) (sym r) ∙ sym (divide c a x f v) ∙ z)

  -- Where quotient and rest are zero all coefficients are.
  pub undivide : (c x : F) (f : List F) → rest c (x ∷ f) ≡ zero → AllByRecursion (Zero o) (quotient c f) → AllByRecursion (Zero o) (x ∷ f)
  undivide c x [] r q = (sym (simp (ring, l, rest)) ∙ r, tt)
  undivide c x (y ∷ f) r q =
      let n : rest (twist c) (y ∷ f) ≡ zero = q.0 in
      (sym (ap (λ w. x + w * c) n ∙ simp (ring, l)) ∙ r, undivide (twist c) y f n q.1)
