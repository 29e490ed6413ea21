-- The values of the pairs that one step of the two pairs makes, at the spots so far and at the new one.
--
--   value_lifted, value_crossed    of one polynomial
--   worth_lifted, worth_crossed    of a pair
use Rattle.std.proofs.Common.{◌≡◌, List, [], ◌∷◌, ◌++◌, sym, ap, ◌∙◌, subst}
use Rattle.std.specs.List.{AllByRecursion}
use Rattle.fields.specs.Field.{Ops, Laws, plus, scale}
use Rattle.fields.specs.Basics.{ring}
use Rattle.fields.specs.Twists.{twists}
use Rattle.skew.specs.Values.{step, eval, value}
use Rattle.skew.specs.Pairs.{Spot, Two, worth}
use Rattle.skew.proofs.Evaluation
use Rattle.skew.proofs.Everywhere.{all_append}
use Rattle.skew.proofs.Multiplication
use Rattle.skew.proofs.Multiplication.{shift}
use Rattle.skew.proofs.PairDegrees.{cross, lift, lifted}

module _ {F : Type 0} {o : Ops F} (l : Laws o) where
  open o use {zero, add as ◌+◌, mul as ◌*◌, neg, twist}

  infixl 65 ◌+◌
  infixl 70 ◌*◌
  -- The values of the new pairs.
  value_lifted : (a c : F) (f : List F) (x : F) → value o a (lifted o c f) x ≡ neg c * value o a f x + step o a (value o a f x)
  value_lifted a c f x =
      subst (λ v. v a (lifted o c f) x ≡ neg c * v a f x + step o a (v a f x)) (Evaluation.both_values l)
      (Evaluation.eval_plus l a (scale o (neg c) f) (shift o f) x ∙ ap (λ w. w + eval o a (shift o f) x) (Evaluation.eval_scaled l a (neg c) f x)
      ∙ ap (λ w. neg c * eval o a f x + w) (Multiplication.eval_shift l a f x))

  -- The value of a sum of multiples.
  value_crossed : (a c d : F) (f g : List F) (x : F) → value o a (plus o (scale o c f) (scale o (neg d) g)) x ≡ c * value o a f x + neg d * value o a g x
  value_crossed a c d f g x =
      subst (λ v. v a (plus o (scale o c f) (scale o (neg d) g)) x ≡ c * v a f x + neg d * v a g x) (Evaluation.both_values l)
      (Evaluation.eval_plus l a (scale o c f) (scale o (neg d) g) x ∙ ap (λ w. w + eval o a (scale o (neg d) g) x) (Evaluation.eval_scaled l a c f x)
      ∙ ap (λ w. c * eval o a f x + w) (Evaluation.eval_scaled l a (neg d) g x))

  -- The value of a pair multiplied by x - c.
  worth_lifted : (c : F) (q : Two F) (p : Spot F) → worth o (lift o c q) p ≡ neg c * worth o q p + step o p.parameter (worth o q p)
  worth_lifted c q p =
      ap (λ w. w + value o p.parameter (lifted o c q.q1) p.second) (value_lifted p.parameter c q.q0 p.locator)
      ∙ ap (λ w. neg c * u + step o p.parameter u + w) (value_lifted p.parameter c q.q1 p.second) ∙ gather u (value o p.parameter q.q1 p.second)
    where
      u : F
      u = value o p.parameter q.q0 p.locator

      gather : (x y : F) → neg c * x + twist x * p.parameter + (neg c * y + twist y * p.parameter) ≡ neg c * (x + y) + twist (x + y) * p.parameter
      gather x y = simp (ring, twists, l)

  -- The value of a sum of multiples of pairs.
  worth_crossed : (c d : F) (q r : Two F) (p : Spot F) → worth o (cross o c q d r) p ≡ c * worth o q p + neg d * worth o r p
  worth_crossed c d q r p =
      ap (λ w. w + value o a (cross o c q d r).q1 p.second) (value_crossed a c d q.q0 r.q0 p.locator)
      ∙ ap (λ w. c * value o a q.q0 p.locator + neg d * value o a r.q0 p.locator + w) (value_crossed a c d q.q1 r.q1 p.second)
      ∙ gather (value o a q.q0 p.locator) (value o a q.q1 p.second) (value o a r.q0 p.locator) (value o a r.q1 p.second)
    where
      a : F
      a = p.parameter

      gather : (x y u v : F) → c * x + neg d * u + (c * y + neg d * v) ≡ c * (x + y) + neg d * (u + v)
      gather x y u v = simp (ring, l)

  -- At the spots so far, and at the new one.
  pub lifted_old : (c : F) (q : Two F) (ps : List (Spot F)) → AllByRecursion (λ p. worth o q p ≡ zero) ps → AllByRecursion (λ p. worth o (lift o c q) p ≡ zero) ps
  lifted_old c q [] h = tt
  lifted_old c q (p ∷ ps) h = (worth_lifted c q p ∙ ap (λ w. neg c * w + step o p.parameter w) h.0 ∙ nil p.parameter, lifted_old c q ps h.1)
    where
      nil : (a : F) → neg c * zero + twist zero * a ≡ zero
      nil a = simp (ring, twists, l)

  -- The right factor takes the value at the new spot to zero.
  pub lifted_new : (c : F) (q : Two F) (p : Spot F) → c * worth o q p ≡ step o p.parameter (worth o q p) → worth o (lift o c q) p ≡ zero
  lifted_new c q p e = worth_lifted c q p ∙ ap (λ w. neg c * worth o q p + w) (sym e) ∙ gather (worth o q p)
    where
      gather : (w : F) → neg c * w + c * w ≡ zero
      gather w = simp (ring, l)

  -- A sum of multiples vanishes where both do.
  pub crossed_old : (c d : F) (q r : Two F) (ps : List (Spot F)) → AllByRecursion (λ p. worth o q p ≡ zero) ps → AllByRecursion (λ p. worth o r p ≡ zero) ps → AllByRecursion (λ p. worth o (cross o c q d r) p ≡ zero) ps
  crossed_old c d q r [] h k = tt
  crossed_old c d q r (p ∷ ps) h k = (worth_crossed c d q r p ∙ ap (λ w. c * w + neg d * worth o r p) h.0 ∙ ap (λ w. c * zero + neg d * w) k.0 ∙ simp (ring, l), crossed_old c d q r ps h.1 k.1)

  -- Crossed by their values, the two cancel at the new spot.
  pub crossed_new : (q r : Two F) (p : Spot F) → worth o (cross o (worth o r p) q (worth o q p) r) p ≡ zero
  crossed_new q r p = worth_crossed (worth o r p) (worth o q p) q r p ∙ gather (worth o q p) (worth o r p)
    where
      gather : (x y : F) → y * x + neg x * y ≡ zero
      gather x y = simp (ring, l)

  -- What vanishes at the spots so far and at one more.
  pub onto : (q : Two F) (ps : List (Spot F)) (p : Spot F) → AllByRecursion (λ p. worth o q p ≡ zero) ps → worth o q p ≡ zero → AllByRecursion (λ p. worth o q p ≡ zero) (ps ++ p ∷ [])
  onto q ps p h e = all_append (λ p. worth o q p ≡ zero) ps (p ∷ []) h (e, tt)
