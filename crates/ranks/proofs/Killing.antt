-- Polynomials that vanish at points, and so at what elements with one parameter span.
--
--   Kills p t       p vanishes at the point t
--   paired a es     the elements of a list, each with the parameter a
use Rattle.std.proofs.Common.{◌≡◌, suc, ◌≢◌, List, [], ◌∷◌, map, length, sym, refl, ap, ◌∙◌, arith}
use Rattle.std.specs.List.{AllByRecursion}
use Rattle.fields.specs.Field.{Ops, Laws, comb}
use Rattle.fields.specs.Basics
use Rattle.fields.specs.Inverses
use Rattle.fields.specs.Basics.{ring}
use Rattle.skew.specs.Values.{step, eval}
use Rattle.skew.specs.Products.{coef}
use Rattle.skew.proofs.Evaluation
use Rattle.skew.proofs.Multiplication
use Rattle.skew.proofs.Multiplication.{times}
use Rattle.skew.proofs.IndependentLocators
use Rattle.skew.proofs.Vanishing
use Rattle.skew.proofs.Vanishing.{linear}
use Rattle.ranks.specs.Ranks.{Spanned}

module _ {F : Type 0} {o : Ops F} (l : Laws o) where
  open o use {zero, one, add as ◌+◌, mul as ◌*◌, neg, inv, twist}

  infixl 65 ◌+◌
  infixl 70 ◌*◌
  abbrev pub Kills : List F → F × F → Type 0
  Kills p t = eval o t.0 p t.1 ≡ zero

  abbrev pub paired : F → List F → List (F × F)
  paired a es = map (λ e. (a, e)) es

  -- x - c takes w to zero, where c is the ratio of w; also where w is zero.
  factor_root : (a w : F) → eval o a (linear o (IndependentLocators.ratio l a w)) w ≡ zero
  factor_root a w = elim (l.same w zero) [ yes z ↦ at_zero z | no n ↦ Vanishing.linear_root l a (IndependentLocators.ratio l a w) w (back n) ]
    where
      at_zero : w ≡ zero → eval o a (linear o (IndependentLocators.ratio l a w)) w ≡ zero
      at_zero z = ap (eval o a (linear o (IndependentLocators.ratio l a w))) z ∙ Evaluation.eval_zero l a (linear o (IndependentLocators.ratio l a w))

      back : w ≢ zero → IndependentLocators.ratio l a w * w ≡ step o a w
      back n = Basics.mul_assoc l (step o a w) (inv w) w ∙ ap (λ u. step o a w * u) (Inverses.inv_mul l w n) ∙ Basics.mul_one l (step o a w)

  -- What p kills, a multiple of p kills.
  times_keeps : (f p : List F) (pairs : List (F × F)) → AllByRecursion (Kills p) pairs → AllByRecursion (Kills (times o f p)) pairs
  times_keeps f p [] h = tt
  times_keeps f p (t ∷ pairs) h =
      (Multiplication.product_applies l t.0 f p t.1 ∙ ap (eval o t.0 f) h.0 ∙ Evaluation.eval_zero l t.0 f, times_keeps f p pairs h.1)

  -- For each list of points there is a monic polynomial of their number that vanishes at each.
  pub killer : (pairs : List (F × F)) → (p : List F) × (length p ≡ suc (length pairs)) × (coef o p (length pairs) ≡ one) × AllByRecursion (Kills p) pairs
  killer [] = (one ∷ [], refl, refl, tt)
  killer (t ∷ pairs) =
      let s = killer pairs in
      let p = s.0 in
      let c = IndependentLocators.ratio l t.0 (eval o t.0 p t.1) in (
        times o (linear o c) p,
        Multiplication.length_times l (neg c) (one ∷ []) p ∙ omega (arith, s.1),
        Vanishing.highest l c p (length pairs) s.1 s.2,
        (Multiplication.product_applies l t.0 (linear o c) p t.1 ∙ factor_root t.0 (eval o t.0 p t.1), times_keeps (linear o c) p pairs s.3),
      )

  -- A combination of the values of p at points that it kills.
  comb_killed : (p : List F) (a : F) (cs es : List F) → AllByRecursion (Kills p) (paired a es) → comb o cs (map (eval o a p) es) ≡ zero
  comb_killed p a [] es h = refl
  comb_killed p a (c ∷ cs) [] h = refl
  comb_killed p a (c ∷ cs) (e ∷ es) h = ap (λ w. c * w + comb o cs (map (eval o a p) es)) h.0 ∙ ap (λ w. c * zero + w) (comb_killed p a cs es h.1) ∙ simp (ring, l)

  -- A polynomial that vanishes at each of es vanishes at what they span.
  pub span_killed : (p : List F) (a : F) (es : List F) (v : F) → AllByRecursion (Kills p) (paired a es) → Spanned o es v → eval o a p v ≡ zero
  span_killed p a es v h s =
      ap (eval o a p) s.3 ∙ sym (Evaluation.comb_map l (eval o a p) (Evaluation.eval_linear l a p) s.0 es s.2) ∙ comb_killed p a s.0 es h
