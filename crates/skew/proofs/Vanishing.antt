-- Polynomials that vanish at points: the factor for one more point, monic polynomials, and what vanishes at combinations.
--
--   linear o c    x - c; where c × w is what x takes w to, it takes w to zero
--   highest, product_monic    multiplied by it from the left, a monic polynomial stays monic
--   is_annihilator            what vanishes at points vanishes at their combinations with fixed coefficients
use Rattle.std.proofs.Common.{◌≡◌, ℕ, suc, ◌<◌, ◌≤◌, ◌≢◌, List, [], ◌∷◌, map, length, sym, refl, ap, ◌∙◌, subst, inl, inr, arith}
use Rattle.std.proofs.Math.ListN.{get_or-eq_default}
use Rattle.std.proofs.lemmas.Bool.{cases_lt}
use Rattle.std.specs.List.{AllByRecursion}
use Rattle.fields.specs.Field.{Ops, Laws, Zero, Fixed, comb}
use Rattle.fields.specs.Basics
use Rattle.fields.specs.Twists
use Rattle.fields.specs.Inverses
use Rattle.fields.specs.Basics.{ring}
use Rattle.skew.specs.Values.{step, eval}
use Rattle.skew.specs.Products.{coef, Product}
use Rattle.skew.specs.Annihilators.{Among, Monic, Annihilator}
use Rattle.skew.proofs.Evaluation
use Rattle.skew.proofs.Multiplication
use Rattle.skew.proofs.Coefficients
use Rattle.skew.proofs.RightDivision
use Rattle.skew.proofs.Multiplication.{shift, times}

module _ {F : Type 0} (o : Ops F) where
  -- x - c.
  abbrev pub linear : F → List F
  linear c = o.neg c ∷ o.one ∷ []

module _ {F : Type 0} {o : Ops F} (l : Laws o) where
  open o use {zero, one, add as ◌+◌, mul as ◌*◌, neg, twist}

  infixl 65 ◌+◌
  infixl 70 ◌*◌
  -- x - c takes w to zero where c × w is what x takes w to.
  pub linear_root : (a c w : F) → c * w ≡ step o a w → eval o a (linear o c) w ≡ zero
  linear_root a c w e = gather (step o a w) ∙ Basics.sub_of_equal l (step o a w) (c * w) (sym e)
    where
      gather : (d : F) → neg c * w + (one * d + zero) ≡ d + neg (c * w)
      gather d = simp (ring, l)

  -- What x - c does, as it stands in division.
  linear_less : (a c w : F) → eval o a (linear o c) w ≡ RightDivision.less l c a w
  linear_less a c w = gather (step o a w)
    where
      gather : (d : F) → neg c * w + (one * d + zero) ≡ d + neg (c * w)
      gather d = simp (ring, l)

  -- The highest coefficient of (x - c) × p.
  pub highest : (c : F) (p : List F) (n : ℕ) → length p ≡ suc n → coef o p n ≡ one → coef o (times o (linear o c) p) (suc n) ≡ one
  highest c p n len top =
      Multiplication.coef_times l (neg c) (one ∷ []) p (suc n)
      ∙ ap (λ w. neg c * w + coef o (times o (one ∷ []) (shift o p)) (suc n)) (get_or-eq_default p zero (omega arith))
      ∙ ap (λ w. neg c * zero + w) (Multiplication.coef_times l one [] (shift o p) (suc n) ∙ ap (λ w. one * w + zero) (Coefficients.coef_twist l p n ∙ ap twist top ∙ Twists.twist_one l))
      ∙ simp (ring, l)

  -- A list is longer than the place of a coefficient that is not zero.
  pub past : (f : List F) (n : ℕ) → coef o f n ≢ zero → n < length f
  past f n h = elim (cases_lt n (length f)) [ inl k ↦ k | inr k ↦ absurd (h (get_or-eq_default f zero k)) ]

  -- A product p of x - c and g.
  module _ (c : F) (g p : List F) (h : Product o (linear o c) g p) where
    -- Its value by the values of its factors.
    applied : (a b : F) → eval o a p b ≡ eval o a (linear o c) (eval o a g b)
    applied = subst (λ v. (a b : F) → v a p b ≡ v a (linear o c) (v a g b)) (sym (Evaluation.both_values l)) h.applies

    -- It vanishes where x - c takes the value of g to zero.
    pub product_there : (a b : F) → c * eval o a g b ≡ step o a (eval o a g b) → eval o a p b ≡ zero
    product_there a b e = applied a b ∙ linear_root a c (eval o a g b) e

    -- It vanishes where g does.
    pub product_keeps : (a b : F) → eval o a g b ≡ zero → eval o a p b ≡ zero
    product_keeps a b e = applied a b ∙ ap (eval o a (linear o c)) e ∙ Evaluation.eval_zero l a (linear o c)

    -- A multiple of g that vanishes where x - c takes the value of g to zero, and g does not, is a multiple of it.
    pub product_least : (a b : F) (q : List F) → eval o a g b ≢ zero → c * eval o a g b ≡ step o a (eval o a g b) → eval o a q (eval o a g b) ≡ zero
        → (r : List F) × ((e x : F) → eval o e q (eval o e g x) ≡ eval o e r (eval o e p x))
    product_least a b q n e z =
        let d = RightDivision.root_divides l c a (eval o a g b) q n (Basics.sub_of_equal l _ _ (sym e)) z in
        (d.0, λ e x. d.1 e (eval o e g x) ∙ ap (eval o e d.0) (sym (linear_less e c (eval o e g x)) ∙ sym (applied e x)))

    -- It is monic where g is.
    pub product_monic : length p ≤ suc (length g) → Monic o g → Monic o p
    product_monic k m = (suc m.0, omega (arith, m.1, past p (suc m.0) (λ z. Inverses.one_zero l (sym top ∙ z))), top)
      where
        top : coef o p (suc m.0) ≡ one
        top = h.coefficients (suc m.0) ∙ sym (Multiplication.coef_product l (linear o c) g (suc m.0)) ∙ highest c g m.0 m.1 m.2

  -- A combination of zeros.
  pub comb_null : (cs es : List F) → AllByRecursion (Zero o) es → comb o cs es ≡ zero
  comb_null [] es h = refl
  comb_null (c ∷ cs) [] h = refl
  comb_null (c ∷ cs) (e ∷ es) h = ap (λ w. c * w + comb o cs es) h.0 ∙ ap (λ w. c * zero + w) (comb_null cs es h.1) ∙ simp (ring, l)

  -- What holds of each point holds of one among them.
  among : {A : Type 0} (P : A → Type 0) (x : A) (xs : List A) → Among x xs → AllByRecursion P xs → P x
  among P x [] h k = absurd h
  among P x (y ∷ ys) (inl e) k = subst P (sym e) k.0
  among P x (y ∷ ys) (inr h) k = among P x ys h k.1

  -- The values at points that are among those.
  images : (f : List F) (pts : List (F × F)) (a : F) (es : List F) → AllByRecursion (λ t. eval o t.0 f t.1 ≡ zero) pts → AllByRecursion (λ e. Among (a, e) pts) es → AllByRecursion (Zero o) (map (eval o a f) es)
  images f pts a [] h k = tt
  images f pts a (e ∷ es) h k = (among (λ t. eval o t.0 f t.1 ≡ zero) (a, e) pts k.0 h, images f pts a es h k.1)

  -- What vanishes at points vanishes at their combinations with fixed coefficients.
  spanned : (f : List F) (pts : List (F × F)) → AllByRecursion (λ t. eval o t.0 f t.1 ≡ zero) pts → (a : F) (cs es : List F) → AllByRecursion (Fixed o) cs → AllByRecursion (λ e. Among (a, e) pts) es
      → eval o a f (comb o cs es) ≡ zero
  spanned f pts h a cs es p k = sym (Evaluation.comb_map l (eval o a f) (Evaluation.eval_linear l a f) cs es p) ∙ comb_null cs (map (eval o a f) es) (images f pts a es h k)

  -- Together: what the annihilator promises.
  pub is_annihilator : (pts : List (F × F)) (f : List F) → Monic o f → length f ≤ suc (length pts) → AllByRecursion (λ t. eval o t.0 f t.1 ≡ zero) pts → Annihilator o pts f
  is_annihilator pts f m d h = record {
    monic = m;
    degree = d;
    vanishes = subst (λ v. AllByRecursion (λ t. v t.0 f t.1 ≡ zero) pts) (Evaluation.both_values l) h;
    spans = subst (λ v. (a : F) (cs es : List F) → AllByRecursion (Fixed o) cs → AllByRecursion (λ e. Among (a, e) pts) es → v a f (comb o cs es) ≡ zero) (Evaluation.both_values l) (spanned f pts h);
  }
