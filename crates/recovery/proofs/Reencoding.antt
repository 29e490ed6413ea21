-- Pairs for all spots from pairs for a part of them: where M vanishes at the first k locators and f has the first k second values, it is enough to
-- carry pairs through the other spots, with M at each locator and each second value less f.
--
--   Met o M f p         M is zero at the locator of p, and f has its second value there
--   rest o p q          p less q, as the opposite of q less p
--   joined o p q u      the pair of p less q and u
--   reencoded           pairs carried through the other spots, turned, are pairs carried through all
use Rattle.std.proofs.Common.{◌≡◌, ℕ, suc, ◌+◌ as ◌+ℕ◌, ◌≤◌, ◌≢◌, List, [], ◌∷◌, ◌++◌, map, length, sym, refl, ap, ◌∙◌, subst, arith, length-append}
use Rattle.std.proofs.lemmas.List.{length-map}
use Rattle.std.specs.List.{AllByRecursion}
use Rattle.fields.specs.Field.{Ops, Laws, plus, scale}
use Rattle.fields.specs.Basics
use Rattle.fields.specs.Inverses
use Rattle.fields.specs.Twists
use Rattle.fields.specs.Basics.{ring}
use Rattle.fields.specs.Lists.{all_follow}
use Rattle.skew.specs.Values.{step, eval, value}
use Rattle.skew.specs.Products.{coef, Below, Degree, Product}
use Rattle.skew.specs.Pairs.{Spot, Two, worth, Carried}
use Rattle.skew.proofs.Combining.{coef_combined}
use Rattle.skew.proofs.Evaluation
use Rattle.skew.proofs.Everywhere.{all_append, all_map}
use Rattle.skew.proofs.Multiplication
use Rattle.skew.proofs.Coefficients
use Rattle.skew.proofs.Multiplication.{shift, times}
use Rattle.skew.proofs.PairDegrees
use Rattle.recovery.specs.Preparation.{turned}
use Rattle.recovery.proofs.Degrees
use Rattle.recovery.proofs.Placewise

module _ {F : Type 0} (o : Ops F) where
  abbrev pub Met : List F → List F → Spot F → Type 0
  Met M f p = (value o p.parameter M p.locator ≡ o.zero) × (value o p.parameter f p.locator ≡ p.second)

  abbrev pub rest : List F → List F → List F
  rest p q = map o.neg (plus o (scale o o.one q) (scale o (o.neg o.one) p))

  abbrev pub joined : List F → List F → List F → Two F
  joined p q u = record { q0 = rest p q; q1 = u }

module _ {F : Type 0} {o : Ops F} (l : Laws o) where
  open o use {zero, one, add as ◌+◌, mul as ◌*◌, neg}

  infixl 65 ◌+◌
  infixl 70 ◌*◌
  -- The coefficients of p less q.
  coef_rest : (p q : List F) (i : ℕ) → coef o (rest o p q) i ≡ coef o p i + neg (coef o q i)
  coef_rest p q i =
      Degrees.coef_neg l (plus o (scale o one q) (scale o (neg one) p)) i ∙ ap neg (coef_combined l one (neg one) q p i) ∙ turn (coef o p i) (coef o q i)
    where
      turn : (x y : F) → neg (one * y + neg one * x) ≡ x + neg y
      turn x y = simp (ring, l)

  -- The value of the opposite.
  eval_opposite : (a : F) (g : List F) (b : F) → eval o a (map neg g) b ≡ neg (eval o a g b)
  eval_opposite a [] b = sym (Basics.neg_zero l)
  eval_opposite a (x ∷ g) b = ap (λ w. neg x * b + w) (eval_opposite a g (step o a b)) ∙ gather (eval o a g (step o a b))
    where
      gather : (e : F) → neg x * b + neg e ≡ neg (x * b + e)
      gather e = simp (ring, l)

  -- The value of a sum of multiples.
  pub value_combined : (a c d : F) (f g : List F) (b : F) → value o a (plus o (scale o c f) (scale o d g)) b ≡ c * value o a f b + d * value o a g b
  value_combined a c d f g b =
      subst (λ v. v a (plus o (scale o c f) (scale o d g)) b ≡ c * v a f b + d * v a g b) (Evaluation.both_values l)
      (Evaluation.eval_plus l a (scale o c f) (scale o d g) b ∙ ap (λ w. w + eval o a (scale o d g) b) (Evaluation.eval_scaled l a c f b)
      ∙ ap (λ w. c * eval o a f b + w) (Evaluation.eval_scaled l a d g b))

  -- The value of p less q.
  value_rest : (a : F) (p q : List F) (b : F) → value o a (rest o p q) b ≡ value o a p b + neg (value o a q b)
  value_rest a p q b =
      subst (λ v. v a (rest o p q) b ≡ neg (v a (plus o (scale o one q) (scale o (neg one) p)) b)) (Evaluation.both_values l)
      (eval_opposite a (plus o (scale o one q) (scale o (neg one) p)) b)
      ∙ ap neg (value_combined a one (neg one) q p b) ∙ turn (value o a p b) (value o a q b)
    where
      turn : (x y : F) → neg (one * y + neg one * x) ≡ x + neg y
      turn x y = simp (ring, l)

  -- The highest coefficient of a product.
  top_times : (a k : ℕ) (u M : List F) → Degree o u a → Degree o M k → coef o (times o u M) (a +ℕ k) ≢ zero
  top_times a k [] M h g e = h.0 refl
  top_times ℕ.zero k (c ∷ u) M h g e =
      Inverses.mul_nonzero l c (coef o M k) h.0 g.0
      (sym (Multiplication.coef_times l c u M k ∙ ap (λ w. c * coef o M k + w) (Degrees.times_null l u (shift o M) (λ j. h.1 (suc j) (omega arith)) k) ∙ Basics.add_zero l _)
      ∙ ap (coef o (times o (c ∷ u) M)) place ∙ e)
    where
      place : k ≡ 0 +ℕ k
      place = omega arith
  top_times (suc a) k (c ∷ u) M h g e =
      top_times a (suc k) u (shift o M) (h.0, λ i m. h.1 (suc i) (omega arith)) (higher, PairDegrees.below_shift l (suc k) (suc (suc k)) M (omega arith) g.1)
      (ap (coef o (times o u (shift o M))) place ∙ sym (low ∙ Basics.zero_add l _) ∙ sym (Multiplication.coef_times l c u M (suc a +ℕ k)) ∙ e)
    where
      higher : coef o (shift o M) (suc k) ≢ zero
      higher z = Twists.twist_nonzero l (coef o M k) g.0 (sym (Coefficients.coef_twist l M k) ∙ z)

      place : a +ℕ suc k ≡ suc a +ℕ k
      place = omega arith

      low : c * coef o M (suc a +ℕ k) + coef o (times o u (shift o M)) (suc a +ℕ k) ≡ zero + coef o (times o u (shift o M)) (suc a +ℕ k)
      low = ap (λ w. c * w + coef o (times o u (shift o M)) (suc a +ℕ k)) (g.1 (suc a +ℕ k) (omega arith)) ∙ ap (λ w. w + coef o (times o u (shift o M)) (suc a +ℕ k)) (Basics.mul_zero l c)

  -- A product reaches no farther, where the first factor has no coefficient from n on.
  below_product : (n k : ℕ) (u M p : List F) → Product o u M p → Below o n u → Below o (suc k) M → Below o (n +ℕ k) p
  below_product n k u M p product h g i e = product.coefficients i ∙ sym (Multiplication.coef_product l u M i) ∙ reach n h e
    where
      reach : (j : ℕ) → Below o j u → j +ℕ k ≤ i → coef o (times o u M) i ≡ zero
      reach ℕ.zero b m = Degrees.times_null l u M (λ t. b t (omega arith)) i
      reach (suc j) b m = Degrees.below_times l j (suc k) u M b g i (omega arith)

  -- A product with a polynomial with no coefficient from k on.
  below_short : (n k : ℕ) (v f q : List F) → Product o v f q → Below o (suc n) v → Below o k f → Below o (n +ℕ k) q
  below_short n k v f q product h g i e = product.coefficients i ∙ sym (Multiplication.coef_product l v f i) ∙ Degrees.below_times l n k v f h g i e

  module _ (M f u v p q : List F) (left : Product o u M p) (right : Product o v f q) where
    -- The value of the joined pair at a spot.
    worth_joined : (s : Spot F) → worth o (joined o p q v) s
        ≡ value o s.parameter u (value o s.parameter M s.locator) + neg (value o s.parameter v (value o s.parameter f s.locator)) + value o s.parameter v s.second
    worth_joined s =
        ap (λ w. w + value o s.parameter v s.second)
        (value_rest s.parameter p q s.locator
        ∙ ap (λ w. w + neg (value o s.parameter q s.locator)) (left.applies s.parameter s.locator)
        ∙ ap (λ w. value o s.parameter u (value o s.parameter M s.locator) + neg w) (right.applies s.parameter s.locator))

    -- It vanishes where M does and f has the second value.
    at_met : (s : Spot F) → Met o M f s → worth o (joined o p q v) s ≡ zero
    at_met s (z, e) =
        worth_joined s
        ∙ ap (λ w. value o s.parameter u w + neg (value o s.parameter v (value o s.parameter f s.locator)) + value o s.parameter v s.second) z
        ∙ ap (λ w. value o s.parameter u zero + neg (value o s.parameter v w) + value o s.parameter v s.second) e
        ∙ ap (λ w. w + neg (value o s.parameter v s.second) + value o s.parameter v s.second)
        (subst (λ n. n s.parameter u zero ≡ zero) (Evaluation.both_values l) (Evaluation.eval_zero l s.parameter u))
        ∙ gone (value o s.parameter v s.second)
      where
        gone : (x : F) → zero + neg x + x ≡ zero
        gone x = simp (ring, l)

    -- It vanishes where the pair of u and v vanishes at the turned spot.
    at_turned : (s : Spot F) → worth o (record { q0 = u; q1 = v }) (turned o M f s) ≡ zero → worth o (joined o p q v) s ≡ zero
    at_turned s z =
        worth_joined s ∙ gather (value o a u (value o a M s.locator)) (value o a v (value o a f s.locator)) (value o a v s.second)
        ∙ ap (λ w. value o a u (value o a M s.locator) + w) (sym (apart s.second (value o a f s.locator))) ∙ z
      where
        a : F
        a = s.parameter

        gather : (x y w : F) → x + neg y + w ≡ x + (w + neg y)
        gather x y w = simp (ring, l)

        apart : (x y : F) → value o a v (x + neg y) ≡ value o a v x + neg (value o a v y)
        apart x y =
            subst (λ n. n a v (x + neg y) ≡ n a v x + neg (n a v y)) (Evaluation.both_values l)
            (Evaluation.eval_add l a v x (neg y) ∙ ap (λ w. eval o a v x + w) (Placewise.linear_neg l (eval o a v) (Evaluation.eval_linear l a v) y))

    -- So it vanishes at all spots.
    at_all : (first others : List (Spot F)) → AllByRecursion (Met o M f) first → AllByRecursion (λ s. worth o (record { q0 = u; q1 = v }) s ≡ zero) (map (turned o M f) others)
        → AllByRecursion (λ s. worth o (joined o p q v) s ≡ zero) (first ++ others)
    at_all first others h g =
        all_append (λ s. worth o (joined o p q v) s ≡ zero) first others (all_follow (Met o M f) (λ s. worth o (joined o p q v) s ≡ zero) at_met first h)
        (all_follow (λ s. worth o (record { q0 = u; q1 = v }) (turned o M f s) ≡ zero) (λ s. worth o (joined o p q v) s ≡ zero) at_turned others
        (all_map (λ s. worth o (record { q0 = u; q1 = v }) s ≡ zero) (turned o M f) others g))

  -- Pairs carried through the other spots, turned, are pairs carried through all.
  pub reencoded : (k : ℕ) (first others : List (Spot F)) (M f : List F) (A B : Two F) (a b : ℕ) (p q p' q' : List F)
      → length first ≡ k → AllByRecursion (Met o M f) first → Degree o M k → Below o k f → Carried o 0 (map (turned o M f) others) A B a b
      → Product o A.q0 M p → Product o A.q1 f q → Product o B.q0 M p' → Product o B.q1 f q'
      → Carried o k (first ++ others) (joined o p q A.q1) (joined o p' q' B.q1) (a +ℕ k) b
  reencoded k first others M f A B a b p q p' q' size met top short h pA qA pB qB = record {
    a_vanishes = at_all M f A.q0 A.q1 p q pA qA first others met h.a_vanishes;
    b_vanishes = at_all M f B.q0 B.q1 p' q' pB qB first others met h.b_vanishes;
    A0 = (highest, λ i e. none p q i (below_product (suc a) k A.q0 M p pA h.A0.1 top.1 i (omega arith)) (low i (omega arith)));
    A1 = λ i e. h.A1 i (omega arith);
    B1 = h.B1;
    B0 = λ i e. none p' q' i (below_product b k B.q0 M p' pB (λ j m. h.B0 j (omega arith)) top.1 i e) (below_short b k B.q1 f q' qB h.B1.1 short i e);
    few = omega (arith, h.few, size, length-append first others, length-map others (turned o M f));
  }
    where
      nil : zero + neg zero ≡ zero
      nil = simp (ring, l)

      none : (s t : List F) (i : ℕ) → coef o s i ≡ zero → coef o t i ≡ zero → coef o (rest o s t) i ≡ zero
      none s t i x y = coef_rest s t i ∙ ap (λ w. w + neg (coef o t i)) x ∙ ap (λ w. zero + neg w) y ∙ nil

      low : (i : ℕ) → a +ℕ k ≤ i → coef o q i ≡ zero
      low = below_short a k A.q1 f q qA (λ i e. h.A1 i (omega arith)) short

      same : coef o (rest o p q) (a +ℕ k) ≡ coef o (times o A.q0 M) (a +ℕ k)
      same =
          coef_rest p q (a +ℕ k) ∙ ap (λ w. coef o p (a +ℕ k) + neg w) (low (a +ℕ k) (omega arith)) ∙ less (coef o p (a +ℕ k))
          ∙ pA.coefficients (a +ℕ k) ∙ sym (Multiplication.coef_product l A.q0 M (a +ℕ k))
        where
          less : (x : F) → x + neg zero ≡ x
          less x = simp (ring, l)

      highest : coef o (rest o p q) (a +ℕ k) ≢ zero
      highest e = top_times a k A.q0 M h.A0 top (sym same ∙ e)
