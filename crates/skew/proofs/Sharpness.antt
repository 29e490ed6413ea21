-- Points at which only the zero polynomial vanishes: lawful points and their parts. There, values tell polynomials apart.
--
--   Nil f t      f vanishes at the point t
--   Sharp pts    a polynomial with no more coefficients than there are points, and zero at each, is zero
use Rattle.std.proofs.Common.{◌≡◌, ℕ, ◌≤◌, ◌≢◌, List, [], ◌∷◌, ◌++◌, map, length, get_or, drop, sym, refl, ap, ◌∙◌, subst, append-nil, arith, length-append}
use Rattle.std.proofs.lemmas.List.{length-map}
use Rattle.std.specs.List.{AllByRecursion}
use Rattle.fields.specs.Field.{Ops, Laws, Zero, plus, scale}
use Rattle.fields.specs.Basics
use Rattle.fields.specs.Inverses
use Rattle.fields.specs.Basics.{ring}
use Rattle.fields.specs.Rows
use Rattle.fields.specs.Lists.{all_follow}
use Rattle.skew.specs.Values.{step, eval}
use Rattle.skew.specs.Roots.{Block, block, locator_count, points, Lawful}
use Rattle.skew.specs.Products.{coef}
use Rattle.skew.specs.Annihilators.{Monic}
use Rattle.skew.proofs.Evaluation
use Rattle.skew.proofs.RootCount
use Rattle.skew.proofs.Multiplication
use Rattle.skew.proofs.Coefficients
use Rattle.skew.proofs.Multiplication.{times}
use Rattle.skew.proofs.Vanishing
use Rattle.skew.proofs.Vanishing.{linear}

module _ {F : Type 0} (o : Ops F) where
  -- f vanishes at t.
  abbrev pub Nil : List F → F × F → Type 0
  Nil f t = eval o t.0 f t.1 ≡ o.zero

  -- Only zero vanishes at all points with so few coefficients.
  abbrev pub Sharp : List (F × F) → Type 0
  Sharp pts = (f : List F) → length f ≤ length pts → AllByRecursion (Nil f) pts → AllByRecursion (Zero o) f

module _ {F : Type 0} {o : Ops F} (l : Laws o) where
  open o use {zero, one, add as ◌+◌, mul as ◌*◌, neg, inv}

  infixl 65 ◌+◌
  infixl 70 ◌*◌
  -- There are as many points as places.
  pub length_points : (blocks : List (Block F)) → length (points blocks) ≡ locator_count blocks
  length_points [] = refl
  length_points (block a bs ∷ blocks) =
      length-append (map (λ b. (a, b)) bs) (points blocks) ∙ omega (arith, length-map {B = F × F} bs (λ b. (a, b)), length_points blocks)

  -- Lawful points are sharp: the root count.
  pub sharp_lawful : (blocks : List (Block F)) → Lawful o blocks → Sharp o (points blocks)
  sharp_lawful blocks h f k v = RootCount.roots_few l blocks f h (omega (arith, length_points blocks)) v

  -- A factor x - c for any value w.
  abbrev pub factor : F → F → List F
  factor a w = linear o (step o a w * inv w)

  -- It takes w to zero.
  pub factor_root : (a w : F) → eval o a (factor a w) w ≡ zero
  factor_root a w = elim (l.same w zero) [ yes z ↦ at_zero z | no n ↦ Vanishing.linear_root l a (step o a w * inv w) w (undo n) ]
    where
      at_zero : w ≡ zero → eval o a (linear o (step o a w * inv w)) w ≡ zero
      at_zero z = ap (eval o a (linear o (step o a w * inv w))) z ∙ Evaluation.eval_zero l a (linear o (step o a w * inv w))

      undo : w ≢ zero → step o a w * inv w * w ≡ step o a w
      undo n = Basics.mul_assoc l (step o a w) (inv w) w ∙ ap (λ x. step o a w * x) (Inverses.inv_mul l w n) ∙ Basics.mul_one l _

  -- One more in the middle.
  insert : (P : F × F → Type 0) (xs : List (F × F)) (t : F × F) (ys : List (F × F)) → P t → AllByRecursion P (xs ++ ys) → AllByRecursion P (xs ++ t ∷ ys)
  insert P [] t ys p h = (p, h)
  insert P (x ∷ xs) t ys p h = (h.0, insert P xs t ys p h.1)

  -- Sharp points without one of them.
  pub sharp_less : (xs : List (F × F)) (t : F × F) (ys : List (F × F)) → Sharp o (xs ++ t ∷ ys) → Sharp o (xs ++ ys)
  sharp_less xs t ys h f k v =
      Multiplication.no_divisors l g f (λ z. Inverses.one_zero l z.1.0)
      (h (times o g f) (omega (arith, Multiplication.length_times l (neg c) (one ∷ []) f, length-append xs (t ∷ ys), length-append xs ys))
      (insert (Nil o (times o g f)) xs t ys (Multiplication.product_applies l t.0 g f t.1 ∙ factor_root t.0 (eval o t.0 f t.1))
      (all_follow (Nil o f) (Nil o (times o g f)) (λ s e. Multiplication.product_applies l s.0 g f s.1 ∙ ap (eval o s.0 g) e ∙ Evaluation.eval_zero l s.0 g) (xs ++ ys) v)))
    where
      c : F
      c = step o t.0 (eval o t.0 f t.1) * inv (eval o t.0 f t.1)

      g : List F
      g = factor t.0 (eval o t.0 f t.1)

  -- The first of them.
  pub sharp_left : (xs ys : List (F × F)) → Sharp o (xs ++ ys) → Sharp o xs
  sharp_left xs [] h = subst (Sharp o) (append-nil xs) h
  sharp_left xs (t ∷ ys) h = sharp_left xs ys (sharp_less xs t ys h)

  -- A monic polynomial with no more coefficients than sharp points does not vanish at all of them.
  pub monic_seen : (pts : List (F × F)) (m : List F) → Sharp o pts → Monic o m → length m ≤ length pts → AllByRecursion (Nil o m) pts → ⊥
  monic_seen pts m h top k v = Inverses.one_zero l (sym top.2 ∙ Coefficients.coef_of l m (h m k v) top.0)

  -- Equal lists have equal heads.
  pub head_same : {x y : F} {xs ys : List F} → x ∷ xs ≡ y ∷ ys → x ≡ y
  head_same e = ap (λ ws. get_or ws 0 zero) e

  -- And equal tails.
  pub tail_same : {x y : F} {xs ys : List F} → x ∷ xs ≡ y ∷ ys → xs ≡ ys
  tail_same e = ap (drop 1) e

  -- f less g.
  minus : List F → List F → List F
  minus f g = plus o f (scale o (neg one) g)

  -- The difference vanishes where the values agree.
  at_minus : (f g : List F) (t : F × F) → eval o t.0 f t.1 ≡ eval o t.0 g t.1 → Nil o (minus f g) t
  unfolding minus
  at_minus f g t e =
      Evaluation.eval_plus l t.0 f (scale o (neg one) g) t.1 ∙ ap (λ w. w + eval o t.0 (scale o (neg one) g) t.1) e
      ∙ ap (λ w. eval o t.0 g t.1 + w) (Evaluation.eval_scaled l t.0 (neg one) g t.1) ∙ gone (eval o t.0 g t.1)
    where
      gone : (x : F) → x + neg one * x ≡ zero
      gone x = simp (ring, l)

  -- And so at all points.
  minus_nil : (f g : List F) (pts : List (F × F)) → map (λ t. eval o t.0 f t.1) pts ≡ map (λ t. eval o t.0 g t.1) pts → AllByRecursion (Nil o (minus f g)) pts
  minus_nil f g [] e = tt
  minus_nil f g (t ∷ pts) e = (at_minus f g t (head_same e), minus_nil f g pts (tail_same e))

  -- With a difference of zero the coefficients are the same.
  minus_same : (f g : List F) → AllByRecursion (Zero o) (minus f g) → (i : ℕ) → coef o f i ≡ coef o g i
  unfolding minus
  minus_same f g z i =
      Basics.equal_of_sub l (coef o f i) (coef o g i)
      (sym (Coefficients.coef_plus l f (scale o (neg one) g) i ∙ ap (λ w. coef o f i + w) (Coefficients.coef_scale l (neg one) g i ∙ one_less (coef o g i))) ∙ Coefficients.coef_of l (minus f g) z i)
    where
      one_less : (x : F) → neg one * x ≡ neg x
      one_less x = simp (ring, l)

  -- At sharp points values tell polynomials apart.
  pub values_tell : (pts : List (F × F)) (f g : List F) → Sharp o pts → length f ≤ length pts → length g ≤ length pts
      → map (λ t. eval o t.0 f t.1) pts ≡ map (λ t. eval o t.0 g t.1) pts → (i : ℕ) → coef o f i ≡ coef o g i
  unfolding minus
  values_tell pts f g h lf lg e = minus_same f g (h (minus f g) (omega (arith, Rows.length_plus l f (scale o (neg one) g), length-map g (o.mul (neg one)))) (minus_nil f g pts e))
