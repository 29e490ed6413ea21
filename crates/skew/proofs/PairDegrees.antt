-- The degrees of the pairs that one step of the two pairs makes.
--
--   lifted c f        (x - c) × f
--   lift c q          both polynomials of a pair so multiplied
--   cross c q d p     c times q less d times p
use Rattle.std.proofs.Common.{◌≡◌, ℕ, suc, ◌-◌, ◌≤◌, ◌≢◌, ◌⊎◌, List, sym, refl, ap, ◌∙◌, inl, inr, arith}
use Rattle.fields.specs.Field.{Ops, Laws, plus, scale}
use Rattle.fields.specs.Twists
use Rattle.fields.specs.Basics
use Rattle.fields.specs.Inverses
use Rattle.fields.specs.Basics.{ring}
use Rattle.skew.specs.Products.{coef, Below, Degree}
use Rattle.skew.specs.Pairs.{Two}
use Rattle.skew.proofs.Coefficients
use Rattle.skew.proofs.Multiplication.{shift}
use Rattle.skew.proofs.Combining.{coef_combined, coef_raised}

module _ {F : Type 0} (o : Ops F) where
  -- (x - c) × f.
  abbrev pub lifted : F → List F → List F
  lifted c f = plus o (scale o (o.neg c) f) (shift o f)

  -- Both polynomials of a pair multiplied by x - c.
  abbrev pub lift : F → Two F → Two F
  lift c q = record { q0 = lifted c q.q0; q1 = lifted c q.q1 }

  -- c times q less d times p.
  abbrev pub cross : F → Two F → F → Two F → Two F
  cross c q d p = record { q0 = plus o (scale o c q.q0) (scale o (o.neg d) p.q0); q1 = plus o (scale o c q.q1) (scale o (o.neg d) p.q1) }

module _ {F : Type 0} {o : Ops F} (l : Laws o) where
  open o use {zero, add as ◌+◌, mul as ◌*◌, neg, twist}

  infixl 65 ◌+◌
  infixl 70 ◌*◌
  -- How far the coefficients of x times f reach.
  pub below_shift : (n m : ℕ) (f : List F) → n ≤ m - 1 → Below o n f → Below o m (shift o f)
  below_shift n m f e h ℕ.zero k = refl
  below_shift n m f e h (suc i) k = Coefficients.coef_twist l f i ∙ ap twist (h i (omega arith)) ∙ Twists.twist_zero l

  -- Of (x - c) × f.
  pub below_lifted : (c : F) (n m : ℕ) (f : List F) → n ≤ m - 1 → Below o n f → Below o m (lifted o c f)
  below_lifted c n m f e h i k =
      coef_raised l (neg c) f i ∙ ap (λ w. neg c * w + coef o (shift o f) i) (h i (omega arith)) ∙ ap (λ w. neg c * zero + w) (below_shift n m f e h i k) ∙ simp (ring, l)

  -- (x - c) × f has a degree one higher.
  pub top_lifted : (c : F) (n : ℕ) (f : List F) → Degree o f n → Degree o (lifted o c f) (suc n)
  top_lifted c n f h = ((λ e. Twists.twist_nonzero l (coef o f n) h.0 (sym same ∙ e)), below_lifted c (suc n) (suc (suc n)) f (omega arith) h.1)
    where
      last : (w : F) → neg c * zero + w ≡ w
      last w = simp (ring, l)

      same : coef o (lifted o c f) (suc n) ≡ twist (coef o f n)
      same =
          coef_raised l (neg c) f (suc n) ∙ ap (λ w. neg c * w + coef o (shift o f) (suc n)) (h.1 (suc n) (omega arith)) ∙ ap (λ w. neg c * zero + w) (Coefficients.coef_twist l f n)
          ∙ last (twist (coef o f n))

  -- A coefficient of c × f - d × g where g has none, or d is zero.
  coef_crossed : (c d : F) (f g : List F) (i : ℕ) → (d ≡ zero) ⊎ (coef o g i ≡ zero) → coef o (plus o (scale o c f) (scale o (neg d) g)) i ≡ c * coef o f i
  coef_crossed c d f g i side = coef_combined l c (neg d) f g i ∙ gone side
    where
      nil : (x y : F) → c * x + neg zero * y ≡ c * x
      nil x y = simp (ring, l)

      none : (x e : F) → c * x + neg e * zero ≡ c * x
      none x e = simp (ring, l)

      gone : (d ≡ zero) ⊎ (coef o g i ≡ zero) → c * coef o f i + neg d * coef o g i ≡ c * coef o f i
      gone (inl z) = ap (λ w. c * coef o f i + neg w * coef o g i) z ∙ nil (coef o f i) (coef o g i)
      gone (inr z) = ap (λ w. c * coef o f i + neg d * w) z ∙ none (coef o f i) d

  -- Where both have no coefficient, neither has the sum of multiples.
  pub null_crossed : (c d : F) (f g : List F) (i : ℕ) → coef o f i ≡ zero → (d ≡ zero) ⊎ (coef o g i ≡ zero) → coef o (plus o (scale o c f) (scale o (neg d) g)) i ≡ zero
  null_crossed c d f g i z side = coef_crossed c d f g i side ∙ ap (λ w. c * w) z ∙ Basics.mul_zero l c

  -- c × f keeps its degree where g does not reach it.
  pub top_crossed : (c d : F) (n : ℕ) (f g : List F) → c ≢ zero → Degree o f n → (d ≡ zero) ⊎ Below o n g → Degree o (plus o (scale o c f) (scale o (neg d) g)) n
  top_crossed c d n f g nc h side = (
    (λ e. Inverses.mul_nonzero l c (coef o f n) nc h.0 (sym (coef_crossed c d f g n (at n (omega arith) side)) ∙ e)),
    (λ i k. null_crossed c d f g i (h.1 i k) (at i (omega arith) side)),
  )
    where
      at : (i : ℕ) → n ≤ i → (d ≡ zero) ⊎ Below o n g → (d ≡ zero) ⊎ (coef o g i ≡ zero)
      at i k (inl z) = inl z
      at i k (inr b) = inr (b i k)
