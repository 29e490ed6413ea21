-- Dual locators are strict, and so independent over the mirror in each block.
--
-- Let fixed coefficients combine the dual locators of one block to zero. The word that has them in that block, and zeros elsewhere, has
-- the sum zero with the dual locators, so it is the row of values of some f with n - 1 coefficients. With a the block's parameter, x - a
-- takes every fixed element to zero at a. So (x - a) × f vanishes at all n places and is zero, and so is the word.
--
--   Killed c pts w      x - c takes each symbol of w to zero at the parameter of its place
--   Strict pts alpha    only zero is a killed word with the sum zero with alpha
use Rattle.std.proofs.Common.{◌≡◌, ℕ, suc, ◌-◌, ◌≤◌, List, [], ◌∷◌, ◌++◌, map, length, take, drop, sym, ap, ◌∙◌, subst, arith, length-append, length-take}
use Rattle.std.proofs.lemmas.List.{length-map}
use Rattle.std.specs.List.{AllByRecursion}
use Rattle.fields.specs.Field.{Ops, Laws, mirror, Zero, Fixed, comb}
use Rattle.fields.specs.Basics
use Rattle.fields.specs.Inverses
use Rattle.skew.specs.Values.{eval}
use Rattle.skew.specs.Roots.{Independent}
use Rattle.skew.specs.Products.{coef}
use Rattle.skew.specs.Interpolation.{values}
use Rattle.skew.proofs.Evaluation
use Rattle.skew.proofs.Everywhere.{all_left, all_right}
use Rattle.skew.proofs.Multiplication
use Rattle.skew.proofs.Multiplication.{times}
use Rattle.skew.proofs.Vanishing
use Rattle.skew.proofs.Vanishing.{linear}
use Rattle.skew.proofs.Sharpness
use Rattle.skew.proofs.Sharpness.{Nil, Sharp}
use Rattle.codes.specs.Duals.{Codeword, DualLocators}
use Rattle.codes.proofs.Combs
use Rattle.codes.proofs.Interpolants
use Rattle.codes.proofs.Locators
use Rattle.ranks.proofs.Mixing
use Rattle.ranks.proofs.Separating

module _ {F : Type 0} {o : Ops F} (l : Laws o) where
  open o use {zero, one, add as ◌+◌, mul as ◌*◌, neg, twist}

  infixl 65 ◌+◌
  infixl 70 ◌*◌
  -- A sum over two parts of the places.
  comb_parts : (n : ℕ) (xs v rest : List F) → length v ≡ n → comb o xs (v ++ rest) ≡ comb o (take n xs) v + comb o (drop n xs) rest
  comb_parts ℕ.zero xs [] rest len = sym (Basics.zero_add l _)
  comb_parts ℕ.zero xs (y ∷ v) rest len = absurd (omega arith)
  comb_parts (suc n) [] v rest len = sym (Basics.zero_add l _)
  comb_parts (suc n) (x ∷ xs) [] rest len = absurd (omega arith)
  comb_parts (suc n) (x ∷ xs) (y ∷ v) rest len = ap (λ w. x * y + w) (comb_parts n xs v rest (omega arith)) ∙ sym (Basics.add_assoc l (x * y) _ _)

  -- Symbol by symbol.
  abbrev Killed : F → List (F × F) → List F → Type 0
  Killed c [] [] = Unit {0}
  Killed c [] (v ∷ w) = ⊥
  Killed c (t ∷ pts) [] = ⊥
  Killed c (t ∷ pts) (v ∷ w) = (eval o t.0 (linear o c) v ≡ zero) × Killed c pts w

  -- Of two parts.
  killed_append : (c : F) (pts qts : List (F × F)) (v w : List F) → Killed c pts v → Killed c qts w → Killed c (pts ++ qts) (v ++ w)
  killed_append c [] qts [] w h k = k
  killed_append c [] qts (x ∷ v) w h k = absurd h
  killed_append c (t ∷ pts) qts [] w h k = absurd h
  killed_append c (t ∷ pts) qts (x ∷ v) w h k = (h.0, killed_append c pts qts v w h.1 k)

  -- Zeros are killed.
  killed_zeros : (c : F) (pts : List (F × F)) → Killed c pts (map (λ _. zero) pts)
  killed_zeros c [] = tt
  killed_zeros c (t ∷ pts) = (Evaluation.eval_zero l t.0 (linear o c), killed_zeros c pts)

  -- At the parameter a, fixed elements are killed by x - a.
  killed_fixed : (a : F) (bs cs : List F) → length cs ≡ length bs → AllByRecursion (Fixed (mirror o)) cs → Killed a (map (λ b. (a, b)) bs) cs
  killed_fixed a [] [] len h = tt
  killed_fixed a [] (c ∷ cs) len h = absurd (omega arith)
  killed_fixed a (b ∷ bs) [] len h = absurd (omega arith)
  killed_fixed a (b ∷ bs) (c ∷ cs) len h =
      (Vanishing.linear_root l a a c (Basics.mul_comm l a c ∙ ap (λ w. w * a) (sym (ap twist (sym h.0) ∙ l.twist_untwist c))), killed_fixed a bs cs (omega arith) h.1)

  -- A killed row of values makes (x - c) × f vanish.
  killed_nil : (c : F) (f : List F) (pts : List (F × F)) (w : List F) → values o f pts ≡ w → Killed c pts w → AllByRecursion (Nil o (times o (linear o c) f)) pts
  killed_nil c f [] w e h = tt
  killed_nil c f (t ∷ pts) [] e h = absurd h
  killed_nil c f (t ∷ pts) (v ∷ w) e h = (
    Multiplication.product_applies l t.0 (linear o c) f t.1
        ∙ ap (eval o t.0 (linear o c)) (Interpolants.by_steps l (λ u. u t.0 f t.1 ≡ v) (Sharpness.head_same l e)) ∙ h.0,
    killed_nil c f pts w (Sharpness.tail_same l e) h.1,
  )

  -- The row of values of zero.
  values_null : (f : List F) (pts : List (F × F)) → AllByRecursion (Zero o) f → AllByRecursion (Zero o) (values o f pts)
  values_null f [] h = tt
  values_null f (t ∷ pts) h = (Interpolants.by_sum l (λ v. v t.0 f t.1 ≡ zero) (Separating.eval_null l t.0 f t.1 h), values_null f pts h)

  -- Only zero is killed and has the sum zero.
  abbrev pub Strict : List (F × F) → List F → Type 0
  Strict pts alpha = (c : F) (w : List F) → length w ≡ length pts → Killed c pts w → comb o alpha w ≡ zero → AllByRecursion (Zero o) w

  -- Dual locators of sharp points are strict.
  pub strict : (pts : List (F × F)) (alpha : List F) → Sharp o pts → DualLocators o pts alpha → Strict pts alpha
  strict pts alpha sharp d c w lw killed e = subst (AllByRecursion (Zero o)) g.2 (values_null g.0 pts null)
    where
      len : length pts ≡ suc (length pts - 1)
      len = omega (arith, Locators.some_place l pts alpha d)

      whole : Codeword o pts (suc (length pts - 1)) w
      whole = let f = Interpolants.interpolated l pts w sharp lw in Interpolants.padded l pts f.0 w (suc (length pts - 1)) (omega (arith, f.1, len)) f.2

      top : coef o whole.0 (length pts - 1) ≡ zero
      top =
          Inverses.left_zero l (coef o whole.0 (length pts - 1)) (Locators.moment l pts alpha (length pts - 1) sharp len d) (Locators.moment_nonzero l pts alpha (length pts - 1) sharp len d)
          (sym (Locators.sum_by_top l pts alpha (length pts - 1) sharp len d whole.0 w (omega (arith, whole.1, len)) whole.2) ∙ e)

      g : Codeword o pts (length pts - 1) w
      g = Interpolants.shorter l pts w whole.0 (length pts - 1) whole.1 top whole.2

      null : AllByRecursion (Zero o) g.0
      null =
          Multiplication.no_divisors l (linear o c) g.0 (λ z. Inverses.one_zero l z.1.0)
          (sharp (times o (linear o c) g.0) (omega (arith, Multiplication.length_times l (neg c) (one ∷ []) g.0, g.1, len)) (killed_nil c g.0 pts w g.2 killed))

  -- Strict at the places behind a block.
  pub strict_tail : (a : F) (bs : List F) (pts : List (F × F)) (alpha : List F) → Strict (map (λ b. (a, b)) bs ++ pts) alpha → Strict pts (drop (length bs) alpha)
  strict_tail a bs pts alpha h c w lw killed e =
      all_right (Zero o) zs w
      (h c (zs ++ w) (omega (arith, length-append zs w, length-append here pts, length-map {B = F} here (λ _. zero)))
      (killed_append c here pts zs w (killed_zeros c here) killed)
      (comb_parts (length bs) alpha zs w (length-map {B = F} here (λ _. zero) ∙ length-map {B = F × F} bs (λ b. (a, b)))
      ∙ ap (λ x. x + comb o (drop (length bs) alpha) w) (Mixing.comb_nothing l (take (length bs) alpha) here) ∙ ap (λ x. zero + x) e ∙ Basics.add_zero l zero))
    where
      here : List (F × F)
      here = map (λ b. (a, b)) bs

      zs : List F
      zs = map (λ _. zero) here

  -- Strict at a block: its dual locators are independent over the mirror.
  pub strict_head : (a : F) (bs : List F) (pts : List (F × F)) (alpha : List F) → length bs ≤ length alpha → Strict (map (λ b. (a, b)) bs ++ pts) alpha → Independent (mirror o) (take (length bs) alpha)
  strict_head a bs pts alpha la h cs len fix e =
      all_left (Zero o) cs zs
      (h a (cs ++ zs) (omega (arith, length-append cs zs, length-append (map {B = F × F} (λ b. (a, b)) bs) pts, length-map {B = F × F} bs (λ b. (a, b)), length-map {B = F} pts (λ _. zero), lc))
      (killed_append a (map (λ b. (a, b)) bs) pts cs zs (killed_fixed a bs cs lc fix) (killed_zeros a pts))
      (comb_parts (length bs) alpha cs zs lc ∙ ap (λ x. x + comb o (drop (length bs) alpha) zs) (Combs.comb_comm l (take (length bs) alpha) cs ∙ e)
      ∙ ap (λ x. zero + x) (Mixing.comb_nothing l (drop (length bs) alpha) pts) ∙ Basics.add_zero l zero))
    where
      zs : List F
      zs = map (λ _. zero) pts

      lc : length cs ≡ length bs
      lc = omega (arith, len, length-take (length bs) alpha)
