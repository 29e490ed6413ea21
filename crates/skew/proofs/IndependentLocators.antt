-- What x - c does to independent locators, where it takes the locator b with the parameter a to zero: those of b's own block and
-- those of the others stay independent.
--
--   ratio a b    the c whose x - c has b as a root at a
use Rattle.std.proofs.Common.{◌≡◌, suc, ◌≢◌, List, [], ◌∷◌, map, sym, refl, ap, ◌∙◌}
use Rattle.std.proofs.lemmas.List.{length-map}
use Rattle.std.specs.List.{AllByRecursion}
use Rattle.fields.specs.Field.{Ops, Laws, Fixed, comb}
use Rattle.fields.specs.Twists
use Rattle.fields.specs.Inverses
use Rattle.fields.specs.Basics
use Rattle.fields.specs.Basics.{ring}
use Rattle.skew.specs.Values.{step}
use Rattle.skew.specs.Roots.{Independent, Conjugate}
use Rattle.skew.proofs.Evaluation
use Rattle.skew.proofs.RightDivision
use Rattle.skew.proofs.RightDivision.{less}

module _ {F : Type 0} {o : Ops F} (l : Laws o) where
  open o use {zero, one, add as ◌+◌, mul as ◌*◌, neg, inv, twist}

  infixl 65 ◌+◌
  infixl 70 ◌*◌
  -- A combination with all coefficients zero.
  pub comb_zeros : (bs cs : List F) → comb o (map (λ _. zero) cs) bs ≡ zero
  comb_zeros bs [] = refl
  comb_zeros [] (c ∷ cs) = refl
  comb_zeros (b ∷ bs) (c ∷ cs) = ap (λ w. zero * b + w) (comb_zeros bs cs) ∙ simp (ring, l)

  -- Zeros are fixed.
  pub fixed_zeros : (cs : List F) → AllByRecursion (Fixed o) (map (λ _. zero) cs)
  fixed_zeros [] = tt
  fixed_zeros (c ∷ cs) = (Twists.fixed_zero l, fixed_zeros cs)

  -- Independent locators are not zero.
  pub independent_nonzero : (b : F) (bs : List F) → Independent o (b ∷ bs) → b ≢ zero
  independent_nonzero b bs ind e =
      Inverses.one_zero l (ind (one ∷ map (λ _. zero) bs) (ap suc (length-map bs (λ _. zero))) (Twists.fixed_one l, fixed_zeros bs) sum).0
    where
      sum : one * b + comb o (map (λ _. zero) bs) bs ≡ zero
      sum = ap (λ w. one * b + w) (comb_zeros bs bs) ∙ ap (λ w. one * w + zero) e ∙ simp (ring, l)

  -- What b comes to under x at a, as a multiple of b: the root of x - c is b where c is this.
  abbrev pub ratio : F → F → F
  ratio a b = step o a b * inv b

  -- That is so.
  pub ratio_root : (a b : F) → b ≢ zero → less l (ratio a b) a b ≡ zero
  ratio_root a b n = go
    where
      go : twist b * a + neg (twist b * a * inv b * b) ≡ zero
      go = ap (λ w. twist b * a + neg w) (Basics.mul_assoc l (twist b * a) (inv b) b ∙ ap (λ w. twist b * a * w) (Inverses.inv_mul l b n) ∙ Basics.mul_one l (twist b * a)) ∙ Basics.add_neg l (twist b * a)

  -- What the kernel of x - c at a' says, where c is b's ratio at a.
  less_zero : (a b a' v : F) → less l (ratio a b) a' v ≡ zero → twist v * a' ≡ twist b * a * inv b * v
  less_zero a b a' v e = Basics.equal_of_sub l (twist v * a') (twist b * a * inv b * v) e

  -- In the block of b, what goes to zero is a fixed multiple of b.
  pub kernel_fixed : (a b v : F) → a ≢ zero → b ≢ zero → less l (ratio a b) a v ≡ zero → Fixed o (v * inv b)
  kernel_fixed a b v na n e =
      Twists.twist_mul l v (inv b) ∙ ap (λ w. w * twist (inv b)) once ∙ regroup (twist b) (inv b * v) (twist (inv b))
      ∙ ap (λ w. w * (inv b * v)) (sym (Twists.twist_mul l b (inv b)) ∙ ap twist (Inverses.mul_inv l b n) ∙ Twists.twist_one l) ∙ simp (ring, l)
    where
      once : twist v ≡ twist b * (inv b * v)
      once = Inverses.mul_cancel_right l a (twist v) (twist b * (inv b * v)) na (less_zero a b a v e ∙ simp (ring, l))

      regroup : (x y z : F) → x * y * z ≡ x * z * y
      regroup x y z = simp (ring, l)

  -- In another block it makes the parameters conjugate.
  kernel_conjugate : (a b a' v : F) → b ≢ zero → v ≢ zero → less l (ratio a b) a' v ≡ zero → Conjugate o a a'
  kernel_conjugate a b a' v n m e = (b * inv v, Inverses.mul_nonzero l b (inv v) n (Inverses.inv_nonzero l v m), proof)
    where
      inverse : inv (b * inv v) ≡ inv b * v
      inverse = Inverses.inv_product l b (inv v) n (Inverses.inv_nonzero l v m) ∙ ap (λ w. inv b * w) (Inverses.inv_inv l v m)

      unit : twist (inv v) * twist v ≡ one
      unit = sym (Twists.twist_mul l (inv v) v) ∙ ap twist (Inverses.inv_mul l v m) ∙ Twists.twist_one l

      regroup : (s t u : F) → s * (t * a * inv b * v) ≡ t * s * a * (inv b * v)
      regroup s t u = simp (ring, l)

      proof : a' ≡ twist (b * inv v) * a * inv (b * inv v)
      proof =
          sym (Basics.one_mul l a') ∙ ap (λ w. w * a') (sym unit) ∙ Basics.mul_assoc l (twist (inv v)) (twist v) a'
          ∙ ap (λ w. twist (inv v) * w) (less_zero a b a' v e) ∙ regroup (twist (inv v)) (twist b) a
          ∙ ap (λ w. w * a * (inv b * v)) (sym (Twists.twist_mul l b (inv v))) ∙ ap (λ w. twist (b * inv v) * a * w) (sym inverse)

  -- The other locators of b's own block.
  pub same_block : (a b : F) (bs : List F) → a ≢ zero → Independent o (b ∷ bs) → Independent o (map (less l (ratio a b) a) bs)
  same_block a b bs na ind cs len fix e =
      (ind (neg (comb o cs bs * inv b) ∷ cs) (ap suc (len ∙ length-map bs (less l (ratio a b) a))) (Twists.fixed_neg l _ fixed_d, fix) (sum (comb o cs bs))).1
    where
      n : b ≢ zero
      n = independent_nonzero b bs ind

      fixed_d : Fixed o (comb o cs bs * inv b)
      fixed_d = kernel_fixed a b (comb o cs bs) na n (sym (Evaluation.comb_map l (less l (ratio a b) a) (RightDivision.less_linear l (ratio a b) a) cs bs fix) ∙ e)

      sum : (v : F) → neg (v * inv b) * b + v ≡ zero
      sum v =
          ap (λ w. w + v) (Basics.neg_mul l (v * inv b) b)
          ∙ ap (λ w. neg w + v) (Basics.mul_assoc l v (inv b) b ∙ ap (λ w. v * w) (Inverses.inv_mul l b n) ∙ Basics.mul_one l v)
          ∙ Basics.neg_add l v

  -- The locators of a block with a parameter that is not conjugate.
  pub other_block : (a b a' : F) (bs : List F) → b ≢ zero → ¬ Conjugate o a a' → Independent o bs → Independent o (map (less l (ratio a b) a') bs)
  other_block a b a' bs n apart ind cs len fix e =
      elim (l.same (comb o cs bs) zero) [ yes z ↦ ind cs (len ∙ length-map bs (less l (ratio a b) a')) fix z | no m ↦ absurd (apart (conjugate m)) ]
    where
      conjugate : comb o cs bs ≢ zero → Conjugate o a a'
      conjugate m = kernel_conjugate a b a' (comb o cs bs) n m (sym (Evaluation.comb_map l (less l (ratio a b) a') (RightDivision.less_linear l (ratio a b) a') cs bs fix) ∙ e)
