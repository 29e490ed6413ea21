-- Whether independent elements span an element can be told.
--
--   lowered y x      x less its part at y: what x - c takes x to, where y is a root of x - c
use Rattle.std.proofs.Common.{◌≡◌, ℕ, suc, ◌≤◌, ◌≢◌, List, [], ◌∷◌, map, length, sym, refl, ap, ◌∙◌, arith}
use Rattle.std.proofs.lemmas.List.{length-map}
use Rattle.std.specs.List.{AllByRecursion}
use Rattle.fields.specs.Field.{Ops, Laws, Fixed, comb}
use Rattle.fields.specs.Inverses
use Rattle.fields.specs.Basics
use Rattle.fields.specs.Basics.{ring}
use Rattle.fields.specs.Twists.{twists}
use Rattle.skew.specs.Roots.{Independent}
use Rattle.skew.proofs.Evaluation
use Rattle.skew.proofs.IndependentLocators
use Rattle.skew.proofs.RightDivision
use Rattle.ranks.specs.Ranks.{Spanned}
use Rattle.ranks.proofs.Spans

module _ {F : Type 0} {o : Ops F} (l : Laws o) where
  open o use {zero, one, add as ◌+◌, mul as ◌*◌, neg, inv}

  infixl 65 ◌+◌
  infixl 70 ◌*◌
  -- Whether independent elements span x: take the first away by x - c, with c its ratio, and ask of the others.
  abbrev lowered : F → F → F
  lowered y = RightDivision.less l (IndependentLocators.ratio l one y) one

  -- What y and ys span, lowered, is spanned by ys lowered.
  lower : (y : F) (ys : List F) (x : F) → y ≢ zero → (cs : List F) → length cs ≡ suc (length ys) → AllByRecursion (Fixed o) cs → x ≡ comb o cs (y ∷ ys) → Spanned o (map (lowered y) ys) (lowered y x)
  lower y ys x n [] len fix e = absurd (omega arith)
  lower y ys x n (d ∷ ds) len fix e =
      (ds, omega (arith, length-map ys (lowered y)), fix.1, ap (lowered y) e ∙ L.0 (d * y) (comb o ds ys) ∙ ap (λ w. w + lowered y (comb o ds ys)) (L.1 d y fix.0 ∙ ap (λ w. d * w) (IndependentLocators.ratio_root l one y n) ∙ Basics.mul_zero l d) ∙ Basics.zero_add l _ ∙ sym (Evaluation.comb_map l (lowered y) L ds ys fix.1))
    where
      L : Evaluation.Linear l (lowered y)
      L = RightDivision.less_linear l (IndependentLocators.ratio l one y) one

  -- What the others tell of the lowered x tells of x.
  decide_more : (y : F) (ys : List F) (x : F) → Independent o (y ∷ ys) → Dec (Spanned o (map (lowered y) ys) (lowered y x)) → Dec (Spanned o (y ∷ ys) x)
  decide_more y ys x ind (yes s) = yes (w * inv y ∷ s.0, ap suc (s.1 ∙ length-map ys (lowered y)), (fixed_d, s.2), sym (back (comb o s.0 ys)))
    where
      n : y ≢ zero
      n = IndependentLocators.independent_nonzero l y ys ind

      L : Evaluation.Linear l (lowered y)
      L = RightDivision.less_linear l (IndependentLocators.ratio l one y) one

      w : F
      w = x + neg (comb o s.0 ys)

      sub : (c u v : F) → RightDivision.less l c one (u + neg v) ≡ RightDivision.less l c one u + neg (RightDivision.less l c one v)
      sub c u v = simp (ring, twists, l)

      low : lowered y (x + neg (comb o s.0 ys)) ≡ zero
      low =
          sub (IndependentLocators.ratio l one y) x (comb o s.0 ys) ∙ Basics.sub_of_equal l _ _ (s.3 ∙ Evaluation.comb_map l (lowered y) L s.0 ys s.2)

      fixed_d : Fixed o ((x + neg (comb o s.0 ys)) * inv y)
      fixed_d = IndependentLocators.kernel_fixed l one y (x + neg (comb o s.0 ys)) (Inverses.one_zero l) n low

      back : (v : F) → (x + neg v) * inv y * y + v ≡ x
      back v = ap (λ u. u + v) (Basics.mul_assoc l (x + neg v) (inv y) y ∙ ap (λ u. (x + neg v) * u) (Inverses.inv_mul l y n)) ∙ simp (ring, l)
  decide_more y ys x ind (no m) = no (λ s. m (lower y ys x (IndependentLocators.independent_nonzero l y ys ind) s.0 s.1 s.2 s.3))

  -- By induction on the number of elements.
  decide : (n : ℕ) (ys : List F) → length ys ≤ n → Independent o ys → (x : F) → Dec (Spanned o ys x)
  decide n [] m ind x = elim (l.same x zero) [ yes z ↦ yes ([], refl, tt, z) | no k ↦ no (λ s. k (s.3 ∙ Spans.comb_nil l s.0)) ]
  decide ℕ.zero (y ∷ ys) m ind x = absurd (omega arith)
  decide (suc n) (y ∷ ys) m ind x =
      decide_more y ys x ind (decide n (map (lowered y) ys) (omega (arith, length-map ys (lowered y))) (IndependentLocators.same_block l one y ys (Inverses.one_zero l) ind) (lowered y x))

  -- Whether independent elements span x can be told.
  pub span_told : (es : List F) → Independent o es → (x : F) → Dec (Spanned o es x)
  span_told es ind x = decide (length es) es (omega arith) ind x
