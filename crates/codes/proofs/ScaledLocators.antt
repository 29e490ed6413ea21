-- To multiply all locators by one element changes no codeword; the dual of the dual has the locators divided by the first.
--
--   rescaled s f        the coefficients for locators that are multiplied by s
--   normalised pts      the locators, divided by the first
use Rattle.std.proofs.Common.{◌≡◌, ℕ, suc, ◌+◌ as ◌+ℕ◌, ◌≤◌, ◌≢◌, ◌↔◌, List, [], ◌∷◌, map, length, sym, refl, ap, ◌∙◌, arith}
use Rattle.std.proofs.lemmas.List.{length-map}
use Rattle.fields.specs.Field.{Ops, Laws, mirror, scale, comb}
use Rattle.fields.specs.Basics
use Rattle.fields.specs.Inverses
use Rattle.fields.specs.Twists
use Rattle.fields.specs.Basics.{ring}
use Rattle.fields.specs.Rows
use Rattle.skew.specs.Values.{twisted, step, eval}
use Rattle.skew.specs.Products.{coef}
use Rattle.skew.specs.Interpolation.{values}
use Rattle.skew.proofs.Evaluation
use Rattle.skew.proofs.Coefficients
use Rattle.skew.proofs.Sums.{cons_path}
use Rattle.skew.proofs.Sharpness.{Sharp}
use Rattle.codes.specs.Duals.{Codeword, powers, DualLocators, dual_points}
use Rattle.codes.proofs.Combs
use Rattle.codes.proofs.Interpolants
use Rattle.codes.proofs.Locators
use Rattle.codes.proofs.Mirrors

module _ {F : Type 0} {o : Ops F} (l : Laws o) where
  open o use {zero, add as ◌+◌, mul as ◌*◌, inv, twist}

  infixl 65 ◌+◌
  infixl 70 ◌*◌
  -- For locators that are multiplied by s.
  abbrev rescaled : F → List F → List F
  rescaled s [] = []
  rescaled s (c ∷ f) = c * s ∷ rescaled (twist s) f

  -- As many coefficients.
  length_rescaled : (s : F) (f : List F) → length (rescaled s f) ≡ length f
  length_rescaled s [] = refl
  length_rescaled s (c ∷ f) = ap suc (length_rescaled (twist s) f)

  -- Their value.
  eval_rescaled : (a s : F) (f : List F) (b : F) → eval o a (rescaled s f) b ≡ eval o a f (b * s)
  eval_rescaled a s [] b = refl
  eval_rescaled a s (c ∷ f) b =
      ap (λ w. c * s * b + w) (eval_rescaled a (twist s) f (step o a b)) ∙ ap (λ w. w + eval o a f (step o a b * twist s)) (regroup c s b)
      ∙ ap (λ w. c * (b * s) + eval o a f w) (twisted_over (twist b) (twist s) ∙ ap (λ w. w * a) (sym (Twists.twist_mul l b s)))
    where
      regroup : (x y z : F) → x * y * z ≡ x * (z * y)
      regroup x y z = simp (ring, l)

      twisted_over : (x y : F) → x * a * y ≡ x * y * a
      twisted_over x y = simp (ring, l)

  -- The row of values at locators that are multiplied by s.
  values_moved : (s : F) (f : List F) (pts : List (F × F)) → values o f (map (λ t. (t.0, t.1 * s)) pts) ≡ values o (rescaled s f) pts
  values_moved s f [] = refl
  values_moved s f (t ∷ pts) = cons_path (sym (Interpolants.by_sum l (λ v. v t.0 (rescaled s f) t.1 ≡ v t.0 f (t.1 * s)) (eval_rescaled t.0 s f t.1))) (values_moved s f pts)

  -- There and back.
  values_returned : (s : F) (f : List F) (pts : List (F × F)) → s ≢ zero → values o (rescaled s (rescaled (inv s) f)) pts ≡ values o f pts
  values_returned s f [] n = refl
  values_returned s f (t ∷ pts) n = cons_path (Interpolants.by_sum l (λ v. v t.0 (rescaled s (rescaled (inv s) f)) t.1 ≡ v t.0 f t.1) again) (values_returned s f pts n)
    where
      again : eval o t.0 (rescaled s (rescaled (inv s) f)) t.1 ≡ eval o t.0 f t.1
      again =
          eval_rescaled t.0 s (rescaled (inv s) f) t.1 ∙ eval_rescaled t.0 (inv s) f (t.1 * s)
          ∙ ap (eval o t.0 f) (Basics.mul_assoc l t.1 s (inv s) ∙ ap (λ w. t.1 * w) (Inverses.mul_inv l s n) ∙ Basics.mul_one l t.1)

  -- To multiply all locators by one element changes no codeword.
  pub scaling_keeps : (s : F) (pts : List (F × F)) (k : ℕ) (w : List F) → s ≢ zero → Codeword o (map (λ t. (t.0, t.1 * s)) pts) k w ↔ Codeword o pts k w
  scaling_keeps s pts k w n = (
    (λ r. (rescaled s r.0, length_rescaled s r.0 ∙ r.1, sym (values_moved s r.0 pts) ∙ r.2)),
    (λ r. (rescaled (inv s) r.0, length_rescaled (inv s) r.0 ∙ r.1, values_moved s (rescaled (inv s) r.0) pts ∙ values_returned s r.0 pts n ∙ r.2)),
  )

  -- The first locator.
  abbrev pub first : List (F × F) → F
  first pts = coef o (map (λ t. t.1) pts) 0

  -- The locators, divided by the first.
  abbrev pub normalised : List (F × F) → List F
  normalised pts = scale o (inv (first pts)) (map (λ t. t.1) pts)

  -- The first locator of sharp points is not zero.
  pub first_nonzero : (pts : List (F × F)) → Sharp o pts → 1 ≤ length pts → first pts ≢ zero
  first_nonzero [] h k e = absurd (omega arith)
  first_nonzero (t ∷ pts) h k e =
      let p = (Interpolants.annihilated l pts).0 in
      Interpolants.annihilated_seen l t pts h (ap (eval o t.0 p) e ∙ Evaluation.eval_zero l t.0 p)

  -- The locators, divided by the first, are dual to the dual locators.
  pub back_locators : (pts : List (F × F)) (alpha : List F) → Sharp o pts → DualLocators o pts alpha → DualLocators (mirror o) (dual_points o pts alpha) (normalised pts)
  back_locators pts alpha h d = record {
    size = length-map (map (λ t. t.1) pts) (o.mul (inv (first pts))) ∙ length-map {B = F} pts (λ t. t.1) ∙ sym (Mirrors.length_duals l pts alpha d.size);
    first = Coefficients.coef_scale l (inv (first pts)) (map (λ t. t.1) pts) 0 ∙ Inverses.inv_mul l (first pts) (first_nonzero pts h (Locators.some_place l pts alpha d));
    null = λ i k.
        Rows.comb_scale l (inv (first pts)) (map (λ t. t.1) pts) (powers (mirror o) i (dual_points o pts alpha))
        ∙ ap (λ w. inv (first pts) * w)
        (Combs.comb_comm l (map (λ t. t.1) pts) (powers (mirror o) i (dual_points o pts alpha)) ∙ ap (comb o (powers (mirror o) i (dual_points o pts alpha))) (locators pts)
        ∙ Mirrors.exchange_sum l pts alpha i 0 d.size
        ∙ ap (twisted (mirror o) i) (d.null (0 +ℕ i) (omega (arith, Mirrors.length_duals l pts alpha d.size))) ∙ Mirrors.back_zero l i)
        ∙ Basics.mul_zero l (inv (first pts));
  }
    where
      locators : (qts : List (F × F)) → map (λ t. t.1) qts ≡ powers o 0 qts
      locators [] = refl
      locators (t ∷ qts) = cons_path (sym (Basics.mul_one l t.1)) (locators qts)

  -- The points of the dual of the dual.
  pub duals_duals : (s : F) (pts : List (F × F)) (alpha : List F) → length alpha ≡ length pts
      → dual_points (mirror o) (dual_points o pts alpha) (scale o s (map (λ t. t.1) pts)) ≡ map (λ t. (t.0, t.1 * s)) pts
  duals_duals s [] alpha len = refl
  duals_duals s (t ∷ pts) [] len = absurd (omega arith)
  duals_duals s (t ∷ pts) (x ∷ alpha) len =
      ap (λ a. (a, s * t.1) ∷ dual_points (mirror o) (dual_points o pts alpha) (scale o s (map (λ t. t.1) pts))) (l.twist_untwist t.0)
      ∙ ap (λ b. (t.0, b) ∷ dual_points (mirror o) (dual_points o pts alpha) (scale o s (map (λ t. t.1) pts))) (Basics.mul_comm l s t.1)
      ∙ ap (λ ws. (t.0, t.1 * s) ∷ ws) (duals_duals s pts alpha (omega arith))
