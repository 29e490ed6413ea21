-- Dual locators exist and are the only ones.
--
-- The coefficient n - 1 of a polynomial with at most n coefficients is a sum over n sharp points of multiplier × value. The
-- multiplier of a place is the coefficient n - 1 of the polynomial that is one there and zero at the other places. The powers up
-- to n - 2 have no such coefficient, so multipliers are dual locators up to a factor; and any row that has the sum zero with
-- these powers is a multiple of the multipliers.
--
--   Multiplier pts m i r w     w is the coefficient m of a polynomial that is one at place i and zero at the i before and the r
--                              behind it
--   Multipliers pts m i ws     so it is with the places from i on
--   moment                     the sum of dual locator × power n - 1
use Rattle.std.proofs.Common.{◌≡◌, ℕ, suc, ◌+◌ as ◌+ℕ◌, ◌-◌, ◌≤◌, ◌≢◌, List, [], ◌∷◌, ◌++◌, length, replicate, sym, refl, ap, ◌∙◌, append-nil, arith, length-append}
use Rattle.std.proofs.lemmas.List.{length-map, length-replicate}
use Rattle.std.proofs.Math.ListN.{get_or-eq_default}
use Rattle.std.specs.List.{AllByRecursion}
use Rattle.fields.specs.Field.{Ops, Laws, plus, scale, comb}
use Rattle.fields.specs.Basics
use Rattle.fields.specs.Inverses
use Rattle.fields.specs.Basics.{ring}
use Rattle.fields.specs.Rows
use Rattle.skew.specs.Roots.{at, points}
use Rattle.skew.specs.Products.{coef}
use Rattle.skew.specs.Interpolation.{values}
use Rattle.skew.proofs.Sums.{cons_path}
use Rattle.skew.proofs.Coefficients
use Rattle.skew.proofs.Sharpness
use Rattle.skew.proofs.Sharpness.{Nil, Sharp}
use Rattle.codes.specs.Duals.{powers, DualLocators, DualsThere, DualsAlone}
use Rattle.codes.specs.DualAnswers.{unit, Multipliers}
use Rattle.codes.proofs.Combs
use Rattle.codes.proofs.Interpolants

module _ {F : Type 0} {o : Ops F} (l : Laws o) where
  open o use {zero, one, add as ◌+◌, mul as ◌*◌, neg, inv}

  infixl 65 ◌+◌
  infixl 70 ◌*◌
  -- How long a row with one at one place is.
  length_unit : (i r : ℕ) → length (unit o i r) ≡ i +ℕ suc r
  length_unit i r = omega (arith, length-append (replicate i zero) (one ∷ replicate r zero), length-replicate i zero, length-replicate r zero)

  -- Sharp points have multipliers.
  pub multipliers_there : (pts : List (F × F)) (m : ℕ) → Sharp o pts → (i r : ℕ) → i +ℕ r ≡ length pts → (ws : List F) × (length ws ≡ r) × Multipliers o pts m i ws
  multipliers_there pts m h i ℕ.zero e = ([], refl, tt)
  multipliers_there pts m h i (suc r) e =
      let f = Interpolants.interpolated l pts (unit o i r) h (length_unit i r ∙ e) in
      let ws = multipliers_there pts m h (suc i) r (omega arith) in
      (coef o f.0 m ∷ ws.0, ap suc ws.1, ((f.0, f.1, f.2 ∙ ap (unit o i) (sym ws.1), refl), ws.2))

  -- Values of a sum of polynomials, place by place.
  values_sum : (c : F) (f g : List F) (pts : List (F × F)) → values o (plus o (scale o c f) g) pts ≡ plus o (scale o c (values o f pts)) (values o g pts)
  values_sum c f g [] = refl
  values_sum c f g (t ∷ pts) = cons_path (Interpolants.at_plus l (scale o c f) g t ∙ ap (λ w. w + at o g t) (Interpolants.at_scale l c f t)) (values_sum c f g pts)

  -- Values of nothing.
  values_nothing : (pts : List (F × F)) → values o [] pts ≡ replicate (length pts) zero
  values_nothing [] = refl
  values_nothing (t ∷ pts) = cons_path refl (values_nothing pts)

  -- A row to which zeros are added.
  plus_zeros : (v : F) (vs : List F) → plus o (scale o v (replicate (length vs) zero)) vs ≡ vs
  plus_zeros v [] = refl
  plus_zeros v (x ∷ vs) = cons_path (simp (ring, l)) (plus_zeros v vs)

  -- One place more of a row.
  plus_unit : (i : ℕ) (v : F) (vs : List F) → plus o (scale o v (unit o i (length vs))) (replicate (suc i) zero ++ vs) ≡ replicate i zero ++ v ∷ vs
  plus_unit ℕ.zero v vs = cons_path (simp (ring, l)) (plus_zeros v vs)
  plus_unit (suc i) v vs = cons_path (simp (ring, l)) (plus_unit i v vs)

  -- A polynomial with given values from the place i on, and zero before; its coefficient m by the multipliers.
  blend : (pts : List (F × F)) (m i : ℕ) (ws vs : List F) → length vs ≡ length ws → i +ℕ length ws ≡ length pts → Multipliers o pts m i ws
      → (g : List F) × (length g ≤ length pts) × (values o g pts ≡ replicate i zero ++ vs) × (coef o g m ≡ comb o ws vs)
  blend pts m i [] [] lv e h =
      ([], omega arith, values_nothing pts ∙ ap (λ n. replicate n zero) (let k : length pts ≡ i = omega arith in k) ∙ sym (append-nil (replicate i zero)), refl)
  blend pts m i [] (v ∷ vs) lv e h = absurd (omega arith)
  blend pts m i (w ∷ ws) [] lv e h = absurd (omega arith)
  blend pts m i (w ∷ ws) (v ∷ vs) lv e h =
      let f = h.0 in
      let g = blend pts m (suc i) ws vs (omega arith) (omega arith) h.1 in
      let k : length ws ≡ length vs = omega arith in (
        plus o (scale o v f.0) g.0,
        omega (arith, Rows.length_plus l (scale o v f.0) g.0, length-map f.0 (o.mul v), f.1, g.1),
        values_sum v f.0 g.0 pts ∙ ap (λ ys. plus o (scale o v ys) (values o g.0 pts)) (f.2 ∙ ap (unit o i) k) ∙ ap (plus o (scale o v (unit o i (length vs)))) g.2 ∙ plus_unit i v vs,
        Coefficients.coef_plus l (scale o v f.0) g.0 m ∙ ap (λ x. x + coef o g.0 m) (Coefficients.coef_scale l v f.0 m ∙ ap (λ x. v * x) f.3 ∙ Basics.mul_comm l v w) ∙ ap (λ x. w * v + x) g.3,
      )

  -- The coefficient m of a polynomial is the sum of multiplier × value.
  pub by_multipliers : (pts : List (F × F)) (m : ℕ) (ws f : List F) → Sharp o pts → length ws ≡ length pts → Multipliers o pts m 0 ws → length f ≤ length pts → coef o f m ≡ comb o ws (values o f pts)
  by_multipliers pts m ws f h lw w lf =
      let g = blend pts m 0 ws (values o f pts) (length-map pts (at o f) ∙ sym lw) (omega arith) w in
      Interpolants.values_tell l pts f g.0 h lf g.1 (sym g.2) m ∙ g.3

  -- The sum with a row of values that are all zero.
  comb_nil : (xs p : List F) (pts : List (F × F)) → AllByRecursion (Nil o p) pts → comb o xs (values o p pts) ≡ zero
  comb_nil [] p pts h = refl
  comb_nil (x ∷ xs) p [] h = refl
  comb_nil (x ∷ xs) p (t ∷ pts) h =
      ap (λ w. x * w + comb o xs (values o p pts)) (Interpolants.by_sum l (λ v. v t.0 p t.1 ≡ zero) h.0) ∙ ap (λ w. x * zero + w) (comb_nil xs p pts h.1) ∙ simp (ring, l)

  -- The first multiplier is not zero.
  pub first_multiplier : (pts : List (F × F)) (m : ℕ) (ws : List F) → Sharp o pts → length pts ≡ suc m → length ws ≡ length pts → Multipliers o pts m 0 ws → coef o ws 0 ≢ zero
  first_multiplier [] m ws h len lw w = absurd (omega arith)
  first_multiplier (t ∷ pts) m [] h len lw w = absurd (omega arith)
  first_multiplier (t ∷ pts) m (x ∷ xs) h len lw w =
      let s = Interpolants.annihilated l pts in
      let k : length pts ≡ m = omega arith in
      Inverses.unit_nonzero l x (at o s.0 t)
      (sym (by_multipliers (t ∷ pts) m (x ∷ xs) s.0 h lw w (omega (arith, s.1)) ∙ ap (λ y. x * at o s.0 t + y) (comb_nil xs s.0 pts s.3) ∙ Basics.add_zero l _)
      ∙ ap (coef o s.0) (sym k) ∙ s.2)

  -- The sum of multiplier × power is zero up to n - 2.
  multipliers_null : (pts : List (F × F)) (m : ℕ) (ws : List F) (i : ℕ) → Sharp o pts → length pts ≡ suc m → length ws ≡ length pts → Multipliers o pts m 0 ws → i +ℕ 2 ≤ length pts → comb o ws (powers o i pts) ≡ zero
  multipliers_null pts m ws i h len lw w k =
      ap (comb o ws) (sym (Interpolants.values_monomial l i pts))
      ∙ sym (by_multipliers pts m ws (Interpolants.monomial l i) h lw w (omega (arith, Interpolants.length_monomial l i)))
      ∙ get_or-eq_default (Interpolants.monomial l i) zero (omega (arith, Interpolants.length_monomial l i))

  -- Multipliers divided by the first are dual locators.
  pub dual_of_multipliers : (pts : List (F × F)) (m : ℕ) (ws : List F) → Sharp o pts → length pts ≡ suc m → length ws ≡ length pts → Multipliers o pts m 0 ws → DualLocators o pts (scale o (inv (coef o ws 0)) ws)
  dual_of_multipliers pts m ws h len lw w = record {
    size = length-map ws (o.mul (inv (coef o ws 0))) ∙ lw;
    first = Coefficients.coef_scale l (inv (coef o ws 0)) ws 0 ∙ Inverses.inv_mul l (coef o ws 0) (first_multiplier pts m ws h len lw w);
    null = λ i k. Rows.comb_scale l (inv (coef o ws 0)) ws (powers o i pts) ∙ ap (λ x. inv (coef o ws 0) * x) (multipliers_null pts m ws i h len lw w k) ∙ Basics.mul_zero l _;
  }

  -- There is a place, since the first dual locator is one.
  pub some_place : (pts : List (F × F)) (xs : List F) → DualLocators o pts xs → 1 ≤ length pts
  some_place [] [] d = absurd (Inverses.one_zero l (sym d.first))
  some_place [] (x ∷ xs) d = absurd (omega (arith, d.size))
  some_place (t ∷ pts) xs d = omega arith

  -- Dual locators, and n sharp points with their multipliers.
  module _ (pts : List (F × F)) (xs : List F) (m : ℕ) (h : Sharp o pts) (len : length pts ≡ suc m) (d : DualLocators o pts xs) where
    -- The sum with the power n - 1.
    abbrev pub moment : F
    moment = comb o xs (powers o m pts)

    -- The sum with any row, by the coefficient n - 1 of the polynomial with these values.
    pub sum_by_top : (g vs : List F) → length g ≤ length pts → values o g pts ≡ vs → comb o xs vs ≡ coef o g m * moment
    sum_by_top g vs lg fits = ap (comb o xs) (sym fits) ∙ Combs.comb_values l xs g pts ∙ Combs.series_top l (λ i. comb o xs (powers o i pts)) g m (omega arith) (λ i k. d.null i (omega arith))

    -- So dual locators are a multiple of the multipliers.
    proportional : (ws : List F) → length ws ≡ length pts → Multipliers o pts m 0 ws → xs ≡ scale o moment ws
    proportional ws lw w =
        Combs.comb_tells l xs (scale o moment ws) (d.size ∙ sym (length-map ws (o.mul moment) ∙ lw))
        (λ vs k. let g = Interpolants.interpolated l pts vs h (k ∙ d.size) in
        sum_by_top g.0 vs g.1 g.2 ∙ ap (λ x. x * moment) (by_multipliers pts m ws g.0 h lw w g.1 ∙ ap (comb o ws) g.2) ∙ Basics.mul_comm l _ _
        ∙ sym (Rows.comb_scale l moment ws vs))

    -- The factor is the inverse of the first multiplier.
    moment_inverse : (ws : List F) → length ws ≡ length pts → Multipliers o pts m 0 ws → moment * coef o ws 0 ≡ one
    moment_inverse ws lw w = sym (Coefficients.coef_scale l moment ws 0) ∙ ap (λ ys. coef o ys 0) (sym (proportional ws lw w)) ∙ d.first

    -- It is not zero.
    pub moment_nonzero : moment ≢ zero
    moment_nonzero = let ws = multipliers_there pts m h 0 (length pts) (omega arith) in Inverses.unit_nonzero l _ _ (moment_inverse ws.0 ws.1 ws.2)

    -- Dual locators are the multipliers, divided by the first.
    pub dual_is : (ws : List F) → length ws ≡ length pts → Multipliers o pts m 0 ws → xs ≡ scale o (inv (coef o ws 0)) ws
    dual_is ws lw w = proportional ws lw w ∙ ap (λ c. scale o c ws) (sym (Inverses.inv_unique l (coef o ws 0) moment (Basics.mul_comm l _ _ ∙ moment_inverse ws lw w)))

  -- Sharp points have one row of dual locators.
  pub dual_unique : (pts : List (F × F)) (xs ys : List F) → Sharp o pts → DualLocators o pts xs → DualLocators o pts ys → xs ≡ ys
  dual_unique pts xs ys h d e =
      let k = some_place pts xs d in
      let m = length pts - 1 in
      let len : length pts ≡ suc m = omega arith in
      let ws = multipliers_there pts m h 0 (length pts) (omega arith) in
      dual_is pts xs m h len d ws.0 ws.1 ws.2 ∙ sym (dual_is pts ys m h len e ws.0 ws.1 ws.2)

  -- Lawful points have dual locators.
  pub duals_there : DualsThere o
  duals_there blocks h k =
      let pts = points blocks in
      let m = length pts - 1 in
      let len : length pts ≡ suc m = omega (arith, Sharpness.length_points l blocks) in
      let sharp = Sharpness.sharp_lawful l blocks h in
      let ws = multipliers_there pts m sharp 0 (length pts) (omega arith) in
      (scale o (inv (coef o ws.0 0)) ws.0, dual_of_multipliers pts m ws.0 sharp len ws.1 ws.2)

  -- And no others.
  pub duals_alone : DualsAlone o
  duals_alone blocks xs ys h d e = dual_unique (points blocks) xs ys (Sharpness.sharp_lawful l blocks h) d e
