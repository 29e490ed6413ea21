-- Polynomials with given values at sharp points, and what changes no value.
--
--   Nil f t        f vanishes at the point t
--   Sharp pts      only zero vanishes at all points with so few coefficients; lawful points are sharp
--   monomial i     the i-th power of the variable
use Rattle.std.proofs.Common.{◌≡◌, ℕ, suc, ◌-◌, ◌≤◌, ◌≢◌, List, [], ◌∷◌, ◌++◌, map, length, take, replicate, sym, refl, ap, ◌∙◌, subst, arith, length-append}
use Rattle.std.proofs.lemmas.List.{length-map, length-replicate}
use Rattle.std.specs.List.{AllByRecursion}
use Rattle.fields.specs.Field.{Ops, Laws, Zero, plus, scale}
use Rattle.fields.specs.Basics
use Rattle.fields.specs.Inverses
use Rattle.fields.specs.Basics.{ring}
use Rattle.fields.specs.Rows
use Rattle.fields.specs.Lists.{all_follow}
use Rattle.skew.specs.Values.{twisted, norm, step, eval, value}
use Rattle.skew.specs.Roots.{at}
use Rattle.skew.specs.Products.{coef}
use Rattle.skew.specs.Interpolation.{values}
use Rattle.skew.proofs.Evaluation
use Rattle.skew.proofs.Values.{term_step}
use Rattle.skew.proofs.Sums.{cons_path}
use Rattle.skew.proofs.Multiplication
use Rattle.skew.proofs.Multiplication.{times}
use Rattle.skew.proofs.Vanishing
use Rattle.skew.proofs.Vanishing.{linear}
use Rattle.skew.proofs.Sharpness
use Rattle.skew.proofs.Sharpness.{Nil, Sharp}
use Rattle.codes.specs.Duals.{Codeword, powers}
use Rattle.ranks.proofs.Separating

module _ {F : Type 0} {o : Ops F} (l : Laws o) where
  open o use {zero, one, add as ◌+◌, mul as ◌*◌, neg, inv}

  infixl 65 ◌+◌
  infixl 70 ◌*◌
  -- The value at a point, by the recursion.
  abbrev seen : List F → F × F → F
  seen f t = eval o t.0 f t.1

  -- What holds of values by the recursion holds of values by the sum.
  pub by_sum : (P : (F → List F → F → F) → Type 0) → P (eval o) → P (value o)
  by_sum P h = subst P (Evaluation.both_values l) h

  -- And the other way.
  pub by_steps : (P : (F → List F → F → F) → Type 0) → P (value o) → P (eval o)
  by_steps P h = subst P (sym (Evaluation.both_values l)) h

  -- The value of a sum of polynomials.
  pub at_plus : (f g : List F) (t : F × F) → at o (plus o f g) t ≡ at o f t + at o g t
  at_plus f g t = by_sum (λ v. v t.0 (plus o f g) t.1 ≡ v t.0 f t.1 + v t.0 g t.1) (Evaluation.eval_plus l t.0 f g t.1)

  -- The value of a polynomial times an element.
  pub at_scale : (c : F) (f : List F) (t : F × F) → at o (scale o c f) t ≡ c * at o f t
  at_scale c f t = by_sum (λ v. v t.0 (scale o c f) t.1 ≡ c * v t.0 f t.1) (Evaluation.eval_scaled l t.0 c f t.1)

  -- A monic polynomial that vanishes at given points, with one coefficient more than there are points.
  pub annihilated : (pts : List (F × F)) → (p : List F) × (length p ≡ suc (length pts)) × (coef o p (length pts) ≡ one) × AllByRecursion (Nil o p) pts
  annihilated [] = (one ∷ [], refl, refl, tt)
  annihilated (t ∷ pts) =
      let s = annihilated pts in
      let p = s.0 in
      let c = step o t.0 (seen p t) * inv (seen p t) in
      let kept : (r : F × F) → Nil o p r → Nil o (times o (linear o c) p) r =
      λ r e. Multiplication.product_applies l r.0 (linear o c) p r.1 ∙ ap (eval o r.0 (linear o c)) e ∙ Evaluation.eval_zero l r.0 (linear o c) in (
        times o (linear o c) p,
        Multiplication.length_times l (neg c) (one ∷ []) p ∙ omega (arith, s.1),
        Vanishing.highest l c p (length pts) s.1 s.2,
        (
          Multiplication.product_applies l t.0 (linear o c) p t.1 ∙ Sharpness.factor_root l t.0 (seen p t),
          all_follow (Nil o p) (Nil o (times o (linear o c) p)) kept pts s.3,
        ),
      )

  -- It does not vanish at one sharp point more.
  pub annihilated_seen : (t : F × F) (pts : List (F × F)) → Sharp o (t ∷ pts) → seen (annihilated pts).0 t ≢ zero
  annihilated_seen t pts h e =
      let s = annihilated pts in
      Sharpness.monic_seen l (t ∷ pts) s.0 h (length pts, s.1, s.2) (omega (arith, s.1)) (e, s.3)

  -- f with a multiple of p, which vanishes at the points, has the values of f there.
  unchanged : (f p : List F) (c : F) (pts : List (F × F)) → AllByRecursion (Nil o p) pts → map (seen (plus o f (scale o c p))) pts ≡ map (seen f) pts
  unchanged f p c [] h = refl
  unchanged f p c (t ∷ pts) h = cons_path (Evaluation.eval_plus l t.0 f (scale o c p) t.1 ∙ ap (λ w. seen f t + w) (Evaluation.eval_scaled l t.0 c p t.1 ∙ ap (λ w. c * w) h.0 ∙ Basics.mul_zero l c) ∙ Basics.add_zero l _) (unchanged f p c pts h.1)

  -- There is a polynomial with given values at sharp points.
  fitted : (pts : List (F × F)) (vs : List F) → Sharp o pts → length vs ≡ length pts → (f : List F) × (length f ≤ length pts) × (map (seen f) pts ≡ vs)
  fitted [] [] h len = ([], omega arith, refl)
  fitted [] (v ∷ vs) h len = absurd (omega arith)
  fitted (t ∷ pts) [] h len = absurd (omega arith)
  fitted (t ∷ pts) (v ∷ vs) h len =
      let g = fitted pts vs (Sharpness.sharp_less l [] t pts h) (omega arith) in
      let s = annihilated pts in
      let c = (v + neg (seen g.0 t)) * inv (seen s.0 t) in (
        plus o g.0 (scale o c s.0),
        omega (arith, Rows.length_plus l g.0 (scale o c s.0), length-map s.0 (o.mul c), g.1, s.1),
        cons_path (Evaluation.eval_plus l t.0 g.0 (scale o c s.0) t.1 ∙ ap (λ w. seen g.0 t + w) (Evaluation.eval_scaled l t.0 c s.0 t.1) ∙ settled (seen g.0 t) (seen s.0 t) (annihilated_seen t pts h))
            (unchanged g.0 s.0 c pts s.3 ∙ g.2),
      )
    where
      settled : (x y : F) → y ≢ zero → x + (v + neg x) * inv y * y ≡ v
      settled x y n = ap (λ w. x + w) (Basics.mul_assoc l (v + neg x) (inv y) y ∙ ap (λ w. (v + neg x) * w) (Inverses.inv_mul l y n)) ∙ simp (ring, l)

  -- The same, by the sum.
  pub interpolated : (pts : List (F × F)) (vs : List F) → Sharp o pts → length vs ≡ length pts → (f : List F) × (length f ≤ length pts) × (values o f pts ≡ vs)
  interpolated pts vs h len = let f = fitted pts vs h len in (f.0, f.1, by_sum (λ v. map (λ t. v t.0 f.0 t.1) pts ≡ vs) f.2)

  -- At sharp points values tell polynomials apart.
  pub values_tell : (pts : List (F × F)) (f g : List F) → Sharp o pts → length f ≤ length pts → length g ≤ length pts → values o f pts ≡ values o g pts → (i : ℕ) → coef o f i ≡ coef o g i
  values_tell pts f g h lf lg e = Sharpness.values_tell l pts f g h lf lg (by_steps (λ v. map (λ t. v t.0 f t.1) pts ≡ map (λ t. v t.0 g t.1) pts) e)

  -- Zeros behind the coefficients change no value.
  eval_padded : (a : F) (f zs : List F) (b : F) → AllByRecursion (Zero o) zs → eval o a (f ++ zs) b ≡ eval o a f b
  eval_padded a [] zs b h = Separating.eval_null l a zs b h
  eval_padded a (c ∷ f) zs b h = ap (λ w. c * b + w) (eval_padded a f zs (step o a b) h)

  -- A row of zeros is zero.
  pub zeros_null : (k : ℕ) → AllByRecursion (Zero o) (replicate k zero)
  zeros_null ℕ.zero = tt
  zeros_null (suc k) = (refl, zeros_null k)

  -- Maps that agree everywhere have the same values.
  maps_same : (h k : F × F → F) → ((t : F × F) → h t ≡ k t) → (pts : List (F × F)) → map h pts ≡ map k pts
  maps_same h k e [] = refl
  maps_same h k e (t ∷ pts) = cons_path (e t) (maps_same h k e pts)

  -- A row of values of fewer coefficients is one of k coefficients.
  pub padded : (pts : List (F × F)) (f w : List F) (k : ℕ) → length f ≤ k → values o f pts ≡ w → Codeword o pts k w
  padded pts f w k len e = (
    f ++ replicate (k - length f) zero,
    omega (arith, length-append f (replicate (k - length f) zero), length-replicate (k - length f) zero),
    maps_same (at o (f ++ replicate (k - length f) zero)) (at o f)
        (λ t. by_sum (λ v. v t.0 (f ++ replicate (k - length f) zero) t.1 ≡ v t.0 f t.1) (eval_padded t.0 f (replicate (k - length f) zero) t.1 (zeros_null (k - length f)))) pts ∙ e,
  )

  -- Without a highest coefficient that is zero.
  eval_shorter : (a : F) (g : List F) (c : ℕ) → length g ≡ suc c → coef o g c ≡ zero → (b : F) → eval o a (take c g) b ≡ eval o a g b
  eval_shorter a [] c len e b = absurd (omega arith)
  eval_shorter a (x ∷ []) ℕ.zero len e b = sym (ap (λ w. w * b + zero) e ∙ simp (ring, l))
  eval_shorter a (x ∷ y ∷ g) ℕ.zero len e b = absurd (omega arith)
  eval_shorter a (x ∷ g) (suc c) len e b = ap (λ w. x * b + w) (eval_shorter a g c (omega arith) e (step o a b))

  -- How many coefficients that leaves.
  length_shorter : (g : List F) (c : ℕ) → length g ≡ suc c → length (take c g) ≡ c
  length_shorter g ℕ.zero len = refl
  length_shorter [] (suc c) len = absurd (omega arith)
  length_shorter (x ∷ g) (suc c) len = ap suc (length_shorter g c (omega arith))

  -- The row of values is the same.
  pub shorter : (pts : List (F × F)) (w g : List F) (c : ℕ) → length g ≡ suc c → coef o g c ≡ zero → values o g pts ≡ w → Codeword o pts c w
  shorter pts w g c len e fits =
      (take c g, length_shorter g c len, maps_same (at o (take c g)) (at o g) (λ t. by_sum (λ v. v t.0 (take c g) t.1 ≡ v t.0 g t.1) (eval_shorter t.0 g c len e t.1)) pts ∙ fits)

  -- The i-th power of the variable.
  abbrev pub monomial : ℕ → List F
  monomial ℕ.zero = one ∷ []
  monomial (suc i) = zero ∷ monomial i

  -- It has i + 1 coefficients.
  pub length_monomial : (i : ℕ) → length (monomial i) ≡ suc i
  length_monomial ℕ.zero = refl
  length_monomial (suc i) = ap suc (length_monomial i)

  -- Its value, from any term of the sum on.
  eval_monomial : (a : F) (i : ℕ) (u : ℕ → F) → ((j : ℕ) → step o a (u j) ≡ u (suc j)) → eval o a (monomial i) (u 0) ≡ u i
  eval_monomial a ℕ.zero u h = simp (ring, l)
  eval_monomial a (suc i) u h = ap (λ w. w + eval o a (monomial i) (step o a (u 0))) (Basics.zero_mul l (u 0)) ∙ Basics.zero_add l _ ∙ ap (eval o a (monomial i)) (h 0) ∙ eval_monomial a i (λ j. u (suc j)) (λ j. h (suc j))

  -- Its row of values is a row of powers.
  pub values_monomial : (i : ℕ) (pts : List (F × F)) → values o (monomial i) pts ≡ powers o i pts
  values_monomial i pts = maps_same (at o (monomial i)) (λ t. twisted o i t.1 * norm o i t.0) one_place pts
    where
      one_place : (t : F × F) → at o (monomial i) t ≡ twisted o i t.1 * norm o i t.0
      one_place t =
          by_sum (λ v. v t.0 (monomial i) t.1 ≡ twisted o i t.1 * norm o i t.0)
          (ap (eval o t.0 (monomial i)) (sym (Basics.mul_one l t.1)) ∙ eval_monomial t.0 i (λ j. twisted o j t.1 * norm o j t.0) (term_step l t.0 t.1))
