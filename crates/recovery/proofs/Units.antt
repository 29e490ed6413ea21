-- Polynomials that are one at one of the first points and zero at the others, and what is prepared with them.
--
--   Partly m ps ys j f       f has the first j of the values ys, and is zero at the other points
--   Rebuilding m fs ys j f   so it is wherever the fs belong to the points
--   Collected P j xs         of 24 things the first j are as P says
use Rattle.std.proofs.Common.{◌≡◌, ℕ, ◌+◌, ◌-◌, ◌<◌, ◌≤◌, List, [], map, length, get_or, take, set, replicate, sym, ap, ◌∙◌, subst, ap₂, inl, inr, arith, length-set}
use Rattle.std.proofs.lemmas.List.{length-map, get_or-map, get_or-set_same, get_or-set_other, get_or-replicate, get_or_past, length-take-le, length-replicate, take-map}
use Rattle.std.proofs.lemmas.Bool.{cases_lt}
use Rattle.std.specs.List.{AllByRecursion}
use Rattle.fields.specs.Field as field
use Rattle.fields.specs.Meaning.{Meaning, Laws}
use Rattle.fields.specs.Elements.{Elem, elem, elems, codes, ops}
use Rattle.fields.specs.Inverses
use Rattle.fields.specs.Basics.{ring}
use Rattle.fields.proofs.Carrier
use Rattle.skew.specs.declared.points.Point.{Point}
use Rattle.skew.specs.Roots.{points, at}
use Rattle.skew.specs.Products.{coef, Degree}
use Rattle.skew.specs.Polynomials.{coefficients, combined}
use Rattle.skew.specs.Annihilators.{place, places, Annihilated}
use Rattle.skew.specs.Interpolation.{indicator, Unlawful, Interpolated}
use Rattle.skew.proofs.Combining
use Rattle.skew.proofs.Evaluation
use Rattle.skew.proofs.Sharpness
use Rattle.codes.specs.declared.shape.Code.{Code}
use Rattle.codes.specs.Holdings.{held, stops}
use Rattle.codes.specs.Codes.{LawfulCode, word_of}
use Rattle.recovery.specs.declared.prepared.Prepared.{Prepared}
use Rattle.recovery.specs.Steps.{no_point}
use Rattle.recovery.specs.Preparation.{UnitAt, Stepped, Units, Rebuilt, Prepares}
use Rattle.recovery.proofs.FirstPoints
use Rattle.recovery.proofs.FirstPoints.{first_blocks}
use Rattle.recovery.proofs.Reencoding

-- The first k points, as the program cuts them out.
pub first_cut : {A : Type 0} (k : ℕ) {xs ys : List A} → xs ≡ ys → take (k - 0) xs ≡ take k ys
first_cut k e = let all_of : k - 0 ≡ k = omega arith in ap₂ take all_of e

pub record Partly (m : Meaning) (ps : List Point) (ys : List ℕ) (j : ℕ) (f : List ℕ) : Type 0 where
  pub size : length f ≤ length ps
  pub done : (i : ℕ) → i < j → i < length ps → at (ops m) (elems m f) (place m (get_or ps i no_point)) ≡ elem m (get_or ys i 0)
  pub left : (i : ℕ) → j ≤ i → i < length ps → at (ops m) (elems m f) (place m (get_or ps i no_point)) ≡ (ops m).zero

pub record Rebuilding (m : Meaning) (fs : List (List ℕ)) (ys : List ℕ) (j : ℕ) (f : List ℕ) : Type 0 where
  pub so_far : (ps : List Point) → length ys ≡ length ps → Units m ps fs → Partly m ps ys j f

pub record Collected {A : Type 0} (P : ℕ → A → Type 0) (j : ℕ) (xs : List A) : Type 0 where
  pub size : length xs ≡ 24
  pub each : (d : A) (i : ℕ) → i < j → P i (get_or xs i d)

-- One more.
pub collected_goes_on : {A : Type 0} (P : ℕ → A → Type 0) {xs xs' : List A} {x : A} {j : ℕ} → j < 24 → xs' ≡ set xs j x → P j x → Collected P j xs → Collected P (j + 1) xs'
collected_goes_on P {xs} {xs'} {x} {j} h e new s = record {
  size = ap length e ∙ length-set xs j x ∙ s.size;
  each = λ d i k.
      subst (P i) (sym (ap (λ ys. get_or ys i d) e))
      (elim (cases_lt i j) [
        | inl g ↦ subst (P i) (sym (get_or-set_other xs j i x d (λ e. omega (arith, e, g)))) (s.each d i g)
        | inr g ↦
            let same : j ≡ i = omega (arith, k, g) in
            subst (λ n. P n (get_or (set xs j x) n d)) same (subst (P j) (sym (get_or-set_same xs j x d (omega (arith, h, s.size)))) new)
      ]);
}

module _ {F : Type 0} {o : field.Ops F} (l : field.Laws o) where
  -- A value where the new polynomial is zero.
  value_kept : (y x : F) → o.add (o.mul o.one x) (o.mul y o.zero) ≡ x
  value_kept y x = simp (ring, l)

  -- A value where the old one is zero and the new one is one.
  value_new : (y : F) → o.add (o.mul o.one o.zero) (o.mul y o.one) ≡ y
  value_new y = simp (ring, l)

module _ {m : Meaning} (l : Laws m) where
  -- The laws of the elements.
  laws : field.Laws (ops m)
  laws = Carrier.ops_laws l

  -- The value of an interpolant at a point.
  interpolant_at : (ps : List Point) (vs f : List ℕ) → Interpolated m ps vs f → (i : ℕ) → i < length ps → at (ops m) (elems m f) (place m (get_or ps i no_point)) ≡ elem m (get_or vs i 0)
  interpolant_at ps vs f p i h =
      sym (get_or-map (at (ops m) (elems m f)) (places m ps) i (place m no_point) (ops m).zero (omega (arith, h, length-map {B = Elem m × Elem m} ps (place m)))
      ∙ ap (at (ops m) (elems m f)) (get_or-map (place m) ps i no_point (place m no_point) h))
      ∙ ap (λ ws. get_or ws i (ops m).zero) p.has ∙ sym (Carrier.elem_at m vs i)

  -- What `unit` answers.
  pub unit_is : (ps : List Point) (j : ℕ) {f : List ℕ} → j < length ps → Interpolated m ps (indicator (length ps) j) f → UnitAt m ps j f
  unit_is ps j {f} h p = record {
    size = p.size;
    here =
        interpolant_at ps (indicator (length ps) j) f p j h
        ∙ ap (elem m) (get_or-set_same (replicate (length ps) 0) j 1 0 (omega (arith, h, length-replicate {A = ℕ} (length ps) 0))) ∙ Carrier.one_is m;
    elsewhere = λ i k n.
        interpolant_at ps (indicator (length ps) j) f p i k
        ∙ ap (elem m) (get_or-set_other (replicate (length ps) 0) j i 1 0 n ∙ get_or-replicate (length ps) i 0 0 k)
        ∙ Carrier.zero_is m;
  }

  -- Nothing is rebuilt yet.
  pub rebuilding_starts : {fs : List (List ℕ)} {ys f : List ℕ} → f ≡ [] → Rebuilding m fs ys 0 f
  rebuilding_starts {fs} {ys} {f} e = record {
    so_far = λ ps long units. record {
      size = omega (arith, ap length e);
      done = λ i h k. absurd (omega arith);
      left = λ i h k. ap (λ g. at (ops m) (elems m g) (place m (get_or ps i no_point))) e;
    };
  }

  -- One symbol more.
  pub rebuilding_goes_on : {fs : List (List ℕ)} {ys f u f' : List ℕ} {j : ℕ} → j < length ys → u ≡ get_or fs j [] → f' ≡ codes (combined m 1 f (get_or ys j 0) u)
      → Rebuilding m fs ys j f → Rebuilding m fs ys (j + 1) f'
  rebuilding_goes_on {fs} {ys} {f} {u} {f'} {j} h eu ef s = record { so_far = λ ps long units. more ps long (s.so_far ps long units) (subst (UnitAt m ps j) (sym eu) (units j (omega (arith, h, long)))) }
    where
      elems_are : elems m f' ≡ combined m 1 f (get_or ys j 0) u
      elems_are = ap (elems m) ef ∙ Carrier.elems_codes (combined m 1 f (get_or ys j 0) u)

      sum_at : (t : Elem m × Elem m) → at (ops m) (elems m f') t ≡ (ops m).add ((ops m).mul (ops m).one (at (ops m) (elems m f) t)) ((ops m).mul (elem m (get_or ys j 0)) (at (ops m) (elems m u) t))
      sum_at t =
          ap (λ g. at (ops m) g t) elems_are ∙ Reencoding.value_combined laws t.0 (elem m 1) (elem m (get_or ys j 0)) (elems m f) (elems m u) t.1
          ∙ ap (λ c. (ops m).add ((ops m).mul c (at (ops m) (elems m f) t)) ((ops m).mul (elem m (get_or ys j 0)) (at (ops m) (elems m u) t))) (Carrier.one_is m)

      values_at : (t : Elem m × Elem m) (x y z : Elem m) → at (ops m) (elems m f) t ≡ x → at (ops m) (elems m u) t ≡ y
          → (ops m).add ((ops m).mul (ops m).one x) ((ops m).mul (elem m (get_or ys j 0)) y) ≡ z → at (ops m) (elems m f') t ≡ z
      values_at t x y z ex ey ez =
          sum_at t ∙ ap (λ v. (ops m).add ((ops m).mul (ops m).one v) ((ops m).mul (elem m (get_or ys j 0)) (at (ops m) (elems m u) t))) ex
          ∙ ap (λ v. (ops m).add ((ops m).mul (ops m).one x) ((ops m).mul (elem m (get_or ys j 0)) v)) ey ∙ ez

      more : (ps : List Point) → length ys ≡ length ps → Partly m ps ys j f → UnitAt m ps j u → Partly m ps ys (j + 1) f'
      more ps long part unit = record {
        size = omega (arith, ap length ef, length-map (combined m 1 f (get_or ys j 0) u) (λ x. x.code), Combining.length_is l 1 (get_or ys j 0) f u, part.size, unit.size);
        done = λ i a b.
            elim (cases_lt i j) [
              | inl k ↦ values_at (place m (get_or ps i no_point)) (elem m (get_or ys i 0)) (ops m).zero (elem m (get_or ys i 0)) (part.done i k b) (unit.elsewhere i b (λ e. omega (arith, e, k))) (value_kept laws (elem m (get_or ys j 0)) (elem m (get_or ys i 0)))
              | inr k ↦
                  let same : j ≡ i = omega (arith, a, k) in
                  subst (λ n. at (ops m) (elems m f') (place m (get_or ps n no_point)) ≡ elem m (get_or ys n 0)) same
                  (values_at (place m (get_or ps j no_point)) (ops m).zero (ops m).one (elem m (get_or ys j 0)) (part.left j (omega arith) (omega (arith, h, long))) unit.here (value_new laws (elem m (get_or ys j 0))))
            ];
        left = λ i a b.
            values_at (place m (get_or ps i no_point)) (ops m).zero (ops m).zero (ops m).zero (part.left i (omega (arith, a)) b) (unit.elsewhere i b (λ e. omega (arith, e, a))) (value_kept laws (elem m (get_or ys j 0)) (ops m).zero);
      }

  -- All symbols.
  pub rebuilding_ends : {fs : List (List ℕ)} {ys f : List ℕ} {j : ℕ} → length ys ≤ j → Rebuilding m fs ys j f → (ps : List Point) → length ys ≡ length ps → Units m ps fs → Rebuilt m ps ys f
  rebuilding_ends h s ps long units = let part = s.so_far ps long units in record { size = part.size; has = λ i k. part.done i (omega (arith, h, k, long)) k }

  module _ (c : Code) (law : LawfulCode m c) where
    -- The first points of a code.
    abbrev first : List Point
    first = take c.dimension (stops c.course)

    -- There are k of them.
    pub length_first : length first ≡ c.dimension
    length_first = length-take-le c.dimension (stops c.course) law.most

    -- They stand in blocks.
    grouped_first : points (first_blocks c.dimension law.blocks) ≡ places m first
    grouped_first = FirstPoints.points_first laws c.dimension law.blocks ∙ ap (take c.dimension) law.grouped ∙ take-map (place m) c.dimension (stops c.course)

    -- These are lawful.
    pub lawful_there : ¬ Unlawful m first
    lawful_there u = u (first_blocks c.dimension law.blocks) grouped_first (FirstPoints.lawful_first laws c.dimension law.blocks law.lawful)

    -- What vanishes at all of them has degree k.
    degree_is : (f : List ℕ) → Annihilated m first f → Degree (ops m) (elems m f) c.dimension
    degree_is f kills = elim (cases_lt n c.dimension) [ inl h ↦ absurd (low h) | inr h ↦ exact (omega (arith, h, bound)) ]
      where
        n : ℕ
        n = kills.annihilator.monic.0

        count : length (places m first) ≡ c.dimension
        count = length-map {B = Elem m × Elem m} first (place m) ∙ length_first

        bound : kills.annihilator.monic.0 ≤ c.dimension
        bound = omega (arith, kills.annihilator.monic.1, kills.annihilator.degree, count)

        low : kills.annihilator.monic.0 < c.dimension → ⊥
        low h =
            Sharpness.monic_seen laws (places m first) (elems m f)
            (subst (Sharpness.Sharp (ops m)) grouped_first (Sharpness.sharp_lawful laws (first_blocks c.dimension law.blocks) (FirstPoints.lawful_first laws c.dimension law.blocks law.lawful)))
            kills.annihilator.monic (omega (arith, h, kills.annihilator.monic.1, count))
            (subst (λ v. AllByRecursion (λ (t : Elem m × Elem m). v t.0 (elems m f) t.1 ≡ (ops m).zero) (places m first)) (sym (Evaluation.both_values laws)) kills.annihilator.vanishes)

        exact : kills.annihilator.monic.0 ≡ c.dimension → Degree (ops m) (elems m f) c.dimension
        exact e = (
          (λ z. Inverses.one_zero laws (sym kills.annihilator.monic.2 ∙ ap (coef (ops m) (elems m f)) e ∙ z)),
          (λ i h. get_or_past (elems m f) i (ops m).zero (omega (arith, h, e, kills.annihilator.monic.1))),
        )

    -- What `prepare` answers belongs to the code.
    pub prepares : (p : Prepared) → Annihilated m first (coefficients p.top) → held p.values ≡ codes (word_of m c (elems m (coefficients p.top)))
        → Collected (UnitAt m first) c.dimension (map coefficients p.units) → Collected (Stepped m (stops c.course)) (length (stops c.course)) p.powers → Prepares m c p
    prepares p kills values all met = record {
      degree = degree_is (coefficients p.top) kills;
      size = omega (arith, kills.annihilator.degree, length-map (coefficients p.top) (elem m), length-map {B = Elem m × Elem m} first (place m), length_first);
      vanishes = kills.annihilator.vanishes;
      values = values;
      units = λ j h. all.each [] j (omega (arith, h, length_first));
      powers = met.each;
    }
