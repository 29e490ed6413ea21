-- The loop of `interpolate`, over plain numbers.
--
--   Stepping m ps vs i f g    after i points: f has the values wanted so far, and g is monic and vanishes at the points so far
use Rattle.std.proofs.Common.{◌≡◌, ℕ, ◌+◌, ◌<◌, ◌≤◌, ◌≢◌, List, [], ◌∷◌, ◌++◌, map, length, get_or, take, drop, set, replicate, ◌⊎◌, Option, MatchOption, Some, None, sym, refl, ap, ◌∙◌, subst, inl, inr, arith, length-set, take-append-drop}
use Rattle.std.proofs.lemmas.List.{length-map, take_more, take_all, map-append, length-take-le, take-replicate, length-replicate, get_or-map, take-map}
use Rattle.std.specs.List.{AllByRecursion}
use Rattle.fields.specs.Field.{plus, scale}
use Rattle.fields.specs.Field as field
use Rattle.fields.specs.Basics
use Rattle.fields.specs.Meaning.{Meaning, Laws}
use Rattle.fields.specs.Elements.{Elem, elem, elems, codes, ops}
use Rattle.fields.proofs.Carrier
use Rattle.skew.specs.declared.few.Few.{Few}
use Rattle.skew.specs.declared.points.Point.{Point}
use Rattle.skew.specs.Values.{eval, value}
use Rattle.skew.specs.Roots.{at, Vanishes}
use Rattle.skew.specs.Polynomials.{coefficients, Codes}
use Rattle.skew.specs.Annihilators.{place, places, Grown}
use Rattle.skew.specs.Interpolation.{values, Unlawful, Stuck, Interpolated, Corrected, indicator}
use Rattle.skew.proofs.Filling.{put_is}
use Rattle.skew.proofs.Evaluation
use Rattle.fields.specs.Lists.{all_follow}
use Rattle.skew.proofs.Everywhere.{all_append}
use Rattle.skew.proofs.Sums
use Rattle.skew.proofs.RootCount
use Rattle.skew.proofs.Sharpness
use Rattle.skew.proofs.Correcting
use Rattle.skew.proofs.Sharpness.{Sharp}
use Rattle.skew.proofs.Growing.{Growing, annihilator_starts, annihilator_goes_on}

pub record Stepping (m : Meaning) (ps : List Point) (vs : List ℕ) (i : ℕ) (f g : List ℕ) : Type 0 where
  pub proper : Codes m f
  pub size : length f ≤ i
  pub has : values (ops m) (elems m f) (places m (take i ps)) ≡ elems m (take i vs)
  pub base : Growing m (take i ps) g

-- Maps that agree at each element of a list.
map_same : {A B : Type 0} (h k : A → B) (xs : List A) → AllByRecursion (λ x. h x ≡ k x) xs → map h xs ≡ map k xs
map_same h k [] e = refl
map_same h k (x ∷ xs) e = Sums.cons_path e.0 (map_same h k xs e.1)

-- And the other way round.
same_map : {A B : Type 0} (h k : A → B) (xs : List A) → map h xs ≡ map k xs → AllByRecursion (λ x. h x ≡ k x) xs
same_map h k [] e = tt
same_map h k (x ∷ xs) e = (ap (λ ys. get_or ys 0 (h x)) e, same_map h k xs (ap (drop 1) e))

module _ {m : Meaning} (l : Laws m) where
  -- The laws of the elements.
  abbrev laws : field.Laws (ops m)
  laws = Carrier.ops_laws l

  -- Both forms of the value.
  abbrev both : eval (ops m) ≡ value (ops m)
  both = Evaluation.both_values laws

  -- Before the first point.
  pub newton_starts : (ps : List Point) (vs : List ℕ) {e f g : List ℕ} → f ≡ [] → e ≡ [] → g ≡ take 48 (e ++ 1 ∷ []) → Stepping m ps vs 0 f g
  newton_starts ps vs {e} {f} {g} ef ee eg = record {
    proper = ap (λ z. codes (elems m z)) ef ∙ sym ef;
    size = omega (arith, ap length ef);
    has = refl;
    base = annihilator_starts l ee eg;
  }

  -- One point more: the old values are kept, since the base vanishes there.
  pub newton_goes_on : (d : Point) (ps : List Point) (vs : List ℕ) {i : ℕ} {f g f' g' : List ℕ} → length vs ≡ length ps → i < length ps → Stepping m ps vs i f g
      → Corrected m f g (get_or ps i d) (get_or vs i 0) f' → Grown m g (get_or ps i d) g' → Stepping m ps vs (i + 1) f' g'
  newton_goes_on d ps vs {i} {f} {g} {f'} {g'} len h s k r =
      let o = ops m in
      let p = get_or ps i d in
      let old : values o (elems m f') (places m (take i ps)) ≡ values o (elems m f) (places m (take i ps)) =
      map_same (at o (elems m f')) (at o (elems m f)) (places m (take i ps)) (all_kept (places m (take i ps)) s.base.vanishes) in
      record {
        proper = k.proper s.proper;
        size = omega (arith, k.size, s.size, s.base.degree, length-take-le i ps (omega arith));
        has = ap (λ qs. values o (elems m f') (places m qs)) (take_more ps i d h) ∙ ap (values o (elems m f')) (map-append (place m) (take i ps) (p ∷ []))
            ∙ map-append (at o (elems m f')) (places m (take i ps)) (place m p ∷ [])
            ∙ ap (λ z. z ++ at o (elems m f') (place m p) ∷ []) (old ∙ s.has) ∙ ap (λ x. elems m (take i vs) ++ x ∷ []) k.there
            ∙ sym (ap (elems m) (take_more vs i 0 (omega arith)) ∙ map-append (elem m) (take i vs) (get_or vs i 0 ∷ []));
        base = annihilator_goes_on l d ps h s.base r;
      }
    where
      all_kept : (ts : List (Elem m × Elem m)) → AllByRecursion (Vanishes (ops m) (elems m g)) ts → AllByRecursion (λ t. at (ops m) (elems m f') t ≡ at (ops m) (elems m f) t) ts
      all_kept [] v = tt
      all_kept (t ∷ ts) v = (k.keeps t v.0, all_kept ts v.1)

  -- Where the base vanishes at the next point, the points are not lawful.
  base_stops : (d : Point) (ps : List Point) (vs : List ℕ) {i : ℕ} {f g : List ℕ} → i < length ps → Stepping m ps vs i f g → Vanishes (ops m) (elems m g) (place m (get_or ps i d)) → Unlawful m ps
  base_stops d ps vs {i} {f} {g} h s z blocks e law =
      Sharpness.monic_seen laws (places m (take (i + 1) ps)) (elems m g) sharp s.base.monic
      (omega (arith, length-map g (elem m), s.base.degree, length-map {B = Elem m × Elem m} (take (i + 1) ps) (place m), length-take-le i ps (omega arith), length-take-le (i + 1) ps (omega arith)))
      (subst (λ v. AllByRecursion (λ t. v t.0 (elems m g) t.1 ≡ (ops m).zero) (places m (take (i + 1) ps))) (sym both) seen)
    where
      sharp : Sharp (ops m) (places m (take (i + 1) ps))
      sharp =
          Sharpness.sharp_left laws (places m (take (i + 1) ps)) (places m (drop (i + 1) ps))
          (subst (Sharp (ops m)) (e ∙ ap (places m) (sym (take-append-drop (i + 1) ps)) ∙ map-append (place m) (take (i + 1) ps) (drop (i + 1) ps)) (Sharpness.sharp_lawful laws blocks law))

      seen : AllByRecursion (Vanishes (ops m) (elems m g)) (places m (take (i + 1) ps))
      seen =
          subst (AllByRecursion (Vanishes (ops m) (elems m g))) (sym (ap (places m) (take_more ps i d h) ∙ map-append (place m) (take i ps) (get_or ps i d ∷ [])))
          (all_append (Vanishes (ops m) (elems m g)) (places m (take i ps)) (place m (get_or ps i d) ∷ []) s.base.vanishes (z, tt))

  -- And where f has another value there than the one wanted, no polynomial has all of them: what one has more than f is a multiple of
  -- the base, which vanishes there.
  pub newton_stops : (d : Point) (ps : List Point) (vs : List ℕ) {i : ℕ} {f g : List ℕ} → length vs ≡ length ps → i < length ps → Stepping m ps vs i f g
      → Vanishes (ops m) (elems m g) (place m (get_or ps i d)) × (at (ops m) (elems m f) (place m (get_or ps i d)) ≢ elem m (get_or vs i 0)) → Stuck m ps vs
  newton_stops d ps vs {i} {f} {g} len h s z = record { unlawful = base_stops d ps vs h s z.0; unmet = λ q e. z.1 (sym (agree q e) ∙ wanted q e) }
    where
      p : Point
      p = get_or ps i d

      wanted : (q : List (Elem m)) → values (ops m) q (places m ps) ≡ elems m vs → at (ops m) q (place m p) ≡ elem m (get_or vs i 0)
      wanted q e =
          ap (at (ops m) q) (sym (get_or-map (place m) ps i d (place m d) h))
          ∙ sym (get_or-map (at (ops m) q) (places m ps) i (place m d) (ops m).zero (omega (arith, h, length-map {B = Elem m × Elem m} ps (place m))))
          ∙ ap (λ xs. get_or xs i (ops m).zero) e ∙ sym (Carrier.elem_at m vs i)

      before : (q : List (Elem m)) → values (ops m) q (places m ps) ≡ elems m vs → AllByRecursion (λ t. at (ops m) q t ≡ at (ops m) (elems m f) t) (places m (take i ps))
      before q e =
          same_map (at (ops m) q) (at (ops m) (elems m f)) (places m (take i ps))
          (ap (map (at (ops m) q)) (sym (take-map (place m) i ps)) ∙ sym (take-map (at (ops m) q) i (places m ps)) ∙ ap (take i) e ∙ take-map (elem m) i vs ∙ sym s.has)

      more : List (Elem m) → List (Elem m)
      more q = plus (ops m) (scale (ops m) (ops m).one q) (scale (ops m) ((ops m).neg (ops m).one) (elems m f))

      at_more : (q : List (Elem m)) (t : Elem m × Elem m) → at (ops m) (more q) t ≡ (ops m).add (at (ops m) q t) ((ops m).neg (at (ops m) (elems m f) t))
      at_more q = subst (λ v. (t : Elem m × Elem m) → v t.0 (more q) t.1 ≡ (ops m).add (v t.0 q t.1) ((ops m).neg (v t.0 (elems m f) t.1))) both
          (λ t. Correcting.at_sum laws t.0 ((ops m).neg (ops m).one) q (elems m f) t.1 ∙ Correcting.less_one laws (eval (ops m) t.0 q t.1) (eval (ops m) t.0 (elems m f) t.1))

      none : (q : List (Elem m)) → values (ops m) q (places m ps) ≡ elems m vs → at (ops m) (more q) (place m p) ≡ (ops m).zero
      none q e =
          let u = s.base.least (more q) (all_follow (λ t. at (ops m) q t ≡ at (ops m) (elems m f) t) (Vanishes (ops m) (more q)) (λ t w. at_more q t ∙ Basics.sub_of_equal laws _ _ w) (places m (take i ps)) (before q e)) in
          u.1 (elem m p.parameter) (elem m p.locator) ∙ ap (value (ops m) (elem m p.parameter) u.0) z.0
          ∙ ap (λ v. v (elem m p.parameter) u.0 (ops m).zero) (sym both) ∙ Evaluation.eval_zero laws (elem m p.parameter) u.0

      agree : (q : List (Elem m)) → values (ops m) q (places m ps) ≡ elems m vs → at (ops m) q (place m p) ≡ at (ops m) (elems m f) (place m p)
      agree q e = Basics.equal_of_sub laws _ _ (sym (at_more q (place m p)) ∙ none q e)

  -- After the last point; lawful points tell polynomials apart.
  pub newton_ends : (ps : List Point) (vs : List ℕ) {i : ℕ} {f g : List ℕ} → length ps ≤ 24 → length vs ≡ length ps → length ps ≤ i → i ≤ length ps → Stepping m ps vs i f g → Interpolated m ps vs f
  newton_ends ps vs {i} {f} {g} few len h k s =
      let has : values (ops m) (elems m f) (places m ps) ≡ elems m vs =
      ap (λ qs. values (ops m) (elems m f) (places m qs)) (sym (take_all i ps h)) ∙ s.has ∙ ap (elems m) (take_all i vs (omega arith)) in
      record {
        room = few;
        proper = s.proper;
        size = omega (arith, s.size);
        has = has;
        roots = RootCount.root_count laws;
        only = λ blocks e law q lq hq.
            Sharpness.values_tell laws (places m ps) q (elems m f) (subst (Sharp (ops m)) e (Sharpness.sharp_lawful laws blocks law))
            (omega (arith, length-map {B = Elem m × Elem m} ps (place m))) (omega (arith, length-map {B = Elem m × Elem m} ps (place m), length-map f (elem m), s.size))
            (subst (λ v. map (λ t. v t.0 q t.1) (places m ps) ≡ map (λ t. v t.0 (elems m f) t.1) (places m ps)) (sym both) (hq ∙ sym has));
      }

-- The first n of 24 cells that are 0 but for a 1 at place i.
pub indicated : (n i : ℕ) → i < n → n ≤ 24 → take n (set (replicate 24 0) i 1) ≡ indicator n i
indicated n i h few = put_is n (replicate 24 0) i 1 h ∙ ap (λ z. set z i 1) (take-replicate n 24 0 few)

-- What has these values is the unit, and where it is refused the points are not lawful.
pub unit_told : (m : Meaning) (ps : List Point) (i : ℕ) (r : Option (Few ℕ 48)) {vs : List ℕ} → length ps ≤ 24 → i < length ps → vs ≡ indicator (length ps) i
    → MatchOption r ((24 < length ps) ⊎ ((length vs ≢ length ps) ⊎ Stuck m ps vs)) (λ f. Interpolated m ps vs (coefficients f))
    → MatchOption r ((24 < length ps) ⊎ ((length ps ≤ i) ⊎ Stuck m ps (indicator (length ps) i))) (λ f. (i < length ps) × Interpolated m ps (indicator (length ps) i) (coefficients f))
unit_told m ps i None few h e (inl k) = absurd (omega arith)
unit_told m ps i None few h e (inr (inl n)) = absurd (n (ap length e ∙ length-set (replicate (length ps) 0) i 1 ∙ length-replicate (length ps) 0))
unit_told m ps i None few h e (inr (inr u)) = inr (inr (subst (Stuck m ps) e u))
unit_told m ps i (Some f) few h e p = (h, subst (λ vs. Interpolated m ps vs (coefficients f)) e p)

-- Where a unit is refused for a point that is there, the points are not lawful.
pub unlawful_then : (m : Meaning) (ps : List Point) (i : ℕ) → i < length ps → length ps ≤ 24 → (24 < length ps) ⊎ ((length ps ≤ i) ⊎ Stuck m ps (indicator (length ps) i)) → Unlawful m ps
unlawful_then m ps i h few (inl k) = absurd (omega arith)
unlawful_then m ps i h few (inr (inl k)) = absurd (omega arith)
unlawful_then m ps i h few (inr (inr u)) = u.unlawful
