-- The steps and the loop of `pairs`, over plain values.
--
--   both f g               a pair of two lists
--   lift_is, cross_is      what a step makes of the pivot and of the other pair, in elements, and how long it is
--   stays, firsts, seconds the three turns of a step keep what is held
use Rattle.std.proofs.Common.{◌≡◌, ℕ, suc, ◌+◌, ◌<◌, ◌≤◌, max, ◌≢◌, ◌⊎◌, List, [], ◌∷◌, ◌++◌, length, get_or, take, sym, ap, ◌∙◌, subst, inl, inr, add-one, arith, length-append, Option, Some, None, MatchOption}
use Rattle.std.proofs.lemmas.List.{length-map}
use Rattle.std.specs.Option.{unwrap_or}
use Rattle.std.proofs.lemmas.List.{take_more, take_all, map-append, length-take-le}
use Rattle.fields.specs.Field.{plus, scale}
use Rattle.fields.specs.Field as field
use Rattle.fields.specs.Meaning.{Meaning, Laws, clip}
use Rattle.fields.specs.Elements.{Elem, elem, elems, codes, ops}
use Rattle.fields.specs.Basics
use Rattle.fields.specs.Twists
use Rattle.fields.proofs.Carrier
use Rattle.skew.specs.declared.points.Site.{Site}
use Rattle.skew.specs.declared.pairing.Pair.{Pair}
use Rattle.skew.specs.declared.pairing.TwoPairs.{TwoPairs}
use Rattle.skew.specs.Values.{step, value, value_code}
use Rattle.skew.specs.Polynomials.{coefficients, combined, raised}
use Rattle.skew.specs.Annihilators.{Root}
use Rattle.skew.specs.Pairs.{Spot, Two, worth, Carried, spot, spots, two, Starts, Short, Held, Raised, Crossed}
use Rattle.skew.proofs.Filling.{uncut}
use Rattle.skew.proofs.Combining.{length_is, length_raised}
use Rattle.skew.proofs.Growing.{code_of_zero}
use Rattle.skew.proofs.PairSteps
use Rattle.skew.proofs.PairDegrees.{lifted, lift, cross}

-- A pair from its parts, so that equations of parts make equations of pairs.
abbrev both : {F : Type 0} → List F → List F → Two F
both f g = record { q0 = f; q1 = g }

-- Pairs with the same parts are the same.
same_two : {F : Type 0} {f f' g g' : List F} → f ≡ f' → g ≡ g' → both f g ≡ both f' g'
same_two {F} {f} {f'} {g} {g'} p q = ap (λ z. both z g) p ∙ ap (both f') q

module _ {m : Meaning} (l : Laws m) where
  -- The laws of the elements.
  laws : field.Laws (ops m)
  laws = Carrier.ops_laws l

  -- What `worths` answers for a pair is its value.
  pub worth_is : (q : Pair) (p : Site) {f g : List ℕ} {x y r : ℕ} → f ≡ coefficients q.q0 → x ≡ value_code m f p.parameter p.locator
      → g ≡ coefficients q.q1 → y ≡ value_code m g p.parameter p.second → r ≡ m.sum (clip m x) (clip m y)
      → r ≡ (worth (ops m) (two m q) (spot m p)).code
  worth_is q p {f} {g} {x} {y} {r} ef ex eg ey er =
      let o = ops m in
      let a = elem m p.parameter in
      let e1 : elem m x ≡ value o a (elems m (coefficients q.q0)) (elem m p.locator) = Carrier.named _ ex ∙ ap (λ z. value o a (elems m z) (elem m p.locator)) ef in
      let e2 : elem m y ≡ value o a (elems m (coefficients q.q1)) (elem m p.second) = Carrier.named _ ey ∙ ap (λ z. value o a (elems m z) (elem m p.second)) eg in
      let e3 = Carrier.sums m x y er in
      Carrier.answers (worth o (two m q) (spot m p)) (Carrier.sum_counts l x y er) (e3 ∙ ap (λ z. o.add z (elem m y)) e1 ∙ ap (o.add _) e2)

  -- Where v counts as 0 any factor will do.
  pub any_root : (a v c : ℕ) → elem m v ≡ (ops m).zero → Root m a v c
  any_root a v c z = record {
    is = ap ((ops m).mul (elem m c)) z ∙ Basics.mul_zero laws (elem m c)
        ∙ sym (ap (step (ops m) (elem m a)) z ∙ ap (λ w. (ops m).mul w (elem m a)) (Twists.twist_zero laws) ∙ Basics.zero_mul laws (elem m a));
  }

  -- So the root where there is one, and else 0.
  pub any_root_or : (a v : ℕ) (r : Option ℕ) {c : ℕ} → MatchOption r (elem m v ≡ (ops m).zero) (λ x. (elem m v ≢ (ops m).zero) × Root m a v x) → c ≡ unwrap_or r 0 → Root m a v c
  any_root_or a v None z e = subst (Root m a v) (sym e) (any_root a v 0 z)
  any_root_or a v (Some x) h e = subst (Root m a v) (sym e) h.1

  -- A code is 0 exactly where its element is zero.
  zero_of : {x : ℕ} (v : Elem m) → x ≡ v.code → v ≡ (ops m).zero → x ≡ 0
  zero_of v e z = e ∙ ap (λ (w : Elem m). w.code) z ∙ code_of_zero l

  -- And the other way.
  of_zero : {x : ℕ} (v : Elem m) → x ≡ v.code → x ≡ 0 → v ≡ (ops m).zero
  of_zero v e z = Carrier.same_code v (ops m).zero (sym e ∙ z ∙ sym (code_of_zero l))

  -- The same of a choice.
  side : {x : ℕ} {G : Type 0} (v : Elem m) → x ≡ v.code → (x ≡ 0) ⊎ G → (v ≡ (ops m).zero) ⊎ G
  side v e (inl z) = inl (of_zero v e z)
  side v e (inr g) = inr g

  -- A raised polynomial that is not cut.
  whole : (c : ℕ) (g : List ℕ) {r : List ℕ} → length g < 48 → r ≡ take 48 (codes (raised m c g)) → (elems m r ≡ lifted (ops m) (elem m c) (elems m g)) × (length r ≡ suc (length g))
  whole c g {r} h e =
      let n = length_raised l c g in
      let e' : r ≡ codes (raised m c g) = e ∙ uncut 48 (raised m c g) (omega arith) in
      (ap (elems m) e' ∙ Carrier.elems_codes _, ap length e' ∙ length-map (raised m c g) (λ (x : Elem m). x.code) ∙ n)

  -- A sum of multiples, in elements, and how long it is.
  mixed : (c d : ℕ) (f g : List ℕ) {n : ℕ} {r : List ℕ} → n ≡ m.opposite (clip m d) → r ≡ codes (combined m c f n g)
      → (elems m r ≡ plus (ops m) (scale (ops m) (elem m c) (elems m f)) (scale (ops m) ((ops m).neg (elem m d)) (elems m g))) × (length r ≡ max (length f) (length g))
  mixed c d f g {n} {r} en e = (
    ap (elems m) e ∙ Carrier.elems_codes _ ∙ ap (λ x. plus (ops m) (scale (ops m) (elem m c) (elems m f)) (scale (ops m) x (elems m g))) (Carrier.negates m d en),
    ap length e ∙ length-map (combined m c f n g) (λ (x : Elem m). x.code) ∙ length_is l c n f g,
  )

  -- A raised pair, and what it makes longer.
  lift_is : {a d n : ℕ} {q r : Pair} (h : Raised m a d q r) → n < 48 → Short n q → (two m r ≡ lift (ops m) (elem m h.c) (two m q)) × Short (suc n) r
  lift_is {a} {d} {n} {q} {r} h k s =
      let x = whole h.c (coefficients q.q0) (omega (arith, s.q0)) h.q0 in
      let y = whole h.c (coefficients q.q1) (omega (arith, s.q1)) h.q1 in
      (same_two x.0 y.0, record { q0 = omega (arith, x.1, s.q0); q1 = omega (arith, y.1, s.q1) })

  -- A crossed pair, and what it makes longer.
  cross_is : {c d n : ℕ} {q p r : Pair} → Crossed m c q d p r → Short n q → Short n p → (two m r ≡ cross (ops m) (elem m c) (two m q) (elem m d) (two m p)) × Short (suc n) r
  cross_is {c} {d} {n} {q} {p} {r} h s t =
      let x = mixed c d (coefficients q.q0) (coefficients p.q0) h.opposite h.q0 in
      let y = mixed c d (coefficients q.q1) (coefficients p.q1) h.opposite h.q1 in
      (same_two x.0 y.0, record { q0 = omega (arith, x.1, s.q0, t.q0); q1 = omega (arith, y.1, s.q1, t.q1) })

  -- One spot more leaves room for one coefficient more.
  longer : (ps : List (Spot (Elem m))) (p : Spot (Elem m)) (q : Pair) → Short (suc (suc (length ps))) q → Short (suc (length (ps ++ p ∷ []))) q
  longer ps p q s = record { q0 = omega (arith, s.q0, length-append ps (p ∷ [])); q1 = omega (arith, s.q1, length-append ps (p ∷ [])) }

  -- What is short is short by one more.
  one_longer : {n : ℕ} (q : Pair) → Short n q → Short (suc n) q
  one_longer q s = record { q0 = omega (arith, s.q0); q1 = omega (arith, s.q1) }

  module _ (k : ℕ) (p : Site) (s : TwoPairs) {x y : ℕ} (ex : x ≡ (worth (ops m) (two m s.first) (spot m p)).code) (ey : y ≡ (worth (ops m) (two m s.second) (spot m p)).code) (ps : List (Spot (Elem m))) where
    -- Both values are 0.
    pub stays : (x ≡ 0) × (y ≡ 0) → Held m k ps s → Held m k (ps ++ spot m p ∷ []) s
    stays e h = record {
      carried = PairSteps.carried_same laws k ps (spot m p) (two m s.first) (two m s.second) s.a s.b h.carried
          (of_zero (worth (ops m) (two m s.first) (spot m p)) ex e.0) (of_zero (worth (ops m) (two m s.second) (spot m p)) ey e.1);
      first = longer ps (spot m p) s.first (one_longer s.first h.first);
      second = longer ps (spot m p) s.second (one_longer s.second h.second);
    }

    -- The first pair is the pivot.
    pub firsts : {q r : Pair} → (x ≢ 0) × ((y ≡ 0) ⊎ (s.a < s.b + k)) → Raised m p.parameter x s.first q → Crossed m x s.second y s.first r → length ps < 24 → Held m k ps s
        → Held m k (ps ++ spot m p ∷ []) (record { first = q; second = r; a = s.a + 1; b = s.b })
    firsts {q} {r} t hq hr few h =
        let o = ops m in
        let U : elem m x ≡ worth o (two m s.first) (spot m p) = Carrier.named _ ex in
        let V : elem m y ≡ worth o (two m s.second) (spot m p) = Carrier.named _ ey in
        let A = lift_is hq (omega arith) h.first in
        let B = cross_is hr h.second h.first in
        let eB : two m r ≡ cross o (worth o (two m s.first) (spot m p)) (two m s.second) (worth o (two m s.second) (spot m p)) (two m s.first) =
        B.0 ∙ ap (λ z. cross o z (two m s.second) (elem m y) (two m s.first)) U ∙ ap (λ z. cross o (worth o (two m s.first) (spot m p)) (two m s.second) z (two m s.first)) V in
        let K = PairSteps.carried_first laws k ps (spot m p) (two m s.first) (two m s.second) s.a s.b h.carried (elem m hq.c)
        (subst (λ w. o.mul (elem m hq.c) w ≡ step o (elem m p.parameter) w) U hq.root.is) (λ z. t.0 (zero_of (worth o (two m s.first) (spot m p)) ex z))
        (side (worth o (two m s.second) (spot m p)) ey t.1) in
        record {
          carried = rw add-one (subst (λ z. Carried o k (ps ++ spot m p ∷ []) (two m q) z (suc s.a) s.b) (sym eB)
              (subst (λ z. Carried o k (ps ++ spot m p ∷ []) z (cross o (worth o (two m s.first) (spot m p)) (two m s.second) (worth o (two m s.second) (spot m p)) (two m s.first)) (suc s.a) s.b) (sym A.0) K));
          first = longer ps (spot m p) q A.1;
          second = longer ps (spot m p) r B.1;
        }

    -- The second pair is the pivot.
    pub seconds : {q r : Pair} → (y ≢ 0) × ((x ≡ 0) ⊎ (s.b + k ≤ s.a)) → Crossed m y s.first x s.second q → Raised m p.parameter y s.second r → length ps < 24 → Held m k ps s
        → Held m k (ps ++ spot m p ∷ []) (record { first = q; second = r; a = s.a; b = s.b + 1 })
    seconds {q} {r} t hq hr few h =
        let o = ops m in
        let U : elem m x ≡ worth o (two m s.first) (spot m p) = Carrier.named _ ex in
        let V : elem m y ≡ worth o (two m s.second) (spot m p) = Carrier.named _ ey in
        let A = cross_is hq h.first h.second in
        let B = lift_is hr (omega arith) h.second in
        let eA : two m q ≡ cross o (worth o (two m s.second) (spot m p)) (two m s.first) (worth o (two m s.first) (spot m p)) (two m s.second) =
        A.0 ∙ ap (λ z. cross o z (two m s.first) (elem m x) (two m s.second)) V ∙ ap (λ z. cross o (worth o (two m s.second) (spot m p)) (two m s.first) z (two m s.second)) U in
        let K = PairSteps.carried_second laws k ps (spot m p) (two m s.first) (two m s.second) s.a s.b h.carried (elem m hr.c)
        (subst (λ w. o.mul (elem m hr.c) w ≡ step o (elem m p.parameter) w) V hr.root.is) (λ z. t.0 (zero_of (worth o (two m s.second) (spot m p)) ey z))
        (side (worth o (two m s.first) (spot m p)) ex t.1) in
        record {
          carried = rw add-one (subst (λ z. Carried o k (ps ++ spot m p ∷ []) z (two m r) s.a (suc s.b)) (sym eA)
              (subst (λ z. Carried o k (ps ++ spot m p ∷ []) (cross o (worth o (two m s.second) (spot m p)) (two m s.first) (worth o (two m s.first) (spot m p)) (two m s.second)) z s.a (suc s.b)) (sym B.0) K));
          first = longer ps (spot m p) q A.1;
          second = longer ps (spot m p) r B.1;
        }

  -- The pairs (1, 0) and (0, 1) are held before the first site.
  pub pairs_start : (k : ℕ) {s : TwoPairs} → Starts s → Held m k [] s
  pairs_start k {s} e =
      let one : elems m (1 ∷ []) ≡ (ops m).one ∷ [] = ap (λ x. x ∷ []) (Carrier.one_is m) in
      let A : two m s.first ≡ both ((ops m).one ∷ []) [] = same_two (ap (elems m) e.A0 ∙ one) (ap (elems m) e.A1) in
      let B : two m s.second ≡ both [] ((ops m).one ∷ []) = same_two (ap (elems m) e.B0) (ap (elems m) e.B1 ∙ one) in
      let K = PairSteps.carried_start laws k in
      let K1 = subst (λ z. Carried (ops m) k [] z (both [] ((ops m).one ∷ [])) 0 0) (sym A) K in
      let K2 = subst (λ z. Carried (ops m) k [] (two m s.first) z 0 0) (sym B) K1 in
      let K3 = subst (λ z. Carried (ops m) k [] (two m s.first) (two m s.second) z 0) (sym e.a) K2 in
      record {
        carried = subst (λ z. Carried (ops m) k [] (two m s.first) (two m s.second) s.a z) (sym e.b) K3;
        first = record { q0 = omega (arith, ap length e.A0); q1 = omega (arith, ap length e.A1) };
        second = record { q0 = omega (arith, ap length e.B0); q1 = omega (arith, ap length e.B1) };
      }

  -- One site more.
  pub pairs_go_on : (d : Site) (k : ℕ) (ps : List Site) {i : ℕ} {s s' : TwoPairs} → length ps ≤ 24 → i < length ps → Held m k (spots m (take i ps)) s
      → ((qs : List (Spot (Elem m))) → length qs < 24 → Held m k qs s → Held m k (qs ++ spot m (get_or ps i d) ∷ []) s') → Held m k (spots m (take (i + 1) ps)) s'
  pairs_go_on d k ps {i} {s} {s'} few h a f =
      subst (λ qs. Held m k qs s') (sym (ap (spots m) (take_more ps i d h) ∙ map-append (spot m) (take i ps) (get_or ps i d ∷ [])))
      (f (spots m (take i ps)) (omega (arith, length-map {B = Spot (Elem m)} (take i ps) (spot m), length-take-le i ps (omega arith))) a)

  -- No degree passes the number of sites.
  pub pairs_few : (k : ℕ) (ps : List Site) {i : ℕ} {s : TwoPairs} → length ps ≤ 24 → i < length ps → Held m k (spots m (take i ps)) s → s.a + s.b ≤ 24
  pairs_few k ps {i} {s} few h a = omega (arith, a.carried.few, length-map {B = Spot (Elem m)} (take i ps) (spot m), length-take-le i ps (omega arith))

  -- After the last site.
  pub pairs_end : (ps : List Site) {k i : ℕ} {s : TwoPairs} → length ps ≤ i → Held m k (spots m (take i ps)) s → Held m k (spots m ps) s
  pairs_end ps {k} {i} {s} h a = subst (λ qs. Held m k (spots m qs) s) (take_all i ps h) a
