-- The loops of the functions on syndromes, over plain numbers.
--
--   Summing m xs ys i t             t plus the sum over the places from i on is the whole sum
--   Checking m ps ds w j ts out     ts are the terms of syndrome j, counted from 0, and out holds the syndromes before it
use Rattle.std.proofs.Common.{◌≡◌, ℕ, suc, ◌+◌, ◌-◌, ◌<◌, ◌≤◌, min, List, [], ◌∷◌, ◌++◌, length, get_or, take, drop, sym, refl, ap, ◌∙◌, inl, inr, add-one, arith, below_more}
use Rattle.std.proofs.lemmas.Bool.{cases_lt}
use Rattle.std.proofs.lemmas.List.{length-map}
use Rattle.std.proofs.lemmas.List.{drop_more, drop_all, take_all, length_push, get_or_push, get_or_append_left}
use Rattle.fields.specs.Field.{mirror, scale, comb}
use Rattle.fields.specs.Field as field
use Rattle.fields.specs.Meaning.{Meaning, Laws, clip}
use Rattle.fields.specs.Elements.{Elem, elem, elems, codes, ops}
use Rattle.fields.specs.Basics
use Rattle.fields.proofs.Carrier
use Rattle.skew.specs.declared.points.Point.{Point}
use Rattle.skew.specs.Values.{twisted, norm}
use Rattle.skew.specs.Products.{coef}
use Rattle.skew.specs.Annihilators.{places}
use Rattle.skew.proofs.Values.{term_step}
use Rattle.skew.proofs.Sums.{cons_path}
use Rattle.skew.proofs.Growing.{code_of_zero}
use Rattle.skew.proofs.Vanishing
use Rattle.codes.specs.Duals.{powers, dual_points, syndrome}
use Rattle.codes.specs.DualAnswers.{Checked, advanced}
use Rattle.codes.proofs.Mirrors
use Rattle.codes.proofs.Holding.{Filling, fill, uncut}
use Rattle.codes.proofs.Multipliers.{length_places, length_scaled, sharp_places}

pub record Summing (m : Meaning) (xs ys : List ℕ) (i t : ℕ) : Type 0 where
  pub counts : clip m t ≡ t
  pub whole : (ops m).add (elem m t) (comb (ops m) (elems m (drop i xs)) (drop i (elems m ys))) ≡ comb (ops m) (elems m xs) (elems m ys)

pub record Checking (m : Meaning) (ps : List Point) (ds w : List ℕ) (j : ℕ) (ts out : List ℕ) : Type 0 where
  pub terms : ts ≡ codes (powers (mirror (ops m)) j (dual_points (ops m) (places m ps) (elems m ds)))
  pub size : length out ≡ j
  pub each : (i : ℕ) → i < j → get_or out i 0 ≡ (syndrome (ops m) (places m ps) (elems m ds) (elems m w) i).code

module _ {F : Type 0} {o : field.Ops F} (l : field.Laws o) where
  -- A sum from the place i on, by the symbol there; past the end it is zero.
  comb_at : (x : F) (xs ys : List F) (i : ℕ) → comb o (x ∷ xs) (drop i ys) ≡ o.add (o.mul x (coef o ys i)) (comb o xs (drop (suc i) ys))
  comb_at x xs [] ℕ.zero = sym (ap (o.add (o.mul x o.zero)) (Vanishing.comb_null l xs [] tt) ∙ Basics.add_zero l _ ∙ Basics.mul_zero l x)
  comb_at x xs [] (suc i) = sym (ap (o.add (o.mul x o.zero)) (Vanishing.comb_null l xs [] tt) ∙ Basics.add_zero l _ ∙ Basics.mul_zero l x)
  comb_at x xs (y ∷ ys) ℕ.zero = refl
  comb_at x xs (y ∷ ys) (suc i) = comb_at x xs ys i

  -- The terms of the first syndrome are the dual locators.
  first_terms : (pts : List (F × F)) (alpha : List F) → length alpha ≡ length pts → scale o o.one alpha ≡ powers (mirror o) 0 (dual_points o pts alpha)
  first_terms [] [] len = refl
  first_terms [] (x ∷ alpha) len = absurd (omega arith)
  first_terms (t ∷ pts) [] len = absurd (omega arith)
  first_terms (t ∷ pts) (x ∷ alpha) len = cons_path (Basics.mul_comm l o.one x) (first_terms pts alpha (omega arith))

module _ {m : Meaning} (l : Laws m) where
  -- The laws of the elements.
  laws : field.Laws (ops m)
  laws = Carrier.ops_laws l

  -- Before the first place.
  pub sum_starts : (xs ys : List ℕ) → Summing m xs ys 0 0
  sum_starts xs ys = record {
    counts = Carrier.zero_counts l;
    whole = ap (λ z. (ops m).add z (comb (ops m) (elems m xs) (elems m ys))) (Carrier.zero_is m) ∙ Basics.zero_add laws _;
  }

  -- With nothing left to add the total is the sum.
  told : {xs ys : List ℕ} {i t : ℕ} → Summing m xs ys i t → comb (ops m) (elems m (drop i xs)) (drop i (elems m ys)) ≡ (ops m).zero → t ≡ (comb (ops m) (elems m xs) (elems m ys)).code
  told {xs} {ys} {i} {t} s z = Carrier.answers _ s.counts (sym (Basics.add_zero laws (elem m t)) ∙ ap ((ops m).add (elem m t)) (sym z) ∙ s.whole)

  -- One place more.
  pub sum_goes_on : {xs ys : List ℕ} {i t y p t' : ℕ} → i < length xs → Summing m xs ys i t → y ≡ get_or ys i 0 → p ≡ m.product (clip m (get_or xs i 0)) (clip m y) → t' ≡ m.sum (clip m t) (clip m p)
      → Summing m xs ys (i + 1) t'
  sum_goes_on {xs} {ys} {i} {t} {y} {p} {t'} h s ey ep et =
      let o = ops m in
      let rest = comb o (elems m (drop (i + 1) xs)) (drop (i + 1) (elems m ys)) in
      let x = elem m (get_or xs i 0) in
      let e1 : elem m p ≡ o.mul x (coef o (elems m ys) i) = Carrier.multiplies m (get_or xs i 0) y ep ∙ ap (o.mul x) (ap (elem m) ey ∙ Carrier.elem_at m ys i) in
      let e2 : elem m t' ≡ o.add (elem m t) (o.mul x (coef o (elems m ys) i)) = Carrier.sums m t p et ∙ ap (o.add (elem m t)) e1 in
      let e3 : comb o (elems m (drop i xs)) (drop i (elems m ys)) ≡ o.add (o.mul x (coef o (elems m ys) i)) rest =
      ap (λ zs. comb o (elems m zs) (drop i (elems m ys))) (drop_more xs i 0 h) ∙ comb_at laws x (elems m (drop (i + 1) xs)) (elems m ys) i
      ∙ ap (λ n. o.add (o.mul x (coef o (elems m ys) i)) (comb o (elems m (drop (i + 1) xs)) (drop n (elems m ys)))) (sym (add-one i)) in
      record {
        counts = Carrier.sum_counts l t p et;
        whole = ap (λ z. o.add z rest) e2 ∙ Basics.add_assoc laws (elem m t) (o.mul x (coef o (elems m ys) i)) rest ∙ ap (o.add (elem m t)) (sym e3) ∙ s.whole;
      }

  -- All places.
  pub sum_ends : {xs ys : List ℕ} {i t : ℕ} → length xs ≤ i → Summing m xs ys i t → t ≡ (comb (ops m) (elems m xs) (elems m ys)).code
  sum_ends {xs} {ys} {i} {t} h s = told s (ap (λ zs. comb (ops m) (elems m zs) (drop i (elems m ys))) (drop_all i xs h))

  -- Also where the other row ends there.
  pub sum_ends_shorter : {xs ys : List ℕ} {i t : ℕ} → i ≡ min (length xs) (length ys) → Summing m xs ys i t → t ≡ (comb (ops m) (elems m xs) (elems m ys)).code
  sum_ends_shorter {xs} {ys} {i} {t} n s = elim (cases_lt i (length xs)) [
    | inl h ↦ told s (ap (comb (ops m) (elems m (drop i xs))) (drop_all i (elems m ys) (omega (arith, length-map ys (elem m)))) ∙ Vanishing.comb_null laws (elems m (drop i xs)) [] tt)
    | inr h ↦ sum_ends h s
  ]

  -- How many terms there are.
  pub length_advanced : (ps : List Point) (ts : List (Elem m)) → length ts ≡ length ps → length (advanced m ps ts) ≡ length ps
  length_advanced [] ts e = refl
  length_advanced (p ∷ ps) [] e = absurd (omega arith)
  length_advanced (p ∷ ps) (t ∷ ts) e = ap suc (length_advanced ps ts (omega arith))

  -- One of them.
  advanced_at : (d : Point) (ps : List Point) (ts : List (Elem m)) (i : ℕ) → length ts ≡ length ps → i < length ps
      → get_or (advanced m ps ts) i (ops m).zero ≡ (ops m).untwist ((ops m).mul (coef (ops m) ts i) (elem m (get_or ps i d).parameter))
  advanced_at d [] ts i e h = absurd (omega arith)
  advanced_at d (p ∷ ps) [] i e h = absurd (omega arith)
  advanced_at d (p ∷ ps) (t ∷ ts) ℕ.zero e h = refl
  advanced_at d (p ∷ ps) (t ∷ ts) (suc i) e h = advanced_at d ps ts i (omega arith) (omega arith)

  -- One term more.
  pub advance_goes_on : (d : Point) (ps : List Point) (ts : List ℕ) {i t y z : ℕ} {out more : List ℕ} → length ts ≡ length ps → i < length ps → Filling (advanced m ps (elems m ts)) i out
      → t ≡ get_or ts i 0 → y ≡ m.product (clip m t) (clip m (get_or ps i d).parameter) → z ≡ m.untwist (clip m y) → more ≡ take 24 (out ++ z ∷ [])
      → Filling (advanced m ps (elems m ts)) (i + 1) more
  advance_goes_on d ps ts {i} {t} {y} {z} len h f et ey ez e =
      let o = ops m in
      let lt : length (elems m ts) ≡ length ps = length-map ts (elem m) ∙ len in
      fill o.zero (omega (arith, length_advanced ps (elems m ts) lt)) f
      (Carrier.answers _ (Carrier.untwist_counts l y ez)
      (Carrier.untwists m y ez ∙ ap o.untwist (Carrier.multiplies m t (get_or ps i d).parameter ey ∙ ap (λ x. o.mul x (elem m (get_or ps i d).parameter)) (ap (elem m) et ∙ Carrier.elem_at m ts i))
      ∙ sym (advanced_at d ps (elems m ts) i lt h)))
      e

  -- Terms that are advanced are those of the next syndrome.
  next_terms : (ps : List Point) (alpha : List (Elem m)) (j : ℕ) → length alpha ≡ length ps
      → advanced m ps (powers (mirror (ops m)) j (dual_points (ops m) (places m ps) alpha)) ≡ powers (mirror (ops m)) (suc j) (dual_points (ops m) (places m ps) alpha)
  next_terms [] [] j e = refl
  next_terms [] (x ∷ alpha) j e = absurd (omega arith)
  next_terms (p ∷ ps) [] j e = absurd (omega arith)
  next_terms (p ∷ ps) (x ∷ alpha) j e =
      cons_path (Mirrors.untwist_mul laws _ (elem m p.parameter) ∙ term_step (Mirrors.mirror_laws laws) ((ops m).untwist (elem m p.parameter)) x j) (next_terms ps alpha j (omega arith))

  -- As many terms as points.
  pub length_terms : (ps : List Point) (ds : List ℕ) (j : ℕ) → length ds ≡ length ps → length (powers (mirror (ops m)) j (dual_points (ops m) (places m ps) (elems m ds))) ≡ length ps
  length_terms ps ds j e =
      length-map {B = Elem m} (dual_points (ops m) (places m ps) (elems m ds)) (λ t. (ops m).mul (twisted (mirror (ops m)) j t.1) (norm (mirror (ops m)) j t.0))
      ∙ Mirrors.length_duals laws (places m ps) (elems m ds) (length-map ds (elem m) ∙ e ∙ sym (length_places l ps)) ∙ length_places l ps

  -- The same of their codes.
  pub terms_fit : (ps : List Point) (ds w : List ℕ) {j : ℕ} {ts out : List ℕ} → length ds ≡ length ps → Checking m ps ds w j ts out → length ts ≡ length ps
  terms_fit ps ds w {j} e s = ap length s.terms ∙ length-map (powers (mirror (ops m)) j (dual_points (ops m) (places m ps) (elems m ds))) (λ (x : Elem m). x.code) ∙ length_terms ps ds j e

  -- The terms of the first syndrome.
  pub check_starts : (ps : List Point) (ds w : List ℕ) {ts out : List ℕ} → length ps ≤ 24 → length ds ≡ length ps → ts ≡ take 24 (codes (scale (ops m) (elem m 1) (elems m ds))) → out ≡ []
      → Checking m ps ds w 0 ts out
  check_starts ps ds w {ts} {out} few len et eo = record {
    terms = et ∙ uncut _ (omega (arith, length_scaled l 1 ds))
        ∙ ap codes (ap (λ x. scale (ops m) x (elems m ds)) (Carrier.one_is m) ∙ first_terms laws (places m ps) (elems m ds) (length-map ds (elem m) ∙ len ∙ sym (length_places l ps)));
    size = ap length eo;
    each = λ i h. absurd (omega arith);
  }

  -- One syndrome more.
  pub check_goes_on : (ps : List Point) (ds w : List ℕ) {j s : ℕ} {ts out ts' out' : List ℕ} → length ps ≤ 24 → length ds ≡ length ps → j < length ps → Checking m ps ds w j ts out
      → s ≡ (comb (ops m) (elems m w) (elems m ts)).code → out' ≡ take 24 (out ++ s ∷ []) → ts' ≡ take 24 (codes (advanced m ps (elems m ts))) → Checking m ps ds w (j + 1) ts' out'
  check_goes_on ps ds w {j} {s} {ts} {out} {ts'} {out'} few len h c es eo et =
      let o = ops m in
      let X = powers (mirror o) j (dual_points o (places m ps) (elems m ds)) in
      let E : elems m ts ≡ X = ap (elems m) c.terms ∙ Carrier.elems_codes X in
      let A : advanced m ps (elems m ts) ≡ powers (mirror o) (suc j) (dual_points o (places m ps) (elems m ds)) =
      ap (advanced m ps) E ∙ next_terms ps (elems m ds) j (length-map ds (elem m) ∙ len) in
      let e2 : out' ≡ out ++ s ∷ [] = eo ∙ take_all 24 (out ++ s ∷ []) (omega (arith, length_push out s, c.size)) in
      let S : ℕ → ℕ = λ i. (syndrome o (places m ps) (elems m ds) (elems m w) i).code in
      record {
        terms = et ∙ ap (λ zs. take 24 (codes zs)) A ∙ uncut _ (omega (arith, length_terms ps ds (suc j) len))
            ∙ ap (λ n. codes (powers (mirror o) n (dual_points o (places m ps) (elems m ds)))) (sym (add-one j));
        size = ap length e2 ∙ length_push out s ∙ ap (λ n. n + 1) c.size;
        each = below_more (λ i. get_or out' i 0 ≡ S i) j
            (λ i k. ap (λ xs. get_or xs i 0) e2 ∙ get_or_append_left out (s ∷ []) 0 i (omega (arith, c.size)) ∙ c.each i k)
            (ap (λ xs. get_or xs j 0) e2 ∙ get_or_push out s 0 j c.size ∙ es ∙ ap (λ zs. (comb o (elems m w) zs).code) E);
      }

  -- All syndromes.
  pub check_ends : (ps : List Point) (ds : List ℕ) (k : ℕ) (w : List ℕ) {j : ℕ} {ts out : List ℕ} → length ps ≤ 24 → length w ≡ length ps → k ≤ length ps → length ps - k ≤ j → j ≤ length ps - k
      → Checking m ps ds w j ts out → Checked m ps ds k w out
  check_ends ps ds k w {j} {ts} {out} few lw fits h below c = record {
    room = few;
    fits = fits;
    size = c.size ∙ (let e : j ≡ length ps - k = omega arith in e);
    each = λ i z. c.each i (omega (arith, c.size));
    tell = λ blocks e law d. let t = Mirrors.points_tell laws pts (elems m ds) k (elems m w) (sharp_places l ps blocks e law) d (omega (arith, length_places l ps)) (length-map w (elem m) ∙ lw ∙ sym (length_places l ps)) in (
      (λ z. t.0 (λ i y. Carrier.same_code _ _ (sym (c.each i (omega (arith, length_places l ps))) ∙ z i (omega (arith, c.size, length_places l ps)) ∙ sym (code_of_zero l)))),
      (λ r i y. c.each i (omega (arith, c.size)) ∙ ap (λ (x : Elem m). x.code) (t.1 r i (omega (arith, c.size, length_places l ps))) ∙ code_of_zero l),
    );
  }
    where
      pts : List (Elem m × Elem m)
      pts = places m ps
