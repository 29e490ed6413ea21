-- The loops of the functions on dual locators, over plain numbers.
--
--   Gathering m ps i out    out holds the multipliers of the first i places
use Rattle.std.proofs.Common.{◌≡◌, ℕ, suc, ◌+◌, ◌-◌, ◌<◌, ◌≤◌, List, [], ◌∷◌, ◌++◌, length, get_or, take, replicate, Some, None, sym, refl, ap, ◌∙◌, subst, arith, below_more}
use Rattle.std.proofs.lemmas.List.{length-map}
use Rattle.std.proofs.lemmas.List.{take_all, length_push, get_or_push, get_or_append_left, get_or-map}
use Rattle.fields.specs.Field.{scale}
use Rattle.fields.specs.Field as field
use Rattle.fields.specs.Meaning.{Meaning, Laws, clip, inverted}
use Rattle.fields.specs.Elements.{Elem, elem, elems, codes, ops}
use Rattle.fields.proofs.Carrier
use Rattle.skew.specs.declared.points.Point.{Point}
use Rattle.skew.specs.Roots.{Block, points, Lawful}
use Rattle.skew.specs.Products.{coef}
use Rattle.skew.specs.Annihilators.{place, places}
use Rattle.skew.specs.Interpolation.{Unlawful, indicator, Interpolated}
use Rattle.skew.proofs.Sums.{cons_path}
use Rattle.skew.proofs.Sharpness
use Rattle.skew.proofs.Sharpness.{Sharp}
use Rattle.skew.proofs.Growing.{inverse_some, inverse_none}
use Rattle.codes.specs.Duals.{DualLocators}
use Rattle.codes.specs.DualAnswers.{Located, unit, Multiplier, Multipliers, MultiplierAt, MultipliersOf}
use Rattle.codes.proofs.Locators
use Rattle.codes.proofs.DualCodes
use Rattle.codes.proofs.Holding.{Filling, fill, uncut}

pub record Gathering (m : Meaning) (ps : List Point) (i : ℕ) (out : List ℕ) : Type 0 where
  pub size : length out ≡ i
  pub each : (j : ℕ) → j < i → Multiplier (ops m) (places m ps) (length ps - 1) j (length ps - suc j) (elem m (get_or out j 0))

-- A row with 1 at one place and 0 elsewhere, by its parts.
indicator_parts : (n i : ℕ) → i < n → indicator n i ≡ replicate i 0 ++ 1 ∷ replicate (n - suc i) 0
indicator_parts ℕ.zero i h = absurd (omega arith)
indicator_parts (suc n) ℕ.zero h = ap (λ r. 1 ∷ replicate r 0) (let e : n ≡ suc n - 1 = omega arith in e)
indicator_parts (suc n) (suc i) h = ap (λ zs. 0 ∷ zs) (indicator_parts n i (omega arith)) ∙ ap (λ r. 0 ∷ replicate i 0 ++ 1 ∷ replicate r 0) (let e : n - suc i ≡ suc n - suc (suc i) = omega arith in e)

module _ {m : Meaning} (l : Laws m) where
  -- The laws of the elements.
  laws : field.Laws (ops m)
  laws = Carrier.ops_laws l

  -- Zeros, in elements.
  elems_zeros : (r : ℕ) → elems m (replicate r 0) ≡ replicate r (ops m).zero
  elems_zeros ℕ.zero = refl
  elems_zeros (suc r) = cons_path (Carrier.zero_is m) (elems_zeros r)

  -- A row with one at one place, in elements.
  elems_unit : (i r : ℕ) → elems m (replicate i 0 ++ 1 ∷ replicate r 0) ≡ unit (ops m) i r
  elems_unit ℕ.zero r = cons_path (Carrier.one_is m) (elems_zeros r)
  elems_unit (suc i) r = cons_path (Carrier.zero_is m) (elems_unit i r)

  -- As many places as points.
  pub length_places : (ps : List Point) → length (places m ps) ≡ length ps
  length_places ps = length-map {B = Elem m × Elem m} ps (place m)

  -- What `multiplier` answers.
  pub multiplier_is : (ps : List Point) (i : ℕ) {f : List ℕ} {w : ℕ} → i < length ps → Interpolated m ps (indicator (length ps) i) f → w ≡ get_or f (length ps - 1) 0 → MultiplierAt m ps i w
  multiplier_is ps i {f} {w} h p ew = record {
    multiplier = (
      elems m f,
      omega (arith, length-map f (elem m), length_places ps, p.size),
      p.has ∙ ap (elems m) (indicator_parts (length ps) i h) ∙ elems_unit i (length ps - suc i),
      sym (ap (elem m) ew ∙ Carrier.elem_at m f (length ps - 1)),
    );
  }

  -- No multiplier yet.
  pub multipliers_start : (ps : List Point) {out : List ℕ} → out ≡ [] → Gathering m ps 0 out
  multipliers_start ps {out} e = record { size = ap length e; each = λ j h. absurd (omega arith) }

  -- One place more.
  pub multipliers_go_on : (ps : List Point) {i w : ℕ} {out more : List ℕ} → i < length ps → length ps ≤ 24 → Gathering m ps i out → MultiplierAt m ps i w → more ≡ take 24 (out ++ w ∷ [])
      → Gathering m ps (i + 1) more
  multipliers_go_on ps {i} {w} {out} {more} h few s p e =
      let e2 : more ≡ out ++ w ∷ [] = e ∙ take_all 24 (out ++ w ∷ []) (omega (arith, length_push out w, s.size)) in
      let P : ℕ → ℕ → Type 0 = λ j x. Multiplier (ops m) (places m ps) (length ps - 1) j (length ps - suc j) (elem m x) in
      record {
        size = ap length e2 ∙ length_push out w ∙ ap (λ n. n + 1) s.size;
        each = below_more (λ j. P j (get_or more j 0)) i
            (λ j k. subst (P j) (sym (ap (λ xs. get_or xs j 0) e2 ∙ get_or_append_left out (w ∷ []) 0 j (omega (arith, s.size)))) (s.each j k))
            (subst (P i) (sym (ap (λ xs. get_or xs i 0) e2 ∙ get_or_push out w 0 i s.size)) p.multiplier);
      }

  -- Multipliers place by place are multipliers from the first place on.
  multipliers_listed : (ps : List Point) (i : ℕ) (ws : List ℕ) → i + length ws ≡ length ps
      → ((j : ℕ) → j < length ws → Multiplier (ops m) (places m ps) (length ps - 1) (i + j) (length ps - suc (i + j)) (elem m (get_or ws j 0))) → Multipliers (ops m) (places m ps) (length ps - 1) i (elems m ws)
  multipliers_listed ps i [] e h = tt
  multipliers_listed ps i (w ∷ ws) e h = (
    subst (λ r. Multiplier (ops m) (places m ps) (length ps - 1) i r (elem m w)) (let k : length ps - suc i ≡ length (elems m ws) = omega (arith, length-map ws (elem m)) in k)
        (subst (λ j. Multiplier (ops m) (places m ps) (length ps - 1) j (length ps - suc j) (elem m w)) (let k : i + 0 ≡ i = omega arith in k) (h 0 (omega arith))),
    multipliers_listed ps (suc i) ws (omega arith)
        (λ j k. subst (λ n. Multiplier (ops m) (places m ps) (length ps - 1) n (length ps - suc n) (elem m (get_or ws j 0))) (let z : i + suc j ≡ suc i + j = omega arith in z) (h (suc j) (omega arith))),
  )

  -- All places.
  pub multipliers_end : (ps : List Point) {i : ℕ} {out : List ℕ} → length ps ≤ i → i ≤ length ps → Gathering m ps i out → MultipliersOf m ps out
  multipliers_end ps {i} {out} h k s = record {
    size = s.size ∙ (let e : i ≡ length ps = omega arith in e);
    multipliers = multipliers_listed ps 0 out (omega (arith, s.size))
        (λ j z. subst (λ n. Multiplier (ops m) (places m ps) (length ps - 1) n (length ps - suc n) (elem m (get_or out j 0))) (let e : j ≡ 0 + j = omega arith in e) (s.each j (omega (arith, s.size))));
  }

  -- One symbol more of a multiple.
  pub scaled_more : (c : ℕ) (row : List ℕ) {i y : ℕ} {out more : List ℕ} → i < length row → Filling (scale (ops m) (elem m c) (elems m row)) i out
      → y ≡ m.product (clip m c) (clip m (get_or row i 0)) → more ≡ take 24 (out ++ y ∷ []) → Filling (scale (ops m) (elem m c) (elems m row)) (i + 1) more
  scaled_more c row {i} {y} h f ey e =
      let o = ops m in
      let k : i < length (elems m row) = omega (arith, length-map row (elem m)) in
      let k2 : i < length (scale o (elem m c) (elems m row)) = omega (arith, length-map (elems m row) (o.mul (elem m c))) in
      let X : get_or (scale o (elem m c) (elems m row)) i o.zero ≡ o.mul (elem m c) (elem m (get_or row i 0)) =
      get_or-map (o.mul (elem m c)) (elems m row) i o.zero o.zero k ∙ ap (o.mul (elem m c)) (sym (Carrier.elem_at m row i)) in
      fill o.zero k2 f (Carrier.answers _ (Carrier.product_counts l c (get_or row i 0) ey) (Carrier.multiplies m c (get_or row i 0) ey ∙ sym X)) e

  -- How long a multiple is.
  pub length_scaled : (c : ℕ) (row : List ℕ) → length (scale (ops m) (elem m c) (elems m row)) ≡ length row
  length_scaled c row = length-map (elems m row) ((ops m).mul (elem m c)) ∙ length-map row (elem m)

  -- Lawful points, as the program has them, are sharp.
  pub sharp_places : (ps : List Point) (blocks : List (Block (Elem m))) → points blocks ≡ places m ps → Lawful (ops m) blocks → Sharp (ops m) (places m ps)
  sharp_places ps blocks e law = subst (Sharp (ops m)) e (Sharpness.sharp_lawful laws blocks law)

  -- Where the first multiplier has no inverse, the points are not lawful.
  pub first_missing : (ps : List Point) {ws : List ℕ} {first : ℕ} → 1 ≤ length ps → MultipliersOf m ps ws → first ≡ get_or ws 0 0 → None ≡ inverted m first → Unlawful m ps
  first_missing ps {ws} {first} some w ef z blocks e law =
      Locators.first_multiplier laws (places m ps) (length ps - 1) (elems m ws) (sharp_places ps blocks e law) (length_places ps ∙ (let k : length ps ≡ suc (length ps - 1) = omega arith in k))
      (length-map ws (elem m) ∙ w.size ∙ sym (length_places ps)) w.multipliers (sym (Carrier.elem_at m ws 0) ∙ ap (elem m) (sym ef) ∙ inverse_none l first z)

  -- What `dual_locators` answers.
  pub located : (ps : List Point) {ws row ds : List ℕ} {first c : ℕ} → 1 ≤ length ps → length ps ≤ 24 → MultipliersOf m ps ws → first ≡ get_or ws 0 0 → Some c ≡ inverted m first → row ≡ ws
      → ds ≡ take 24 (codes (scale (ops m) (elem m c) (elems m row))) → Located m ps ds
  located ps {ws} {row} {ds} {first} {c} some few w ef ei er ed =
      let o = ops m in
      let X = scale o (elem m c) (elems m ws) in
      let lx : length X ≡ length ps = length_scaled c ws ∙ w.size in
      let e : ds ≡ codes X = ed ∙ ap (λ zs. take 24 (codes (scale o (elem m c) (elems m zs)))) er ∙ uncut X (omega arith) in
      let ie : elem m c ≡ o.inv (coef o (elems m ws) 0) = (inverse_some l first ei).1 ∙ ap o.inv (ap (elem m) ef ∙ Carrier.elem_at m ws 0) in
      let E : elems m ds ≡ scale o (o.inv (coef o (elems m ws) 0)) (elems m ws) = ap (elems m) e ∙ Carrier.elems_codes X ∙ ap (λ x. scale o x (elems m ws)) ie in
      record {
        some = some;
        room = few;
        proper = ap (λ zs. codes (elems m zs)) e ∙ ap codes (Carrier.elems_codes X) ∙ sym e;
        size = ap length e ∙ length-map X (λ (x : Elem m). x.code) ∙ lx;
        duality = DualCodes.duality laws;
        dual = λ blocks be law. subst (DualLocators o (places m ps)) (sym E)
            (Locators.dual_of_multipliers laws (places m ps) (length ps - 1) (elems m ws) (sharp_places ps blocks be law) (length_places ps ∙ (let k : length ps ≡ suc (length ps - 1) = omega arith in k))
            (length-map ws (elem m) ∙ w.size ∙ sym (length_places ps)) w.multipliers);
      }
