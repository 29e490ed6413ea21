-- The loop over the points behind the first k.
--
--   Turning m ps M f w k i out    out holds the points from k to i - 1 with their symbols, turned
use Rattle.std.proofs.Common.{◌≡◌, ℕ, suc, ◌+◌, ◌<◌, ◌≤◌, List, [], ◌∷◌, ◌++◌, map, length, get_or, take, drop, sym, refl, ap, ◌∙◌, ap₂, append_assoc, append-nil, arith, length-append}
use Rattle.std.proofs.lemmas.List.{length-map}
use Rattle.std.proofs.lemmas.List.{get_or-map, drop_more, drop_all, take_all, length-drop, length_push, map_push}
use Rattle.std.specs.List.{AllByRecursion}
use Rattle.fields.specs.Meaning.{Meaning, clip}
use Rattle.fields.specs.Elements.{Elem, elem, elems, codes, ops}
use Rattle.fields.proofs.Carrier
use Rattle.skew.specs.declared.points.Point.{Point}
use Rattle.skew.specs.declared.points.Site.{Site}
use Rattle.skew.specs.Values.{value, value_code}
use Rattle.skew.specs.Roots.{at, Vanishes}
use Rattle.skew.specs.Annihilators.{place, places}
use Rattle.skew.specs.Interpolation.{values}
use Rattle.skew.specs.Pairs.{Spot, spot, spots}
use Rattle.recovery.specs.Steps.{no_point}
use Rattle.recovery.specs.Preparation.{word_spots, turned}
use Rattle.recovery.proofs.Reencoding.{Met}

-- As many spots as points.
pub length_spots : {F : Type 0} (pts : List (F × F)) (w : List F) → length w ≡ length pts → length (word_spots pts w) ≡ length pts
length_spots [] w e = refl
length_spots (t ∷ pts) [] e = absurd (omega arith)
length_spots (t ∷ pts) (y ∷ w) e = ap suc (length_spots pts w (omega arith))

-- The first k points with their symbols, and the others.
pub spots_parts : {F : Type 0} (k : ℕ) (pts : List (F × F)) (w : List F) → word_spots pts w ≡ word_spots (take k pts) (take k w) ++ drop k (word_spots pts w)
spots_parts ℕ.zero pts w = refl
spots_parts (suc k) [] w = refl
spots_parts (suc k) (t ∷ pts) [] = refl
spots_parts (suc k) (t ∷ pts) (y ∷ w) = ap (λ ss. record { parameter = t.0; locator = t.1; second = y } ∷ ss) (spots_parts k pts w)

module _ (m : Meaning) where
  -- The spot at a place.
  spot_at : (ps : List Point) (w : List ℕ) (i : ℕ) (d : Spot (Elem m)) → i < length ps → i < length w
      → get_or (word_spots (places m ps) (elems m w)) i d ≡ record { parameter = elem m (get_or ps i no_point).parameter; locator = elem m (get_or ps i no_point).locator; second = elem m (get_or w i 0) }
  spot_at [] w i d h k = absurd (omega arith)
  spot_at (p ∷ ps) [] i d h k = absurd (omega arith)
  spot_at (p ∷ ps) (y ∷ w) ℕ.zero d h k = refl
  spot_at (p ∷ ps) (y ∷ w) (suc i) d h k = spot_at ps w i d (omega arith) (omega arith)

  -- Where M vanishes at points and f has their symbols, both meet.
  pub all_met : (M f : List (Elem m)) (ps : List Point) (w : List ℕ) → AllByRecursion (Vanishes (ops m) M) (places m ps)
      → ((i : ℕ) → i < length ps → at (ops m) f (place m (get_or ps i no_point)) ≡ elem m (get_or w i 0)) → AllByRecursion (Met (ops m) M f) (word_spots (places m ps) (elems m w))
  all_met M f [] w h g = tt
  all_met M f (p ∷ ps) [] h g = tt
  all_met M f (p ∷ ps) (y ∷ w) h g = ((h.0, g 0 (omega arith)), all_met M f ps w h.1 (λ i k. g (suc i) (omega arith)))

pub record Turning (m : Meaning) (ps : List Point) (M f : List (Elem m)) (w : List ℕ) (k i : ℕ) (out : List Site) : Type 0 where
  pub is : spots m out ++ map (turned (ops m) M f) (drop i (word_spots (places m ps) (elems m w))) ≡ map (turned (ops m) M f) (drop k (word_spots (places m ps) (elems m w)))

module _ (m : Meaning) where
  -- Nothing yet.
  pub turning_starts : (ps : List Point) (M f : List (Elem m)) (w : List ℕ) (k : ℕ) {out : List Site} → out ≡ [] → Turning m ps M f w k k out
  turning_starts ps M f w k e = record { is = ap (λ o. spots m o ++ map (turned (ops m) M f) (drop k (word_spots (places m ps) (elems m w)))) e }

  module _ (ps : List Point) (M : List (Elem m)) (f w vs : List ℕ) (i : ℕ) (size : length w ≡ length ps) (few : length ps ≤ 24) (low : i < length ps) (vs-are : vs ≡ codes (values (ops m) M (places m ps))) where
    -- The value of M at the point.
    value_there : elem m (get_or vs i 0) ≡ at (ops m) M (place m (get_or ps i no_point))
    value_there =
        ap (λ us. elem m (get_or us i 0)) vs-are
        ∙ ap (elem m) (get_or-map (λ (x : Elem m). x.code) (values (ops m) M (places m ps)) i (at (ops m) M (place m no_point)) 0 (omega (arith, low, length-map (places m ps) (at (ops m) M), length-map {B = Elem m × Elem m} ps (place m))))
        ∙ Carrier.elem_code (get_or (values (ops m) M (places m ps)) i (at (ops m) M (place m no_point)))
        ∙ get_or-map (at (ops m) M) (places m ps) i (place m no_point) (at (ops m) M (place m no_point)) (omega (arith, low, length-map {B = Elem m × Elem m} ps (place m)))
        ∙ ap (at (ops m) M) (get_or-map (place m) ps i no_point (place m no_point) low)

    -- One point more.
    pub turning_goes_on : (k : ℕ) {here minus second : ℕ} {out out' : List Site} → here ≡ value_code m f (get_or ps i no_point).parameter (get_or ps i no_point).locator → minus ≡ m.opposite (clip m here)
        → second ≡ m.sum (clip m (get_or w i 0)) (clip m minus) → out' ≡ take 24 (out ++ record { parameter = (get_or ps i no_point).parameter; locator = get_or vs i 0; second = second } ∷ [])
        → Turning m ps M (elems m f) w k i out → Turning m ps M (elems m f) w k (i + 1) out'
    turning_goes_on k {here} {minus} {second} {out} {out'} eh em es eo s = record {
      is =
          ap (λ o. spots m o ++ map T (drop (i + 1) W)) (eo ∙ take_all 24 (out ++ x ∷ []) (omega (arith, length_push out x, room)))
          ∙ ap (λ ss. ss ++ map T (drop (i + 1) W)) (map_push (spot m) out x)
          ∙ append_assoc (spots m out) (spot m x ∷ []) (map T (drop (i + 1) W))
          ∙ ap (λ ss. spots m out ++ ss) (ap (λ z. z ∷ map T (drop (i + 1) W)) (same ∙ ap T (sym (spot_at m ps w i (t_none) low (omega (arith, low, size))))) ∙ ap (map T) (sym (drop_more W i t_none (omega (arith, low, long)))))
          ∙ s.is;
    }
      where
        T : Spot (Elem m) → Spot (Elem m)
        T = turned (ops m) M (elems m f)

        W : List (Spot (Elem m))
        W = word_spots (places m ps) (elems m w)

        x : Site
        x = record { parameter = (get_or ps i no_point).parameter; locator = get_or vs i 0; second = second }

        t_none : Spot (Elem m)
        t_none = record { parameter = (ops m).zero; locator = (ops m).zero; second = (ops m).zero }

        long : length (word_spots (places m ps) (elems m w)) ≡ length ps
        long = length_spots (places m ps) (elems m w) (length-map w (elem m) ∙ size ∙ sym (length-map {B = Elem m × Elem m} ps (place m))) ∙ length-map {B = Elem m × Elem m} ps (place m)

        room : length out < 24
        room =
            omega (
              arith,
              ap length s.is,
              length-append (spots m out) (map (turned (ops m) M (elems m f)) (drop i (word_spots (places m ps) (elems m w)))),
              length-map out (spot m),
              length-map (drop i (word_spots (places m ps) (elems m w))) (turned (ops m) M (elems m f)),
              length-map (drop k (word_spots (places m ps) (elems m w))) (turned (ops m) M (elems m f)),
              length-drop i (word_spots (places m ps) (elems m w)),
              length-drop k (word_spots (places m ps) (elems m w)),
              long,
              low,
              few,
            )

        there : elem m here ≡ value (ops m) (elem m (get_or ps i no_point).parameter) (elems m f) (elem m (get_or ps i no_point).locator)
        there = Carrier.named (value (ops m) (elem m (get_or ps i no_point).parameter) (elems m f) (elem m (get_or ps i no_point).locator)) eh

        same : spot m x ≡ T (record { parameter = elem m (get_or ps i no_point).parameter; locator = elem m (get_or ps i no_point).locator; second = elem m (get_or w i 0) })
        same =
            ap₂ (λ u v. record { parameter = elem m (get_or ps i no_point).parameter; locator = u; second = v }) value_there
            (Carrier.sums m (get_or w i 0) minus es ∙ ap ((ops m).add (elem m (get_or w i 0))) (Carrier.negates m here em ∙ ap (ops m).neg there))

  -- All points.
  pub turning_ends : (ps : List Point) (M f : List (Elem m)) (w : List ℕ) (k : ℕ) {i : ℕ} {out : List Site} → length w ≡ length ps → length ps ≤ i → Turning m ps M f w k i out
      → spots m out ≡ map (turned (ops m) M f) (drop k (word_spots (places m ps) (elems m w)))
  turning_ends ps M f w k {i} {out} size h s =
      sym (append-nil (spots m out)) ∙ ap (λ ss. spots m out ++ map (turned (ops m) M f) ss) (sym (drop_all i (word_spots (places m ps) (elems m w)) (omega (arith, h, long)))) ∙ s.is
    where
      long : length (word_spots (places m ps) (elems m w)) ≡ length ps
      long = length_spots (places m ps) (elems m w) (length-map w (elem m) ∙ size ∙ sym (length-map {B = Elem m × Elem m} ps (place m))) ∙ length-map {B = Elem m × Elem m} ps (place m)
