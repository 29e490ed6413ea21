-- The steps lead to the only message whose codeword can be in reach.
--
--   annihilates        the polynomial takes the row hints to zero
--   product_fits       there is room for the product
--   divides            the division cannot fail
--   candidate          what it gives is the candidate
use Rattle.std.proofs.Common.{◌≡◌, ℕ, suc, ◌+◌, ◌≤◌, List, map, length, take, Some, None, Option, sym, ap, ◌∙◌, subst, inl, inr, arith, MatchOption}
use Rattle.std.proofs.lemmas.List.{length-map, take_all, get_or_past}
use Rattle.std.proofs.lemmas.Bool.{cases_lt}
use Rattle.std.specs.List.{AllByRecursion}
use Rattle.fields.specs.Field.{plus}
use Rattle.fields.specs.Field as field
use Rattle.fields.specs.Meaning.{Meaning, Laws}
use Rattle.fields.specs.Elements.{Elem, elem, elems, codes, ops}
use Rattle.fields.specs.Inverses
use Rattle.fields.proofs.Carrier
use Rattle.skew.specs.declared.points.Point.{Point}
use Rattle.skew.specs.declared.points.Site.{Site as ProgramSite}
use Rattle.skew.specs.declared.pairing.TwoPairs.{TwoPairs}
use Rattle.skew.specs.Roots.{Vanishes}
use Rattle.skew.specs.Roots as roots
use Rattle.skew.specs.Products.{coef, Degree}
use Rattle.skew.specs.Polynomials.{coefficients, Multiplied}
use Rattle.skew.specs.Annihilators.{places, Annihilated}
use Rattle.skew.specs.Pairs.{spots, two, Carried, Held}
use Rattle.skew.specs.Quotients.{Quotient, Divided, Undivided}
use Rattle.skew.proofs.Coefficients
use Rattle.skew.proofs.Multiplication
use Rattle.ranks.specs.Ranks.{total, cut}
use Rattle.skew.proofs.Filling.{short}
use Rattle.codes.specs.declared.shape.Code.{Code}
use Rattle.codes.specs.Holdings.{held, stops}
use Rattle.codes.specs.Codes.{LawfulCode, word_of}
use Rattle.hints.specs.Splittings.{Given, Splitting, row_count, column_count}
use Rattle.hints.specs.declared.holder.Hints.{Hints}
use Rattle.hints.specs.Holdings.{Holds}
use Rattle.hints.proofs.Likeness
use Rattle.hints.proofs.CodePlaces.{places_in}
use Rattle.recovery.specs.Candidates.{Candidate}
use Rattle.recovery.specs.Steps.{all_hint_points, all_spots}
use Rattle.recovery.proofs.Sites.{Site, givens, differences, left_code, all_points, Annihilates}
use Rattle.recovery.proofs.Clearing
use Rattle.recovery.proofs.Degrees
use Rattle.recovery.proofs.Finding
use Rattle.recovery.proofs.Siting.{sited, all_shown, all_marks}
use Rattle.recovery.proofs.Matching
use Rattle.recovery.proofs.ShownSites
use Rattle.recovery.proofs.ShownSites.{Shows}

-- What is said of an answer follows from what else is said of it.
pub cases_so : {A : Type 0} (r : Option A) {P P' : Type 0} {Q Q' : A → Type 0} → (P → P') → ((a : A) → Q a → Q' a) → MatchOption r P Q → MatchOption r P' Q'
cases_so None f g h = f h
cases_so (Some a) f g h = g a h

module _ {m : Meaning} (l : Laws m) where
  -- The laws of the elements.
  abbrev laws : field.Laws (ops m)
  laws = Carrier.ops_laws l

  module _ (c : Code) (h : Hints) (gs : List (Given (Elem m))) (w : List ℕ) (law : LawfulCode m c) (holds : Holds m (held c.lengths) c.dimension h gs) (size : length w ≡ length (stops c.course)) where
    -- The lengths of the blocks.
    abbrev ns : List ℕ
    ns = held c.lengths

    -- The blocks with symbols and with the hints that are shown.
    abbrev sites : List (Site (Elem m))
    sites = sited law.blocks (cut ns (elems m w)) (all_shown m ns h.blocks)

    -- What holds of them.
    shown_there : Shows m ns h.blocks gs sites
    shown_there = ShownSites.shows l c h gs w law holds size

    module _ (ps : List Point) (s : List ℕ) (points-are : places m ps ≡ take 24 (all_hint_points m ns h.blocks (stops c.course))) (kills : Annihilated m ps s) where
      -- No hint is cut off.
      hints_few : length (all_hint_points m ns h.blocks (stops c.course)) ≡ row_count gs
      hints_few = Matching.length_hint_points l ns h.blocks (stops c.course) ∙ sym (ap row_count shown_there.givens_are) ∙ shown_there.row_counts

      -- With the dimension the hints are at most 24.
      few : row_count gs + column_count gs + c.dimension ≤ 24
      few = omega (arith, holds.budget, places_in c, short c.course)

      -- So all points are there.
      points_all : places m ps ≡ all_hint_points m ns h.blocks (stops c.course)
      points_all = points-are ∙ take_all 24 _ (omega (arith, hints_few, few))

      -- The polynomial has no more coefficients than one and the row hints.
      length_killer : length (elems m s) ≤ suc (row_count gs)
      length_killer = omega (arith, kills.annihilator.degree, ap length points_all, hints_few)

      -- The polynomial takes the row hints to zero.
      pub annihilates : Annihilates (ops m) (elems m s) sites
      annihilates = (
        (λ i k. get_or_past (elems m s) i (ops m).zero (omega (arith, length_killer, shown_there.row_counts))),
        (λ z. Inverses.one_zero laws (sym kills.annihilator.monic.2 ∙ Coefficients.coef_of laws (elems m s) z kills.annihilator.monic.0)),
        Matching.zeros_are l (elems m s) law.blocks ns h.blocks gs (stops c.course) (elems m w) law.sizes (sym law.grouped) shown_there.room holds.size shown_there.all
            (subst (AllByRecursion (Vanishes (ops m) (elems m s))) points_all kills.annihilator.vanishes),
      )

      module _ (qs : List ProgramSite) (spots_are : spots m qs ≡ take 24 (all_spots m ns h.blocks (elems m s) (stops c.course) w)) (t : TwoPairs) (carried : Held m (c.dimension + h.rows) (spots m qs) t) where
        -- No place is cut off.
        points_same : all_points (ops m) (elems m s) (all_marks ns h.blocks) sites ≡ all_spots m ns h.blocks (elems m s) (stops c.course) w
        points_same = Matching.spots_are l (elems m s) law.blocks ns h.blocks gs (stops c.course) w law.sizes (sym law.grouped) (omega (arith, size, places_in c)) shown_there.room holds.size shown_there.all

        -- As many places are left as the column hints leave.
        left_places : roots.locator_count (left_code (ops m) (all_marks ns h.blocks) sites) + column_count gs ≡ total ns
        left_places = ap (λ j. roots.locator_count (left_code (ops m) (all_marks ns h.blocks) sites) + j) (sym shown_there.column_counts) ∙ (Clearing.left_lawful laws (all_marks ns h.blocks) sites shown_there.lawful shown_there.reduced).1 ∙ shown_there.places_are

        -- There are no more spots than places.
        spots_few : length (all_spots m ns h.blocks (elems m s) (stops c.course) w) + column_count gs ≤ total ns
        spots_few = omega (arith, Finding.length_points laws (elems m s) (all_marks ns h.blocks) sites, ap length points_same, left_places)

        -- So all spots are there.
        spots_all : spots m qs ≡ all_points (ops m) (elems m s) (all_marks ns h.blocks) sites
        spots_all = spots_are ∙ take_all 24 _ (omega (arith, spots_few, places_in c, few, holds.budget, short c.course)) ∙ sym points_same

        -- The pairs at the places that are left.
        pairs_there : Carried (ops m) (c.dimension + row_count (givens sites)) (all_points (ops m) (elems m s) (all_marks ns h.blocks) sites) (two m t.first) (two m t.second) t.a t.b
        pairs_there =
            subst (λ us. Carried (ops m) (c.dimension + row_count (givens sites)) us (two m t.first) (two m t.second) t.a t.b) spots_all
            (subst (λ j. Carried (ops m) (c.dimension + j) (spots m qs) (two m t.first) (two m t.second) t.a t.b) (holds.rows ∙ sym shown_there.row_counts) carried.carried)

        -- They are as few.
        length_spots : length (spots m qs) + column_count gs ≤ total ns
        length_spots = omega (arith, ap length (spots_all ∙ points_same), spots_few)

        -- There is room for the product.
        pub product_fits : length (coefficients t.second.q1) + length s ≤ 49
        product_fits = omega (arith, carried.second.q1, length_spots, length_killer, length-map s (elem m), holds.budget, few, places_in c, short c.course)

        module _ (p : List ℕ) (product : Multiplied m (coefficients t.second.q1) s p) where
          -- The degree of the product.
          degree_low : (d : ℕ) → Degree (ops m) (elems m p) d → d ≤ t.b + row_count gs
          degree_low d top =
              elim (cases_lt (t.b + row_count gs) d) [
                | inl k ↦ absurd (top.0 (product_below d (omega (arith, k, shown_there.row_counts))))
                | inr k ↦ k
              ]
            where
              product_below : (i : ℕ) → t.b + suc (row_count (givens sites)) ≤ i → coef (ops m) (elems m p) i ≡ (ops m).zero
              product_below i k =
                  product.product.coefficients i ∙ sym (Multiplication.coef_product laws (elems m (coefficients t.second.q1)) (elems m s) i)
                  ∙ Degrees.below_times laws t.b (suc (row_count (givens sites))) (elems m (coefficients t.second.q1)) (elems m s) carried.carried.B1.1 annihilates.0 i k

          -- The division cannot fail.
          pub divides : ¬ Undivided m p c.dimension
          divides (inl z) = Finding.nonzero_product laws sites pairs_there annihilates product.product z
          divides (inr o) = omega (arith, o.2, degree_low o.0 o.1, carried.carried.few, length_spots, holds.budget, few, places_in c, short c.course)

          -- What it gives is the candidate.
          pub candidate : (n q : List ℕ) → n ≡ codes (map (ops m).neg (elems m (coefficients t.second.q0))) → Divided m n p c.dimension q → Candidate m c gs (elems m w) q
          candidate n q en divided = record {
            proper = divided.proper;
            size = sym (length-map q (elem m)) ∙ divided.quotient.size;
            only = λ v reach.
                let f : List (Elem m) = reach.codeword.0 in
                let e : word_of m c f ≡ v = reach.codeword.2 in
                let same : f ≡ elems m q =
                Finding.finds laws c.dimension (all_marks ns h.blocks) sites (elems m s) (elems m p) (elems m q) (two m t.first) (two m t.second) t.a t.b divided.d
                shown_there.lawful shown_there.reduced annihilates pairs_there product.product
                (subst (λ u. Quotient (ops m) u (elems m p) divided.d c.dimension (elems m q)) (ap (elems m) en ∙ Carrier.elems_codes (map (ops m).neg (elems m (coefficients t.second.q0)))) divided.quotient)
                f reach.codeword.1 reach.parts reach.errors
                (subst (λ us. Splitting (ops m) us (differences (ops m) f sites) reach.parts) (sym shown_there.givens_are)
                (subst (λ es. Splitting (ops m) (all_shown m ns h.blocks) es reach.parts) (sym (ShownSites.differences_are l c h gs w law holds size f v e))
                (Likeness.splitting_like laws ns gs (all_shown m ns h.blocks) (cut ns (plus (ops m) (elems m w) (map (ops m).neg v))) reach.parts (Likeness.everywhere_sym laws ns (all_shown m ns h.blocks) gs shown_there.like) (ShownSites.lengths_are l c h gs w law holds size f v e) reach.splitting)))
                reach.weight (omega (arith, reach.budget, shown_there.row_counts, shown_there.column_counts, shown_there.places_are, places_in c)) in
                sym e ∙ ap (word_of m c) same;
          }
