-- What was prepared for a code leads to the only message whose codeword can be in reach without hints.
--
--   pairs_all        both pairs are carried through all points
--   candidate        what the division gives, taken from the rebuilt polynomial, is the candidate
use Rattle.std.proofs.Common.{◌≡◌, ℕ, ◌+◌, List, [], ◌∷◌, map, length, take, drop, replicate, sym, refl, ap, ◌∙◌, subst, ap₂, arith}
use Rattle.std.proofs.lemmas.List.{length-map, length-replicate, get_or_past, length-take-le, take-map}
use Rattle.std.specs.List.{AllByRecursion}
use Rattle.fields.specs.Field.{Ops, plus, scale}
use Rattle.fields.specs.Field as field
use Rattle.fields.specs.Meaning.{Meaning, Laws, clip}
use Rattle.fields.specs.Elements.{Elem, elem, elems, codes, ops}
use Rattle.fields.specs.Basics
use Rattle.fields.proofs.Carrier
use Rattle.skew.specs.declared.points.Site.{Site as ProgramSite}
use Rattle.skew.specs.declared.pairing.TwoPairs.{TwoPairs}
use Rattle.skew.specs.Values.{eval}
use Rattle.skew.specs.Roots as roots
use Rattle.skew.specs.Products.{coef, coefficient}
use Rattle.skew.specs.Polynomials.{coefficients, combined, Multiplied}
use Rattle.skew.specs.Annihilators.{place}
use Rattle.skew.specs.Pairs.{Spot, spots, Two, two, Carried, Held}
use Rattle.skew.specs.Quotients.{Quotient, Divided}
use Rattle.skew.proofs.Evaluation
use Rattle.skew.proofs.Multiplication
use Rattle.skew.proofs.Multiplication.{times}
use Rattle.skew.proofs.Sharpness
use Rattle.skew.proofs.Sums.{cons_path}
use Rattle.ranks.specs.Ranks.{cut}
use Rattle.codes.specs.declared.shape.Code.{Code}
use Rattle.codes.specs.Holdings.{held, stops}
use Rattle.codes.specs.Codes.{pts, LawfulCode, word_of, block_size}
use Rattle.hints.specs.Splittings.{Splitting}
use Rattle.hints.specs.Holdings.{no_hints}
use Rattle.hints.proofs.CodePlaces.{places_in}
use Rattle.recovery.specs.declared.prepared.Prepared.{Prepared}
use Rattle.recovery.specs.Candidates.{Candidate}
use Rattle.recovery.specs.Preparation.{word_spots, turned, Rebuilt, Prepares}
use Rattle.recovery.proofs.Sites.{differences}
use Rattle.recovery.proofs.Siting
use Rattle.recovery.proofs.BareBlocks
use Rattle.recovery.proofs.Hintless
use Rattle.recovery.proofs.BareBlocks.{none, bare}
use Rattle.recovery.proofs.Reencoding
use Rattle.recovery.proofs.Reencoding.{Met, joined, rest}
use Rattle.recovery.proofs.Remainders.{less, coef_less, quotient_less}
use Rattle.recovery.proofs.Turning
use Rattle.recovery.proofs.RebuiltWords

-- The opposite of the opposite.
twice_opposite : {F : Type 0} {o : Ops F} (l : field.Laws o) (f : List F) → map o.neg (map o.neg f) ≡ f
twice_opposite l [] = refl
twice_opposite l (x ∷ f) = cons_path (Basics.neg_neg l x) (twice_opposite l f)

module _ {m : Meaning} (l : Laws m) where
  -- The laws of the elements.
  abbrev laws : field.Laws (ops m)
  laws = Carrier.ops_laws l

  module _ (c : Code) (p : Prepared) (w : List ℕ) (law : LawfulCode m c) (prepares : Prepares m c p) (size : length w ≡ length (stops c.course)) where
    -- The polynomial of degree k.
    abbrev top : List (Elem m)
    top = elems m (coefficients p.top)

    -- All points with their symbols.
    abbrev all : List (Spot (Elem m))
    all = word_spots (pts m c) (elems m w)

    module _ (near : List ℕ) (reads : Rebuilt m (take c.dimension (stops c.course)) (take c.dimension w) near) (qs : List ProgramSite)
        (sites-are : spots m qs ≡ map (turned (ops m) (elems m (coefficients p.top)) (elems m near)) (drop c.dimension (word_spots (pts m c) (elems m w)))) (t : TwoPairs) (carried : Held m 0 (spots m qs) t) where
      module _ (left : List ℕ) (is-left : Multiplied m (coefficients t.second.q0) (coefficients p.top) left) where
        -- The second polynomial of the second pair, times the one that is rebuilt.
        abbrev right : List (Elem m)
        right = times (ops m) (elems m (coefficients t.second.q1)) (elems m near)

        -- The second pair for all points.
        abbrev second : Two (Elem m)
        second = joined (ops m) (elems m left) right (elems m (coefficients t.second.q1))

        -- The first pair for all points.
        abbrev first : Two (Elem m)
        first = joined (ops m) (times (ops m) (two m t.first).q0 top) (times (ops m) (two m t.first).q1 (elems m near)) (two m t.first).q1

        -- The first k points with their symbols.
        abbrev begin : List (Spot (Elem m))
        begin = word_spots (take c.dimension (pts m c)) (take c.dimension (elems m w))

        -- There are k of them.
        length_begin : length begin ≡ c.dimension
        length_begin =
            Turning.length_spots (take c.dimension (pts m c)) (take c.dimension (elems m w))
            (length-take-le c.dimension (elems m w) (omega (arith, length-map w (elem m), size, law.most)) ∙ sym long) ∙ long
          where
            long : length (take c.dimension (pts m c)) ≡ c.dimension
            long = length-take-le c.dimension (pts m c) (omega (arith, RebuiltWords.length_pts l c p w law prepares size, law.most))

        -- Both pairs are carried through all points.
        pairs_all : Carried (ops m) c.dimension all first second (t.a + c.dimension) t.b
        pairs_all =
            subst (λ ss. Carried (ops m) c.dimension ss first second (t.a + c.dimension) t.b) (sym (Turning.spots_parts c.dimension (pts m c) (elems m w)))
            (Reencoding.reencoded laws c.dimension begin (drop c.dimension all) top (elems m near) (two m t.first) (two m t.second) t.a t.b
            (times (ops m) (two m t.first).q0 top) (times (ops m) (two m t.first).q1 (elems m near)) (elems m left) right length_begin
            (subst (AllByRecursion (Met (ops m) top (elems m near)))
            (ap₂ word_spots (sym (take-map (place m) c.dimension (stops c.course))) (sym (take-map (elem m) c.dimension w)))
            (Turning.all_met m top (elems m near) (take c.dimension (stops c.course)) (take c.dimension w) prepares.vanishes reads.has))
            prepares.degree (λ i h. get_or_past (elems m near) i (ops m).zero (omega (arith, h, length-map near (elem m), RebuiltWords.length_near l c p w law prepares size near reads qs sites-are t carried)))
            (subst (λ ss. Carried (ops m) 0 ss (two m t.first) (two m t.second) t.a t.b) sites-are carried.carried)
            (Multiplication.is_product laws (two m t.first).q0 top) (Multiplication.is_product laws (two m t.first).q1 (elems m near)) is-left.product (Multiplication.is_product laws (elems m (coefficients t.second.q1)) (elems m near)))

        -- The word's difference from the codeword of f, block by block.
        differences_are : (f v : List (Elem m)) → word_of m c f ≡ v
            → differences (ops m) f (bare law.blocks (held c.lengths) (elems m w)) ≡ cut (held c.lengths) (plus (ops m) (elems m w) (map (ops m).neg v))
        differences_are f v e =
            Siting.differences_sited (ops m) f law.blocks (held c.lengths) (elems m w) (replicate (length (held c.lengths)) none) law.sizes (omega (arith, length-map w (elem m), size, places_in c))
            (length-replicate (length (held c.lengths)) none ∙ ap length (sym law.sizes) ∙ length-map law.blocks block_size)
            ∙ ap (λ u. cut (held c.lengths) (plus (ops m) (elems m w) (map (ops m).neg u)))
            (ap (map (λ (t : Elem m × Elem m). eval (ops m) t.0 f t.1)) law.grouped
            ∙ ap (λ n. map (λ (t : Elem m × Elem m). n t.0 f t.1) (pts m c)) (Evaluation.both_values laws) ∙ e)

        -- The rebuilt polynomial, less what the division gives, is the candidate.
        pub candidate : (g q : List ℕ) {minus : ℕ} → minus ≡ m.opposite (clip m 1) → Divided m left (coefficients t.second.q1) c.dimension g → q ≡ codes (combined m 1 near minus g)
            → Candidate m c (replicate (length (held c.lengths)) (no_hints m)) (elems m w) q
        candidate g q {minus} em divided eq = record {
          proper = ap codes elems_are ∙ sym codes_are;
          size = sym (length-map q (elem m)) ∙ quotient.size;
          only = λ v reach.
              let f : List (Elem m) = reach.codeword.0 in
              let e : word_of m c f ≡ v = reach.codeword.2 in
              let none-given = BareBlocks.nothing_given (Elem m) (length (held c.lengths)) in
              let same : f ≡ elems m q =
              Hintless.finds_bare laws c.dimension law.blocks (held c.lengths) (elems m w) first second (t.a + c.dimension) t.b divided.d (elems m q)
              law.sizes (length-map w (elem m) ∙ size ∙ places_in c) law.lawful
              (subst (λ ts. Carried (ops m) c.dimension (word_spots ts (elems m w)) first second (t.a + c.dimension) t.b) (sym law.grouped) pairs_all)
              quotient f reach.codeword.1 reach.parts reach.errors
              (subst (λ es. Splitting (ops m) (replicate (length (held c.lengths)) none) es reach.parts) (sym (differences_are f v e)) reach.splitting)
              reach.weight (omega (arith, reach.budget, none-given.0, none-given.1, blocks_places)) in
              sym e ∙ ap (word_of m c) same;
        }
          where
            minus_is : elem m minus ≡ (ops m).neg (ops m).one
            minus_is = Carrier.negates m 1 em ∙ ap (ops m).neg (Carrier.one_is m)

            combined_is : combined m 1 near minus g ≡ less laws (elems m near) (elems m g)
            combined_is = ap₂ (λ x y. plus (ops m) (scale (ops m) x (elems m near)) (scale (ops m) y (elems m g))) (Carrier.one_is m) minus_is

            codes_are : q ≡ codes (less laws (elems m near) (elems m g))
            codes_are = eq ∙ ap codes combined_is

            elems_are : elems m q ≡ less laws (elems m near) (elems m g)
            elems_are = ap (elems m) codes_are ∙ Carrier.elems_codes (less laws (elems m near) (elems m g))

            dividend : (i : ℕ) → coef (ops m) (map (ops m).neg (rest (ops m) (elems m left) right)) i
                ≡ (ops m).add (coefficient (ops m) (elems m (coefficients t.second.q1)) (elems m near) i) ((ops m).neg (coef (ops m) (elems m left) i))
            dividend i =
                ap (λ u. coef (ops m) u i) (twice_opposite laws (less laws right (elems m left))) ∙ coef_less laws right (elems m left) i
                ∙ ap (λ x. (ops m).add x ((ops m).neg (coef (ops m) (elems m left) i))) (Multiplication.coef_product laws (elems m (coefficients t.second.q1)) (elems m near) i)

            quotient : Quotient (ops m) (map (ops m).neg (rest (ops m) (elems m left) right)) (elems m (coefficients t.second.q1)) divided.d c.dimension (elems m q)
            quotient =
                subst (Quotient (ops m) (map (ops m).neg (rest (ops m) (elems m left) right)) (elems m (coefficients t.second.q1)) divided.d c.dimension) (sym elems_are)
                (quotient_less laws c.dimension divided.d (elems m left) (elems m (coefficients t.second.q1)) (elems m near) (elems m g) (map (ops m).neg (rest (ops m) (elems m left) right))
                (omega (arith, RebuiltWords.length_near l c p w law prepares size near reads qs sites-are t carried, length-map near (elem m))) divided.quotient dividend)

            blocks_places : roots.locator_count law.blocks ≡ length (stops c.course)
            blocks_places = sym (Sharpness.length_points laws law.blocks) ∙ ap length law.grouped ∙ RebuiltWords.length_pts l c p w law prepares size
