-- What was prepared for a code is enough for a word without hints: its first symbols can be read, there is room, and the division cannot fail.
--
--   top              the polynomial of degree k that was prepared
--   all              the points of the code with the symbols of the word
--   reads_first      the polynomial that is rebuilt has the symbols at the first k points
--   left_fits        there is room for the product
--   divides          the division cannot fail
use Rattle.std.proofs.Common.{◌≡◌, ℕ, ◌+◌, ◌-◌, ◌≤◌, List, map, length, take, drop, sym, ap, ◌∙◌, subst, inl, inr, arith}
use Rattle.std.proofs.lemmas.List.{length-map, length-drop, length-take-le}
use Rattle.std.proofs.lemmas.Bool.{cases_lt}
use Rattle.fields.specs.Field as field
use Rattle.fields.specs.Meaning.{Meaning, Laws}
use Rattle.fields.specs.Elements.{Elem, elem, elems, ops}
use Rattle.fields.proofs.Carrier
use Rattle.skew.specs.declared.points.Point.{Point}
use Rattle.skew.specs.declared.points.Site.{Site as ProgramSite}
use Rattle.skew.specs.declared.pairing.TwoPairs.{TwoPairs}
use Rattle.skew.specs.Polynomials.{coefficients}
use Rattle.skew.specs.Annihilators.{place}
use Rattle.skew.specs.Pairs.{Spot, spots, Held}
use Rattle.skew.specs.Quotients.{Undivided}
use Rattle.skew.proofs.Coefficients
use Rattle.skew.proofs.Filling.{short}
use Rattle.codes.specs.declared.shape.Code.{Code}
use Rattle.codes.specs.Holdings.{stops}
use Rattle.codes.specs.Codes.{pts, LawfulCode}
use Rattle.recovery.specs.declared.prepared.Prepared.{Prepared}
use Rattle.recovery.specs.Preparation.{word_spots, turned, Units, Rebuilt, Prepares}
use Rattle.recovery.proofs.Turning
use Rattle.recovery.proofs.Units.{length_first}

module _ {m : Meaning} (l : Laws m) where
  -- The laws of the elements.
  abbrev laws : field.Laws (ops m)
  laws = Carrier.ops_laws l

  module _ (c : Code) (p : Prepared) (w : List ℕ) (law : LawfulCode m c) (prepares : Prepares m c p) (size : length w ≡ length (stops c.course)) where
    -- The polynomial of degree k.
    abbrev top : List (Elem m)
    top = elems m (coefficients p.top)

    -- All points with their symbols.
    abbrev all : List (Spot (Elem m))
    all = word_spots (pts m c) (elems m w)

    -- There are n points.
    pub length_pts : length (pts m c) ≡ length (stops c.course)
    length_pts = length-map {B = Elem m × Elem m} (stops c.course) (place m)

    -- There are n of them.
    length_all : length all ≡ length (stops c.course)
    length_all = Turning.length_spots (pts m c) (elems m w) (length-map w (elem m) ∙ size ∙ sym length_pts) ∙ length_pts

    -- n is at most 24.
    few : length (stops c.course) ≤ 24
    few = short c.course

    -- The symbols at the first k points, as the program cuts them out.
    pub reads_first : (near : List ℕ) → ((ps : List Point) → length (take (c.dimension - 0) w) ≡ length ps → Units m ps (map coefficients p.units) → Rebuilt m ps (take (c.dimension - 0) w) near)
        → Rebuilt m (take c.dimension (stops c.course)) (take c.dimension w) near
    reads_first near reads =
        let all_of : c.dimension - 0 ≡ c.dimension = omega arith in
        subst (λ n. Rebuilt m (take c.dimension (stops c.course)) (take n w) near) all_of
        (reads (take c.dimension (stops c.course))
        (ap (λ n. length (take n w)) all_of ∙ length-take-le c.dimension w (omega (arith, size, law.most)) ∙ sym (length_first l c law)) prepares.units)

    module _ (near : List ℕ) (reads : Rebuilt m (take c.dimension (stops c.course)) (take c.dimension w) near) (qs : List ProgramSite)
        (sites-are : spots m qs ≡ map (turned (ops m) (elems m (coefficients p.top)) (elems m near)) (drop c.dimension (word_spots (pts m c) (elems m w)))) (t : TwoPairs) (carried : Held m 0 (spots m qs) t) where
      -- The rebuilt polynomial has at most k coefficients.
      pub length_near : length near ≤ c.dimension
      length_near = omega (arith, reads.size, length_first l c law)

      -- There are n - k other points.
      length_others : length (spots m qs) + c.dimension ≡ length (stops c.course)
      length_others =
          omega (
            arith,
            ap length sites-are,
            length-map (drop c.dimension (word_spots (pts m c) (elems m w))) (turned (ops m) (elems m (coefficients p.top)) (elems m near)),
            length-drop c.dimension (word_spots (pts m c) (elems m w)),
            length_all,
            law.most,
          )

      -- There is room for the product.
      pub left_fits : length (coefficients t.second.q0) + length (coefficients p.top) ≤ 49
      left_fits = omega (arith, carried.second.q0, length_others, prepares.size, few)

      -- The division cannot fail.
      pub divides : ¬ Undivided m (coefficients t.second.q1) c.dimension
      divides (inl z) = carried.carried.B1.0 (Coefficients.coef_of laws (elems m (coefficients t.second.q1)) z t.b)
      divides (inr far) =
          elim (cases_lt t.b far.0) [
            | inl h ↦ far.1.0 (carried.carried.B1.1 far.0 (omega (arith, h)))
            | inr h ↦ omega (arith, h, far.2, carried.carried.few, length_others, few)
          ]
