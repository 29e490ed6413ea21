-- Hints that span the same have the same codewords in reach.
use Rattle.std.proofs.Common.{◌≡◌, ℕ, ◌+◌, List, [], ◌∷◌, map, length, refl, ap₂, arith}
use Rattle.std.proofs.lemmas.List.{length-map}
use Rattle.fields.specs.Field.{plus}
use Rattle.fields.specs.Field as field
use Rattle.fields.specs.Meaning.{Meaning, Laws}
use Rattle.fields.specs.Elements.{Elem, elems, elem, ops}
use Rattle.fields.proofs.Carrier
use Rattle.fields.specs.Rows
use Rattle.codes.specs.declared.shape.Code.{Code}
use Rattle.codes.specs.Holdings.{held, stops}
use Rattle.hints.specs.Splittings.{Given, Parts, Splitting, row_count, column_count, Everywhere}
use Rattle.hints.proofs.Likeness
use Rattle.hints.proofs.Likeness.{Like}
use Rattle.hints.proofs.CodePlaces.{places_in}
use Rattle.recovery.specs.Reach.{apart, AlikeHints, SpansOnly}
use Rattle.recovery.proofs.ShownSites.{lengths_cut}

module _ {m : Meaning} (l : Laws m) where
  -- The laws of the elements.
  laws : field.Laws (ops m)
  laws = Carrier.ops_laws l

  -- Such hints are alike, and as many.
  likes : (ns : List ℕ) (gs hs : List (Given (Elem m))) → Everywhere (AlikeHints m) ns gs hs → Everywhere (Like (ops m)) ns gs hs × (row_count gs ≡ row_count hs) × (column_count gs ≡ column_count hs)
  likes [] [] [] k = (tt, refl, refl)
  likes [] [] (h ∷ hs) k = absurd k
  likes [] (g ∷ gs) hs k = absurd k
  likes (n ∷ ns) [] hs k = absurd k
  likes (n ∷ ns) (g ∷ gs) [] k = absurd k
  likes (n ∷ ns) (g ∷ gs) (h ∷ hs) k =
      let rest = likes ns gs hs k.1 in
      let counts = Likeness.same_counts laws n g h k.0.first k.0.second k.0.alike in
      ((record { alike = k.0.alike; fit = k.0.first.fit; fit_other = k.0.second.fit }, rest.0), ap₂ ◌+◌ counts.0 rest.1, ap₂ ◌+◌ counts.1 rest.2)

  module _ (c : Code) (w : List ℕ) (size : length w ≡ length (stops c.course)) where
    -- The same splittings.
    same_splits : (gs hs : List (Given (Elem m))) → Everywhere (AlikeHints m) (held c.lengths) gs hs → (v : List (Elem m)) (ps : List (Parts (Elem m)))
        → Splitting (ops m) gs (apart m c (elems m w) v) ps → Splitting (ops m) hs (apart m c (elems m w) v) ps
    same_splits gs hs k v ps s =
        Likeness.splitting_like laws (held c.lengths) gs hs (apart m c (elems m w) v) ps (likes (held c.lengths) gs hs k).0
        (lengths_cut (held c.lengths) (plus (ops m) (elems m w) (map (ops m).neg v))
        (omega (arith, Rows.length_plus laws (elems m w) (map (ops m).neg v), length-map w (elem m), size, places_in c))) s

    -- And so the same codewords in reach.
    pub spans_only : SpansOnly m c (elems m w)
    spans_only = record {
      reach = λ gs hs k v r.
          let counts = likes (held c.lengths) gs hs k in
          record {
            codeword = r.codeword;
            parts = r.parts;
            splitting = same_splits gs hs k v r.parts r.splitting;
            errors = r.errors;
            weight = r.weight;
            budget = omega (arith, r.budget, counts.1, counts.2);
          };
      splits = same_splits;
    }
