-- The blocks of a code with the symbols of a word and with the hints that the program shows: what holds of them.
--
--   sites                 the blocks with symbols and hints
--   Shows m ns bs gs ss   they have as many places as the lengths ns say, and show hints that are like gs, with their column hints reduced
--   differences_are       the word's difference from a codeword, block by block
use Rattle.std.proofs.Common.{◌≡◌, ℕ, ◌≤◌, List, [], ◌∷◌, map, length, drop, sym, refl, ap, ◌∙◌, subst, arith}
use Rattle.std.proofs.lemmas.List.{length-map, length-take-le, length-drop}
use Rattle.fields.specs.Field.{plus}
use Rattle.fields.specs.Field as field
use Rattle.fields.specs.Meaning.{Meaning, Laws}
use Rattle.fields.specs.Elements.{Elem, elem, elems, ops}
use Rattle.fields.proofs.Carrier
use Rattle.fields.specs.Rows
use Rattle.skew.specs.Values.{eval}
use Rattle.skew.specs.Roots.{Lawful}
use Rattle.skew.specs.Roots as roots
use Rattle.skew.proofs.Evaluation
use Rattle.skew.proofs.Sharpness
use Rattle.ranks.specs.Ranks.{total, cut}
use Rattle.codes.specs.declared.shape.Code.{Code}
use Rattle.codes.specs.Holdings.{held, stops}
use Rattle.codes.specs.Codes.{pts, LawfulCode, word_of, block_size}
use Rattle.hints.specs.Splittings.{Given, row_count, column_count, Everywhere}
use Rattle.hints.specs.declared.block.BlockHints.{BlockHints}
use Rattle.hints.specs.declared.holder.Hints.{Hints}
use Rattle.hints.specs.Holdings.{Holds}
use Rattle.hints.proofs.Likeness.{Like}
use Rattle.hints.proofs.CodePlaces.{places_in}
use Rattle.recovery.proofs.Sites.{Site, code, givens, differences, AllReduced}
use Rattle.recovery.proofs.Siting
use Rattle.recovery.proofs.Siting.{sited, all_shown, all_marks}
use Rattle.recovery.proofs.Matching
use Rattle.recovery.proofs.Matching.{HeldAll}

pub record Shows (m : Meaning) (ns : List ℕ) (bs : List BlockHints) (gs : List (Given (Elem m))) (sites : List (Site (Elem m))) : Type 0 where
  pub room : length ns ≤ length bs
  pub all : HeldAll m ns bs gs
  pub givens_are : givens sites ≡ all_shown m ns bs
  pub like : Everywhere (Like (ops m)) ns (all_shown m ns bs) gs
  pub row_counts : row_count (givens sites) ≡ row_count gs
  pub column_counts : column_count (givens sites) ≡ column_count gs
  pub lawful : Lawful (ops m) (code sites)
  pub places_are : roots.locator_count (code sites) ≡ total ns
  pub reduced : AllReduced (ops m) (all_marks ns bs) sites

-- The lengths of the blocks of a word.
pub lengths_cut : {A : Type 0} (ns : List ℕ) (u : List A) → total ns ≤ length u → map length (cut ns u) ≡ ns
lengths_cut [] u h = refl
lengths_cut (n ∷ ns) u h = ap (λ j. j ∷ map length (cut ns (drop n u))) (length-take-le n u (omega arith)) ∙ ap (λ js. n ∷ js) (lengths_cut ns (drop n u) (omega (arith, length-drop n u)))

module _ {m : Meaning} (l : Laws m) where
  -- The laws of the elements.
  abbrev laws : field.Laws (ops m)
  laws = Carrier.ops_laws l

  -- The word of a message by the recursion.
  pub word_eval : (c : Code) (f : List (Elem m)) → word_of m c f ≡ map (λ t. eval (ops m) t.0 f t.1) (pts m c)
  word_eval c f = ap (λ v. map (λ (t : Elem m × Elem m). v t.0 f t.1) (pts m c)) (sym (Evaluation.both_values laws))

  module _ (c : Code) (h : Hints) (gs : List (Given (Elem m))) (w : List ℕ) (law : LawfulCode m c) (holds : Holds m (held c.lengths) c.dimension h gs) (size : length w ≡ length (stops c.course)) where
    -- The lengths of the blocks.
    abbrev ns : List ℕ
    ns = held c.lengths

    -- The blocks with symbols and with the hints that are shown.
    abbrev sites : List (Site (Elem m))
    sites = sited law.blocks (cut ns (elems m w)) (all_shown m ns h.blocks)

    -- There is room for the hints of each block.
    room : length ns ≤ length h.blocks
    room = omega (arith, c.blocks, h.room)

    -- There are as many lengths as blocks.
    many : length ns ≡ length law.blocks
    many = ap length (sym law.sizes) ∙ length-map law.blocks block_size

    -- The word has a symbol for each place.
    long : total ns ≤ length (elems m w)
    long = omega (arith, length-map w (elem m), size, places_in c)

    -- Hints are shown for each block.
    are_shown : length (all_shown m ns h.blocks) ≡ length law.blocks
    are_shown = Siting.length_shown m ns h.blocks room ∙ many

    -- All that holds of them.
    pub shows : Shows m ns h.blocks gs sites
    shows =
        record {
          room = room;
          all = all;
          givens_are = givens_are;
          like = like.0;
          row_counts = ap row_count givens_are ∙ like.1;
          column_counts = ap column_count givens_are ∙ like.2;
          lawful = subst (Lawful (ops m)) (sym code_is) law.lawful;
          places_are = ap roots.locator_count code_is ∙ sym (Sharpness.length_points laws law.blocks) ∙ ap length law.grouped ∙ length-map {B = Elem m × Elem m} (stops c.course) (λ p. (elem m p.parameter, elem m p.locator)) ∙ places_in c;
          reduced = Matching.reduced_are l law.blocks ns h.blocks gs (elems m w) law.sizes long room holds.size all;
        }
      where
        cuts : length (cut ns (elems m w)) ≡ length law.blocks
        cuts = Siting.length_cut ns (elems m w) ∙ many

        code_is : code sites ≡ law.blocks
        code_is = Siting.code_sited law.blocks (cut ns (elems m w)) (all_shown m ns h.blocks) cuts are_shown

        givens_are : givens sites ≡ all_shown m ns h.blocks
        givens_are = Siting.givens_sited law.blocks (cut ns (elems m w)) (all_shown m ns h.blocks) cuts are_shown

        all : HeldAll m ns h.blocks gs
        all i k = ((c.each i k).0, (c.each i k).1, holds.blocks i k)

        like : Everywhere (Like (ops m)) ns (all_shown m ns h.blocks) gs × (row_count (all_shown m ns h.blocks) ≡ row_count gs) × (column_count (all_shown m ns h.blocks) ≡ column_count gs)
        like = Matching.shown_like l ns h.blocks gs room holds.size all

    -- The word's difference from the codeword of f, block by block.
    pub differences_are : (f v : List (Elem m)) → word_of m c f ≡ v → differences (ops m) f sites ≡ cut ns (plus (ops m) (elems m w) (map (ops m).neg v))
    differences_are f v e =
        Siting.differences_sited (ops m) f law.blocks ns (elems m w) (all_shown m ns h.blocks) law.sizes long are_shown
        ∙ ap (λ u. cut ns (plus (ops m) (elems m w) (map (ops m).neg u))) (ap (map (λ (t : Elem m × Elem m). eval (ops m) t.0 f t.1)) law.grouped ∙ sym (word_eval c f) ∙ e)

    -- Blocks of the difference.
    pub lengths_are : (f v : List (Elem m)) → word_of m c f ≡ v → map length (cut ns (plus (ops m) (elems m w) (map (ops m).neg v))) ≡ ns
    lengths_are f v e =
        lengths_cut ns (plus (ops m) (elems m w) (map (ops m).neg v))
        (omega (arith, Rows.length_plus laws (elems m w) (map (ops m).neg v), long))
