-- Of all codewords only one is in reach of a word under its hints: the difference of two is spanned, block by block, by what spans both full
-- parts, by the row hints, and by an element for each column hint, so the minimum distance tells that they are the same.
--
--   sites           the blocks of the code, with the symbols of the word and with the hints
--   one_in_reach    two codewords in reach are one
use Rattle.std.proofs.Common.{◌≡◌, ℕ, ◌+◌ as ◌+ℕ◌, ◌<◌, ◌≤◌, List, map, length, get_or, sym, ap, ◌∙◌, subst, arith}
use Rattle.std.proofs.lemmas.List.{length-map}
use Rattle.std.specs.List.{AllByRecursion}
use Rattle.fields.specs.Field.{Laws, Zero, plus, scale}
use Rattle.fields.specs.Meaning.{Meaning}
use Rattle.fields.specs.Meaning as kinds
use Rattle.fields.specs.Elements.{Elem, elem, ops}
use Rattle.fields.proofs.Carrier
use Rattle.fields.specs.Rows
use Rattle.skew.specs.Values.{eval}
use Rattle.skew.specs.Roots.{locator_count, Lawful}
use Rattle.skew.proofs.Sharpness
use Rattle.ranks.specs.Ranks.{total, cut}
use Rattle.ranks.specs.Reduction.{Row}
use Rattle.ranks.proofs.Separating
use Rattle.ranks.proofs.Separating.{together}
use Rattle.codes.specs.declared.shape.Code.{Code}
use Rattle.codes.specs.Holdings.{held, stops}
use Rattle.codes.specs.Codes.{LawfulCode, block_size, word_of}
use Rattle.hints.specs.Splittings.{Given, Splitting, row_count, column_count}
use Rattle.hints.specs.Holdings.{no_hints}
use Rattle.hints.proofs.CodePlaces.{places_in}
use Rattle.recovery.specs.Reach.{apart, InReach}
use Rattle.recovery.proofs.Sites.{Site, code, givens, differences}
use Rattle.recovery.proofs.Siting
use Rattle.recovery.proofs.Siting.{sited}
use Rattle.recovery.proofs.Remainders.{less}
use Rattle.recovery.proofs.ShownSites.{word_eval}
use Rattle.recovery.proofs.NearCodewords
use Rattle.recovery.proofs.NearCodewords.{Fits}

module _ {m : Meaning} (l : kinds.Laws m) (c : Code) (gs : List (Given (Elem m))) (w : List (Elem m)) (law : LawfulCode m c) (size : length w ≡ length (stops c.course))
    (many : length gs ≡ length (held c.lengths)) (fit : (i : ℕ) → i < length (held c.lengths) → AllByRecursion (Row (ops m) (get_or (held c.lengths) i 0)) (get_or gs i (no_hints m)).columns) where
  -- The laws of the elements.
  abbrev laws : Laws (ops m)
  laws = Carrier.ops_laws l

  -- The lengths of the blocks.
  abbrev ns : List ℕ
  ns = held c.lengths

  -- The blocks of the code, with the symbols of the word and with the hints.
  abbrev sites : List (Site (Elem m))
  sites = sited law.blocks (cut ns w) gs

  -- There are as many blocks as lengths.
  blocks_many : length law.blocks ≡ length (held c.lengths)
  blocks_many = sym (length-map law.blocks block_size) ∙ ap length law.sizes

  -- The word has a symbol for each place.
  long : total ns ≤ length w
  long = omega (arith, size, places_in c)

  -- It is cut into as many blocks.
  cuts : length (cut ns w) ≡ length law.blocks
  cuts = Siting.length_cut ns w ∙ sym blocks_many

  -- Its symbols and the hints fit the blocks.
  fits : AllByRecursion (Fits (ops m)) sites
  fits =
      subst (λ js. AllByRecursion (Fits (ops m)) (sited law.blocks (cut js w) gs)) law.sizes
      (NearCodewords.all_fit laws law.blocks w gs (no_hints m) (subst (λ js. total js ≤ length w) (sym law.sizes) long) (many ∙ sym blocks_many)
      (λ i k. subst (λ js. AllByRecursion (Row (ops m) (get_or js i 0)) (get_or gs i (no_hints m)).columns) (sym law.sizes) (fit i (omega (arith, k, blocks_many)))))

  -- The blocks are those of the code.
  code_is : code sites ≡ law.blocks
  code_is = Siting.code_sited law.blocks (cut ns w) gs cuts (many ∙ sym blocks_many)

  -- The hints are those that are given.
  givens_are : givens sites ≡ gs
  givens_are = Siting.givens_sited law.blocks (cut ns w) gs cuts (many ∙ sym blocks_many)

  -- There are as many places as points.
  places_are : locator_count (code sites) ≡ length (stops c.course)
  places_are =
      ap locator_count code_is ∙ sym (Sharpness.length_points laws law.blocks) ∙ ap length law.grouped
      ∙ length-map {B = Elem m × Elem m} (stops c.course) (λ p. (elem m p.parameter, elem m p.locator))

  -- A splitting, by the sites.
  splits_there : (u : List (Elem m)) (r : InReach m c gs w u) → Splitting (ops m) (givens sites) (differences (ops m) r.codeword.0 sites) r.parts
  splits_there u r =
      subst (λ hs. Splitting (ops m) hs (differences (ops m) r.codeword.0 sites) r.parts) (sym givens_are)
      (subst (λ es. Splitting (ops m) gs es r.parts) (sym differences_are) r.splitting)
    where
      differences_are : differences (ops m) r.codeword.0 sites ≡ apart m c w u
      differences_are =
          Siting.differences_sited (ops m) r.codeword.0 law.blocks ns w gs law.sizes long (many ∙ sym blocks_many)
          ∙ ap (λ v. cut ns (plus (ops m) w (map (ops m).neg v)))
          (ap (map (λ (t : Elem m × Elem m). eval (ops m) t.0 r.codeword.0 t.1)) law.grouped ∙ sym (word_eval l c r.codeword.0) ∙ r.codeword.2)

  -- The messages are the same, so the codewords are.
  pub one_in_reach : (u v : List (Elem m)) → InReach m c gs w u → InReach m c gs w v → u ≡ v
  one_in_reach u v U V = sym U.codeword.2 ∙ ap (word_of m c) (NearCodewords.same laws f g (U.codeword.1 ∙ sym V.codeword.1) null) ∙ V.codeword.2
    where
      f : List (Elem m)
      f = U.codeword.0

      g : List (Elem m)
      g = V.codeword.0

      spans : (ess : List (List (Elem m))) × (together ess ≡ U.errors +ℕ V.errors +ℕ (row_count (givens sites) +ℕ column_count (givens sites)))
          × Separating.Within laws (less laws U.codeword.0 V.codeword.0) (code sites) ess
      spans = NearCodewords.near laws sites f g U.parts V.parts U.errors V.errors fits (splits_there u U) (splits_there v V) U.weight V.weight

      null : AllByRecursion (Zero (ops m)) (less laws U.codeword.0 V.codeword.0)
      null =
          Separating.far_apart laws (code sites) spans.0 (less laws f g) (subst (Lawful (ops m)) (sym code_is) law.lawful) spans.2
          (omega (
            arith,
            Rows.length_plus laws (scale (ops m) (ops m).one f) (scale (ops m) ((ops m).neg (ops m).one) g),
            length-map f ((ops m).mul (ops m).one),
            length-map g ((ops m).mul ((ops m).neg (ops m).one)),
            spans.1,
            ap row_count givens_are,
            ap column_count givens_are,
            places_are,
          ))
