-- What the loops collect, as the proofs of recovery have it: blocks with symbols and with the hints that the program's forms show.
--
--   HeldAll m ns bs gs     in each block, of 1 to 8 symbols, the form holds the hints
use Rattle.std.proofs.Common.{◌≡◌, ℕ, suc, ◌+◌, ◌<◌, ◌≤◌, Bool, true, false, List, [], ◌∷◌, ◌++◌, map, length, get_or, take, drop, sym, refl, ap, ◌∙◌, subst, ap₂, arith, length-append}
use Rattle.std.proofs.lemmas.List.{length-map}
use Rattle.std.proofs.lemmas.List.{take-map, drop-map, length-drop, length-take-le}
use Rattle.std.specs.List.{AllByRecursion}
use Rattle.fields.specs.Field as field
use Rattle.fields.specs.Meaning.{Meaning, Laws}
use Rattle.fields.specs.Elements.{Elem, elem, elems, ops}
use Rattle.fields.proofs.Carrier
use Rattle.skew.specs.declared.points.Point.{Point}
use Rattle.skew.specs.Values.{eval}
use Rattle.skew.specs.Roots.{Block, block, points, Vanishes}
use Rattle.skew.specs.Annihilators.{places}
use Rattle.skew.proofs.Values.{eval_value}
use Rattle.skew.proofs.Everywhere.{all_left, all_right}
use Rattle.skew.proofs.Sums.{cons_path}
use Rattle.ranks.specs.Ranks.{total, cut}
use Rattle.ranks.specs.Reduction.{marks_of, rows_of, Reduced}
use Rattle.ranks.specs.RowSteps.{clear}
use Rattle.ranks.proofs.ClearedRow
use Rattle.codes.specs.Codes.{block_size}
use Rattle.hints.specs.Splittings.{Given, Everywhere, row_count, column_count}
use Rattle.hints.specs.declared.block.BlockHints.{BlockHints}
use Rattle.hints.specs.Holdings.{BlockHolds, no_block, no_hints}
use Rattle.hints.specs.Shown.{from_digits}
use Rattle.hints.proofs.Likeness.{Like}
use Rattle.hints.proofs.Reading
use Rattle.recovery.specs.Steps.{locators_of, parameter_of, hint_points, all_hint_points, left_spots, cleared_row, block_spots, all_spots}
use Rattle.recovery.proofs.Sites.{omit, AllReduced, points_at, all_points}
use Rattle.recovery.proofs.Siting
use Rattle.recovery.proofs.Siting.{sited, all_shown, all_marks}

abbrev pub HeldAll : (m : Meaning) → List ℕ → List BlockHints → List (Given (Elem m)) → Type 0
HeldAll m ns bs gs = (i : ℕ) → i < length ns → (1 ≤ get_or ns i 0) × (get_or ns i 0 ≤ 8) × BlockHolds m (get_or ns i 0) (get_or bs i no_block) (get_or gs i (no_hints m))

module _ {m : Meaning} (l : Laws m) where
  -- The laws of the elements.
  laws : field.Laws (ops m)
  laws = Carrier.ops_laws l

  -- Places that are not marked, told in the two ways.
  spots_omit : (a : Elem m) (f : List (Elem m)) (n : ℕ) (marks : List Bool) (us vs : List (Elem m)) → length us ≡ n → length vs ≡ n → n ≤ length marks
      → points_at (ops m) a f (omit (take n marks) us) (omit (take n marks) vs) ≡ left_spots m a f marks us vs
  spots_omit a f ℕ.zero marks [] [] e h k = refl
  spots_omit a f ℕ.zero marks [] (v ∷ vs) e h k = absurd (omega arith)
  spots_omit a f ℕ.zero marks (u ∷ us) vs e h k = absurd (omega arith)
  spots_omit a f (suc n) marks [] vs e h k = absurd (omega arith)
  spots_omit a f (suc n) marks (u ∷ us) [] e h k = absurd (omega arith)
  spots_omit a f (suc n) [] (u ∷ us) (v ∷ vs) e h k = absurd (omega arith)
  spots_omit a f (suc n) (true ∷ marks) (u ∷ us) (v ∷ vs) e h k = spots_omit a f n marks us vs (omega arith) (omega arith) (omega arith)
  spots_omit a f (suc n) (false ∷ marks) (u ∷ us) (v ∷ vs) e h k = cons_path refl (spots_omit a f n marks us vs (omega arith) (omega arith) (omega arith))

  module _ (n : ℕ) (b : BlockHints) (g : Given (Elem m)) (le : n ≤ 8) (held : BlockHolds m n b g) where
    -- What is left of a row of the block has n places.
    length_left : (v : List (Elem m)) → length v ≡ n → length (take n (cleared_row m b.columns v)) ≡ n
    length_left v e = sym (ap length (Reading.narrow_clear l le held v e).0) ∙ ClearedRow.length_clear laws (take n (marks_of b.columns)) (map (take n) (rows_of m b.columns)) v ∙ e

    -- The spots of one block.
    block_spots_are : (f : List (Elem m)) (a : Elem m) (locs : List (Elem m)) (ps : List Point) (ys : List ℕ) → 1 ≤ n → length locs ≡ n → n ≤ length ys
        → parameter_of m ps ≡ a → elems m (locators_of (take n ps)) ≡ locs
        → points_at (ops m) a f (omit (take n (marks_of b.columns)) (clear (ops m) (take n (marks_of b.columns)) (map (take n) (rows_of m b.columns)) locs))
        (omit (take n (marks_of b.columns)) (clear (ops m) (take n (marks_of b.columns)) (map (take n) (rows_of m b.columns)) (take n (elems m ys))))
        ≡ block_spots m b.columns n f ps ys
    block_spots_are f a locs ps ys some el hy ea eb =
        let syms : List (Elem m) = elems m (take n ys) in
        let long : length (elems m (take n ys)) ≡ n = length-map (take n ys) (elem m) ∙ length-take-le n ys hy in
        ap (λ w. points_at (ops m) a f (omit (take n (marks_of b.columns)) w) (omit (take n (marks_of b.columns)) (clear (ops m) (take n (marks_of b.columns)) (map (take n) (rows_of m b.columns)) (take n (elems m ys))))) (Reading.narrow_clear l le held locs el).0
        ∙ ap (λ w. points_at (ops m) a f (omit (take n (marks_of b.columns)) (take n (cleared_row m b.columns locs))) (omit (take n (marks_of b.columns)) w))
        (ap (clear (ops m) (take n (marks_of b.columns)) (map (take n) (rows_of m b.columns))) (take-map (elem m) n ys) ∙ (Reading.narrow_clear l le held syms long).0)
        ∙ spots_omit a f n (marks_of b.columns) (take n (cleared_row m b.columns locs)) (take n (cleared_row m b.columns syms)) (length_left locs el) (length_left syms long) (omega (arith, held.columns.form.reduced.size))
        ∙ ap (λ w. left_spots m w f (marks_of b.columns) (take n (cleared_row m b.columns locs)) (take n (cleared_row m b.columns syms))) (sym ea)
        ∙ ap (λ w. left_spots m (parameter_of m ps) f (marks_of b.columns) (take n (cleared_row m b.columns w)) (take n (cleared_row m b.columns syms))) (sym eb)

  -- The spots of all blocks.
  pub spots_are : (f : List (Elem m)) (blocks : List (Block (Elem m))) (ns : List ℕ) (bs : List BlockHints) (gs : List (Given (Elem m))) (ps : List Point) (ys : List ℕ)
      → map block_size blocks ≡ ns → places m ps ≡ points blocks → total ns ≤ length ys → length ns ≤ length bs → length gs ≡ length ns → HeldAll m ns bs gs
      → all_points (ops m) f (all_marks ns bs) (sited blocks (cut ns (elems m ys)) (all_shown m ns bs)) ≡ all_spots m ns bs f ps ys
  spots_are f [] [] bs gs ps ys e ep hy hb hg held = refl
  spots_are f [] (n ∷ ns) bs gs ps ys e ep hy hb hg held = absurd (omega (arith, ap length e))
  spots_are f (b ∷ blocks) [] bs gs ps ys e ep hy hb hg held = absurd (omega (arith, ap length e))
  spots_are f (block a locs ∷ blocks) (n ∷ ns) [] gs ps ys e ep hy hb hg held = absurd (omega arith)
  spots_are f (block a locs ∷ blocks) (n ∷ ns) (b ∷ bs) [] ps ys e ep hy hb hg held = absurd (omega arith)
  spots_are f (block a locs ∷ blocks) (n ∷ ns) (b ∷ bs) (g ∷ gs) ps ys e ep hy hb hg held =
      let size : length locs ≡ n = ap (λ js. get_or js 0 0) e in
      let mine = held 0 (omega arith) in
      let split = Siting.first_block m a locs blocks ps ep in
      ap₂ (λ u v. u ++ v)
      (block_spots_are n b g mine.1 mine.2 f a locs ps ys mine.0 size (omega arith) (Siting.first_parameter m a locs blocks ps (omega (arith, mine.0)) ep)
      (ap (λ j. elems m (locators_of (take j ps))) (sym size) ∙ split.0))
      (ap (λ w. all_points (ops m) f (all_marks ns bs) (sited blocks (cut ns w) (all_shown m ns bs))) (drop-map (elem m) n ys)
      ∙ spots_are f blocks ns bs gs (drop n ps) (drop n ys) (ap (drop 1) e) (ap (λ j. places m (drop j ps)) (sym size) ∙ split.1) (omega (arith, length-drop n ys)) (omega arith) (omega arith) (λ i k. held (suc i) (omega (arith, k))))

  -- The column hints that are shown are reduced.
  pub reduced_are : (blocks : List (Block (Elem m))) (ns : List ℕ) (bs : List BlockHints) (gs : List (Given (Elem m))) (w : List (Elem m))
      → map block_size blocks ≡ ns → total ns ≤ length w → length ns ≤ length bs → length gs ≡ length ns → HeldAll m ns bs gs
      → AllReduced (ops m) (all_marks ns bs) (sited blocks (cut ns w) (all_shown m ns bs))
  reduced_are [] [] bs gs w e hw hb hg held = tt
  reduced_are [] (n ∷ ns) bs gs w e hw hb hg held = absurd (omega (arith, ap length e))
  reduced_are (b ∷ blocks) [] bs gs w e hw hb hg held = absurd (omega (arith, ap length e))
  reduced_are (block a locs ∷ blocks) (n ∷ ns) [] gs w e hw hb hg held = absurd (omega arith)
  reduced_are (block a locs ∷ blocks) (n ∷ ns) (b ∷ bs) [] w e hw hb hg held = absurd (omega arith)
  reduced_are (block a locs ∷ blocks) (n ∷ ns) (b ∷ bs) (g ∷ gs) w e hw hb hg held =
      let size : length locs ≡ n = ap (λ js. get_or js 0 0) e in
      let mine = held 0 (omega arith) in (
        record {
          form = subst (λ j. Reduced (ops m) j (take n (marks_of b.columns)) (map (take n) (rows_of m b.columns))) (sym size) (Reading.block_leads l mine.1 mine.2).reduced;
          size = length-take-le n w (omega arith) ∙ sym size;
        },
        reduced_are blocks ns bs gs (drop n w) (ap (drop 1) e) (omega (arith, length-drop n w)) (omega arith) (omega arith) (λ i k. held (suc i) (omega (arith, k))),
      )

  -- The hints that are shown are like those that are held, and as many.
  pub shown_like : (ns : List ℕ) (bs : List BlockHints) (gs : List (Given (Elem m))) → length ns ≤ length bs → length gs ≡ length ns → HeldAll m ns bs gs
      → Everywhere (Like (ops m)) ns (all_shown m ns bs) gs × (row_count (all_shown m ns bs) ≡ row_count gs) × (column_count (all_shown m ns bs) ≡ column_count gs)
  shown_like [] bs [] hb hg held = (tt, refl, refl)
  shown_like [] bs (g ∷ gs) hb hg held = absurd (omega arith)
  shown_like (n ∷ ns) [] gs hb hg held = absurd (omega arith)
  shown_like (n ∷ ns) (b ∷ bs) [] hb hg held = absurd (omega arith)
  shown_like (n ∷ ns) (b ∷ bs) (g ∷ gs) hb hg held =
      let mine = held 0 (omega arith) in
      let rest = shown_like ns bs gs (omega arith) (omega arith) (λ i k. held (suc i) (omega (arith, k))) in
      let sizes = Reading.shown_sizes l mine.1 mine.2 in
      ((Reading.block_alike l mine.1 mine.2, rest.0), ap₂ ◌+◌ sizes.0 rest.1, ap₂ ◌+◌ sizes.1 rest.2)

  -- There are as many points of row hints as row hints.
  pub length_hint_points : (ns : List ℕ) (bs : List BlockHints) (ps : List Point) → length (all_hint_points m ns bs ps) ≡ row_count (all_shown m ns bs)
  length_hint_points [] bs ps = refl
  length_hint_points (n ∷ ns) [] ps = refl
  length_hint_points (n ∷ ns) (b ∷ bs) ps =
      length-append (hint_points m (parameter_of m ps) (rows_of m b.rows)) (all_hint_points m ns bs (drop n ps))
      ∙ ap₂ ◌+◌ (length-map {B = Elem m × Elem m} (rows_of m b.rows) (λ h. (parameter_of m ps, from_digits m h)) ∙ sym (length-map (rows_of m b.rows) (from_digits m))) (length_hint_points ns bs (drop n ps))

  -- A polynomial that vanishes at the points of a block's row hints vanishes at the row hints.
  row_zeros : (f : List (Elem m)) (a : Elem m) (hs : List (List (Elem m))) → AllByRecursion (Vanishes (ops m) f) (hint_points m a hs) → AllByRecursion (λ u. eval (ops m) a f u ≡ (ops m).zero) (map (from_digits m) hs)
  row_zeros f a [] h = tt
  row_zeros f a (r ∷ hs) h = (eval_value laws a f (from_digits m r) ∙ h.0, row_zeros f a hs h.1)

  -- In all blocks.
  pub zeros_are : (f : List (Elem m)) (blocks : List (Block (Elem m))) (ns : List ℕ) (bs : List BlockHints) (gs : List (Given (Elem m))) (ps : List Point) (w : List (Elem m))
      → map block_size blocks ≡ ns → places m ps ≡ points blocks → length ns ≤ length bs → length gs ≡ length ns → HeldAll m ns bs gs
      → AllByRecursion (Vanishes (ops m) f) (all_hint_points m ns bs ps)
      → AllByRecursion (λ s. AllByRecursion (λ u. eval (ops m) s.parameter f u ≡ (ops m).zero) s.given.rows) (sited blocks (cut ns w) (all_shown m ns bs))
  zeros_are f [] ns bs gs ps w e ep hb hg held h = tt
  zeros_are f (b ∷ blocks) [] bs gs ps w e ep hb hg held h = absurd (omega (arith, ap length e))
  zeros_are f (block a locs ∷ blocks) (n ∷ ns) [] gs ps w e ep hb hg held h = absurd (omega arith)
  zeros_are f (block a locs ∷ blocks) (n ∷ ns) (b ∷ bs) [] ps w e ep hb hg held h = absurd (omega arith)
  zeros_are f (block a locs ∷ blocks) (n ∷ ns) (b ∷ bs) (g ∷ gs) ps w e ep hb hg held h =
      let size : length locs ≡ n = ap (λ js. get_or js 0 0) e in
      let some : 1 ≤ n = (held 0 (omega arith)).0 in
      let here = hint_points m (parameter_of m ps) (rows_of m b.rows) in
      let rest = all_hint_points m ns bs (drop n ps) in (
        subst (λ x. AllByRecursion (λ u. eval (ops m) x f u ≡ (ops m).zero) (map (from_digits m) (rows_of m b.rows))) (Siting.first_parameter m a locs blocks ps (omega arith) ep)
            (row_zeros f (parameter_of m ps) (rows_of m b.rows) (all_left (Vanishes (ops m) f) here rest h)),
        zeros_are f blocks ns bs gs (drop n ps) (drop n w) (ap (drop 1) e) (ap (λ j. places m (drop j ps)) (sym size) ∙ (Siting.first_block m a locs blocks ps ep).1) (omega arith) (omega arith) (λ i k. held (suc i) (omega (arith, k)))
            (all_right (Vanishes (ops m) f) here rest h),
      )
