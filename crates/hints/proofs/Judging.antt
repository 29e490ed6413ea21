-- A hint is judged, and one that is taken is held with the others.
--
--   row_depends, column_depends    what the form spans depends on the earlier hints
--   row_fresh, column_fresh        what it does not span is new
--   row_taken, column_taken        and is held with the others
use Rattle.std.proofs.Common.{◌≡◌, ℕ, suc, ◌+◌, ◌-◌, ◌<◌, ◌≤◌, List, [], ◌∷◌, ◌++◌, length, get_or, set, replicate, sym, ap, ◌∙◌, subst, inl, inr, arith, length-set, get_or-set_other, get_or-set_same}
use Rattle.std.proofs.Math.Decide.{ℕ_discrete}
use Rattle.std.proofs.lemmas.List.{length-map}
use Rattle.std.proofs.lemmas.Bool.{cases_lt}
use Rattle.std.specs.List.{AllByRecursion}
use Rattle.fields.specs.Field as field
use Rattle.fields.specs.Meaning.{Meaning, Laws, digit_row}
use Rattle.fields.specs.Elements.{Elem, elem, elems, ops}
use Rattle.fields.proofs.Carrier
use Rattle.ranks.specs.Ranks.{total, Spanned}
use Rattle.ranks.specs.Reduction.{Row, AmongRows, rows_of, InForm, Extended, eight}
use Rattle.ranks.specs.declared.rows.Form.{Form}
use Rattle.ranks.proofs.PaddedDigits
use Rattle.hints.specs.Splittings.{Given, row_count, column_count}
use Rattle.hints.specs.Holdings.{padded, BlockHolds, no_block, no_hints, Holds}
use Rattle.hints.specs.declared.block.BlockHints.{BlockHints}
use Rattle.hints.specs.declared.holder.Hints.{Hints}
use Rattle.codes.specs.Fitness.{AllNot}
use Rattle.hints.specs.Taking.{There, Unfixed, block_of, FreshRow, FreshColumn, Left, with_row, with_column}
use Rattle.hints.proofs.Padding.{padded_numbers}
use Rattle.hints.proofs.HeldForms

-- One block changed: its row hints are counted anew.
count_rows : {F : Type 0} (gs : List (Given F)) (i : ℕ) (d g : Given F) → i < length gs → row_count (set gs i g) + length (get_or gs i d).rows ≡ row_count gs + length g.rows
count_rows [] i d g h = absurd (omega arith)
count_rows (x ∷ gs) ℕ.zero d g h = omega arith
count_rows (x ∷ gs) (suc i) d g h = omega (arith, count_rows gs i d g (omega arith))

-- And its column hints.
count_columns : {F : Type 0} (gs : List (Given F)) (i : ℕ) (d g : Given F) → i < length gs → column_count (set gs i g) + length (get_or gs i d).columns ≡ column_count gs + length g.columns
count_columns [] i d g h = absurd (omega arith)
count_columns (x ∷ gs) ℕ.zero d g h = omega arith
count_columns (x ∷ gs) (suc i) d g h = omega (arith, count_columns gs i d g (omega arith))

module _ {m : Meaning} (l : Laws m) where
  -- Coefficients that are fixed codes are fixed elements.
  pub all_fixed : (d : List ℕ) → AllNot (Unfixed m) d → AllByRecursion (field.Fixed (ops m)) (elems m d)
  all_fixed [] u = tt
  all_fixed (x ∷ d) u = (stays x (u 0 (omega arith)), all_fixed d (λ j k. u (suc j) (omega arith)))
    where
      stays : (y : ℕ) → ¬ Unfixed m y → field.Fixed (ops m) (elem m y)
      stays y n =
          let code : y < m.size = elim (cases_lt y m.size) [ inl p ↦ p | inr p ↦ absurd (n (inl p)) ] in
          let same : m.twist y ≡ y = elim (ℕ_discrete (m.twist y) y) [ yes p ↦ p | no p ↦ absurd (n (inr p)) ] in
          sym (Carrier.twists m y (sym same ∙ ap m.twist (sym (Carrier.counts l y code))))

  -- One block changed, and the counts with it.
  changed : {ns : List ℕ} {k : ℕ} {h : Hints} {gs : List (Given (Elem m))} (i : ℕ) (b : BlockHints) (g : Given (Elem m)) → i < length ns → length h.blocks ≡ 12 → length ns ≤ 12
      → Holds m ns k h gs → BlockHolds m (get_or ns i 0) b g
      → (j : ℕ) → j < length ns → BlockHolds m (get_or ns j 0) (get_or (set h.blocks i b) j no_block) (get_or (set gs i g) j (no_hints m))
  changed {ns} {k} {h} {gs} i b g low room few held new j there = elim (ℕ_discrete j i) [
    | yes e ↦ subst (λ p. BlockHolds m (get_or ns p 0) (get_or (set h.blocks i b) p no_block) (get_or (set gs i g) p (no_hints m))) (sym e)
        (subst (λ w. BlockHolds m (get_or ns i 0) w (get_or (set gs i g) i (no_hints m))) (sym (get_or-set_same h.blocks i b no_block (omega arith)))
        (subst (BlockHolds m (get_or ns i 0) b) (sym (get_or-set_same gs i g (no_hints m) (omega (arith, held.size)))) new))
    | no n ↦ subst (λ w. BlockHolds m (get_or ns j 0) w (get_or (set gs i g) j (no_hints m))) (sym (get_or-set_other h.blocks i j b no_block n))
        (subst (BlockHolds m (get_or ns j 0) (get_or h.blocks j no_block)) (sym (get_or-set_other gs i j g (no_hints m) n)) (held.blocks j there))
  ]

  -- What an insertion says of the digits of an element.
  digits_told : (P : List (Elem m) → Type 0) {f : Form} (ds : List ℕ) (x : ℕ) → ds ≡ digit_row m x → InForm m f → (InForm m f → Row (ops m) 8 (elems m ds) → P (elems m ds)) → P (eight m (elem m x))
  digits_told P ds x e form k =
      let same = PaddedDigits.eight_answers l x e in
      subst P same (k form (subst (Row (ops m) 8) (sym same) ((PaddedDigits.numerals l).fixed (elem m x))))

  module _ {ns : List ℕ} {k b i : ℕ} {h : Hints} {gs : List (Given (Elem m))} (there : There ns b) (place : i ≡ b - 1) (held : Holds m ns k h gs) where
    -- Blocks count from 1.
    low : b - 1 < length ns
    low = omega (arith, there.0, there.1)

    -- The block that is meant, and its forms.
    abbrev block : BlockHints
    block = get_or h.blocks i no_block

    -- They hold its hints.
    here : BlockHolds m (get_or ns (b - 1) 0) block (block_of m gs b)
    here = subst (λ j. BlockHolds m (get_or ns (b - 1) 0) (get_or h.blocks j no_block) (block_of m gs b)) (sym place) (held.blocks (b - 1) low)

    -- One block changed: the hints with the new block, where one hint is more.
    anew : (b' : BlockHints) (g : Given (Elem m)) (h' : Hints) → length ns ≤ 12 → length h.blocks ≡ 12 → BlockHolds m (get_or ns (b - 1) 0) b' g → h'.blocks ≡ set h.blocks i b'
        → h'.rows + length (block_of m gs b).rows ≡ h.rows + length g.rows → h'.columns + length (block_of m gs b).columns ≡ h.columns + length g.columns → h'.rows + h'.columns + k ≤ total ns
        → Holds m ns k h' (set gs (b - 1) g)
    anew b' g h' few room new eb er ec most =
        let rows = count_rows gs (b - 1) (no_hints m) g (omega (arith, held.size, low)) in
        let columns = count_columns gs (b - 1) (no_hints m) g (omega (arith, held.size, low)) in
        record {
          size = length-set gs (b - 1) g ∙ held.size;
          blocks = λ j p. subst (λ bs. BlockHolds m (get_or ns j 0) (get_or bs j no_block) (get_or (set gs (b - 1) g) j (no_hints m))) (sym (eb ∙ ap (λ j. set h.blocks j b') place)) (changed (b - 1) b' g low room few held new j p);
          rows = omega (arith, er, held.rows, rows);
          columns = omega (arith, ec, held.columns, columns);
          budget = omega (arith, most, er, ec, held.rows, held.columns, rows, columns);
        }

    module _ (x : ℕ) {ds : List ℕ} (e : ds ≡ digit_row m x) where
      -- A row hint that the form spans depends on the others.
      pub row_depends : (InForm m block.rows → Row (ops m) 8 (elems m ds) → AmongRows (ops m) 8 (rows_of m block.rows) (elems m ds)) → Spanned (ops m) (block_of m gs b).rows (elem m x)
      row_depends k = HeldForms.row_spanned l (block_of m gs b).rows here.rows (elem m x) (digits_told (AmongRows (ops m) 8 (rows_of m block.rows)) ds x e here.rows.form k)

      module _ {g : Form} (more : InForm m block.rows → Row (ops m) 8 (elems m ds) → Extended m block.rows (elems m ds) g) where
        -- What an insertion that takes the digits says, told of the element.
        longer : Extended m block.rows (eight m (elem m x)) g
        longer = digits_told (λ w. Extended m block.rows w g) ds x e here.rows.form more

        -- One that it does not span is new.
        pub row_fresh : FreshRow m gs b x
        row_fresh k = longer.new (HeldForms.row_among l (block_of m gs b).rows here.rows (elem m x) k)

        -- A new one is held with the others.
        pub row_taken : (h' : Hints) → length ns ≤ 12 → length h.blocks ≡ 12 → Left m ns k gs → h'.blocks ≡ set h.blocks i (record { rows = g; columns = block.columns })
            → h'.rows ≡ h.rows + 1 → h'.columns ≡ h.columns → Holds m ns k h' (with_row m gs b x)
        row_taken h' few room left eb er ec =
            anew (record { rows = g; columns = block.columns }) (record { rows = elem m x ∷ (block_of m gs b).rows; columns = (block_of m gs b).columns }) h' few room
            (record { rows = HeldForms.row_more l (block_of m gs b).rows here.rows (elem m x) longer; columns = here.columns; fit = here.fit }) eb (omega (arith, er)) (omega (arith, ec)) (omega (arith, left, er, ec, held.rows, held.columns))

    module _ (each : (j : ℕ) → j < length ns → (1 ≤ get_or ns j 0) × (get_or ns j 0 ≤ 8)) (c : List ℕ) (long : length c ≡ get_or ns i 0) (fixed : AllNot (Unfixed m) c) (r : List ℕ)
        (behind : length c ≤ 8 → r ≡ c ++ replicate (8 - length c) 0) where
      -- The row is as long as its block, which is no longer than eight places.
      pub column_size : length c ≡ get_or ns (b - 1) 0
      column_size = long ∙ ap (λ j. get_or ns j 0) place

      -- That is no more than eight.
      few : get_or ns (b - 1) 0 ≤ 8
      few = (each (b - 1) low).1

      -- What is inserted is the row with zeros behind.
      padding : elems m r ≡ padded m (elems m c)
      padding = ap (elems m) (behind (omega (arith, column_size, few))) ∙ padded_numbers m c

      -- It is a row of fixed elements.
      row : Row (ops m) (get_or ns (b - 1) 0) (elems m c)
      row = (length-map c (elem m) ∙ column_size, all_fixed c fixed)

      -- What an insertion says of the row.
      row_told : (P : List (Elem m) → Type 0) → (InForm m block.columns → Row (ops m) 8 (elems m r) → P (elems m r)) → P (padded m (elems m c))
      row_told P k = subst P padding (k here.columns.form (subst (Row (ops m) 8) (sym padding) (HeldForms.column_row l {f = block.columns} (get_or ns (b - 1) 0) few (block_of m gs b).columns here.fit here.columns (elems m c) row)))

      -- A column hint that the form spans depends on the others.
      pub column_depends : (InForm m block.columns → Row (ops m) 8 (elems m r) → AmongRows (ops m) 8 (rows_of m block.columns) (elems m r))
          → AmongRows (ops m) (get_or ns (b - 1) 0) (block_of m gs b).columns (elems m c)
      column_depends k =
          HeldForms.column_spanned l (get_or ns (b - 1) 0) few (block_of m gs b).columns here.fit here.columns (elems m c) row (row_told (AmongRows (ops m) 8 (rows_of m block.columns)) k)

      module _ {g : Form} (more : InForm m block.columns → Row (ops m) 8 (elems m r) → Extended m block.columns (elems m r) g) where
        -- What an insertion that takes the row says.
        wider : Extended m block.columns (padded m (elems m c)) g
        wider = row_told (λ w. Extended m block.columns w g) more

        -- One that it does not span is new.
        pub column_fresh : FreshColumn m ns gs b c
        column_fresh k = wider.new (HeldForms.column_among l (get_or ns (b - 1) 0) few (block_of m gs b).columns here.fit here.columns (elems m c) row k)

        -- A new one is held with the others.
        pub column_taken : (h' : Hints) → length ns ≤ 12 → length h.blocks ≡ 12 → Left m ns k gs → h'.blocks ≡ set h.blocks i (record { rows = block.rows; columns = g })
            → h'.rows ≡ h.rows → h'.columns ≡ h.columns + 1 → Holds m ns k h' (with_column m gs b c)
        column_taken h' many room left eb er ec =
            anew (record { rows = block.rows; columns = g }) (record { rows = (block_of m gs b).rows; columns = elems m c ∷ (block_of m gs b).columns }) h' many room
            (record { rows = here.rows; columns = HeldForms.column_more l (get_or ns (b - 1) 0) few (block_of m gs b).columns here.fit here.columns (elems m c) row wider; fit = (row, here.fit) })
            eb (omega (arith, er)) (omega (arith, ec)) (omega (arith, left, er, ec, held.rows, held.columns))
