-- The parts of one block, as the program makes them.
use Rattle.std.proofs.Common.{◌≡◌, ℕ, ◌-◌, ◌≤◌, List, [], ◌∷◌, ◌++◌, map, length, take, replicate, sym, refl, ap, ◌∙◌, arith}
use Rattle.std.proofs.lemmas.List.{length-map}
use Rattle.std.proofs.lemmas.List.{take-map, take_at}
use Rattle.fields.specs.Field.{plus}
use Rattle.fields.specs.Field as field
use Rattle.fields.specs.Meaning.{Meaning, Laws}
use Rattle.fields.specs.Elements.{Elem, elem, elems, codes, ops}
use Rattle.fields.specs.Basics.{ring}
use Rattle.fields.proofs.Carrier
use Rattle.skew.proofs.Sums.{cons_path}
use Rattle.ranks.specs.Ranks.{pick}
use Rattle.ranks.specs.Reduction.{mix, marks_of, rows_of, InForm}
use Rattle.ranks.specs.RowSteps.{clear}
use Rattle.ranks.proofs.Mixing
use Rattle.codes.specs.Holdings.{held}
use Rattle.hints.specs.declared.block.BlockHints.{BlockHints}
use Rattle.hints.specs.declared.parts.Parts.{Parts as PartsCodes}
use Rattle.hints.specs.Splittings.{Given}
use Rattle.hints.specs.Holdings.{padded, BlockHolds}
use Rattle.hints.specs.Shown.{shown, reduced_by}
use Rattle.hints.specs.Outcomes.{BlockSplit}
use Rattle.hints.proofs.Leasts
use Rattle.hints.proofs.Leasts.{least}
use Rattle.hints.proofs.Likeness
use Rattle.hints.proofs.Narrow
use Rattle.hints.proofs.Padding.{padded_numbers}
use Rattle.hints.proofs.Reading
use Rattle.hints.proofs.Reading.{way}
use Rattle.hints.proofs.Rowwise.{minus}

module _ {F : Type 0} {o : field.Ops F} (l : field.Laws o) where
  -- What a map takes off, place by place.
  taken_off : (T : F → F) (v : List F) → plus o v (map o.neg (map T v)) ≡ map (λ x. o.add x (o.neg (T x))) v
  taken_off T [] = refl
  taken_off T (x ∷ v) = cons_path refl (taken_off T v)

  -- A row less what is left of it is what was taken.
  less_left : (u v : List F) → length u ≡ length v → plus o u (map o.neg (plus o u (map o.neg v))) ≡ v
  less_left [] [] e = refl
  less_left [] (y ∷ v) e = absurd (omega arith)
  less_left (x ∷ u) [] e = absurd (omega arith)
  less_left (x ∷ u) (y ∷ v) e = cons_path (back x y) (less_left u v (omega arith))
    where
      back : (p q : F) → o.add p (o.neg (o.add p (o.neg q))) ≡ q
      back p q = simp (ring, l)

module _ {m : Meaning} (l : Laws m) where
  -- The laws of the elements.
  laws : field.Laws (ops m)
  laws = Carrier.ops_laws l

  module _ {b : BlockHints} (e : List ℕ) {g : Given (Elem m)} (le : length e ≤ 8) (k : BlockHolds m (length e) b g)
      (left : List ℕ) (left_is : elems m left ≡ clear (ops m) (marks_of b.columns) (rows_of m b.columns) (padded m (elems m e))) where
    -- What is left before the end of the block.
    abbrev rest : List (Elem m)
    rest = clear (ops m) (take (length e) (marks_of b.columns)) (map (take (length e)) (rows_of m b.columns)) (elems m e)

    -- It is what the program has there.
    rest_is : take (length e) (elems m left) ≡ rest
    rest_is = ap (take (length e)) left_is ∙ sym (Reading.narrow_clear l le k (elems m e) (length-map e (elem m))).0

    -- The images of what is left.
    images : (T : Elem m → Elem m) → take (length e) (codes (map T (elems m left))) ≡ codes (map T rest)
    images T =
        take-map (λ x. x.code) (length e) (map T (elems m left)) ∙ ap codes (take-map T (length e) (elems m left) ∙ ap (map T) rest_is)

    -- The row part.
    row_is : (T : Elem m → Elem m) (full : List ℕ) → full ≡ codes (map T (elems m left)) → take (length e) (codes (minus l left full)) ≡ codes (map (λ x. (ops m).add x ((ops m).neg (T x))) rest)
    row_is T full ef =
        ap (λ w. take (length e) (codes (plus (ops m) (elems m left) (map (ops m).neg w)))) (ap (elems m) ef ∙ Carrier.elems_codes (map T (elems m left)))
        ∙ ap (λ w. take (length e) (codes w)) (taken_off laws T (elems m left)) ∙ images (λ x. (ops m).add x ((ops m).neg (T x)))

    -- The column part.
    column_is : (start : List ℕ) → elems m start ≡ padded m (elems m e)
        → take (length e) (codes (minus l start left)) ≡ codes (mix (ops m) (length (elems m e)) (map (take (length e)) (rows_of m b.columns)) (pick (take (length e) (marks_of b.columns)) (elems m e)))
    column_is start es =
        take-map (λ x. x.code) (length e) (minus l start left)
        ∙ ap codes (Narrow.take_plus laws (length e) (elems m start) (map (ops m).neg (elems m left))
        ∙ ap (λ w. plus (ops m) w (take (length e) (map (ops m).neg (elems m left)))) (ap (take (length e)) es ∙ take_at (elems m e) (replicate (8 - length (elems m e)) (ops m).zero) (length e) (length-map e (elem m)))
        ∙ ap (plus (ops m) (elems m e)) (take-map (ops m).neg (length e) (elems m left) ∙ ap (map (ops m).neg) rest_is)
        ∙ less_left laws (elems m e) taken (sym (Mixing.length_mix laws (length (elems m e)) (map (take (length e)) (rows_of m b.columns)) (pick (take (length e) (marks_of b.columns)) (elems m e)))))
      where
        taken : List (Elem m)
        taken = mix (ops m) (length (elems m e)) (map (take (length e)) (rows_of m b.columns)) (pick (take (length e) (marks_of b.columns)) (elems m e))

  -- What is appended are the parts that no splitting has lighter.
  pub block_splits : (b : BlockHints) (e : List ℕ) {old new : PartsCodes} (start left full : List ℕ) {row column : List ℕ} → length e ≤ 8 → start ≡ e ++ replicate (8 - length e) 0
      → (InForm m b.columns → elems m left ≡ clear (ops m) (marks_of b.columns) (rows_of m b.columns) (elems m start))
      → (InForm m b.rows → full ≡ codes (map (reduced_by m b.rows) (elems m left))) → row ≡ codes (minus l left full) → column ≡ codes (minus l start left)
      → held new.full ≡ take 24 (held old.full ++ take (length e) full)
      → held new.row ≡ take 24 (held old.row ++ take (length e) row)
      → held new.column ≡ take 24 (held old.column ++ take (length e) column)
      → (g : Given (Elem m)) → BlockHolds m (length e) b g → BlockSplit m e g old new
  block_splits b e {old} {new} start left full {row} {column} le es el ef er ec gf gr gc g k = record {
    parts = least (ops m) (way m (length e) b) (shown m (length e) b) (elems m e);
    full = gf ∙ ap (λ w. take 24 (held old.full ++ w)) (ap (take (length e)) full_is ∙ images e le k left left_is (reduced_by m b.rows));
    row = gr ∙ ap (λ w. take 24 (held old.row ++ w)) (ap (take (length e)) er ∙ row_is e le k left left_is (reduced_by m b.rows) full full_is);
    column = gc ∙ ap (λ w. take 24 (held old.column ++ w)) (ap (take (length e)) ec ∙ column_is e le k left left_is start start_is);
    least = Likeness.least_like laws (length e) (shown m (length e) b) g (elems m e) (least (ops m) (way m (length e) b) (shown m (length e) b) (elems m e)) (length-map e (elem m)) (Reading.block_alike l le k)
        (Leasts.least_block laws (length e) (way m (length e) b) (shown m (length e) b) (elems m e) (length-map e (elem m)) (Reading.block_leads l le k));
  }
    where
      start_is : elems m start ≡ padded m (elems m e)
      start_is = ap (elems m) es ∙ padded_numbers m e

      left_is : elems m left ≡ clear (ops m) (marks_of b.columns) (rows_of m b.columns) (padded m (elems m e))
      left_is = el k.columns.form ∙ ap (clear (ops m) (marks_of b.columns) (rows_of m b.columns)) start_is

      full_is : full ≡ codes (map (reduced_by m b.rows) (elems m left))
      full_is = ef k.rows.form
