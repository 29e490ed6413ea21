-- What an insertion of a row leaves, of the program's forms.
--
--   inserted_none, inserted_one    the form as it was, or with one row more
--   ready f h p                    what is left of h, made one at the place p
use Rattle.std.proofs.Common.{◌≡◌, ℕ, suc, ◌<◌, true, false, ◌≢◌, List, [], ◌∷◌, map, length, get_or, set, Option, Some, None, sym, refl, ap, ◌∙◌, subst, arith, length-set}
use Rattle.std.specs.Option.{is_some}
use Rattle.std.proofs.lemmas.List.{length-map, map-set}
use Rattle.std.specs.List.{AllByRecursion}
use Rattle.fields.specs.Field.{Zero, plus, scale}
use Rattle.fields.specs.Field as field
use Rattle.fields.specs.Meaning.{Meaning, Laws}
use Rattle.fields.specs.Elements.{Elem, elem, elems, ops}
use Rattle.fields.proofs.Carrier
use Rattle.skew.specs.Products.{coef}
use Rattle.skew.proofs.Sums.{cons_path}
use Rattle.ranks.specs.Reduction.{row, in_use, marks_of, rows_of, Row, InForm, Inserted, Reduced, AmongRows}
use Rattle.ranks.specs.RowSteps.{clear, PivotAt, Swept, less}
use Rattle.ranks.specs.declared.rows.Row.{Row as RowCodes}
use Rattle.ranks.specs.declared.rows.Form.{Form}
use Rattle.ranks.proofs.Mixing
use Rattle.ranks.proofs.ClearedRow
use Rattle.ranks.proofs.Inserting
use Rattle.ranks.proofs.Putting
use Rattle.ranks.proofs.Putting.{put, before}

-- A value put in at a place that was not in use.
used_set : {A : Type 0} (p : ℕ) (xs : List (Option A)) (x : A) → p < length xs → get_or (map is_some xs) p false ≡ false → in_use (set xs p (Some x)) ≡ put (before p (map is_some xs)) x (in_use xs)
used_set p [] x h u = absurd (omega arith)
used_set ℕ.zero (Some y ∷ ys) x h u = let z : ◌≡◌ {A = ℕ} 0 1 = cc in absurd (omega arith)
used_set ℕ.zero (None ∷ ys) x h u = refl
used_set (suc p) (Some y ∷ ys) x h u = cons_path refl (used_set p ys x (omega arith) u)
used_set (suc p) (None ∷ ys) x h u = used_set p ys x (omega arith) u

module _ {m : Meaning} (l : Laws m) where
  open (ops m) use {zero}

  -- The laws of the elements.
  abbrev laws : field.Laws (ops m)
  laws = Carrier.ops_laws l

  -- A row of zeros.
  zero_row : AllByRecursion (Zero (ops m)) (elems m (0 ∷ 0 ∷ 0 ∷ 0 ∷ 0 ∷ 0 ∷ 0 ∷ 0 ∷ []))
  zero_row = let z = Carrier.zero_is m in (z, (z, (z, (z, (z, (z, (z, (z, tt))))))))

  -- Nothing is changed where nothing is left.
  pub inserted_none : (f : Form) (h left : List ℕ) → elems m left ≡ clear (ops m) (marks_of f) (rows_of m f) (elems m h) → AllByRecursion (Zero (ops m)) (elems m left)
      → InForm m f → Row (ops m) 8 (elems m h) → Inserted m f (elems m h) false f
  inserted_none f h left e z k r = (refl, ClearedRow.none_spanned laws 8 (elems m h) (marks_of f) (rows_of m f) k.reduced r (subst (AllByRecursion (Zero (ops m))) e z))

  -- What is left of h, made one at the place p.
  abbrev ready : Form → List (Elem m) → ℕ → List (Elem m)
  ready f h p = let left : List (Elem m) = clear (ops m) (marks_of f) (rows_of m f) h in scale (ops m) ((ops m).inv (coef (ops m) left p)) left

  -- The new row is what is left, made one at the place p.
  pub inserted_one : (f g : Form) (h left new : List ℕ) {p i : ℕ} (swept : Form) (r : RowCodes)
      → elems m left ≡ clear (ops m) (marks_of f) (rows_of m f) (elems m h) → PivotAt m (elems m left) p i
      → new ≡ r.cells
      → elems m new ≡ plus (ops m) (elems m (0 ∷ 0 ∷ 0 ∷ 0 ∷ 0 ∷ 0 ∷ 0 ∷ 0 ∷ [])) (scale (ops m) (elem m i) (elems m left))
      → Swept m f p (elems m new) swept
      → g.rows ≡ set swept.rows p (Some r)
      → InForm m f → Row (ops m) 8 (elems m h) → Inserted m f (elems m h) true g
  inserted_one f g h left new {p} {i} swept r e at er en sw eh k fixed =
      let I = Inserting.put_in laws 8 (elems m h) (marks_of f) (rows_of m f) k.reduced fixed p n in
      record {
        form = record {
          room = ap length eh ∙ length-set swept.rows p (Some r) ∙ sw.size ∙ k.room;
          reduced = subst (λ ms. Reduced (ops m) 8 ms (rows_of m g)) (sym eg) (subst (Reduced (ops m) 8 (set (marks_of f) p true)) (sym rows_are) I.0);
        };
        more = ap length rows_are ∙ Putting.length_put (before p (marks_of f)) (ready f (elems m h) p) (map (less m p (ready f (elems m h) p)) (rows_of m f)) ∙ ap suc (length-map (rows_of m f) (less m p (ready f (elems m h) p)));
        new = I.1;
        from = subst (AllByRecursion (AmongRows (ops m) 8 (elems m h ∷ rows_of m f))) (sym rows_are) I.2;
        back = subst (λ rs. AllByRecursion (AmongRows (ops m) 8 rs) (elems m h ∷ rows_of m f)) (sym rows_are) I.3;
      }
    where
      eg : marks_of g ≡ set (marks_of f) p true
      eg = ap (map is_some) eh ∙ map-set is_some swept.rows p (Some r) ∙ ap (λ ms. set ms p true) sw.marks

      n : coef (ops m) (clear (ops m) (marks_of f) (rows_of m f) (elems m h)) p ≢ (ops m).zero
      n = subst (λ w. coef (ops m) w p ≢ (ops m).zero) e at.nonzero

      long : length (elems m left) ≡ 8
      long = ap length e ∙ ClearedRow.length_clear laws (marks_of f) (rows_of m f) (elems m h) ∙ fixed.0

      new_is : elems m new ≡ (ready f (elems m h) p)
      new_is =
          en ∙ Mixing.zero_plus laws (elems m (0 ∷ 0 ∷ 0 ∷ 0 ∷ 0 ∷ 0 ∷ 0 ∷ 0 ∷ [])) (scale (ops m) (elem m i) (elems m left)) (sym (length-map (elems m left) ((ops m).mul (elem m i)) ∙ long)) zero_row
          ∙ ap (λ x. scale (ops m) x (elems m left)) at.inverse ∙ ap (λ w. scale (ops m) ((ops m).inv (coef (ops m) w p)) w) e

      unused : get_or (map is_some swept.rows) p false ≡ false
      unused = ap (λ ms. get_or ms p false) sw.marks ∙ Inserting.unmarked laws 8 (elems m h) (marks_of f) (rows_of m f) k.reduced fixed p n

      rows_are : rows_of m g ≡ put (before p (marks_of f)) (ready f (elems m h) p) (map (less m p (ready f (elems m h) p)) (rows_of m f))
      rows_are =
          ap (λ rs. map (row m) (in_use rs)) eh ∙ ap (map (row m)) (used_set p swept.rows r (omega (arith, sw.size, k.room, at.low)) unused)
          ∙ Putting.map_put (row m) (before p (marks_of swept)) r (in_use swept.rows)
          ∙ ap (λ ms. put (before p ms) (row m r) (rows_of m swept)) sw.marks
          ∙ ap (λ x. put (before p (marks_of f)) x (rows_of m swept)) (ap (elems m) (sym er) ∙ new_is)
          ∙ ap (put (before p (marks_of f)) (ready f (elems m h) p)) (sw.rows ∙ ap (λ w. map (less m p w) (rows_of m f)) new_is)
