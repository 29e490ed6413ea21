-- The loop that sweeps the rows of a form by a row.
--
--   SlotSwept m p h old new        a place that is not in use stays so, and a row has zero at p
--   Sweeping m rows p h i new      the first i places are swept, the others as they were
use Rattle.std.proofs.Common.{◌≡◌, ℕ, suc, ◌+◌, ◌<◌, ◌≤◌, ◌≢◌, List, [], ◌∷◌, map, length, get_or, set, Option, Some, None, sym, refl, ap, ◌∙◌, subst, arith, length-set, get_or-set_other, get_or-set_same, below_more}
use Rattle.std.specs.Option.{is_some}
use Rattle.fields.specs.Field.{plus, scale}
use Rattle.fields.specs.Meaning.{Meaning, Laws, clip}
use Rattle.fields.specs.Elements.{Elem, elem, ops}
use Rattle.fields.proofs.Carrier
use Rattle.skew.proofs.Sums.{cons_path}
use Rattle.ranks.specs.Reduction.{row, in_use}
use Rattle.ranks.specs.RowSteps.{Swept, less}
use Rattle.ranks.specs.declared.rows.Row.{Row as RowCodes}
use Rattle.ranks.specs.declared.rows.Form.{Form}

module _ (m : Meaning) where
  abbrev pub SlotSwept : ℕ → List (Elem m) → Option RowCodes → Option RowCodes → Type 0
  SlotSwept p h None None = Unit {0}
  SlotSwept p h None (Some s) = ⊥
  SlotSwept p h (Some r) None = ⊥
  SlotSwept p h (Some r) (Some s) = row m s ≡ less m p h (row m r)

pub record Sweeping (m : Meaning) (rows : List (Option RowCodes)) (p : ℕ) (h : List (Elem m)) (i : ℕ) (new : List (Option RowCodes)) : Type 0 where
  pub size : length new ≡ length rows
  pub done : (k : ℕ) → k < i → SlotSwept m p h (get_or rows k None) (get_or new k None)
  pub ahead : (k : ℕ) → i ≤ k → get_or new k None ≡ get_or rows k None

module _ {m : Meaning} (l : Laws m) where
  open (ops m) use {neg}

  -- One place more.
  pub sweeping_goes_on : {rows new : List (Option RowCodes)} {p : ℕ} {h : List (Elem m)} {i : ℕ} (s : Option RowCodes) → i < length new → Sweeping m rows p h i new
      → SlotSwept m p h (get_or new i None) s → Sweeping m rows p h (i + 1) (set new i s)
  sweeping_goes_on {rows} {new} {p} {h} {i} s lt k swept = record {
    size = length-set new i s ∙ k.size;
    done = below_more _ i
        (λ j below. let ne : j ≢ i = omega arith in subst (SlotSwept m p h (get_or rows j None)) (sym (get_or-set_other new i j s None ne)) (k.done j below))
        (subst (SlotSwept m p h (get_or rows i None)) (sym (get_or-set_same new i s None lt)) (subst (λ r. SlotSwept m p h r s) (k.ahead i (omega arith)) swept));
    ahead = λ j le. let ne : j ≢ i = omega arith in get_or-set_other new i j s None ne ∙ k.ahead j (omega arith);
  }

  -- The row less its entry at p times h.
  pub row_swept : (old r : RowCodes) (p : ℕ) (h : List (Elem m)) {c : ℕ} → c ≡ m.opposite (clip m (get_or old.cells p 0)) → row m r ≡ plus (ops m) (row m old) (scale (ops m) (elem m c) h)
      → row m r ≡ less m p h (row m old)
  row_swept old r p h ec er = er ∙ ap (λ x. plus (ops m) (row m old) (scale (ops m) x h)) (Carrier.negates m (get_or old.cells p 0) ec ∙ ap neg (Carrier.elem_at m old.cells p))

  -- The places of a form that was swept.
  swept_slots : (p : ℕ) (h : List (Elem m)) (rows new : List (Option RowCodes)) → length new ≡ length rows → ((k : ℕ) → k < length rows → SlotSwept m p h (get_or rows k None) (get_or new k None))
      → (map is_some new ≡ map is_some rows) × (map (row m) (in_use new) ≡ map (less m p h) (map (row m) (in_use rows)))
  swept_slots p h [] [] e k = (refl, refl)
  swept_slots p h [] (s ∷ new) e k = absurd (omega arith)
  swept_slots p h (r ∷ rows) [] e k = absurd (omega arith)
  swept_slots p h (r ∷ rows) (s ∷ new) e k = first r s (k 0 (omega arith)) (swept_slots p h rows new (omega arith) (λ j lt. k (suc j) (omega arith)))
    where
      first : (r s : Option RowCodes) → SlotSwept m p h r s → (map is_some new ≡ map is_some rows) × (map (row m) (in_use new) ≡ map (less m p h) (map (row m) (in_use rows)))
          → (map is_some (s ∷ new) ≡ map is_some (r ∷ rows)) × (map (row m) (in_use (s ∷ new)) ≡ map (less m p h) (map (row m) (in_use (r ∷ rows))))
      first None None u w = (cons_path refl w.0, w.1)
      first None (Some s) u w = absurd u
      first (Some r) None u w = absurd u
      first (Some r) (Some s) u w = (cons_path refl w.0, cons_path u w.1)

  -- All places.
  pub sweeping_ends : (f g : Form) {p : ℕ} {h : List (Elem m)} {i : ℕ} → length f.rows ≤ i → Sweeping m f.rows p h i g.rows → Swept m f p h g
  sweeping_ends f g {p} {h} le k =
      let w = swept_slots p h f.rows g.rows k.size (λ j lt. k.done j (omega arith)) in
      record { size = k.size; marks = w.0; rows = w.1 }
