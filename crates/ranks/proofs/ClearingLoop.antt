-- The loop that clears a row by the rows of a form.
--
--   rest m slots h p               the sum of the rows in use from place p on, each times what h has at its pivot
--   Clearing m slots h left p      what is left, less the rows from place p on, is h cleared by all
--   ClearedTo f h left p           so it is where f is a form
use Rattle.std.proofs.Common.{◌≡◌, ℕ, suc, ◌+◌, ◌<◌, ◌≤◌, true, false, List, [], ◌∷◌, map, length, get_or, drop, Option, Some, None, sym, refl, ap, ◌∙◌, subst, add-one, arith, drop-cons}
use Rattle.std.specs.Option.{is_some}
use Rattle.std.proofs.lemmas.List.{length-map, drop_all}
use Rattle.std.specs.List.{AllByRecursion}
use Rattle.fields.specs.Field.{Zero, plus, scale}
use Rattle.fields.specs.Field as field
use Rattle.fields.specs.Meaning.{Meaning, Laws, clip}
use Rattle.fields.specs.Elements.{Elem, elem, ops}
use Rattle.fields.specs.Basics
use Rattle.fields.specs.Rows
use Rattle.fields.proofs.Carrier
use Rattle.skew.specs.Products.{coef}
use Rattle.skew.proofs.Sums
use Rattle.skew.proofs.Sums.{cons_path}
use Rattle.ranks.specs.Ranks.{pick}
use Rattle.ranks.specs.Reduction.{mix, row, in_use, marks_of, rows_of, Row, InForm}
use Rattle.ranks.specs.RowSteps.{clear}
use Rattle.ranks.specs.declared.rows.Row.{Row as RowCodes}
use Rattle.ranks.specs.declared.rows.Form.{Form}
use Rattle.ranks.proofs.Mixing

module _ (m : Meaning) where
  abbrev pub rest : List (Option RowCodes) → List (Elem m) → ℕ → List (Elem m)
  rest slots h p = mix (ops m) 8 (map (row m) (in_use (drop p slots))) (pick (map is_some (drop p slots)) (drop p h))

pub record Clearing (m : Meaning) (slots : List (Option RowCodes)) (h left : List (Elem m)) (p : ℕ) : Type 0 where
  pub size : length left ≡ 8
  pub is : plus (ops m) left (map (ops m).neg (rest m slots h p)) ≡ clear (ops m) (map is_some slots) (map (row m) (in_use slots)) h

-- What holds of all images of what is in use holds of one.
used_at : {A B : Type 0} (P : B → Type 0) (f : A → B) (p : ℕ) (xs : List (Option A)) (x : A) → get_or xs p None ≡ Some x → AllByRecursion P (map f (in_use xs)) → P (f x)
used_at P f p [] x e k = let z : ◌≡◌ {A = ℕ} 0 1 = cc in absurd (omega arith)
used_at P f ℕ.zero (Some y ∷ ys) x e k = let same : y ≡ x = cc in subst (λ w. P (f w)) same k.0
used_at P f ℕ.zero (None ∷ ys) x e k = let z : ◌≡◌ {A = ℕ} 0 1 = cc in absurd (omega arith)
used_at P f (suc p) (Some y ∷ ys) x e k = used_at P f p ys x e k.1
used_at P f (suc p) (None ∷ ys) x e k = used_at P f p ys x e k

module _ {m : Meaning} (l : Laws m) where
  open (ops m) use {zero, neg}

  -- The laws of the elements.
  abbrev laws : field.Laws (ops m)
  laws = Carrier.ops_laws l

  -- A place that is not in use is passed.
  clearing_skips : {slots : List (Option RowCodes)} {h left : List (Elem m)} {p : ℕ} → p < 8 → length slots ≡ 8 → length h ≡ 8 → get_or slots p None ≡ None
      → Clearing m slots h left p → Clearing m slots h left (p + 1)
  clearing_skips {slots} {h} {left} {p} lt es eh u k = record { size = k.size; is = ap (λ w. plus (ops m) left (map neg w)) same ∙ k.is }
    where
      same : rest m slots h (p + 1) ≡ rest m slots h p
      same =
          ap (rest m slots h) (add-one p)
          ∙ sym (ap (λ w. mix (ops m) 8 (map (row m) (in_use w)) (pick (map is_some w) (drop p h))) (drop-cons slots p None (omega arith) ∙ ap (λ s. s ∷ drop (suc p) slots) u)
          ∙ ap (λ w. mix (ops m) 8 (map (row m) (in_use (drop (suc p) slots))) (pick (false ∷ map is_some (drop (suc p) slots)) w)) (drop-cons h p zero (omega arith)))

  -- At a place in use the row there is taken off.
  clearing_goes_on : {slots : List (Option RowCodes)} {h left left' : List (Elem m)} {p : ℕ} (r : RowCodes) → p < 8 → length slots ≡ 8 → length h ≡ 8 → get_or slots p None ≡ Some r
      → length (row m r) ≡ 8 → left' ≡ plus (ops m) left (scale (ops m) (neg (coef (ops m) h p)) (row m r))
      → Clearing m slots h left p → Clearing m slots h left' (p + 1)
  clearing_goes_on {slots} {h} {left} {left'} {p} r lt es eh u er e k = record { size = long; is = ap (λ w. plus (ops m) left' (map neg w)) (ap (rest m slots h) (add-one p)) ∙ moved ∙ k.is }
    where
      long : length left' ≡ 8
      long = ap length e ∙ Rows.length_plus laws left (scale (ops m) (neg (coef (ops m) h p)) (row m r)) ∙ omega (arith, k.size, er, length-map (row m r) ((ops m).mul (neg (coef (ops m) h p))))

      split : rest m slots h p ≡ plus (ops m) (scale (ops m) (coef (ops m) h p) (row m r)) (rest m slots h (suc p))
      split =
          ap (λ w. mix (ops m) 8 (map (row m) (in_use w)) (pick (map is_some w) (drop p h))) (drop-cons slots p None (omega arith) ∙ ap (λ s. s ∷ drop (suc p) slots) u)
          ∙ ap (λ w. mix (ops m) 8 (row m r ∷ map (row m) (in_use (drop (suc p) slots))) (pick (true ∷ map is_some (drop (suc p) slots)) w)) (drop-cons h p zero (omega arith))
          ∙ Mixing.mix_cons laws 8 (row m r) (map (row m) (in_use (drop (suc p) slots))) (coef (ops m) h p) (pick (map is_some (drop (suc p) slots)) (drop (suc p) h)) er

      shift : (y : Elem m) (u v w : List (Elem m)) → plus (ops m) (plus (ops m) u (scale (ops m) (neg y) v)) (map neg w) ≡ plus (ops m) u (map neg (plus (ops m) (scale (ops m) y v) w))
      shift y u v w = Sums.plus_assoc laws u (scale (ops m) (neg y) v) (map neg w) ∙ ap (plus (ops m) u) (sym (opposites v w))
        where
          alone : (v : List (Elem m)) → map neg (scale (ops m) y v) ≡ scale (ops m) (neg y) v
          alone [] = refl
          alone (b ∷ v) = cons_path (sym (Basics.neg_mul laws y b)) (alone v)

          opposites : (v w : List (Elem m)) → map neg (plus (ops m) (scale (ops m) y v) w) ≡ plus (ops m) (scale (ops m) (neg y) v) (map neg w)
          opposites [] w = refl
          opposites (b ∷ v) [] = cons_path (sym (Basics.neg_mul laws y b)) (alone v)
          opposites (b ∷ v) (d ∷ w) = cons_path (Basics.neg_sum laws ((ops m).mul y b) d ∙ ap (λ t. (ops m).add t (neg d)) (sym (Basics.neg_mul laws y b))) (opposites v w)

      moved : plus (ops m) left' (map neg (rest m slots h (suc p))) ≡ plus (ops m) left (map neg (rest m slots h p))
      moved = ap (λ w. plus (ops m) w (map neg (rest m slots h (suc p)))) e ∙ shift (coef (ops m) h p) left (row m r) (rest m slots h (suc p)) ∙ ap (λ w. plus (ops m) left (map neg w)) (sym split)

  -- After the last place nothing is to be taken off.
  clearing_ends : {slots : List (Option RowCodes)} {h left : List (Elem m)} {p : ℕ} → 8 ≤ p → length slots ≡ 8 → Clearing m slots h left p → left ≡ clear (ops m) (map is_some slots) (map (row m) (in_use slots)) h
  clearing_ends {slots} {h} {left} {p} le es k =
      sym (less_none left (mix (ops m) 8 [] []) (k.size ∙ sym (Mixing.length_mix laws 8 [] [])) (Mixing.mix_none laws 8 []))
      ∙ ap (λ w. plus (ops m) left (map neg (mix (ops m) 8 (map (row m) (in_use w)) (pick (map is_some w) (drop p h))))) (sym (drop_all p slots (omega arith))) ∙ k.is
    where
      less_none : (u v : List (Elem m)) → length u ≡ length v → AllByRecursion (Zero (ops m)) v → plus (ops m) u (map neg v) ≡ u
      less_none [] [] e z = refl
      less_none [] (y ∷ v) e z = absurd (omega arith)
      less_none (x ∷ u) [] e z = absurd (omega arith)
      less_none (x ∷ u) (y ∷ v) e z = cons_path (ap (λ w. (ops m).add x (neg w)) z.0 ∙ ap ((ops m).add x) (Basics.neg_zero laws) ∙ Basics.add_zero laws x) (less_none u v (omega arith) z.1)

  -- What a form and a row are like while the row is cleared, where the form is one.
  abbrev pub ClearedTo : Form → RowCodes → RowCodes → ℕ → Type 0
  ClearedTo f h left p = InForm m f → Clearing m f.rows (row m h) (row m left) p

  -- A place that is not in use.
  pub clear_skips : (f : Form) (h left : RowCodes) {p : ℕ} → p < 8 → length h.cells ≡ 8 → get_or f.rows p None ≡ None → ClearedTo f h left p → ClearedTo f h left (p + 1)
  clear_skips f h left lt e u c k = clearing_skips lt k.room (length-map h.cells (elem m) ∙ e) u (c k)

  -- A place in use.
  pub clear_goes_on : (f : Form) (h left r next : RowCodes) {p x : ℕ} → p < 8 → length h.cells ≡ 8 → get_or f.rows p None ≡ Some r → x ≡ m.opposite (clip m (get_or h.cells p 0))
      → row m next ≡ plus (ops m) (row m left) (scale (ops m) (elem m x) (row m r)) → ClearedTo f h left p → ClearedTo f h next (p + 1)
  clear_goes_on f h left r next {p} {x} lt e u ex en c k =
      clearing_goes_on r lt k.room (length-map h.cells (elem m) ∙ e) u
      (used_at (Row (ops m) 8) (row m) p f.rows r u k.reduced.rows).0
      (en ∙ ap (λ y. plus (ops m) (row m left) (scale (ops m) y (row m r))) (Carrier.negates m (get_or h.cells p 0) ex ∙ ap neg (Carrier.elem_at m h.cells p))) (c k)

  -- All places.
  pub clear_ends : (f : Form) (h left : RowCodes) {p : ℕ} → 8 ≤ p → ClearedTo f h left p → InForm m f → row m left ≡ clear (ops m) (marks_of f) (rows_of m f) (row m h)
  clear_ends f h left le c k = clearing_ends le k.room (c k)
