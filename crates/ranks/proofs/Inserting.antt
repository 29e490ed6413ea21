-- A row put into a reduced form.
--
--   left, taken           h cleared by the rows, and what was taken off
--   g, swept, new         the new row, with one at the place p; the other rows with zero there; all of them
use Rattle.std.proofs.Common.{◌≡◌, ℕ, suc, Bool, true, false, ◌≢◌, List, [], ◌∷◌, map, length, get_or, set, sym, refl, ap, ◌∙◌, subst, arith, length-set}
use Rattle.std.proofs.lemmas.List.{length-map}
use Rattle.std.specs.List.{AllByRecursion}
use Rattle.fields.specs.Field.{Ops, Laws, Zero, Fixed, plus, scale}
use Rattle.fields.specs.Basics
use Rattle.fields.specs.Inverses
use Rattle.fields.specs.Twists
use Rattle.fields.specs.Basics.{ring}
use Rattle.fields.specs.Rows
use Rattle.skew.specs.Products.{coef}
use Rattle.skew.proofs.Coefficients
use Rattle.skew.proofs.Sums.{cons_path}
use Rattle.ranks.specs.Ranks.{pick}
use Rattle.ranks.specs.Reduction.{mix, Row, AmongRows, Pivots, Reduced}
use Rattle.ranks.specs.RowSteps.{clear}
use Rattle.ranks.proofs.Mixing
use Rattle.ranks.proofs.Picks
use Rattle.ranks.proofs.RowSpans
use Rattle.ranks.proofs.ClearedRow
use Rattle.ranks.proofs.NewPivots
use Rattle.ranks.proofs.Sweeps
use Rattle.ranks.proofs.Putting.{all_put, all_unput, before, length_put, put}

module _ {F : Type 0} {o : Ops F} (l : Laws o) where
  open o use {zero, one, add as ◌+◌, mul as ◌*◌, neg, inv}

  infixl 65 ◌+◌
  infixl 70 ◌*◌
  module _ (m : ℕ) (h : List F) (marks : List Bool) (rows : List (List F)) (formed : Reduced o m marks rows) (row : Row o m h) where
    abbrev left : List F
    left = clear o marks rows h

    abbrev taken : List F
    taken = mix o (length h) rows (pick marks h)

    module _ (p : ℕ) (n : coef o left p ≢ zero) where
      abbrev c : F
      c = coef o left p

      abbrev g : List F
      g = scale o (inv c) left

      -- Its entry at the place p is fixed.
      fixed_c : Fixed o c
      fixed_c = Mixing.fixed_coef l left p (ClearedRow.fixed_left l m h marks rows formed row)

      -- So is the new row.
      fixed_g : AllByRecursion (Fixed o) g
      fixed_g = Rows.fixed_scaled l (inv c) left (Twists.fixed_inv l c n fixed_c) (ClearedRow.fixed_left l m h marks rows formed row)

      -- It has as many places as h.
      length_g : length g ≡ m
      length_g = length-map left (o.mul (inv c)) ∙ ClearedRow.length_left l m h marks rows formed row

      -- It has one at the place p.
      g_one : coef o g p ≡ one
      g_one = Coefficients.coef_scale l (inv c) left p ∙ Inverses.inv_mul l c n

      -- It has zero at the pivots of the others.
      g_zero : AllByRecursion (Zero o) (pick marks g)
      g_zero = subst (AllByRecursion (Zero o)) (sym (Picks.pick_map (o.mul (inv c)) marks left)) (scaled (pick marks left) (ClearedRow.left_zero l m h marks rows formed row))
        where
          scaled : (v : List F) → AllByRecursion (Zero o) v → AllByRecursion (Zero o) (map (o.mul (inv c)) v)
          scaled [] k = tt
          scaled (x ∷ v) k = (ap (λ w. inv c * w) k.0 ∙ Basics.mul_zero l (inv c), scaled v k.1)

      abbrev swept : List (List F)
      swept = map (λ r. plus o r (scale o (neg (coef o r p)) g)) rows

      abbrev new : List (List F)
      new = put (before p marks) g swept

      -- The rows that were swept are rows.
      swept_rows : (rs : List (List F)) → AllByRecursion (Row o m) rs → AllByRecursion (Row o m) (map (λ r. plus o r (scale o (neg (coef o r p)) g)) rs)
      swept_rows [] k = tt
      swept_rows (r ∷ rs) k = (
        (
          Rows.length_plus l r (scale o (neg (coef o r p)) g) ∙ omega (arith, length-map g (o.mul (neg (coef o r p))), length_g, k.0.0),
          Rows.fixed_plus l r (scale o (neg (coef o r p)) g) k.0.1 (Rows.fixed_scaled l (neg (coef o r p)) g (Twists.fixed_neg l _ (Mixing.fixed_coef l r p k.0.1)) fixed_g),
        ),
        swept_rows rs k.1,
      )

      -- So are all new ones.
      new_rows : AllByRecursion (Row o m) new
      new_rows = all_put (Row o m) (before p marks) g swept (length_g, fixed_g) (swept_rows rows formed.rows)

      -- They have their pivots at the marked places and at p.
      new_pivots : Pivots o 0 (set marks p true) new
      new_pivots =
          subst (λ w. Pivots o 0 (set marks p true) (put (before p marks) g w)) (Sweeps.sweep_is l p g rows)
          (NewPivots.pivots_new l p 0 (before p marks) marks (map (λ r. coef o r p) rows) g rows (omega arith) (omega (arith, formed.full)) refl g_zero g_one formed.pivots)

      -- They are reduced.
      new_formed : Reduced o m (set marks p true) new
      new_formed = record {
        size = length-set marks p true ∙ formed.size;
        full = NewPivots.count_mark l p marks g (formed.size ∙ sym length_g) g_zero (λ z. Inverses.one_zero l (sym g_one ∙ z)) ∙ sym (length_put (before p marks) g swept ∙ ap suc (length-map rows (λ r. plus o r (scale o (neg (coef o r p)) g)) ∙ sym formed.full));
        pivots = new_pivots;
        rows = new_rows;
      }

      -- The new rows are spanned by h and the old ones.
      old_own : AllByRecursion (AmongRows o m (h ∷ rows)) (h ∷ rows)
      old_own = RowSpans.among_own l m (h ∷ rows) (row, formed.rows)

      -- Opposites as multiples.
      neg_is_scale : (v : List F) → map neg v ≡ scale o (neg one) v
      neg_is_scale [] = refl
      neg_is_scale (x ∷ v) = cons_path (sym (one_less x)) (neg_is_scale v)
        where
          one_less : (y : F) → neg one * y ≡ neg y
          one_less y = simp (ring, l)

      -- The new row.
      g_spanned : AmongRows o m (h ∷ rows) g
      g_spanned =
          RowSpans.among_scale l m (h ∷ rows) (inv c) left (Twists.fixed_inv l c n fixed_c)
          (RowSpans.among_add l m (h ∷ rows) h (map neg taken) old_own.0
          (subst (AmongRows o m (h ∷ rows)) (sym (neg_is_scale taken)) (RowSpans.among_scale l m (h ∷ rows) (neg one) taken (Twists.fixed_neg l one (Twists.fixed_one l)) (RowSpans.among_more l m h rows taken row.0 (ClearedRow.taken_spanned l m h marks rows formed row)))))

      -- The rows that were swept.
      swept_spanned : (rs : List (List F)) → AllByRecursion (Row o m) rs → AllByRecursion (AmongRows o m (h ∷ rows)) rs → AllByRecursion (AmongRows o m (h ∷ rows)) (map (λ r. plus o r (scale o (neg (coef o r p)) g)) rs)
      swept_spanned [] k s = tt
      swept_spanned (r ∷ rs) k s = (
        RowSpans.among_add l m (h ∷ rows) r (scale o (neg (coef o r p)) g) s.0 (RowSpans.among_scale l m (h ∷ rows) (neg (coef o r p)) g (Twists.fixed_neg l _ (Mixing.fixed_coef l r p k.0.1)) g_spanned),
        swept_spanned rs k.1 s.1,
      )

      -- All of them.
      new_spanned : AllByRecursion (AmongRows o m (h ∷ rows)) new
      new_spanned = all_put (AmongRows o m (h ∷ rows)) (before p marks) g swept g_spanned (swept_spanned rows formed.rows old_own.1)

      -- And they by the new ones.
      new_own : AmongRows o m new g × AllByRecursion (AmongRows o m new) swept
      new_own = all_unput (AmongRows o m new) (before p marks) g swept (RowSpans.among_own l m new new_rows)

      -- What was swept off a row put on again.
      again : (r : List F) (k : F) → length r ≡ length g → plus o (plus o r (scale o (neg k) g)) (scale o k g) ≡ r
      again r k e = go r g e
        where
          back : (x y : F) → x + neg k * y + k * y ≡ x
          back x y = simp (ring, l)

          go : (u v : List F) → length u ≡ length v → plus o (plus o u (scale o (neg k) v)) (scale o k v) ≡ u
          go [] [] e' = refl
          go [] (y ∷ v) e' = absurd (omega arith)
          go (x ∷ u) [] e' = absurd (omega arith)
          go (x ∷ u) (y ∷ v) e' = cons_path (back x y) (go u v (omega arith))

      -- Each old row is a new one and a multiple of the new row.
      olds : (rs : List (List F)) → AllByRecursion (Row o m) rs → AllByRecursion (AmongRows o m new) (map (λ r. plus o r (scale o (neg (coef o r p)) g)) rs) → AllByRecursion (AmongRows o m new) rs
      olds [] k s = tt
      olds (r ∷ rs) k s = (
        subst (AmongRows o m new) (again r (coef o r p) (k.0.0 ∙ sym length_g)) (RowSpans.among_add l m new (plus o r (scale o (neg (coef o r p)) g)) (scale o (coef o r p) g) s.0 (RowSpans.among_scale l m new (coef o r p) g (Mixing.fixed_coef l r p k.0.1) new_own.0)),
        olds rs k.1 s.1,
      )

      -- All of them.
      rows_spanned : AllByRecursion (AmongRows o m new) rows
      rows_spanned = olds rows formed.rows new_own.1

      -- And h.
      h_spanned : AmongRows o m new h
      h_spanned =
          subst (AmongRows o m new) (ap (λ w. plus o w taken) (unscaled left) ∙ ClearedRow.whole l m h marks rows formed row)
          (RowSpans.among_add l m new (scale o c g) taken (RowSpans.among_scale l m new c g fixed_c new_own.0) (RowSpans.among_trans l m new rows taken formed.rows rows_spanned (ClearedRow.taken_spanned l m h marks rows formed row)))
        where
          unscaled : (v : List F) → scale o c (scale o (inv c) v) ≡ v
          unscaled [] = refl
          unscaled (x ∷ v) = cons_path (Inverses.mul_inv_cancel l c x n) (unscaled v)

      -- The new rows are reduced, h was not spanned, and the new rows span what the old ones span with h.
      pub put_in : Reduced o m (set marks p true) new × (¬ AmongRows o m rows h) × AllByRecursion (AmongRows o m (h ∷ rows)) new × AllByRecursion (AmongRows o m new) (h ∷ rows)
      put_in = (new_formed, (λ s. n (Coefficients.coef_of l left (ClearedRow.all_taken l m h marks rows formed row s) p)), new_spanned, (h_spanned, rows_spanned))

      -- The place p was not marked.
      pub unmarked : get_or marks p false ≡ false
      unmarked = free p marks left (formed.size ∙ sym (ClearedRow.length_left l m h marks rows formed row)) (ClearedRow.left_zero l m h marks rows formed row) n
        where
          free : (q : ℕ) (ms : List Bool) (v : List F) → length ms ≡ length v → AllByRecursion (Zero o) (pick ms v) → coef o v q ≢ zero → get_or ms q false ≡ false
          free q [] v e z k = refl
          free q (true ∷ ms) [] e z k = absurd (omega arith)
          free q (false ∷ ms) [] e z k = absurd (omega arith)
          free ℕ.zero (true ∷ ms) (x ∷ v) e z k = absurd (k z.0)
          free ℕ.zero (false ∷ ms) (x ∷ v) e z k = refl
          free (suc q) (true ∷ ms) (x ∷ v) e z k = free q ms v (omega arith) z.1 k
          free (suc q) (false ∷ ms) (x ∷ v) e z k = free q ms v (omega arith) z k
