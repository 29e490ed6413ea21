-- The pivots of rows that were swept, with the new row among them.
--
--   pivots_after, pivots_new    those after the new one, and all
--   count_mark                  one more place is marked
use Rattle.std.proofs.Common.{◌≡◌, ℕ, suc, ◌+◌ as ◌+ℕ◌, ◌≤◌, Bool, true, false, ◌≢◌, List, [], ◌∷◌, map, length, drop, set, sym, refl, ap, ◌∙◌, subst, arith}
use Rattle.std.proofs.lemmas.List.{length-map}
use Rattle.std.specs.List.{AllByRecursion}
use Rattle.fields.specs.Field.{Ops, Laws, Zero}
use Rattle.fields.specs.Inverses
use Rattle.skew.specs.Products.{coef}
use Rattle.skew.proofs.Sums.{cons_path}
use Rattle.ranks.specs.Ranks.{pick}
use Rattle.ranks.specs.Reduction.{count, heads, tails, unit, Pivots}
use Rattle.ranks.proofs.Putting
use Rattle.ranks.proofs.Sweeps
use Rattle.ranks.proofs.Putting.{before, before_count, length_put, map_put, put}
use Rattle.ranks.proofs.Sweeps.{sweep}

module _ {F : Type 0} {o : Ops F} (l : Laws o) where
  open o use {zero, one}

  -- The first entries of the new rows.
  heads_put : (q : ℕ) (ks g : List F) (rows : List (List F)) → heads o (put q g (sweep l ks g rows)) ≡ put q (coef o g 0) (heads o (sweep l ks g rows))
  heads_put q ks g rows = map_put (λ h. coef o h 0) q g (sweep l ks g rows)

  -- The new rows from the next place on.
  tails_put : (q : ℕ) (ks g : List F) (rows : List (List F)) → tails o (put q g (sweep l ks g rows)) ≡ put q (drop 1 g) (sweep l ks (drop 1 g) (tails o rows))
  tails_put q ks g rows = map_put (drop 1) q g (sweep l ks g rows) ∙ ap (put q (drop 1 g)) (Sweeps.tails_sweep l ks g rows)

  -- There is one row more.
  length_new : (q : ℕ) (ks g : List F) (rows : List (List F)) → length ks ≡ length rows → length (put q g (sweep l ks g rows)) ≡ suc (length rows)
  length_new q ks g rows e = length_put q g (sweep l ks g rows) ∙ ap suc (Sweeps.length_sweep l ks g rows e)

  -- What a marked list has at its head and after it.
  pick_head : (marks : List Bool) (g : List F) → AllByRecursion (Zero o) (pick (true ∷ marks) g) → (coef o g 0 ≡ zero) × AllByRecursion (Zero o) (pick marks (drop 1 g))
  pick_head [] [] h = (refl, tt)
  pick_head (m ∷ marks) [] h = (refl, tt)
  pick_head marks (x ∷ g) h = (h.0, h.1)

  -- What a list has after a place that is not marked.
  pick_tail : (marks : List Bool) (g : List F) → AllByRecursion (Zero o) (pick (false ∷ marks) g) → AllByRecursion (Zero o) (pick marks (drop 1 g))
  pick_tail [] [] h = tt
  pick_tail (m ∷ marks) [] h = tt
  pick_tail marks (x ∷ g) h = h

  -- The pivots after the new one.
  pivots_after : (q j : ℕ) (marks : List Bool) (ks g : List F) (rows : List (List F)) → q ≤ j → length ks ≡ length rows → AllByRecursion (Zero o) (pick marks g) → Pivots o j marks rows
      → Pivots o (suc j) marks (put q g (sweep l ks g rows))
  pivots_after q j [] ks g rows e k z h = tt
  pivots_after q j (true ∷ marks) ks g rows e k z h =
      let zs = pick_head marks g z in (
        heads_put q ks g rows ∙ ap (λ w. put q w (heads o (sweep l ks g rows))) zs.0 ∙ ap (put q zero) (Sweeps.heads_stay l ks g rows k zs.0 ∙ h.0)
            ∙ Putting.put_low l q (length rows) j e ∙ ap (λ n. unit o n (suc j)) (sym (length_new q ks g rows k)),
        subst (Pivots o (suc (suc j)) marks) (sym (tails_put q ks g rows)) (pivots_after q (suc j) marks ks (drop 1 g) (tails o rows) (omega arith) (k ∙ sym (length-map rows (drop 1))) zs.1 h.1),
      )
  pivots_after q j (false ∷ marks) ks g rows e k z h =
      subst (Pivots o (suc j) marks) (sym (tails_put q ks g rows)) (pivots_after q j marks ks (drop 1 g) (tails o rows) e (k ∙ sym (length-map rows (drop 1))) (pick_tail marks g z) h)

  -- An entry, counted from the next place on.
  coef_tail : (r : List F) (p : ℕ) → coef o r (suc p) ≡ coef o (drop 1 r) p
  coef_tail [] p = refl
  coef_tail (x ∷ r) p = refl

  -- The same of each row.
  entries_tail : (p : ℕ) (rows : List (List F)) → map (λ r. coef o r (suc p)) rows ≡ map (λ r. coef o r p) (tails o rows)
  entries_tail p [] = refl
  entries_tail p (r ∷ rows) = cons_path (coef_tail r p) (entries_tail p rows)

  -- All pivots.
  pub pivots_new : (p j q : ℕ) (marks : List Bool) (ks g : List F) (rows : List (List F)) → q ≡ j +ℕ before p marks → j +ℕ count marks ≡ length rows → ks ≡ map (λ r. coef o r p) rows
      → AllByRecursion (Zero o) (pick marks g) → coef o g p ≡ one → Pivots o j marks rows → Pivots o j (set marks p true) (put q g (sweep l ks g rows))
  pivots_new p j q [] ks g rows e c k z u h = tt
  pivots_new ℕ.zero j q (true ∷ marks) ks g rows e c k z u h = absurd (Inverses.one_zero l (sym u ∙ (pick_head marks g z).0))
  pivots_new ℕ.zero j q (false ∷ marks) ks g rows e c k z u h =
      let n : length ks ≡ length rows = ap length k ∙ length-map rows (λ r. coef o r 0) in
      let same : q ≡ j = omega arith in (
        heads_put q ks g rows ∙ ap (λ w. put q w (heads o (sweep l ks g rows))) u ∙ ap (put q one) (Sweeps.heads_go l g rows u ks k)
            ∙ Putting.put_one l q (length rows) (omega arith) ∙ ap (λ i. unit o (suc (length rows)) i) same ∙ ap (λ i. unit o i j) (sym (length_new q ks g rows n)),
        subst (Pivots o (suc j) marks) (sym (tails_put q ks g rows)) (pivots_after q j marks ks (drop 1 g) (tails o rows) (omega arith) (n ∙ sym (length-map rows (drop 1))) (pick_tail marks g z) h),
      )
  pivots_new (suc p) j q (true ∷ marks) ks g rows e c k z u h =
      let n : length ks ≡ length rows = ap length k ∙ length-map rows (λ r. coef o r (suc p)) in
      let zs = pick_head marks g z in (
        heads_put q ks g rows ∙ ap (λ w. put q w (heads o (sweep l ks g rows))) zs.0 ∙ ap (put q zero) (Sweeps.heads_stay l ks g rows n zs.0 ∙ h.0)
            ∙ Putting.put_high l q (length rows) j (omega arith) (omega (arith, before_count p marks)) ∙ ap (λ i. unit o i j) (sym (length_new q ks g rows n)),
        subst (Pivots o (suc j) (set marks p true)) (sym (tails_put q ks g rows))
            (pivots_new p (suc j) q marks ks (drop 1 g) (tails o rows) (omega arith) (omega (arith, length-map rows (drop 1))) (k ∙ entries_tail p rows) zs.1 (sym (coef_tail g p) ∙ u) h.1),
      )
  pivots_new (suc p) j q (false ∷ marks) ks g rows e c k z u h =
      subst (Pivots o j (set marks p true)) (sym (tails_put q ks g rows))
      (pivots_new p j q marks ks (drop 1 g) (tails o rows) (omega arith) (omega (arith, length-map rows (drop 1))) (k ∙ entries_tail p rows) (pick_tail marks g z) (sym (coef_tail g p) ∙ u) h)

  -- One more place is marked.
  pub count_mark : (p : ℕ) (marks : List Bool) (g : List F) → length marks ≡ length g → AllByRecursion (Zero o) (pick marks g) → coef o g p ≢ zero → count (set marks p true) ≡ suc (count marks)
  count_mark p [] [] e z u = absurd (u refl)
  count_mark p [] (x ∷ g) e z u = absurd (omega arith)
  count_mark p (m ∷ marks) [] e z u = absurd (omega arith)
  count_mark ℕ.zero (true ∷ marks) (x ∷ g) e z u = absurd (u z.0)
  count_mark ℕ.zero (false ∷ marks) (x ∷ g) e z u = refl
  count_mark (suc p) (true ∷ marks) (x ∷ g) e z u = ap suc (count_mark p marks g (omega arith) z.1 u)
  count_mark (suc p) (false ∷ marks) (x ∷ g) e z u = count_mark p marks g (omega arith) z u
