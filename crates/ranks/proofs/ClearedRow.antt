-- A row cleared by the rows of a reduced form.
--
--   left, taken           h cleared by the rows, and what was taken off
--   none_spanned          h is spanned where nothing is left
use Rattle.std.proofs.Common.{◌≡◌, ℕ, Bool, List, [], ◌∷◌, map, length, sym, refl, ap, ◌∙◌, subst, arith}
use Rattle.std.proofs.lemmas.List.{length-map}
use Rattle.std.specs.List.{AllByRecursion}
use Rattle.fields.specs.Field.{Ops, Laws, Zero, Fixed, plus}
use Rattle.fields.specs.Twists
use Rattle.fields.specs.Basics.{ring}
use Rattle.fields.specs.Rows
use Rattle.skew.proofs.Sums.{cons_path}
use Rattle.ranks.specs.Ranks.{pick}
use Rattle.ranks.specs.Reduction.{mix, Row, AmongRows, Reduced}
use Rattle.ranks.specs.RowSteps.{clear}
use Rattle.ranks.proofs.Spans
use Rattle.ranks.proofs.Mixing
use Rattle.ranks.proofs.Picks

module _ {F : Type 0} {o : Ops F} (l : Laws o) where
  open o use {add as ◌+◌, neg}

  infixl 65 ◌+◌
  -- Rows are fixed.
  pub fixed_list : (rows : List (List F)) (m : ℕ) → AllByRecursion (Row o m) rows → AllByRecursion (AllByRecursion (Fixed o)) rows
  fixed_list [] m h = tt
  fixed_list (r ∷ rows) m h = (h.0.1, fixed_list rows m h.1)

  -- Opposites of fixed elements.
  pub fixed_negs : (cs : List F) → AllByRecursion (Fixed o) cs → AllByRecursion (Fixed o) (map neg cs)
  fixed_negs [] h = tt
  fixed_negs (c ∷ cs) h = (Twists.fixed_neg l c h.0, fixed_negs cs h.1)

  -- What was taken off put on again.
  pub back_on : (u v : List F) → length u ≡ length v → plus o (plus o u (map neg v)) v ≡ u
  back_on [] [] e = refl
  back_on [] (y ∷ v) e = absurd (omega arith)
  back_on (x ∷ u) [] e = absurd (omega arith)
  back_on (x ∷ u) (y ∷ v) e = cons_path (gather x y) (back_on u v (omega arith))
    where
      gather : (p q : F) → p + neg q + q ≡ p
      gather p q = simp (ring, l)

  -- Clearing keeps the length.
  pub length_clear : (marks : List Bool) (hs : List (List F)) (v : List F) → length (clear o marks hs v) ≡ length v
  length_clear marks hs v =
      Rows.length_plus l v (map neg (mix o (length v) hs (pick marks v))) ∙ omega (arith, length-map (mix o (length v) hs (pick marks v)) neg, Mixing.length_mix l (length v) hs (pick marks v))

  module _ (m : ℕ) (h : List F) (marks : List Bool) (rows : List (List F)) (formed : Reduced o m marks rows) (row : Row o m h) where
    abbrev left : List F
    left = clear o marks rows h

    abbrev taken : List F
    taken = mix o (length h) rows (pick marks h)

    -- As many entries of h are picked as there are rows.
    picked : length (pick marks h) ≡ length rows
    picked = Picks.length_pick marks h (row.0 ∙ sym formed.size) ∙ formed.full

    -- They are fixed.
    fixed_pick : AllByRecursion (Fixed o) (pick marks h)
    fixed_pick = Spans.all_pick l (Fixed o) marks h row.1

    -- So are the rows.
    fixed_rows : AllByRecursion (AllByRecursion (Fixed o)) rows
    fixed_rows = fixed_list rows m formed.rows

    -- What is taken off is a sum of the rows.
    pub taken_spanned : AmongRows o m rows taken
    taken_spanned = (pick marks h, picked, fixed_pick, ap (λ n. mix o n rows (pick marks h)) row.0)

    -- What is left has as many places as h.
    pub length_left : length left ≡ m
    length_left = length_clear marks rows h ∙ row.0

    -- It is fixed.
    pub fixed_left : AllByRecursion (Fixed o) left
    fixed_left =
        Rows.fixed_plus l h (map neg taken) row.1
        (fixed_negs taken (Mixing.fixed_mix l (length h) rows (pick marks h) fixed_rows fixed_pick))

    -- h is what is left and what was taken.
    pub whole : plus o left taken ≡ h
    whole = back_on h taken (sym (Mixing.length_mix l (length h) rows (pick marks h)))

    -- It is zero at the pivots.
    pub left_zero : AllByRecursion (Zero o) (pick marks left)
    left_zero =
        subst (AllByRecursion (Zero o)) (sym (Picks.pick_plus l marks h (map neg taken) (sym (length-map taken neg ∙ Mixing.length_mix l (length h) rows (pick marks h)))
        ∙ ap (plus o (pick marks h)) (Picks.pick_map neg marks taken ∙ ap (map neg) same))) (Mixing.all_away l (pick marks h))
      where
        same : pick marks (mix o (length h) rows (pick marks h)) ≡ pick marks h
        same =
            ap (λ n. pick marks (mix o n rows (pick marks h))) (row.0 ∙ sym formed.size)
            ∙ Picks.pick_mix l 0 marks rows (pick marks h) formed.pivots picked (omega (arith, picked, formed.full))

    -- A row that is cleared to zero is a sum of the rows.
    pub none_spanned : AllByRecursion (Zero o) left → AmongRows o m rows h
    none_spanned z = subst (AmongRows o m rows) (sym (Mixing.zero_plus l left taken (length_clear marks rows h ∙ sym (Mixing.length_mix l (length h) rows (pick marks h))) z) ∙ whole) taken_spanned

    -- A row that is a sum of the rows is cleared to zero.
    pub all_taken : AmongRows o m rows h → AllByRecursion (Zero o) left
    all_taken s = subst (λ w. AllByRecursion (Zero o) (plus o h (map neg w))) (sym same) (Mixing.all_away l h)
      where
        cs_are : pick marks h ≡ s.0
        cs_are =
            ap (pick marks) (s.3 ∙ ap (λ n. mix o n rows s.0) (sym formed.size))
            ∙ Picks.pick_mix l 0 marks rows s.0 formed.pivots s.1 (omega (arith, s.1, formed.full))

        same : mix o (length h) rows (pick marks h) ≡ h
        same = ap (λ w. mix o (length h) rows w) cs_are ∙ ap (λ n. mix o n rows s.0) row.0 ∙ sym s.3
