-- Hints for B: how they are judged, and what a station answers.
use Rattle.std.proofs.Common.{◌≡◌, ℕ, suc, List, [], ◌∷◌, Result, Ok, Err, sym, refl, ap, ◌∙◌, subst, inl, inr, subst₂, arith, lit<, lit≤}
use Rattle.std.specs.List.{AllByRecursion}
use Rattle.fields.specs.Field.{Zero}
use Rattle.fields.specs.Residues.{product, power}
use Rattle.fields.specs.Elements.{elem, elems, ops}
use Rattle.fields.specs.Shipped.{gf16}
use Rattle.sheets.specs.declared.faults.Fault.{Fault}
use Rattle.sheets.specs.declared.faults.Reason.TheVariants.{DependentHint, Spent}
use Rattle.ranks.specs.Reduction.{AmongRows}
use Rattle.ranks.proofs.Mixing
use Rattle.codes.specs.declared.shape.Code.{Code}
use Rattle.codes.specs.Holdings.{held as numbers}
use Rattle.codes.specs.Fitness.{Made, AllNot}
use Rattle.hints.specs.declared.not_taken.NotTaken.TheVariants as not_taken
use Rattle.hints.specs.Taking.{Unfixed, RowJudged, ColumnJudged}
use Rattle.station.specs.Calls.{row, column, Reply, done, at_station}
use Rattle.station.specs.Positions.{held, Tallied, Position, at}
use Rattle.station.specs.Histories.{History}
use Rattle.figures.specs.Figures.{row_hint_b, both_hints_b}
use Rattle.recovery.proofs.Unhinted.{spanned_by_none}
use Rattle.figures.proofs.Reached.{laws_16, eight, five_from_eight, untold_b, said_b}
use Rattle.figures.proofs.Answering.{row_taken, column_taken, row_turned_down, after, at_end}

-- Without hints the row hint 8 in block 1 is taken.
eight_taken : RowJudged gf16 (2 ∷ 2 ∷ []) 2 untold_b 1 8 (Ok tt)
eight_taken = ((lit≤ tt, lit≤ tt), lit< tt, (λ s. eight (spanned_by_none laws_16 (elem gf16 8) s)), lit< tt)

-- After it the row hint 5 there is dependent.
pub five_dependent : RowJudged gf16 (2 ∷ 2 ∷ []) 2 row_hint_b 1 5 (Err not_taken.Dependent)
five_dependent = ((lit≤ tt, lit≤ tt), lit< tt, five_from_eight)

-- The coefficients 0 and 1 are fixed codes.
fixed : AllNot (Unfixed gf16) (0 ∷ 1 ∷ [])
unfolding product power
fixed ℕ.zero h (inl over) = omega (arith, over)
fixed ℕ.zero h (inr moved) = moved refl
fixed (suc ℕ.zero) h (inl over) = omega (arith, over)
fixed (suc ℕ.zero) h (inr moved) = moved refl
fixed (suc (suc j)) h u = absurd (omega (arith, h))

-- No rows mix to the row 0 1.
not_mixed : ¬ AmongRows (ops gf16) 2 [] (elems gf16 (0 ∷ 1 ∷ []))
unfolding ops
not_mixed (cs, size, all_fixed, e) = laws_16.one_zero (subst (AllByRecursion (Zero (ops gf16))) (sym e) (Mixing.mix_none laws_16 2 cs)).1.0

-- So the column hint (0, 1) in block 2 is taken.
column_judged : ColumnJudged gf16 (2 ∷ 2 ∷ []) 2 row_hint_b 2 (0 ∷ 1 ∷ []) (Ok tt)
column_judged = ((lit≤ tt, lit≤ tt), refl, fixed, not_mixed, lit< tt)

-- After both the row hint 1 in block 2 meets a spent budget.
pub one_spent : RowJudged gf16 (2 ∷ 2 ∷ []) 2 both_hints_b 2 1 (Err not_taken.Spent)
unfolding ops
one_spent = ((lit≤ tt, lit≤ tt), lit< tt, (λ s. laws_16.one_zero (spanned_by_none laws_16 (elem gf16 1) s)), (λ left. omega (arith, left)))

module _ {c : Code} (made : Made gf16 said_b c) where
  -- What is judged of the sheet is so of its code.
  by_code : (P : List ℕ → ℕ → Type 0) → P (2 ∷ 2 ∷ []) 2 → P (numbers c.lengths) c.dimension
  by_code P = subst₂ P (sym made.lengths) (sym made.dimension)

  -- Call by call.
  pub hints_called : (t : Tallied) (w : List ℕ) (rs : List (Result Reply Fault)) (q : Position gf16)
      → History gf16 (at gf16 (held c w untold_b) t) (row 1 8 ∷ row 1 5 ∷ column 2 (0 ∷ 1 ∷ []) ∷ row 2 1 ∷ []) rs q
      → rs ≡ Ok done ∷ Err (at_station DependentHint 0) ∷ Ok done ∷ Err (at_station Spent 0) ∷ []
  hints_called t w rs q h =
      let first = after (row_taken c w untold_b t 1 8 (by_code (λ ns k. RowJudged gf16 ns k untold_b 1 8 (Ok tt)) eight_taken)) h in
      let second = after (row_turned_down c w row_hint_b t 1 5 not_taken.Dependent (by_code (λ ns k. RowJudged gf16 ns k row_hint_b 1 5 (Err not_taken.Dependent)) five_dependent)) first.2 in
      let third = after (column_taken c w row_hint_b t 2 (0 ∷ 1 ∷ []) (by_code (λ ns k. ColumnJudged gf16 ns k row_hint_b 2 (0 ∷ 1 ∷ []) (Ok tt)) column_judged)) second.2 in
      let fourth = after (row_turned_down c w both_hints_b t 2 1 not_taken.Spent (by_code (λ ns k. RowJudged gf16 ns k both_hints_b 2 1 (Err not_taken.Spent)) one_spent)) third.2 in
      first.1 ∙ ap (λ rest. Ok done ∷ rest) (second.1 ∙ ap (λ rest. Err (at_station DependentHint 0) ∷ rest)
      (third.1 ∙ ap (λ rest. Ok done ∷ rest) (fourth.1 ∙ ap (λ rest. Err (at_station Spent 0) ∷ rest) (at_end fourth.2))))
