-- Codewords of A and B that are in reach of words.
use Rattle.std.proofs.Common.{◌≢◌, List, [], ◌∷◌, map, refl, ap, arith, lit≤}
use Rattle.fields.specs.Field.{Laws}
use Rattle.fields.specs.Residues.{sum, opposite, product, power}
use Rattle.fields.specs.Elements.{Elem, element, elem, elems, ops}
use Rattle.fields.specs.Shipped.{gf16, mod13}
use Rattle.fields.proofs.Carrier
use Rattle.fields.specs.ShippedLaws.{gf16_laws}
use Rattle.sheets.specs.Sheets.{Text}
use Rattle.codes.specs.declared.shape.Code.{Code}
use Rattle.codes.specs.Fitness.{Made}
use Rattle.ranks.specs.Ranks.{Spanned}
use Rattle.ranks.proofs.Spans
use Rattle.hints.specs.Splittings.{Given, Parts, Splits}
use Rattle.figures.specs.Figures.{text_a, text_b, told, untold, both_hints_b, Reaches}
use Rattle.figures.proofs.Reaching.{rank_none, rank_one, weighs_none, full_only, full_splits, reaches}
use Rattle.figures.proofs.Unreached.{laws_13}

-- The laws of GF(16), on elements.
pub laws_16 : Laws (ops gf16)
laws_16 = Carrier.ops_laws gf16_laws

-- In kind 2 the code 8 is not zero.
pub eight : elem gf16 8 ≢ (ops gf16).zero
unfolding element ops
eight e = omega (arith, ap (λ (x : Elem gf16). x.code) e)

-- Nor is 12.
twelve : elem gf16 12 ≢ (ops gf16).zero
unfolding element ops
twelve e = omega (arith, ap (λ (x : Elem gf16). x.code) e)

-- 5 is a fixed multiple of 8.
pub five_from_eight : Spanned (ops gf16) (elem gf16 8 ∷ []) (elem gf16 5)
unfolding element ops sum product power
five_from_eight = (elem gf16 6 ∷ [], refl, (refl, tt), refl)

-- The blocks of A without hints.
abbrev untold_a : List (Given (Elem mod13))
untold_a = untold mod13 ∷ untold mod13 ∷ untold mod13 ∷ untold mod13 ∷ []

-- Those of B.
abbrev pub untold_b : List (Given (Elem gf16))
untold_b = untold gf16 ∷ untold gf16 ∷ []

-- The blocks of A with the column hint (1) in blocks 2 and 3.
abbrev two_hints_a : List (Given (Elem mod13))
two_hints_a = untold mod13 ∷ told mod13 [] ((1 ∷ []) ∷ []) ∷ told mod13 [] ((1 ∷ []) ∷ []) ∷ untold mod13 ∷ []

-- In B the difference 8 5 is row part, and 0 9 is column part.
abbrev row_8_5 : Parts (Elem gf16)
row_8_5 = record { full = elems gf16 (0 ∷ 0 ∷ []); row = elems gf16 (8 ∷ 5 ∷ []); column = elems gf16 (0 ∷ 0 ∷ []) }

abbrev column_0_9 : Parts (Elem gf16)
column_0_9 = record { full = elems gf16 (0 ∷ 0 ∷ []); row = elems gf16 (0 ∷ 0 ∷ []); column = elems gf16 (0 ∷ 9 ∷ []) }

-- They split so.
row_8_5_splits : Splits (ops gf16) (told gf16 (8 ∷ []) []) (elems gf16 (8 ∷ 5 ∷ [])) row_8_5
unfolding sum element ops
row_8_5_splits = record { sum = refl; full_size = refl; row_size = refl; rows = (Spans.spanned_first laws_16 (elem gf16 8) [], (five_from_eight, tt)); columns = ([], refl, refl) }

column_0_9_splits : Splits (ops gf16) (told gf16 [] ((0 ∷ 1 ∷ []) ∷ [])) (elems gf16 (0 ∷ 9 ∷ [])) column_0_9
unfolding sum product power element ops
column_0_9_splits = record { sum = refl; full_size = refl; row_size = refl; rows = (([], refl, tt, refl), (([], refl, tt, refl), tt)); columns = (elem gf16 9 ∷ [], refl, refl) }

-- What the sheet B says.
abbrev pub said_b : Text
said_b = text_b (1 ∷ 2 ∷ []) (1 ∷ 2 ∷ 1 ∷ 2 ∷ [])

-- In A the difference 1 is column part where its symbol is given up.
abbrev column_13 : Parts (Elem mod13)
column_13 = record { full = elems mod13 (0 ∷ []); row = elems mod13 (0 ∷ []); column = elems mod13 (1 ∷ []) }

-- It splits so.
column_13_splits : Splits (ops mod13) (told mod13 [] ((1 ∷ []) ∷ [])) (elems mod13 (1 ∷ [])) column_13
unfolding element ops
column_13_splits = record { sum = refl; full_size = refl; row_size = refl; rows = (([], refl, tt, refl), tt); columns = (elem mod13 1 ∷ [], refl, refl) }

module _ {c : Code} (made : Made mod13 text_a c) where
  -- The word of 5 3 is in reach of 8 12 1 4 without hints, with one error.
  pub a_one_error : Reaches mod13 c untold_a (8 ∷ 12 ∷ 1 ∷ 4 ∷ []) (8 ∷ 11 ∷ 1 ∷ 4 ∷ []) 1 ((0 ∷ []) ∷ (1 ∷ []) ∷ (0 ∷ []) ∷ (0 ∷ []) ∷ [])
  unfolding sum opposite product power element ops
  a_one_error =
      reaches made (elems mod13 (5 ∷ 3 ∷ [])) (map (λ e. full_only (ops mod13) (elems mod13 e)) ((0 ∷ []) ∷ (1 ∷ []) ∷ (0 ∷ []) ∷ (0 ∷ []) ∷ [])) refl refl
      (full_splits laws_13 _, (full_splits laws_13 _, (full_splits laws_13 _, (full_splits laws_13 _, tt)))) refl (
        0,
        rank_none laws_13 (elems mod13 (0 ∷ [])) (refl, tt),
        1,
        (1, rank_one laws_13 _ [] laws_13.one_zero tt, 0, weighs_none laws_13 (map (elems mod13) ((0 ∷ []) ∷ (0 ∷ []) ∷ [])) ((refl, tt), ((refl, tt), tt)), refl),
        refl,
      ) (lit≤ tt)

  -- It is in reach of 8 12 2 4 with two hints, with no error.
  pub a_two_hints : Reaches mod13 c two_hints_a (8 ∷ 12 ∷ 2 ∷ 4 ∷ []) (8 ∷ 11 ∷ 1 ∷ 4 ∷ []) 0 ((0 ∷ []) ∷ (0 ∷ []) ∷ (0 ∷ []) ∷ (0 ∷ []) ∷ [])
  unfolding sum opposite product power element ops
  a_two_hints =
      reaches made (elems mod13 (5 ∷ 3 ∷ [])) (full_only (ops mod13) (elems mod13 (0 ∷ [])) ∷ column_13 ∷ column_13 ∷ full_only (ops mod13) (elems mod13 (0 ∷ [])) ∷ []) refl refl
      (full_splits laws_13 _, (column_13_splits, (column_13_splits, (full_splits laws_13 _, tt)))) refl
      (weighs_none laws_13 (map (elems mod13) ((0 ∷ []) ∷ (0 ∷ []) ∷ (0 ∷ []) ∷ (0 ∷ []) ∷ [])) ((refl, tt), ((refl, tt), ((refl, tt), ((refl, tt), tt))))) (lit≤ tt)

module _ {c : Code} (made : Made gf16 said_b c) where
  -- The word of 1 1 is in reach of 8 4 3 4 without hints, with one error.
  pub b_one_error : Reaches gf16 c untold_b (8 ∷ 4 ∷ 3 ∷ 4 ∷ []) (0 ∷ 1 ∷ 3 ∷ 4 ∷ []) 1 ((8 ∷ 5 ∷ []) ∷ (0 ∷ 0 ∷ []) ∷ [])
  unfolding sum opposite product power element ops
  b_one_error =
      reaches made (elems gf16 (1 ∷ 1 ∷ [])) (map (λ e. full_only (ops gf16) (elems gf16 e)) ((8 ∷ 5 ∷ []) ∷ (0 ∷ 0 ∷ []) ∷ [])) refl refl
      (full_splits laws_16 _, (full_splits laws_16 _, tt)) refl
      (1, rank_one laws_16 (elem gf16 8) (elem gf16 5 ∷ []) eight (five_from_eight, tt), 0, weighs_none laws_16 (elems gf16 (0 ∷ 0 ∷ []) ∷ []) ((refl, (refl, tt)), tt), refl) (lit≤ tt)

  -- It is in reach of 8 4 3 13 with both hints, with no error.
  pub b_two_hints : Reaches gf16 c both_hints_b (8 ∷ 4 ∷ 3 ∷ 13 ∷ []) (0 ∷ 1 ∷ 3 ∷ 4 ∷ []) 0 ((0 ∷ 0 ∷ []) ∷ (0 ∷ 0 ∷ []) ∷ [])
  unfolding sum opposite product power element ops
  b_two_hints =
      reaches made (elems gf16 (1 ∷ 1 ∷ [])) (row_8_5 ∷ column_0_9 ∷ []) refl refl (row_8_5_splits, (column_0_9_splits, tt)) refl
      (weighs_none laws_16 (map (elems gf16) ((0 ∷ 0 ∷ []) ∷ (0 ∷ 0 ∷ []) ∷ [])) ((refl, (refl, tt)), ((refl, (refl, tt)), tt))) (lit≤ tt)

  -- Without hints the word of 8 12 is, with one error.
  pub b_without_hints : Reaches gf16 c untold_b (8 ∷ 4 ∷ 3 ∷ 13 ∷ []) (4 ∷ 4 ∷ 3 ∷ 13 ∷ []) 1 ((12 ∷ 0 ∷ []) ∷ (0 ∷ 0 ∷ []) ∷ [])
  unfolding sum opposite product power element ops
  b_without_hints =
      reaches made (elems gf16 (8 ∷ 12 ∷ [])) (map (λ e. full_only (ops gf16) (elems gf16 e)) ((12 ∷ 0 ∷ []) ∷ (0 ∷ 0 ∷ []) ∷ [])) refl refl
      (full_splits laws_16 _, (full_splits laws_16 _, tt)) refl
      (1, rank_one laws_16 (elem gf16 12) (elem gf16 0 ∷ []) twelve (Spans.spanned_zero laws_16 _, tt), 0, weighs_none laws_16 (elems gf16 (0 ∷ 0 ∷ []) ∷ []) ((refl, (refl, tt)), tt), refl) (lit≤ tt)
