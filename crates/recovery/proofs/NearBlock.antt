-- The difference of two rows that have splittings under the same hints is spanned by few elements: what spans both full parts, the row hints,
-- and an element for each column hint.
--
--   spanning       these elements
--   near_block     so many span the difference
use Rattle.std.proofs.Common.{◌≡◌, ℕ, ◌+◌ as ◌+ℕ◌, List, [], ◌∷◌, ◌++◌, map, length, sym, ap, ◌∙◌, subst, arith, length-append}
use Rattle.std.proofs.lemmas.List.{length-map}
use Rattle.std.specs.List.{AllByRecursion}
use Rattle.fields.specs.Field.{Ops, Laws, Fixed, plus}
use Rattle.fields.specs.Rows
use Rattle.skew.proofs.Sums
use Rattle.ranks.specs.Ranks.{Spanned, IsRank}
use Rattle.ranks.specs.Reduction.{mix, Row}
use Rattle.ranks.proofs.Spans
use Rattle.ranks.proofs.Bases
use Rattle.ranks.proofs.Mixing
use Rattle.ranks.proofs.ClearedRow
use Rattle.hints.specs.Splittings.{Given, Parts, Splits}
use Rattle.hints.proofs.Clears
use Rattle.recovery.proofs.Placewise

module _ {F : Type 0} {o : Ops F} (l : Laws o) where
  open o use {neg}

  -- Elements span themselves.
  own : (es : List F) → AllByRecursion (Spanned o es) es
  own [] = tt
  own (e ∷ es) = (Spans.spanned_first l e es, Spans.all_more l e es es (own es))

  -- With others behind.
  front : (es fs : List F) → AllByRecursion (Spanned o (es ++ fs)) es
  front [] fs = tt
  front (e ∷ es) fs = (Spans.spanned_first l e (es ++ fs), Spans.all_more l e (es ++ fs) es (front es fs))

  -- And with others before.
  behind : (es fs : List F) → AllByRecursion (Spanned o (es ++ fs)) fs
  behind [] fs = own fs
  behind (e ∷ es) fs = Spans.all_more l e (es ++ fs) fs (behind es fs)

  -- The elements of a difference are spanned by what spans both.
  all_less : (es us vs : List F) → AllByRecursion (Spanned o es) us → AllByRecursion (Spanned o es) vs → AllByRecursion (Spanned o es) (plus o us (map neg vs))
  all_less es us vs h k = Clears.all_sum l es us (map neg vs) h (Clears.all_neg l es vs k)

  -- A difference of sums.
  regroup : (p1 p2 p3 q1 q2 q3 : List F)
      → plus o (plus o q1 (plus o q2 q3)) (map neg (plus o p1 (plus o p2 p3))) ≡ plus o (plus o q1 (map neg p1)) (plus o (plus o q2 (map neg p2)) (plus o q3 (map neg p3)))
  regroup p1 p2 p3 q1 q2 q3 = simp (Clears.map_plus l neg (Placewise.neg_linear l), Sums.plus_assoc l, Clears.plus_left_comm l)

  -- How long a difference is.
  length_minus : (n : ℕ) (u v : List F) → length u ≡ n → length v ≡ n → length (plus o u (map neg v)) ≡ n
  length_minus n u v e k = Rows.length_plus l u (map neg v) ∙ omega (arith, length-map v neg, e, k)

  module _ {n : ℕ} {g : Given F} {d e : List F} {p q : Parts F} (r t : ℕ) (size : length d ≡ n) (size' : length e ≡ n) (fit : AllByRecursion (Row o n) g.columns)
      (P : Splits o g d p) (Q : Splits o g e q) (R : IsRank o p.full r) (T : IsRank o q.full t) where
    -- What spans the full parts, and an element for each column hint.
    D : (es : List F) × (length es ≡ r) × AllByRecursion (Spanned o es) p.full
    D = Bases.rank_spans l p.full r R

    -- The same of the second.
    E : (es : List F) × (length es ≡ t) × AllByRecursion (Spanned o es) q.full
    E = Bases.rank_spans l q.full t T

    -- The elements that take the column hints.
    abbrev xs : List F
    xs = plus o Q.columns.0 (map neg P.columns.0)

    -- All of them.
    abbrev spanning : List F
    spanning = D.0 ++ (E.0 ++ (g.rows ++ xs))

    -- As many as the full parts weigh, and the hints.
    count : length spanning ≡ r +ℕ t +ℕ (length g.rows +ℕ length g.columns)
    count =
        omega (
          arith,
          length-append D.0 (E.0 ++ (g.rows ++ xs)),
          length-append E.0 (g.rows ++ xs),
          length-append g.rows xs,
          length_minus (length g.columns) Q.columns.0 P.columns.0 Q.columns.1 P.columns.1,
          D.1,
          E.1,
        )

    -- All but the first of them are spanned,
    by_others : AllByRecursion (Spanned o spanning) (E.0 ++ (g.rows ++ xs))
    by_others = behind D.0 (E.0 ++ (g.rows ++ xs))

    -- and the row hints and the elements for the column hints.
    by_hints : AllByRecursion (Spanned o spanning) (g.rows ++ xs)
    by_hints = Spans.spanned_all l spanning (E.0 ++ (g.rows ++ xs)) (g.rows ++ xs) by_others (behind E.0 (g.rows ++ xs))

    -- The full parts.
    fulls : AllByRecursion (Spanned o spanning) (plus o q.full (map neg p.full))
    fulls =
        all_less spanning q.full p.full
        (Spans.spanned_all l spanning E.0 q.full (Spans.spanned_all l spanning (E.0 ++ (g.rows ++ xs)) E.0 by_others (front E.0 (g.rows ++ xs))) E.2)
        (Spans.spanned_all l spanning D.0 p.full (front D.0 (E.0 ++ (g.rows ++ xs))) D.2)

    -- The row parts.
    rows : AllByRecursion (Spanned o spanning) (plus o q.row (map neg p.row))
    rows = all_less spanning q.row p.row (Spans.spanned_all l spanning g.rows q.row by_rows Q.rows) (Spans.spanned_all l spanning g.rows p.row by_rows P.rows)
      where
        by_rows : AllByRecursion (Spanned o spanning) g.rows
        by_rows = Spans.spanned_all l spanning (g.rows ++ xs) g.rows by_hints (front g.rows xs)

    -- The column hints are fixed.
    fixed : AllByRecursion (AllByRecursion (Fixed o)) g.columns
    fixed = ClearedRow.fixed_list l g.columns n fit

    -- The difference of the column parts is a sum of the column hints.
    columns_are : plus o q.column (map neg p.column) ≡ mix o n g.columns xs
    columns_are =
        ap (λ w. plus o w (map neg p.column)) (Q.columns.2 ∙ ap (λ i. mix o i g.columns Q.columns.0) size')
        ∙ ap (λ w. plus o (mix o n g.columns Q.columns.0) (map neg w)) (P.columns.2 ∙ ap (λ i. mix o i g.columns P.columns.0) size)
        ∙ ap (plus o (mix o n g.columns Q.columns.0)) (sym (Placewise.mix_map l neg (Placewise.neg_linear l) n g.columns P.columns.0 fixed))
        ∙ sym (Mixing.mix_plus l n g.columns Q.columns.0 (map neg P.columns.0))

    columns : AllByRecursion (Spanned o spanning) (plus o q.column (map neg p.column))
    columns =
        subst (AllByRecursion (Spanned o spanning)) (sym columns_are)
        (Clears.all_mix l n g.columns spanning xs fixed (Spans.spanned_all l spanning (g.rows ++ xs) xs by_hints (behind g.rows xs)))

    -- The whole difference is the sum of these.
    difference_is : plus o (plus o q.full (map neg p.full)) (plus o (plus o q.row (map neg p.row)) (plus o q.column (map neg p.column))) ≡ plus o e (map neg d)
    difference_is =
        sym (regroup p.full p.row p.column q.full q.row q.column)
        ∙ ap (λ w. plus o w (map neg (plus o p.full (plus o p.row p.column)))) (sym Q.sum) ∙ ap (λ w. plus o e (map neg w)) (sym P.sum)

    -- So as many elements span the difference of the rows.
    pub near_block : (es : List F) × (length es ≡ r +ℕ t +ℕ (length g.rows +ℕ length g.columns)) × AllByRecursion (Spanned o es) (plus o e (map neg d))
    near_block = (
      spanning,
      count,
      subst (AllByRecursion (Spanned o spanning)) difference_is
          (Clears.all_sum l spanning (plus o q.full (map neg p.full)) (plus o (plus o q.row (map neg p.row)) (plus o q.column (map neg p.column))) fulls
          (Clears.all_sum l spanning (plus o q.row (map neg p.row)) (plus o q.column (map neg p.column)) rows columns)),
    )
