-- What the program's forms show of the hints that they hold.
--
--   way m n b     the pivots of the column hints, and the map by the row hints' digits
use Rattle.std.proofs.Common.{◌≡◌, ℕ, suc, ◌-◌, ◌≤◌, List, [], ◌∷◌, ◌++◌, map, length, take, replicate, sym, refl, ap, ◌∙◌, subst, arith, length-append}
use Rattle.std.proofs.Math.Path.{fun_ext}
use Rattle.std.proofs.lemmas.List.{length-map, length-replicate}
use Rattle.std.proofs.lemmas.List.{take_at, drop_at}
use Rattle.std.specs.List.{AllByRecursion}
use Rattle.fields.specs.Field.{Zero, comb}
use Rattle.fields.specs.Field as field
use Rattle.fields.specs.Meaning.{Meaning, Laws}
use Rattle.fields.specs.Elements.{Elem, ops, basis_of, digits_of}
use Rattle.fields.proofs.Carrier
use Rattle.fields.proofs.Digits
use Rattle.skew.proofs.Sums.{cons_path}
use Rattle.ranks.specs.Ranks.{Spanned}
use Rattle.ranks.specs.Reduction.{Row, AmongRows, Reduced, marks_of, rows_of, eight}
use Rattle.ranks.specs.RowSteps.{clear}
use Rattle.ranks.proofs.Spans
use Rattle.ranks.proofs.PaddedDigits
use Rattle.ranks.proofs.DigitSpans
use Rattle.hints.specs.declared.block.BlockHints.{BlockHints}
use Rattle.hints.specs.Splittings.{Given}
use Rattle.hints.specs.Holdings.{padded, BlockHolds}
use Rattle.hints.specs.Shown.{from_digits, shown, reduced_by}
use Rattle.hints.proofs.Leasts.{Way, Reduces, Leads}
use Rattle.hints.proofs.Likeness.{Like}
use Rattle.hints.proofs.ByDigits
use Rattle.hints.proofs.Narrow
use Rattle.hints.proofs.Narrow.{Late}

abbrev pub way : (m : Meaning) → ℕ → BlockHints → Way (Elem m)
way m n b = record { pivots = take n (marks_of b.columns); reduce = reduced_by m b.rows }

module _ {m : Meaning} (l : Laws m) where
  -- The laws of the elements.
  laws : field.Laws (ops m)
  laws = Carrier.ops_laws l

  -- What stands behind the last element does not count.
  comb_front : (u z bs : List (Elem m)) → length u ≡ length bs → comb (ops m) (u ++ z) bs ≡ comb (ops m) u bs
  comb_front [] z [] e = Spans.comb_nil laws z
  comb_front [] z (b ∷ bs) e = absurd (omega arith)
  comb_front (x ∷ u) z [] e = absurd (omega arith)
  comb_front (x ∷ u) z (b ∷ bs) e = ap ((ops m).add ((ops m).mul x b)) (comb_front u z bs (omega arith))

  -- An element has its digits.
  from_eight : (x : Elem m) → from_digits m (eight m x) ≡ x
  from_eight x =
      let D = Digits.digits_linear l in
      ap (from_digits m) (PaddedDigits.eight_is l x) ∙ comb_front (digits_of m x) (PaddedDigits.behind l) (basis_of m) (D.digits_length x) ∙ D.digits_give x

  -- So has each of a list.
  all_from_eight : (xs : List (Elem m)) → map (from_digits m) (map (eight m) xs) ≡ xs
  all_from_eight [] = refl
  all_from_eight (x ∷ xs) = cons_path (from_eight x) (all_from_eight xs)

  -- Zeros.
  zeros_behind : (n : ℕ) → AllByRecursion (Zero (ops m)) (replicate n (ops m).zero)
  zeros_behind ℕ.zero = tt
  zeros_behind (suc n) = (refl, zeros_behind n)

  -- A row with zeros behind has eight places.
  length_padded : (v : List (Elem m)) → length v ≤ 8 → length (padded m v) ≡ 8
  length_padded v le = length-append v (replicate (8 - length v) (ops m).zero) ∙ omega (arith, length-replicate (8 - length v) (ops m).zero)

  -- The first places of rows with zeros behind are the rows.
  padded_front : (n : ℕ) (hs : List (List (Elem m))) → AllByRecursion (Row (ops m) n) hs → map (take n) (map (padded m) hs) ≡ hs
  padded_front n [] k = refl
  padded_front n (h ∷ hs) k = cons_path (take_at h (replicate (8 - length h) (ops m).zero) n k.0.0) (padded_front n hs k.1)

  -- The others are zero.
  padded_late : (n : ℕ) (hs : List (List (Elem m))) → AllByRecursion (Row (ops m) n) hs → AllByRecursion (Late (ops m) n) (map (padded m) hs)
  padded_late n [] k = tt
  padded_late n (h ∷ hs) k =
      (subst (AllByRecursion (Zero (ops m))) (sym (drop_at h (replicate (8 - length h) (ops m).zero) n k.0.0)) (zeros_behind (8 - length h)), padded_late n hs k.1)

  module _ {n : ℕ} {b : BlockHints} {g : Given (Elem m)} (le : n ≤ 8) (k : BlockHolds m n b g) where
    -- The rows of digits are those of elements that the row hints span.
    lifted : (es : List (Elem m)) × (map (eight m) es ≡ rows_of m b.rows) × AllByRecursion (Spanned (ops m) g.rows) es
    lifted = DigitSpans.lifted laws 8 (eight m) (PaddedDigits.numerals l) g.rows (rows_of m b.rows) k.rows.from

    -- The row hints that are shown are these elements.
    rows_are : (shown m n b).rows ≡ lifted.0
    rows_are = ap (map (from_digits m)) (sym lifted.1) ∙ all_from_eight lifted.0

    -- Their digits are the rows.
    digits_are : map (eight m) (shown m n b).rows ≡ rows_of m b.rows
    digits_are = ap (map (eight m)) rows_are ∙ lifted.1

    -- Elements are reduced by them.
    row_reduces : Reduces (ops m) (reduced_by m b.rows) (shown m n b).rows
    row_reduces = subst (λ T. Reduces (ops m) T (shown m n b).rows) (fun_ext (λ x. sym (same x))) (ByDigits.by_digits laws 8 (eight m) (PaddedDigits.numerals l) (marks_of b.rows) (shown m n b).rows formed)
      where
        formed : Reduced (ops m) 8 (marks_of b.rows) (map (eight m) (shown m n b).rows)
        formed = subst (Reduced (ops m) 8 (marks_of b.rows)) (sym digits_are) k.rows.form.reduced

        same : (x : Elem m) → reduced_by m b.rows x ≡ (ops m).add x ((ops m).neg (ByDigits.off laws 8 (eight m) (PaddedDigits.numerals l) (marks_of b.rows) (shown m n b).rows formed x))
        same x =
            ap (λ w. from_digits m (clear (ops m) (marks_of b.rows) w (eight m x))) (sym digits_are)
            ∙ ap (from_digits m) (sym (ByDigits.clear_digits laws 8 (eight m) (PaddedDigits.numerals l) (marks_of b.rows) (shown m n b).rows formed x)) ∙ from_eight _

    -- The rows of the column hints are zero behind the block.
    columns_late : AllByRecursion (Late (ops m) n) (rows_of m b.columns)
    columns_late = Narrow.all_late laws n 8 (map (padded m) g.columns) (rows_of m b.columns) (padded_late n g.columns k.fit) k.columns.from

    -- The hints that are shown lead to the least splitting.
    pub block_leads : Leads (ops m) n (way m n b) (shown m n b)
    block_leads = record { reduced = Narrow.narrow_reduced laws n 8 (marks_of b.columns) (rows_of m b.columns) le k.columns.form.reduced columns_late; reduces = row_reduces }

    -- They are like the hints that are held.
    pub block_alike : Like (ops m) n (shown m n b) g
    block_alike = record {
      alike = record {
        rows = subst (λ es. AllByRecursion (Spanned (ops m) es) g.rows) (sym rows_are) (DigitSpans.all_down laws 8 (eight m) (PaddedDigits.numerals l) lifted.0 g.rows (subst (λ rs. AllByRecursion (AmongRows (ops m) 8 rs) (map (eight m) g.rows)) (sym lifted.1) k.rows.back));
        rows_back = subst (AllByRecursion (Spanned (ops m) g.rows)) (sym rows_are) lifted.2;
        columns = subst (AllByRecursion (AmongRows (ops m) n (shown m n b).columns)) (padded_front n g.columns k.fit) (Narrow.all_among_take laws n 8 (rows_of m b.columns) (map (padded m) g.columns) le k.columns.back);
        columns_back = subst (λ hs. AllByRecursion (AmongRows (ops m) n hs) (shown m n b).columns) (padded_front n g.columns k.fit) (Narrow.all_among_take laws n 8 (map (padded m) g.columns) (rows_of m b.columns) le k.columns.from);
      };
      fit = block_leads.reduced.rows;
      fit_other = k.fit;
    }

    -- They are as many.
    pub shown_sizes : (length (shown m n b).rows ≡ length g.rows) × (length (shown m n b).columns ≡ length g.columns)
    shown_sizes = (
      length-map (rows_of m b.rows) (from_digits m) ∙ k.rows.size ∙ length-map g.rows (eight m),
      length-map (rows_of m b.columns) (take n) ∙ k.columns.size ∙ length-map g.columns (padded m),
    )

    -- A row of the block is cleared by them as the row with zeros behind is by the form, which stays zero behind the block.
    pub narrow_clear : (v : List (Elem m)) → length v ≡ n
        → (clear (ops m) (take n (marks_of b.columns)) (map (take n) (rows_of m b.columns)) v ≡ take n (clear (ops m) (marks_of b.columns) (rows_of m b.columns) (padded m v)))
        × Late (ops m) n (clear (ops m) (marks_of b.columns) (rows_of m b.columns) (padded m v))
    narrow_clear v e = (
      subst (λ i. clear (ops m) (take i (marks_of b.columns)) (map (take i) (rows_of m b.columns)) v ≡ take i (clear (ops m) (marks_of b.columns) (rows_of m b.columns) (padded m v))) e (Narrow.clear_front laws (marks_of b.columns) (rows_of m b.columns) v (replicate (8 - length v) (ops m).zero) red late),
      subst (λ i. Late (ops m) i (clear (ops m) (marks_of b.columns) (rows_of m b.columns) (padded m v))) e (Narrow.clear_behind laws (marks_of b.columns) (rows_of m b.columns) v (replicate (8 - length v) (ops m).zero) red late (zeros_behind (8 - length v))),
    )
      where
        red : Reduced (ops m) (length (padded m v)) (marks_of b.columns) (rows_of m b.columns)
        red = subst (λ i. Reduced (ops m) i (marks_of b.columns) (rows_of m b.columns)) (sym (length_padded v (omega arith))) k.columns.form.reduced

        late : AllByRecursion (Late (ops m) (length v)) (rows_of m b.columns)
        late = subst (λ i. AllByRecursion (Late (ops m) i) (rows_of m b.columns)) (sym e) columns_late
