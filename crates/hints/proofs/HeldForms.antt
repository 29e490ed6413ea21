-- Forms that hold the hints of one block: what they span is what the hints span, and a row more is a hint more.
--
--   row_spanned, row_among, row_more             of row hints, by the digits of their elements
--   column_spanned, column_among, column_more    of column hints, with zeros behind them
use Rattle.std.proofs.Common.{◌≡◌, ℕ, suc, ◌+◌, ◌-◌, ◌≤◌, List, [], ◌∷◌, ◌++◌, map, length, replicate, sym, refl, ap, ◌∙◌, subst, arith}
use Rattle.std.specs.List.{AllByRecursion}
use Rattle.fields.specs.Field as field
use Rattle.fields.specs.Meaning.{Meaning, Laws}
use Rattle.fields.specs.Elements.{Elem, ops}
use Rattle.fields.proofs.Carrier
use Rattle.ranks.specs.Ranks.{Spanned}
use Rattle.ranks.specs.Reduction.{Row, AmongRows, rows_of, Extended, eight}
use Rattle.ranks.specs.declared.rows.Form.{Form}
use Rattle.ranks.proofs.RowSpans
use Rattle.ranks.proofs.PaddedDigits
use Rattle.ranks.proofs.DigitSpans
use Rattle.hints.specs.Holdings.{padded, FormHolds}
use Rattle.hints.proofs.Padding

module _ {m : Meaning} (l : Laws m) where
  -- The laws of the elements.
  abbrev laws : field.Laws (ops m)
  laws = Carrier.ops_laws l

  -- A form with one row more holds one row more.
  pub form_more : {f g : Form} {h : List (Elem m)} (hs : List (List (Elem m))) → Row (ops m) 8 h → AllByRecursion (Row (ops m) 8) hs → FormHolds m f hs → Extended m f h g → FormHolds m g (h ∷ hs)
  form_more {f} {g} {h} hs row rows held more = record {
    form = more.form;
    size = more.more ∙ ap suc held.size;
    from = RowSpans.all_among_trans laws 8 (h ∷ hs) (h ∷ rows_of m f) (rows_of m g) (row, held.form.reduced.rows)
        (RowSpans.among_first laws 8 h hs row.0, RowSpans.all_among_more laws 8 h hs (rows_of m f) row.0 held.from) more.from;
    back = (more.back.0, RowSpans.all_among_trans laws 8 (rows_of m g) (rows_of m f) hs held.form.reduced.rows more.back.1 held.back);
  }

  -- The digits of elements are rows.
  digit_rows : (us : List (Elem m)) → AllByRecursion (Row (ops m) 8) (map (eight m) us)
  digit_rows [] = tt
  digit_rows (u ∷ us) = ((PaddedDigits.numerals l).fixed u, digit_rows us)

  module _ {f : Form} (us : List (Elem m)) (held : FormHolds m f (map (eight m) us)) (x : Elem m) where
    -- Digits that the form spans are those of an element that the row hints span.
    pub row_spanned : AmongRows (ops m) 8 (rows_of m f) (eight m x) → Spanned (ops m) us x
    row_spanned k =
        DigitSpans.spans_down laws 8 (eight m) (PaddedDigits.numerals l) us x (RowSpans.among_trans laws 8 (map (eight m) us) (rows_of m f) (eight m x) held.form.reduced.rows held.from k)

    -- And back.
    pub row_among : Spanned (ops m) us x → AmongRows (ops m) 8 (rows_of m f) (eight m x)
    row_among k = RowSpans.among_trans laws 8 (rows_of m f) (map (eight m) us) (eight m x) (digit_rows us) held.back (DigitSpans.spans_up laws 8 (eight m) (PaddedDigits.numerals l) us x k)

    -- One row hint more.
    pub row_more : {g : Form} → Extended m f (eight m x) g → FormHolds m g (map (eight m) (x ∷ us))
    row_more more = form_more (map (eight m) us) ((PaddedDigits.numerals l).fixed x) (digit_rows us) held more

  module _ {f : Form} (n : ℕ) (few : n ≤ 8) (hs : List (List (Elem m))) (rows : AllByRecursion (Row (ops m) n) hs) (held : FormHolds m f (map (padded m) hs)) (h : List (Elem m)) (row : Row (ops m) n h) where
    -- With the zeros there are eight places.
    wide : n + (8 - n) ≡ 8
    wide = omega arith

    -- A row of n places, and the zeros behind it.
    pad : (u : List (Elem m)) → length u ≡ n → Padding.behind (ops m) (8 - n) u ≡ padded m u
    pad u e = ap (λ k. u ++ replicate (8 - k) (ops m).zero) (sym e)

    -- The same of each of a list.
    pads : (us : List (List (Elem m))) → AllByRecursion (Row (ops m) n) us → map (Padding.behind (ops m) (8 - n)) us ≡ map (padded m) us
    pads [] r = refl
    pads (u ∷ us) r = ap (λ w. w ∷ map (Padding.behind (ops m) (8 - n)) us) (pad u r.0.0) ∙ ap (λ w. padded m u ∷ w) (pads us r.1)

    -- A row with zeros behind has eight places.
    pub column_row : Row (ops m) 8 (padded m h)
    column_row = subst (Row (ops m) 8) (pad h row.0) (subst (λ k. Row (ops m) k (Padding.behind (ops m) (8 - n) h)) wide (Padding.row_behind laws n (8 - n) h row))

    -- So have all.
    column_rows : AllByRecursion (Row (ops m) 8) (map (padded m) hs)
    column_rows = subst (AllByRecursion (Row (ops m) 8)) (pads hs rows) (subst (λ k. AllByRecursion (Row (ops m) k) (map (Padding.behind (ops m) (8 - n)) hs)) wide (Padding.rows_behind laws n (8 - n) hs rows))

    -- Told with zeros behind and without.
    same : AmongRows (ops m) (n + (8 - n)) (map (Padding.behind (ops m) (8 - n)) hs) (Padding.behind (ops m) (8 - n) h) ≡ AmongRows (ops m) 8 (map (padded m) hs) (padded m h)
    same =
        ap (λ k. AmongRows (ops m) k (map (Padding.behind (ops m) (8 - n)) hs) (Padding.behind (ops m) (8 - n) h)) wide
        ∙ ap (λ w. AmongRows (ops m) 8 w (Padding.behind (ops m) (8 - n) h)) (pads hs rows) ∙ ap (AmongRows (ops m) 8 (map (padded m) hs)) (pad h row.0)

    -- A row that the form spans is one that the column hints span.
    pub column_spanned : AmongRows (ops m) 8 (rows_of m f) (padded m h) → AmongRows (ops m) n hs h
    column_spanned k =
        Padding.among_before laws n (8 - n) hs h rows row.0
        (subst (λ T. T) (sym same) (RowSpans.among_trans laws 8 (map (padded m) hs) (rows_of m f) (padded m h) held.form.reduced.rows held.from k))

    -- And back.
    pub column_among : AmongRows (ops m) n hs h → AmongRows (ops m) 8 (rows_of m f) (padded m h)
    column_among k = RowSpans.among_trans laws 8 (rows_of m f) (map (padded m) hs) (padded m h) column_rows held.back (subst (λ T. T) same (Padding.among_behind laws n (8 - n) hs h rows k))

    -- One column hint more.
    pub column_more : {g : Form} → Extended m f (padded m h) g → FormHolds m g (map (padded m) (h ∷ hs))
    column_more more = form_more (map (padded m) hs) column_row column_rows held more
