-- Hints that span the same have the same splittings, and are as many where they are independent.
--
--   Like o n g h     g and h are alike, and their column hints are rows of n fixed coefficients
use Rattle.std.proofs.Common.{◌≡◌, ℕ, ◌≤◌, List, [], ◌∷◌, map, length, sym, refl, ◌∙◌, subst, arith}
use Rattle.std.specs.List.{AllByRecursion}
use Rattle.fields.specs.Field.{Ops, Laws, Fixed}
use Rattle.ranks.specs.Reduction.{mix, Row, AmongRows}
use Rattle.ranks.proofs.Spans
use Rattle.ranks.proofs.Bases
use Rattle.ranks.proofs.RowSpans
use Rattle.hints.specs.Splittings.{Given, Parts, Splits, Splitting, IndependentHints, Alike, Everywhere}
use Rattle.hints.specs.Least.{LeastParts}
use Rattle.hints.proofs.FreeRows

pub record Like {F : Type 0} (o : Ops F) (n : ℕ) (g h : Given F) : Type 0 where
  pub alike : Alike o n g h
  pub fit : AllByRecursion (Row o n) g.columns
  pub fit_other : AllByRecursion (Row o n) h.columns

module _ {F : Type 0} {o : Ops F} where
  -- The other way round.
  pub like_sym : {n : ℕ} {g h : Given F} → Like o n g h → Like o n h g
  like_sym k = record {
    alike = record { rows = k.alike.rows_back; rows_back = k.alike.rows; columns = k.alike.columns_back; columns_back = k.alike.columns };
    fit = k.fit_other;
    fit_other = k.fit;
  }

module _ {F : Type 0} {o : Ops F} (l : Laws o) where
  -- In every block.
  pub everywhere_sym : (ns : List ℕ) (gs hs : List (Given F)) → Everywhere (Like o) ns gs hs → Everywhere (Like o) ns hs gs
  everywhere_sym [] [] [] k = tt
  everywhere_sym [] [] (h ∷ hs) k = absurd k
  everywhere_sym [] (g ∷ gs) hs k = absurd k
  everywhere_sym (n ∷ ns) [] hs k = absurd k
  everywhere_sym (n ∷ ns) (g ∷ gs) [] k = absurd k
  everywhere_sym (n ∷ ns) (g ∷ gs) (h ∷ hs) k = (like_sym k.0, everywhere_sym ns gs hs k.1)

  -- What splits a block under the one hints splits it under the others.
  pub splits_like : (n : ℕ) (g h : Given F) (e : List F) (p : Parts F) → length e ≡ n → Like o n g h → Splits o g e p → Splits o h e p
  splits_like n g h e p len k P = record {
    sum = P.sum;
    full_size = P.full_size;
    row_size = P.row_size;
    rows = Spans.spanned_all l h.rows g.rows p.row k.alike.rows_back P.rows;
    columns = (again.0, again.1, P.columns.2 ∙ again.3);
  }
    where
      again : (ys : List F) × (length ys ≡ length h.columns) × (AllByRecursion (Fixed o) P.columns.0 → AllByRecursion (Fixed o) ys) × (mix o (length e) g.columns P.columns.0 ≡ mix o (length e) h.columns ys)
      again =
          RowSpans.mix_again l (length e) g.columns h.columns P.columns.0 P.columns.1
          (subst (λ i. AllByRecursion (Row o i) g.columns) (sym len) k.fit)
          (subst (λ i. AllByRecursion (AmongRows o i h.columns) g.columns) (sym len) k.alike.columns_back)

  -- Parts of least rank are so under both.
  pub least_like : (n : ℕ) (g h : Given F) (e : List F) (p : Parts F) → length e ≡ n → Like o n g h → LeastParts o g e p → LeastParts o h e p
  least_like n g h e p len k P =
      record { splits = splits_like n g h e p len k P.splits; least = λ q r s Q R S. P.least q r s (splits_like n h g e q len (like_sym k) Q) R S }

  -- The blocks, by the lengths of the difference itself.
  blocks_like : (gs hs : List (Given F)) (es : List (List F)) (ps : List (Parts F)) → Everywhere (Like o) (map length es) gs hs → Splitting o gs es ps → Splitting o hs es ps
  blocks_like [] [] es ps k P = P
  blocks_like [] (h ∷ hs) [] ps k P = absurd k
  blocks_like [] (h ∷ hs) (e ∷ es) ps k P = absurd k
  blocks_like (g ∷ gs) hs [] ps k P = absurd k
  blocks_like (g ∷ gs) [] (e ∷ es) ps k P = absurd k
  blocks_like (g ∷ gs) (h ∷ hs) (e ∷ es) [] k P = absurd P
  blocks_like (g ∷ gs) (h ∷ hs) (e ∷ es) (p ∷ ps) k P = (splits_like (length e) g h e p refl k.0 P.0, blocks_like gs hs es ps k.1 P.1)

  -- A splitting under the one hints is one under the others.
  pub splitting_like : (ns : List ℕ) (gs hs : List (Given F)) (es : List (List F)) (ps : List (Parts F)) → Everywhere (Like o) ns gs hs → map length es ≡ ns → Splitting o gs es ps → Splitting o hs es ps
  splitting_like ns gs hs es ps k e P = blocks_like gs hs es ps (subst (λ ms. Everywhere (Like o) ms gs hs) (sym e) k) P

  -- Independent hints that span the same are as many.
  pub same_counts : (n : ℕ) (g h : Given F) → IndependentHints o n g → IndependentHints o n h → Alike o n g h
      → (length g.rows ≡ length h.rows) × (length g.columns ≡ length h.columns)
  same_counts n g h i j a =
      let up : length g.rows ≤ length h.rows = Bases.exchange l g.rows h.rows i.rows a.rows_back in
      let down : length h.rows ≤ length g.rows = Bases.exchange l h.rows g.rows j.rows a.rows in
      let wide : length g.columns ≤ length h.columns = FreeRows.rows_few l n h.columns g.columns i.fit i.columns a.columns_back in
      let narrow : length h.columns ≤ length g.columns = FreeRows.rows_few l n g.columns h.columns j.fit j.columns a.columns in
      (omega arith, omega arith)
