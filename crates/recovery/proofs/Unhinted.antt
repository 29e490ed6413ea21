-- Without hints the full part is the difference: no row hints span zero alone, no column hints mix to zeros.
use Rattle.std.proofs.Common.{◌≡◌, ℕ, suc, ◌+◌, List, [], ◌∷◌, ◌++◌, map, length, get_or, drop, replicate, sym, refl, ap, ◌∙◌, subst, ap₂, arith, take-append-drop}
use Rattle.std.proofs.lemmas.List.{length-map, length-drop}
use Rattle.std.specs.List.{AllByRecursion}
use Rattle.fields.specs.Field.{Ops, Zero, plus}
use Rattle.fields.specs.Field as field
use Rattle.fields.specs.Meaning.{Meaning, Laws}
use Rattle.fields.specs.Elements.{Elem, elem, elems, ops}
use Rattle.fields.proofs.Carrier
use Rattle.fields.specs.Lists.{all_follow}
use Rattle.fields.specs.Rows
use Rattle.skew.proofs.Sums.{cons_path}
use Rattle.ranks.specs.Ranks.{Spanned, total, cut}
use Rattle.ranks.proofs.Spans
use Rattle.ranks.proofs.Mixing
use Rattle.codes.specs.declared.shape.Code.{Code}
use Rattle.codes.specs.Holdings.{held, stops}
use Rattle.hints.specs.declared.parts.Parts.{Parts as PartsCodes}
use Rattle.hints.specs.Splittings.{Given, Parts, Splits, Splitting, full_part, row_count, column_count}
use Rattle.hints.specs.Outcomes.{parts_from, parts_of}
use Rattle.recovery.specs.Reach.{apart}
use Rattle.recovery.proofs.BareBlocks.{none, all_none}

module _ {F : Type 0} {o : Ops F} (l : field.Laws o) where
  -- No elements span zero alone.
  pub spanned_by_none : (x : F) → Spanned o [] x → x ≡ o.zero
  spanned_by_none x s = s.3 ∙ Spans.comb_nil l s.0

  -- A row of zeros adds nothing.
  plus_none : (u v : List F) → length v ≡ length u → AllByRecursion (Zero o) v → plus o u v ≡ u
  plus_none [] [] e z = refl
  plus_none [] (y ∷ v) e z = absurd (omega arith)
  plus_none (x ∷ u) [] e z = refl
  plus_none (x ∷ u) (y ∷ v) e z = ap₂ (λ y f. y ∷ f) (ap (o.add x) z.0 ∙ l.add_zero x) (plus_none u v (omega arith) z.1)

  -- So nothing else than the difference of a block is its full part.
  pub full_is : (e : List F) (p : Parts F) → Splits o none e p → p.full ≡ e
  full_is e p s = sym (s.sum ∙ ap (plus o p.full) (plus_none p.row p.column (column_size ∙ sym s.row_size) column) ∙ plus_none p.full p.row (s.row_size ∙ sym s.full_size) row)
    where
      column_size : length p.column ≡ length e
      column_size = ap length s.columns.2 ∙ Mixing.length_mix l (length e) [] s.columns.0

      column : AllByRecursion (Zero o) p.column
      column = subst (AllByRecursion (Zero o)) (sym s.columns.2) (Mixing.mix_none l (length e) s.columns.0)

      row : AllByRecursion (Zero o) p.row
      row = all_follow (Spanned o []) (Zero o) spanned_by_none p.row s.rows

  -- So it is in every block.
  pub all_full : (n : ℕ) (es : List (List F)) (ps : List (Parts F)) → Splitting o (replicate n none) es ps → full_part ps ≡ es
  all_full ℕ.zero [] [] s = refl
  all_full ℕ.zero [] (p ∷ ps) s = absurd s
  all_full ℕ.zero (e ∷ es) ps s = absurd s
  all_full (suc n) [] ps s = absurd s
  all_full (suc n) (e ∷ es) [] s = absurd s
  all_full (suc n) (e ∷ es) (p ∷ ps) s = ap₂ (λ f fs. f ∷ fs) (full_is e p s.0) (all_full n es ps s.1)

-- The full part of three words that are cut into blocks is the first of them, cut so.
pub full_word : {F : Type 0} (ns : List ℕ) (f r k : List F) → full_part (parts_from ns f r k) ≡ cut ns f
full_word [] f r k = refl
full_word (n ∷ ns) f r k = cons_path refl (full_word ns (drop n f) (drop n r) (drop n k))

-- Two words of the length of all blocks that are cut alike are the same.
one_word : {F : Type 0} (ns : List ℕ) (u v : List F) → length u ≡ total ns → length v ≡ total ns → cut ns u ≡ cut ns v → u ≡ v
one_word [] [] [] p q e = refl
one_word [] [] (y ∷ v) p q e = absurd (omega arith)
one_word [] (x ∷ u) v p q e = absurd (omega arith)
one_word (n ∷ ns) u v p q e =
    sym (take-append-drop n u)
    ∙ ap₂ ◌++◌ (ap (λ xs. get_or xs 0 []) e) (one_word ns (drop n u) (drop n v) (omega (arith, length-drop n u)) (omega (arith, length-drop n v)) (ap (drop 1) e))
    ∙ take-append-drop n v

-- The full part of a splitting without hints, as one word, is the word less the codeword.
pub difference_is : {m : Meaning} (l : Laws m) (c : Code) (gs : List (Given (Elem m))) (w v : List (Elem m)) (p : PartsCodes)
    → length gs ≡ length (held c.lengths) → row_count gs + column_count gs ≡ 0
    → length w ≡ length (stops c.course) → length v ≡ length (stops c.course) → length (held p.full) ≡ length (stops c.course)
    → Splitting (ops m) gs (apart m c w v) (parts_of m (held c.lengths) p) → elems m (held p.full) ≡ plus (ops m) w (map (ops m).neg v)
difference_is {m} l c gs w v p many bare ew ev ep s =
    one_word (held c.lengths) (elems m (held p.full)) (plus (ops m) w (map (ops m).neg v)) (length-map (held p.full) (elem m) ∙ ep ∙ sym c.sum) long
    (sym (full_word (held c.lengths) (elems m (held p.full)) (elems m (held p.row)) (elems m (held p.column)))
    ∙ all_full (Carrier.ops_laws l) (length (held c.lengths)) (apart m c w v) (parts_of m (held c.lengths) p)
    (subst (λ hs. Splitting (ops m) hs (apart m c w v) (parts_of m (held c.lengths) p)) (all_none (length (held c.lengths)) gs many bare) s))
  where
    long : length (plus (ops m) w (map (ops m).neg v)) ≡ total (held c.lengths)
    long = Rows.length_plus (Carrier.ops_laws l) w (map (ops m).neg v) ∙ omega (arith, length-map v (ops m).neg, ew, ev, c.sum)
