-- Ranks of small blocks, splittings without hints, and what is in reach of a word, told of the sheet in place of the code.
--
--   full_only o e      the parts of a block whose difference e is full part
use Rattle.std.proofs.Common.{◌≡◌, ℕ, suc, ◌+◌, ◌*◌, ◌≤◌, ◌≢◌, List, [], ◌∷◌, map, length, replicate, sym, refl, ap, ◌∙◌, subst, ap₂, arith}
use Rattle.std.specs.List.{AllByRecursion}
use Rattle.fields.specs.Field.{Ops, Laws, Zero, plus}
use Rattle.fields.specs.Meaning.{Meaning}
use Rattle.fields.specs.Elements.{Elem, ops}
use Rattle.skew.specs.Annihilators.{places}
use Rattle.skew.specs.Interpolation.{values}
use Rattle.skew.specs.Roots.{Independent}
use Rattle.sheets.specs.Sheets.{Text}
use Rattle.ranks.specs.Ranks.{Spanned, IsRank, Weighs, cut}
use Rattle.ranks.specs.Reduction.{zeros, mix}
use Rattle.ranks.proofs.Spans
use Rattle.ranks.proofs.Bases
use Rattle.ranks.proofs.Weighing
use Rattle.codes.specs.declared.shape.Code.{Code}
use Rattle.codes.specs.Codes.{word_of}
use Rattle.codes.specs.Fitness.{route, Made}
use Rattle.hints.specs.Splittings.{Given, Parts, Splits, Splitting, full_part, row_count, column_count}
use Rattle.recovery.specs.Reach.{InReach}
use Rattle.recovery.proofs.BareBlocks.{none}
use Rattle.recovery.proofs.Unhinted.{spanned_by_none, all_full}

module _ {F : Type 0} {o : Ops F} (l : Laws o) where
  -- One element other than zero is independent.
  pub independent_one : (x : F) → x ≢ o.zero → Independent o (x ∷ [])
  independent_one x n = Bases.ind_more l x [] (Bases.ind_nil l) (λ s. n (spanned_by_none l x s))

  -- Zeros are spanned by no elements.
  zeros_spanned : (xs : List F) → AllByRecursion (Zero o) xs → AllByRecursion (Spanned o []) xs
  zeros_spanned [] h = tt
  zeros_spanned (x ∷ xs) h = (([], refl, tt, h.0), zeros_spanned xs h.1)

  -- Zeros have the rank 0.
  pub rank_none : (xs : List F) → AllByRecursion (Zero o) xs → IsRank o xs 0
  rank_none xs h = Bases.rank_by l xs [] (Bases.ind_nil l) (zeros_spanned xs h) tt

  -- An element other than zero and its fixed multiples have the rank 1.
  pub rank_one : (x : F) (xs : List F) → x ≢ o.zero → AllByRecursion (Spanned o (x ∷ [])) xs → IsRank o (x ∷ xs) 1
  rank_one x xs n h = Bases.rank_by l (x ∷ xs) (x ∷ []) (independent_one x n) (Spans.spanned_first l x [], h) (Spans.spanned_first l x xs, tt)

  -- A word of zeros has no weight.
  pub weighs_none : (word : List (List F)) → AllByRecursion (AllByRecursion (Zero o)) word → Weighs o word 0
  weighs_none [] h = refl
  weighs_none (xs ∷ word) h = (0, rank_none xs h.0, 0, weighs_none word h.1, refl)

abbrev pub full_only : {F : Type 0} → Ops F → List F → Parts F
full_only o e = record { full = e; row = zeros o (length e); column = zeros o (length e) }

module _ {F : Type 0} {o : Ops F} (l : Laws o) where
  -- Zeros add nothing.
  plus_zeros : (e : List F) → plus o e (zeros o (length e)) ≡ e
  plus_zeros [] = refl
  plus_zeros (x ∷ e) = ap₂ (λ y f. y ∷ f) (l.add_zero x) (plus_zeros e)

  -- There are as many as they are said to be, and they are what no rows mix to.
  length_zeros : (n : ℕ) → length (zeros o n) ≡ n
  length_zeros ℕ.zero = refl
  length_zeros (suc n) = ap suc (length_zeros n)

  mix_none : (n : ℕ) → zeros o n ≡ mix o n [] []
  mix_none ℕ.zero = refl
  mix_none (suc n) = ap (λ f. o.zero ∷ f) (mix_none n)

  -- They are spanned by no elements.
  zeros_from_none : (n : ℕ) → AllByRecursion (Spanned o []) (zeros o n)
  zeros_from_none ℕ.zero = tt
  zeros_from_none (suc n) = (([], refl, tt, refl), zeros_from_none n)

  -- Without hints a block's difference is full part.
  pub full_splits : (e : List F) → Splits o none e (full_only o e)
  full_splits e = record {
    sum = sym (ap (plus o e) (ap (plus o (zeros o (length e))) (ap (zeros o) (sym (length_zeros (length e)))) ∙ plus_zeros (zeros o (length e))) ∙ plus_zeros e);
    full_size = refl;
    row_size = length_zeros (length e);
    rows = zeros_from_none (length e);
    columns = ([], refl, mix_none (length e));
  }

  -- All splittings without hints weigh the same.
  pub weigh_the_same : (n : ℕ) (es : List (List F)) (ps qs : List (Parts F)) (t u : ℕ) → Splitting o (replicate n none) es ps → Splitting o (replicate n none) es qs
      → Weighs o (full_part ps) t → Weighs o (full_part qs) u → t ≡ u
  weigh_the_same n es ps qs t u s r v w =
      (Weighing.ranked l).one_weight es t u (subst (λ word. Weighs o word t) (all_full l n es ps s) v) (subst (λ word. Weighs o word u) (all_full l n es qs r) w)

module _ {m : Meaning} {t : Text} {c : Code} (made : Made m t c) where
  -- The word of a message, by the points of the sheet.
  pub word_by_sheet : (f : List (Elem m)) {v : List (Elem m)} → values (ops m) f (places m (route t.blocks t.parameters t.locators)) ≡ v → word_of m c f ≡ v
  word_by_sheet f e = ap (λ ps. values (ops m) f (places m ps)) made.points ∙ e

  -- The word of f is in reach where a splitting of the difference, cut into the blocks of the sheet, is within the sheet's budget.
  pub reaches : {gs : List (Given (Elem m))} {w v : List (Elem m)} {n : ℕ} {full : List (List (Elem m))} (f : List (Elem m)) (parts : List (Parts (Elem m)))
      → length f ≡ t.dimension → values (ops m) f (places m (route t.blocks t.parameters t.locators)) ≡ v
      → Splitting (ops m) gs (cut t.blocks (plus (ops m) w (map (ops m).neg v))) parts → full_part parts ≡ full → Weighs (ops m) full n
      → 2 * n + (row_count gs + column_count gs) + t.dimension ≤ length (route t.blocks t.parameters t.locators)
      → (r : InReach m c gs w v) × (r.errors ≡ n) × (full_part r.parts ≡ full)
  reaches {gs} {w} {v} {n} f parts size word splitting is weight budget = (
    record {
      codeword = (f, size ∙ sym made.dimension, word_by_sheet f word);
      parts = parts;
      splitting = subst (λ ns. Splitting (ops m) gs (cut ns (plus (ops m) w (map (ops m).neg v))) parts) (sym made.lengths) splitting;
      errors = n;
      weight = subst (λ word. Weighs (ops m) word n) (sym is) weight;
      budget = omega (arith, budget, made.dimension, ap length made.points);
    },
    refl,
    is,
  )
