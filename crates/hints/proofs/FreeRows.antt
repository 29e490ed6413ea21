-- Rows of which only zeros combine to zero: there are no more of them than rows that span them.
--
--   FormOf o n hs     a reduced form of hs, with as many rows
use Rattle.std.proofs.Common.{◌≡◌, ℕ, suc, ◌≤◌, Bool, true, false, ◌≢◌, ◌⊎◌, List, [], ◌∷◌, map, length, replicate, sym, refl, ap, ◌∙◌, subst, inl, inr, arith}
use Rattle.std.proofs.lemmas.List.{length-map, length-replicate}
use Rattle.std.specs.List.{AllByRecursion}
use Rattle.fields.specs.Field.{Ops, Laws, Zero, plus, scale}
use Rattle.fields.specs.Twists
use Rattle.fields.specs.Inverses
use Rattle.fields.specs.Basics
use Rattle.fields.specs.Basics.{ring}
use Rattle.skew.specs.Products.{coef}
use Rattle.skew.proofs.Sums.{cons_path}
use Rattle.skew.proofs.Vanishing
use Rattle.ranks.specs.Reduction.{count, heads, tails, mix, Row, AmongRows, Pivots, Reduced}
use Rattle.ranks.specs.RowSteps.{clear}
use Rattle.ranks.proofs.Mixing
use Rattle.ranks.proofs.RowSpans
use Rattle.ranks.proofs.ClearedRow
use Rattle.ranks.proofs.Inserting
use Rattle.ranks.proofs.Putting
use Rattle.hints.specs.Splittings.{FreeRows}

pub record FormOf {F : Type 0} (o : Ops F) (n : ℕ) (hs : List (List F)) : Type 0 where
  pub marks : List Bool
  pub rows : List (List F)
  pub reduced : Reduced o n marks rows
  pub as_many : length rows ≡ length hs
  pub from : AllByRecursion (AmongRows o n hs) rows

-- No more are marked than there are marks.
count_few : (marks : List Bool) → count marks ≤ length marks
count_few [] = omega arith
count_few (true ∷ marks) = omega (arith, count_few marks)
count_few (false ∷ marks) = omega (arith, count_few marks)

-- Where nothing is marked.
pub count_none : (n : ℕ) → count (replicate n false) ≡ 0
count_none ℕ.zero = refl
count_none (suc n) = count_none n

module _ {F : Type 0} {o : Ops F} (l : Laws o) where
  open o use {zero, one, add as ◌+◌, mul as ◌*◌, neg}

  infixl 65 ◌+◌
  infixl 70 ◌*◌
  -- No rows have their pivots nowhere.
  no_pivots : (n : ℕ) → Pivots o 0 (replicate n false) []
  no_pivots ℕ.zero = tt
  no_pivots (suc n) = no_pivots n

  -- A row is zero, or some place of it is not.
  seen : (v : List F) → AllByRecursion (Zero o) v ⊎ ((p : ℕ) × (coef o v p ≢ zero))
  seen [] = inl tt
  seen (x ∷ v) = elim (l.same x zero) [ yes e ↦ elim (seen v) [ inl z ↦ inl (e, z) | inr q ↦ inr (suc q.0, q.1) ] | no n ↦ inr (0, n) ]

  -- Independent rows without the first.
  free_rest : (n : ℕ) (h : List F) (hs : List (List F)) → length h ≡ n → FreeRows o n (h ∷ hs) → FreeRows o n hs
  free_rest n h hs e free cs len fix z =
      (free (zero ∷ cs) (ap suc len) (Twists.fixed_zero l, fix)
      (subst (AllByRecursion (Zero o)) (sym (Mixing.mix_cons l n h hs zero cs e ∙ RowSpans.plus_none l n h (mix o n hs cs) (e ∙ sym (Mixing.length_mix l n hs cs)))) z)).1

  -- The others do not span the first.
  free_first : (n : ℕ) (h : List F) (hs : List (List F)) → length h ≡ n → FreeRows o n (h ∷ hs) → ¬ AmongRows o n hs h
  free_first n h hs e free s =
      Inverses.one_zero l (sym (Basics.neg_neg l one) ∙ ap neg (free (neg one ∷ s.0) (ap suc s.1) (Twists.fixed_neg l one (Twists.fixed_one l), s.2) gone).0 ∙ Basics.neg_zero l)
    where
      away : (v : List F) → AllByRecursion (Zero o) (plus o (scale o (neg one) v) v)
      away [] = tt
      away (x ∷ v) = (cancel x, away v)
        where
          cancel : (y : F) → neg one * y + y ≡ zero
          cancel y = simp (ring, l)

      gone : AllByRecursion (Zero o) (mix o n (h ∷ hs) (neg one ∷ s.0))
      gone = subst (AllByRecursion (Zero o)) (sym (Mixing.mix_cons l n h hs (neg one) s.0 e ∙ ap (plus o (scale o (neg one) h)) (sym s.3))) (away h)

  -- One row more.
  one_more : (n : ℕ) (h : List F) (hs : List (List F)) {marks : List Bool} {rows : List (List F)} → Row o n h → (f : FormOf o n hs)
      → Reduced o n marks rows → length rows ≡ suc (length f.rows) → AllByRecursion (AmongRows o n (h ∷ f.rows)) rows → FormOf o n (h ∷ hs)
  one_more n h hs {marks} {rows} row f red more from = record {
    marks = marks;
    rows = rows;
    reduced = red;
    as_many = more ∙ ap suc f.as_many;
    from = RowSpans.all_among_trans l n (h ∷ hs) (h ∷ f.rows) rows (row, f.reduced.rows) (RowSpans.among_first l n h hs row.0, RowSpans.all_among_more l n h hs f.rows row.0 f.from) from;
  }

  -- Independent rows have a reduced form with as many.
  form_of : (n : ℕ) (hs : List (List F)) → AllByRecursion (Row o n) hs → FreeRows o n hs → FormOf o n hs
  form_of n [] k free =
      record { marks = replicate n false; rows = []; reduced = record { size = length-replicate n false; full = count_none n; pivots = no_pivots n; rows = tt }; as_many = refl; from = tt }
  form_of n (h ∷ hs) k free =
      let f = form_of n hs k.1 (free_rest n h hs k.0.0 free) in
      elim (seen (clear o f.marks f.rows h)) [
        | inl z ↦ absurd (free_first n h hs k.0.0 free (RowSpans.among_trans l n hs f.rows h f.reduced.rows f.from (ClearedRow.none_spanned l n h f.marks f.rows f.reduced k.0 z)))
        | inr q ↦
            let i = Inserting.put_in l n h f.marks f.rows f.reduced k.0 q.0 q.1 in
            one_more n h hs k.0 f i.0 (Putting.length_put _ _ _ ∙ ap suc (length-map f.rows _)) i.2
      ]

  -- There are no more of them than places.
  free_few : (n : ℕ) (hs : List (List F)) → AllByRecursion (Row o n) hs → FreeRows o n hs → length hs ≤ n
  free_few n hs k free = let f = form_of n hs k free in omega (arith, f.as_many, f.reduced.full, f.reduced.size, count_few f.marks)

  -- Rows times zeros.
  mix_zeros : (n : ℕ) (hs : List (List F)) (ys xs : List F) → AllByRecursion (Zero o) ys → mix o n hs ys ≡ mix o n [] xs
  mix_zeros ℕ.zero hs ys xs z = refl
  mix_zeros (suc n) hs ys xs z = cons_path (Vanishing.comb_null l (heads o hs) ys z) (mix_zeros n (tails o hs) ys xs z)

  module _ (n : ℕ) (hs : List (List F)) where
    -- The coefficients with which rows are sums of hs, as rows.
    abbrev coefficients : (ks : List (List F)) → AllByRecursion (AmongRows o n hs) ks → List (List F)
    coefficients [] s = []
    coefficients (k ∷ ks) s = s.0.0 ∷ coefficients ks s.1

    -- One for each.
    length_coefficients : (ks : List (List F)) (s : AllByRecursion (AmongRows o n hs) ks) → length (coefficients ks s) ≡ length ks
    length_coefficients [] s = refl
    length_coefficients (k ∷ ks) s = ap suc (length_coefficients ks s.1)

    -- They are rows, with a place for each of hs.
    coefficient_rows : (ks : List (List F)) (s : AllByRecursion (AmongRows o n hs) ks) → AllByRecursion (Row o (length hs)) (coefficients ks s)
    coefficient_rows [] s = tt
    coefficient_rows (k ∷ ks) s = ((s.0.1, s.0.2), coefficient_rows ks s.1)

    -- A sum of the rows by that of their coefficients.
    mix_through : (ks : List (List F)) (s : AllByRecursion (AmongRows o n hs) ks) (xs : List F) → length xs ≡ length ks → AllByRecursion (Row o n) ks
        → mix o n ks xs ≡ mix o n hs (mix o (length hs) (coefficients ks s) xs)
    mix_through [] s xs e k = sym (mix_zeros n hs (mix o (length hs) [] xs) xs (Mixing.mix_none l (length hs) xs))
    mix_through (h ∷ ks) s [] e k = absurd (omega arith)
    mix_through (h ∷ ks) s (x ∷ xs) e k =
        let rest = mix o (length hs) (coefficients ks s.1) xs in
        Mixing.mix_cons l n h ks x xs k.0.0 ∙ ap (λ w. plus o (map (o.mul x) w) (mix o n ks xs)) s.0.3
        ∙ ap (plus o (map (o.mul x) (mix o n hs s.0.0))) (mix_through ks s.1 xs (omega arith) k.1)
        ∙ ap (λ w. plus o w (mix o n hs rest)) (sym (Mixing.mix_by l x n hs s.0.0))
        ∙ sym (Mixing.mix_plus l n hs (map (o.mul x) s.0.0) rest)
        ∙ ap (mix o n hs) (sym (Mixing.mix_cons l (length hs) s.0.0 (coefficients ks s.1) x xs s.0.1))

    -- Independent rows are no more than rows that span them.
    pub rows_few : (ks : List (List F)) → AllByRecursion (Row o n) ks → FreeRows o n ks → AllByRecursion (AmongRows o n hs) ks → length ks ≤ length hs
    rows_few ks k free s = omega (arith, free_few (length hs) (coefficients ks s) (coefficient_rows ks s) apart, length_coefficients ks s)
      where
        apart : FreeRows o (length hs) (coefficients ks s)
        apart cs len fix z =
            free cs (len ∙ length_coefficients ks s) fix
            (subst (AllByRecursion (Zero o)) (sym (mix_through ks s cs (len ∙ length_coefficients ks s) k ∙ mix_zeros n hs (mix o (length hs) (coefficients ks s) cs) [] z)) (Mixing.mix_none l n []))
