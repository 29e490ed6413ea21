-- Rows that are zero from some place on: what stands before that place is reduced, spanned and cleared alike.
--
--   Late o n h     h is zero from place n on
use Rattle.std.proofs.Common.{◌≡◌, ℕ, suc, ◌+◌ as ◌+ℕ◌, ◌≤◌, Bool, true, false, List, [], ◌∷◌, ◌++◌, map, length, take, drop, sym, refl, ap, ◌∙◌, subst, arith, length-append}
use Rattle.std.proofs.lemmas.List.{length-map}
use Rattle.std.proofs.Math.Seq.{drop-nil, take-nil}
use Rattle.std.proofs.lemmas.List.{length-take-le, take_at, drop_at, take-map}
use Rattle.std.specs.List.{AllByRecursion}
use Rattle.fields.specs.Field.{Ops, Laws, Zero, Fixed, plus, comb}
use Rattle.fields.specs.Inverses
use Rattle.fields.specs.Basics
use Rattle.fields.specs.Basics.{ring}
use Rattle.skew.specs.Products.{coef}
use Rattle.skew.proofs.Coefficients
use Rattle.skew.proofs.Sums.{cons_path}
use Rattle.ranks.specs.Ranks.{pick}
use Rattle.ranks.specs.Reduction.{count, heads, tails, mix, Row, AmongRows, unit, Pivots, Reduced}
use Rattle.ranks.specs.RowSteps.{clear}

abbrev pub Late : {F : Type 0} → Ops F → ℕ → List F → Type 0
Late o n h = AllByRecursion (Zero o) (drop n h)

-- What holds of each element of a list holds of its first ones.
all_take : {A : Type 0} (P : A → Type 0) (n : ℕ) (xs : List A) → AllByRecursion P xs → AllByRecursion P (take n xs)
all_take P ℕ.zero xs k = tt
all_take P (suc n) [] k = tt
all_take P (suc n) (x ∷ xs) k = (k.0, all_take P n xs k.1)

-- A list from the place after the next on.
drop_next : {A : Type 0} (n : ℕ) (h : List A) → drop n (drop 1 h) ≡ drop (suc n) h
drop_next n [] = drop-nil n
drop_next n (x ∷ h) = refl

-- The first places of a list without its first.
take_next : {A : Type 0} (n : ℕ) (h : List A) → drop 1 (take (suc n) h) ≡ take n (drop 1 h)
take_next n [] = sym (take-nil n)
take_next n (x ∷ h) = refl

-- Where nothing is marked nothing is picked.
none_picked : {A : Type 0} (marks : List Bool) (z : List A) → count marks ≡ 0 → pick marks z ≡ []
none_picked [] z e = refl
none_picked (b ∷ marks) [] e = refl
none_picked (true ∷ marks) (y ∷ z) e = absurd (omega arith)
none_picked (false ∷ marks) (y ∷ z) e = none_picked marks z e

-- Where only first places are marked, only first places are picked.
pick_front : {A : Type 0} (marks : List Bool) (v z : List A) → count (take (length v) marks) ≡ count marks → pick marks (v ++ z) ≡ pick (take (length v) marks) v
pick_front marks [] z e = none_picked marks z (sym e)
pick_front [] (x ∷ v) z e = refl
pick_front (true ∷ marks) (x ∷ v) z e = cons_path refl (pick_front marks v z (omega arith))
pick_front (false ∷ marks) (x ∷ v) z e = pick_front marks v z e

module _ {F : Type 0} {o : Ops F} (l : Laws o) where
  open o use {zero, one, add as ◌+◌, mul as ◌*◌, neg}

  infixl 65 ◌+◌
  infixl 70 ◌*◌
  -- The rows from the next place on.
  late_tails : (n : ℕ) (hs : List (List F)) → AllByRecursion (Late o (suc n)) hs → AllByRecursion (Late o n) (tails o hs)
  late_tails n [] k = tt
  late_tails n (h ∷ hs) k = (subst (AllByRecursion (Zero o)) (sym (drop_next n h)) k.0, late_tails n hs k.1)

  -- Rows of zeros: their first entries.
  zero_heads : (hs : List (List F)) → AllByRecursion (Late o 0) hs → AllByRecursion (Zero o) (heads o hs)
  zero_heads [] k = tt
  zero_heads (h ∷ hs) k = (Coefficients.coef_of l h k.0 0, zero_heads hs k.1)

  -- And what follows.
  zero_tails : (hs : List (List F)) → AllByRecursion (Late o 0) hs → AllByRecursion (Late o 0) (tails o hs)
  zero_tails [] k = tt
  zero_tails ([] ∷ hs) k = (tt, zero_tails hs k.1)
  zero_tails ((x ∷ h) ∷ hs) k = (k.0.1, zero_tails hs k.1)

  -- A combination with zeros as coefficients.
  comb_none : (cs xs : List F) → AllByRecursion (Zero o) cs → comb o cs xs ≡ zero
  comb_none [] xs k = refl
  comb_none (c ∷ cs) [] k = refl
  comb_none (c ∷ cs) (x ∷ xs) k = ap (λ w. w * x + comb o cs xs) k.0 ∙ ap (λ w. zero * x + w) (comb_none cs xs k.1) ∙ simp (ring, l)

  -- A sum of rows that are zero from place n on.
  late_mix : (n m : ℕ) (hs : List (List F)) (xs : List F) → AllByRecursion (Late o n) hs → Late o n (mix o m hs xs)
  late_mix ℕ.zero ℕ.zero hs xs k = tt
  late_mix (suc n) ℕ.zero hs xs k = tt
  late_mix ℕ.zero (suc m) hs xs k = (comb_none (heads o hs) xs (zero_heads hs k), late_mix ℕ.zero m (tails o hs) xs (zero_tails hs k))
  late_mix (suc n) (suc m) hs xs k = late_mix n m (tails o hs) xs (late_tails n hs k)

  -- What they span is so too.
  pub all_late : (n m : ℕ) (hs rs : List (List F)) → AllByRecursion (Late o n) hs → AllByRecursion (AmongRows o m hs) rs → AllByRecursion (Late o n) rs
  all_late n m hs [] k s = tt
  all_late n m hs (r ∷ rs) k s = (subst (Late o n) (sym s.0.3) (late_mix n m hs s.0.0 k), all_late n m hs rs k s.1)

  -- The first entries of the first places of rows.
  take_heads : (n : ℕ) (hs : List (List F)) → heads o (map (take (suc n)) hs) ≡ heads o hs
  take_heads n [] = refl
  take_heads n ([] ∷ hs) = cons_path refl (take_heads n hs)
  take_heads n ((x ∷ h) ∷ hs) = cons_path refl (take_heads n hs)

  -- And what follows.
  take_tails : (n : ℕ) (hs : List (List F)) → tails o (map (take (suc n)) hs) ≡ map (take n) (tails o hs)
  take_tails n [] = refl
  take_tails n (h ∷ hs) = cons_path (take_next n h) (take_tails n hs)

  -- The first places of a sum of rows.
  take_mix : (n m : ℕ) (hs : List (List F)) (xs : List F) → n ≤ m → take n (mix o m hs xs) ≡ mix o n (map (take n) hs) xs
  take_mix ℕ.zero m hs xs e = refl
  take_mix (suc n) ℕ.zero hs xs e = absurd (omega arith)
  take_mix (suc n) (suc m) hs xs e =
      cons_path (ap (λ w. comb o w xs) (sym (take_heads n hs))) (take_mix n m (tails o hs) xs (omega arith) ∙ ap (λ w. mix o n w xs) (sym (take_tails n hs)))

  -- What rows span, their first places span.
  pub all_among_take : (n m : ℕ) (hs rs : List (List F)) → n ≤ m → AllByRecursion (AmongRows o m hs) rs → AllByRecursion (AmongRows o n (map (take n) hs)) (map (take n) rs)
  all_among_take n m hs [] e s = tt
  all_among_take n m hs (r ∷ rs) e s =
      ((s.0.0, s.0.1 ∙ sym (length-map hs (take n)), s.0.2, ap (take n) s.0.3 ∙ take_mix n m hs s.0.0 e), all_among_take n m hs rs e s.1)

  -- A unit row has one at its place.
  unit_one : (n j : ℕ) → suc j ≤ n → coef o (unit o n j) j ≡ one
  unit_one ℕ.zero j e = absurd (omega arith)
  unit_one (suc n) ℕ.zero e = refl
  unit_one (suc n) (suc j) e = unit_one n j (omega arith)

  -- Rows that are zero from place n on have no pivots from there on.
  narrow_count : (n j : ℕ) (marks : List Bool) (hs : List (List F)) → Pivots o j marks hs → j +ℕ count marks ≡ length hs → AllByRecursion (Late o n) hs → count (take n marks) ≡ count marks
  narrow_count ℕ.zero j [] hs h c k = refl
  narrow_count ℕ.zero j (true ∷ marks) hs h c k =
      absurd (Inverses.one_zero l (sym (unit_one (length hs) j (omega arith)) ∙ ap (λ w. coef o w j) (sym h.0) ∙ Coefficients.coef_of l (heads o hs) (zero_heads hs k) j))
  narrow_count ℕ.zero j (false ∷ marks) hs h c k = narrow_count ℕ.zero j marks (tails o hs) h (c ∙ sym (length-map hs (drop 1))) (zero_tails hs k)
  narrow_count (suc n) j [] hs h c k = refl
  narrow_count (suc n) j (true ∷ marks) hs h c k = ap suc (narrow_count n (suc j) marks (tails o hs) h.1 (omega (arith, c, length-map hs (drop 1))) (late_tails n hs k))
  narrow_count (suc n) j (false ∷ marks) hs h c k = narrow_count n j marks (tails o hs) h (c ∙ sym (length-map hs (drop 1))) (late_tails n hs k)

  -- The pivots before place n.
  narrow_pivots : (n j : ℕ) (marks : List Bool) (hs : List (List F)) → Pivots o j marks hs → Pivots o j (take n marks) (map (take n) hs)
  narrow_pivots ℕ.zero j marks hs h = tt
  narrow_pivots (suc n) j [] hs h = tt
  narrow_pivots (suc n) j (true ∷ marks) hs h = (
    take_heads n hs ∙ h.0 ∙ ap (λ i. unit o i j) (sym (length-map hs (take (suc n)))),
    subst (Pivots o (suc j) (take n marks)) (sym (take_tails n hs)) (narrow_pivots n (suc j) marks (tails o hs) h.1),
  )
  narrow_pivots (suc n) j (false ∷ marks) hs h = subst (Pivots o j (take n marks)) (sym (take_tails n hs)) (narrow_pivots n j marks (tails o hs) h)

  -- The first places of rows are rows.
  narrow_rows : (n m : ℕ) (hs : List (List F)) → n ≤ m → AllByRecursion (Row o m) hs → AllByRecursion (Row o n) (map (take n) hs)
  narrow_rows n m [] e k = tt
  narrow_rows n m (h ∷ hs) e k = ((length-take-le n h (omega (arith, k.0.0)), all_take (Fixed o) n h k.0.1), narrow_rows n m hs e k.1)

  -- Reduced rows that are zero from place n on are reduced before it.
  pub narrow_reduced : (n m : ℕ) (marks : List Bool) (hs : List (List F)) → n ≤ m → Reduced o m marks hs → AllByRecursion (Late o n) hs → Reduced o n (take n marks) (map (take n) hs)
  narrow_reduced n m marks hs e red k = record {
    size = length-take-le n marks (omega (arith, red.size));
    full = narrow_count n 0 marks hs red.pivots (omega (arith, red.full)) k ∙ red.full ∙ sym (length-map hs (take n));
    pivots = narrow_pivots n 0 marks hs red.pivots;
    rows = narrow_rows n m hs e red.rows;
  }

  -- The first places of a sum.
  pub take_plus : (n : ℕ) (u v : List F) → take n (plus o u v) ≡ plus o (take n u) (take n v)
  take_plus ℕ.zero u v = refl
  take_plus (suc n) [] v = refl
  take_plus (suc n) (x ∷ u) [] = refl
  take_plus (suc n) (x ∷ u) (y ∷ v) = cons_path refl (take_plus n u v)

  -- A sum of two that are zero from place n on.
  late_plus : (n : ℕ) (u v : List F) → Late o n u → Late o n v → Late o n (plus o u v)
  late_plus n [] v h k = k
  late_plus n (x ∷ u) [] h k = h
  late_plus ℕ.zero (x ∷ u) (y ∷ v) h k = (ap (λ w. w + y) h.0 ∙ ap (λ w. zero + w) k.0 ∙ Basics.add_zero l zero, late_plus ℕ.zero u v h.1 k.1)
  late_plus (suc n) (x ∷ u) (y ∷ v) h k = late_plus n u v h k

  -- Opposites of one.
  late_neg : (n : ℕ) (v : List F) → Late o n v → Late o n (map neg v)
  late_neg ℕ.zero [] h = tt
  late_neg ℕ.zero (x ∷ v) h = (ap neg h.0 ∙ Basics.neg_zero l, late_neg ℕ.zero v h.1)
  late_neg (suc n) [] h = tt
  late_neg (suc n) (x ∷ v) h = late_neg n v h

  module _ (marks : List Bool) (hs : List (List F)) (v z : List F) (red : Reduced o (length (v ++ z)) marks hs) (k : AllByRecursion (Late o (length v)) hs) where
    -- A row with zeros behind is cleared before them alone.
    pub clear_front : clear o (take (length v) marks) (map (take (length v)) hs) v ≡ take (length v) (clear o marks hs (v ++ z))
    clear_front =
        sym (take_plus (length v) (v ++ z) (map neg taken) ∙ ap (λ w. plus o w (take (length v) (map neg taken))) (take_at v z (length v) refl)
        ∙ ap (plus o v) (take-map neg (length v) taken ∙ ap (map neg) (take_mix (length v) (length (v ++ z)) hs (pick marks (v ++ z)) (omega (arith, length-append v z)) ∙ ap (mix o (length v) (map (take (length v)) hs)) picks)))
      where
        taken : List F
        taken = mix o (length (v ++ z)) hs (pick marks (v ++ z))

        picks : pick marks (v ++ z) ≡ pick (take (length v) marks) v
        picks = pick_front marks v z (narrow_count (length v) 0 marks hs red.pivots (omega (arith, red.full)) k)

    -- And stays zero there.
    pub clear_behind : AllByRecursion (Zero o) z → Late o (length v) (clear o marks hs (v ++ z))
    clear_behind zs =
        late_plus (length v) (v ++ z) (map neg (mix o (length (v ++ z)) hs (pick marks (v ++ z)))) (subst (AllByRecursion (Zero o)) (sym (drop_at v z (length v) refl)) zs)
        (late_neg (length v) (mix o (length (v ++ z)) hs (pick marks (v ++ z))) (late_mix (length v) (length (v ++ z)) hs (pick marks (v ++ z)) k))
