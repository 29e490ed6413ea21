-- Sums of rows times elements, and rows of fixed elements.
--
--   mix o n hs xs    the sum of the rows hs, of n places each, each times its element of xs
use Rattle.std.proofs.Common.{◌≡◌, ℕ, suc, List, [], ◌∷◌, map, length, drop, sym, refl, ap, ◌∙◌, arith}
use Rattle.std.specs.List.{AllByRecursion}
use Rattle.fields.specs.Field.{Ops, Laws, Zero, Fixed, plus, comb}
use Rattle.fields.specs.Basics
use Rattle.fields.specs.Twists
use Rattle.fields.specs.Basics.{ring}
use Rattle.skew.specs.Products.{coef}
use Rattle.skew.proofs.Sums.{cons_path}
use Rattle.ranks.specs.Reduction.{heads, tails, mix}

module _ {F : Type 0} {o : Ops F} (l : Laws o) where
  open o use {zero, add as ◌+◌, mul as ◌*◌, neg}

  infixl 65 ◌+◌
  infixl 70 ◌*◌
  -- A combination of sums, place by place.
  comb_sum : (cs xs ys : List F) → comb o cs (plus o xs ys) ≡ comb o cs xs + comb o cs ys
  comb_sum [] xs ys = sym (Basics.add_zero l zero)
  comb_sum (c ∷ cs) [] ys = sym (Basics.zero_add l _)
  comb_sum (c ∷ cs) (x ∷ xs) [] = sym (Basics.add_zero l _)
  comb_sum (c ∷ cs) (x ∷ xs) (y ∷ ys) = ap (λ w. c * (x + y) + w) (comb_sum cs xs ys) ∙ simp (ring, l)

  -- A combination of multiples.
  comb_by : (x : F) (cs xs : List F) → comb o cs (map (o.mul x) xs) ≡ x * comb o cs xs
  comb_by x [] xs = sym (Basics.mul_zero l x)
  comb_by x (c ∷ cs) [] = sym (Basics.mul_zero l x)
  comb_by x (c ∷ cs) (y ∷ xs) = ap (λ w. c * (x * y) + w) (comb_by x cs xs) ∙ simp (ring, l)

  -- A combination of zeros.
  pub comb_nothing : {A : Type 0} (cs : List F) (hs : List A) → comb o cs (map (λ _. zero) hs) ≡ zero
  comb_nothing [] hs = refl
  comb_nothing (c ∷ cs) [] = refl
  comb_nothing (c ∷ cs) (h ∷ hs) = ap (λ w. c * zero + w) (comb_nothing cs hs) ∙ simp (ring, l)

  -- A combination of fixed elements with fixed coefficients.
  fixed_comb : (cs ds : List F) → AllByRecursion (Fixed o) cs → AllByRecursion (Fixed o) ds → Fixed o (comb o cs ds)
  fixed_comb [] ds h k = Twists.fixed_zero l
  fixed_comb (c ∷ cs) [] h k = Twists.fixed_zero l
  fixed_comb (c ∷ cs) (d ∷ ds) h k = Twists.fixed_add l _ _ (Twists.fixed_mul l c d h.0 k.0) (fixed_comb cs ds h.1 k.1)

  -- An entry of a fixed row is fixed.
  pub fixed_coef : (h : List F) (i : ℕ) → AllByRecursion (Fixed o) h → Fixed o (coef o h i)
  fixed_coef [] i k = Twists.fixed_zero l
  fixed_coef (x ∷ h) ℕ.zero k = k.0
  fixed_coef (x ∷ h) (suc i) k = fixed_coef h i k.1

  -- The first entries of fixed rows.
  pub fixed_heads : (hs : List (List F)) → AllByRecursion (AllByRecursion (Fixed o)) hs → AllByRecursion (Fixed o) (heads o hs)
  fixed_heads [] k = tt
  fixed_heads (h ∷ hs) k = (fixed_coef h 0 k.0, fixed_heads hs k.1)

  -- The rest of a fixed row.
  fixed_tail : (h : List F) → AllByRecursion (Fixed o) h → AllByRecursion (Fixed o) (drop 1 h)
  fixed_tail [] k = tt
  fixed_tail (x ∷ h) k = k.1

  -- The rests of fixed rows.
  pub fixed_tails : (hs : List (List F)) → AllByRecursion (AllByRecursion (Fixed o)) hs → AllByRecursion (AllByRecursion (Fixed o)) (tails o hs)
  fixed_tails [] k = tt
  fixed_tails (h ∷ hs) k = (fixed_tail h k.0, fixed_tails hs k.1)

  -- A sum of fixed rows times fixed elements.
  pub fixed_mix : (n : ℕ) (hs : List (List F)) (ds : List F) → AllByRecursion (AllByRecursion (Fixed o)) hs → AllByRecursion (Fixed o) ds → AllByRecursion (Fixed o) (mix o n hs ds)
  fixed_mix ℕ.zero hs ds h k = tt
  fixed_mix (suc n) hs ds h k = (fixed_comb (heads o hs) ds (fixed_heads hs h) k, fixed_mix n (tails o hs) ds (fixed_tails hs h) k)

  -- A sum of rows has as many places as were asked for.
  pub length_mix : (n : ℕ) (hs : List (List F)) (xs : List F) → length (mix o n hs xs) ≡ n
  length_mix ℕ.zero hs xs = refl
  length_mix (suc n) hs xs = ap suc (length_mix n (tails o hs) xs)

  -- It keeps sums of the elements.
  pub mix_plus : (n : ℕ) (hs : List (List F)) (xs ys : List F) → mix o n hs (plus o xs ys) ≡ plus o (mix o n hs xs) (mix o n hs ys)
  mix_plus ℕ.zero hs xs ys = refl
  mix_plus (suc n) hs xs ys = cons_path (comb_sum (heads o hs) xs ys) (mix_plus n (tails o hs) xs ys)

  -- It keeps multiples.
  pub mix_by : (x : F) (n : ℕ) (hs : List (List F)) (xs : List F) → mix o n hs (map (o.mul x) xs) ≡ map (o.mul x) (mix o n hs xs)
  mix_by x ℕ.zero hs xs = refl
  mix_by x (suc n) hs xs = cons_path (comb_by x (heads o hs) xs) (mix_by x n (tails o hs) xs)

  -- With zeros as elements it is that of no rows.
  pub mix_nothing : {A : Type 0} (n : ℕ) (hs : List (List F)) (ks : List A) (xs : List F) → mix o n hs (map (λ _. zero) ks) ≡ mix o n [] xs
  mix_nothing ℕ.zero hs ks xs = refl
  mix_nothing (suc n) hs ks xs = cons_path (comb_nothing (heads o hs) ks) (mix_nothing n (tails o hs) ks xs)

  -- By its first row.
  pub mix_cons : (n : ℕ) (h : List F) (hs : List (List F)) (x : F) (xs : List F) → length h ≡ n → mix o n (h ∷ hs) (x ∷ xs) ≡ plus o (map (o.mul x) h) (mix o n hs xs)
  mix_cons ℕ.zero [] hs x xs e = refl
  mix_cons ℕ.zero (c ∷ h) hs x xs e = absurd (omega arith)
  mix_cons (suc n) [] hs x xs e = absurd (omega arith)
  mix_cons (suc n) (c ∷ h) hs x xs e = cons_path (ap (λ w. w + comb o (heads o hs) xs) (Basics.mul_comm l c x)) (mix_cons n h (tails o hs) x xs (omega arith))

  -- Of no rows it is zero.
  pub mix_none : (n : ℕ) (xs : List F) → AllByRecursion (Zero o) (mix o n [] xs)
  mix_none ℕ.zero xs = tt
  mix_none (suc n) xs = (refl, mix_none n xs)

  -- A row less itself.
  pub all_away : (v : List F) → AllByRecursion (Zero o) (plus o v (map neg v))
  all_away [] = tt
  all_away (x ∷ v) = (Basics.add_neg l x, all_away v)

  -- A sum with a row of zeros.
  pub zero_plus : (u v : List F) → length u ≡ length v → AllByRecursion (Zero o) u → plus o u v ≡ v
  zero_plus [] v e k = refl
  zero_plus (x ∷ u) [] e k = absurd (omega arith)
  zero_plus (x ∷ u) (y ∷ v) e k = cons_path (ap (λ w. w + y) k.0 ∙ Basics.zero_add l y) (zero_plus u v (omega arith) k.1)
