-- What is picked of a list at its marked places; at their pivots, what is picked of a sum of rows are the elements.
--
--   pick marks v    the entries of v whose places are marked
use Rattle.std.proofs.Common.{◌≡◌, ℕ, suc, ◌+◌ as ◌+ℕ◌, Bool, true, false, List, [], ◌∷◌, map, length, drop, sym, refl, ap, ◌∙◌, arith, drop-cons, drop_of_length-le}
use Rattle.std.proofs.lemmas.List.{length-map}
use Rattle.fields.specs.Field.{Ops, Laws, plus, comb}
use Rattle.fields.specs.Basics.{ring}
use Rattle.skew.specs.Products.{coef}
use Rattle.skew.proofs.Sums.{cons_path}
use Rattle.ranks.specs.Ranks.{pick}
use Rattle.ranks.specs.Reduction.{count, tails, mix, zeros, unit, Pivots}

-- What is picked of images.
pub pick_map : {A B : Type 0} (T : A → B) (marks : List Bool) (v : List A) → pick marks (map T v) ≡ map T (pick marks v)
pick_map T [] v = refl
pick_map T (m ∷ marks) [] = refl
pick_map {B = B} T (true ∷ marks) (x ∷ v) = ap {B = List B} (λ w. T x ∷ w) (pick_map T marks v)
pick_map T (false ∷ marks) (x ∷ v) = pick_map T marks v

-- As many are picked as are marked.
pub length_pick : {A : Type 0} (marks : List Bool) (v : List A) → length v ≡ length marks → length (pick marks v) ≡ count marks
length_pick [] v e = refl
length_pick (m ∷ marks) [] e = absurd (omega arith)
length_pick (true ∷ marks) (x ∷ v) e = ap suc (length_pick marks v (omega arith))
length_pick (false ∷ marks) (x ∷ v) e = length_pick marks v (omega arith)

module _ {F : Type 0} {o : Ops F} (l : Laws o) where
  open o use {zero, one, add as ◌+◌, mul as ◌*◌}

  infixl 65 ◌+◌
  infixl 70 ◌*◌
  -- What is picked of a sum of rows.
  pub pick_plus : (marks : List Bool) (u v : List F) → length u ≡ length v → pick marks (plus o u v) ≡ plus o (pick marks u) (pick marks v)
  pick_plus [] u v e = refl
  pick_plus (m ∷ marks) [] [] e = refl
  pick_plus (m ∷ marks) [] (y ∷ v) e = absurd (omega arith)
  pick_plus (m ∷ marks) (x ∷ u) [] e = absurd (omega arith)
  pick_plus (true ∷ marks) (x ∷ u) (y ∷ v) e = ap (λ w. (x + y) ∷ w) (pick_plus marks u v (omega arith))
  pick_plus (false ∷ marks) (x ∷ u) (y ∷ v) e = pick_plus marks u v (omega arith)

  -- A combination with zeros as coefficients.
  comb_none : (n : ℕ) (xs : List F) → comb o (zeros o n) xs ≡ zero
  comb_none ℕ.zero xs = refl
  comb_none (suc n) [] = refl
  comb_none (suc n) (x ∷ xs) = ap (λ w. zero * x + w) (comb_none n xs) ∙ simp (ring, l)

  -- With a unit row as coefficients it is one of the elements.
  comb_unit : (n j : ℕ) (xs : List F) → length xs ≡ n → comb o (unit o n j) xs ≡ coef o xs j
  comb_unit ℕ.zero j [] e = refl
  comb_unit ℕ.zero j (x ∷ xs) e = absurd (omega arith)
  comb_unit (suc n) ℕ.zero [] e = absurd (omega arith)
  comb_unit (suc n) ℕ.zero (x ∷ xs) e = ap (λ w. one * x + w) (comb_none n xs) ∙ simp (ring, l)
  comb_unit (suc n) (suc j) [] e = absurd (omega arith)
  comb_unit (suc n) (suc j) (x ∷ xs) e = ap (λ w. zero * x + w) (comb_unit n j xs (omega arith)) ∙ nought (coef o xs j)
    where
      nought : (w : F) → zero * x + w ≡ w
      nought w = simp (ring, l)

  -- At the pivots a sum of rows has the elements themselves.
  pub pick_mix : (j : ℕ) (marks : List Bool) (hs : List (List F)) (xs : List F) → Pivots o j marks hs → length xs ≡ length hs → j +ℕ count marks ≡ length xs
      → pick marks (mix o (length marks) hs xs) ≡ drop j xs
  pick_mix j [] hs xs h e c = sym (drop_of_length-le xs (omega arith))
  pick_mix j (true ∷ marks) hs xs h e c =
      cons_path (ap (λ w. comb o w xs) h.0 ∙ comb_unit (length hs) j xs e) (pick_mix (suc j) marks (tails o hs) xs h.1 (e ∙ sym (length-map hs (drop 1))) (omega arith))
      ∙ sym (drop-cons xs j zero (omega arith))
  pick_mix j (false ∷ marks) hs xs h e c = pick_mix j marks (tails o hs) xs h (e ∙ sym (length-map hs (drop 1))) c
