-- Sums over the places: of products, of series, of values.
--
--   comb o xs ys     the sum of the products x × y, place by place
--   series o u f     the sum of f_i × u_i
use Rattle.std.proofs.Common.{◌≡◌, ℕ, suc, ◌<◌, ◌≤◌, List, [], ◌∷◌, map, length, sym, refl, ap, ◌∙◌, arith}
use Rattle.std.proofs.lemmas.List.{length-map}
use Rattle.fields.specs.Field.{Ops, Laws, comb}
use Rattle.fields.specs.Basics
use Rattle.fields.specs.Basics.{ring}
use Rattle.skew.specs.Values.{twisted, norm, series}
use Rattle.skew.specs.Products.{coef}
use Rattle.skew.specs.Interpolation.{values}
use Rattle.codes.specs.Duals.{powers}
use Rattle.ranks.proofs.Mixing

module _ {F : Type 0} {o : Ops F} (l : Laws o) where
  open o use {zero, one, add as ◌+◌, mul as ◌*◌}

  infixl 65 ◌+◌
  infixl 70 ◌*◌
  -- The two rows may be exchanged.
  pub comb_comm : (xs ys : List F) → comb o xs ys ≡ comb o ys xs
  comb_comm [] [] = refl
  comb_comm [] (y ∷ ys) = refl
  comb_comm (x ∷ xs) [] = refl
  comb_comm (x ∷ xs) (y ∷ ys) = ap (λ w. w + comb o xs ys) (Basics.mul_comm l x y) ∙ ap (λ w. y * x + w) (comb_comm xs ys)

  -- A row that is a multiple of one plus another.
  comb_split : {A : Type 0} (xs : List F) (c : F) (h k : A → F) (pts : List A) → comb o xs (map (λ t. c * h t + k t) pts) ≡ c * comb o xs (map h pts) + comb o xs (map k pts)
  comb_split [] c h k pts = sym (ap (λ w. w + zero) (Basics.mul_zero l c) ∙ Basics.add_zero l zero)
  comb_split (x ∷ xs) c h k [] = sym (ap (λ w. w + zero) (Basics.mul_zero l c) ∙ Basics.add_zero l zero)
  comb_split (x ∷ xs) c h k (t ∷ pts) = ap (λ w. x * (c * h t + k t) + w) (comb_split xs c h k pts) ∙ gather (h t) (k t) (comb o xs (map h pts)) (comb o xs (map k pts))
    where
      gather : (p q r s : F) → x * (c * p + q) + (c * r + s) ≡ c * (x * p + r) + (x * q + s)
      gather p q r s = simp (ring, l)

  -- A row of series is summed term by term.
  comb_series : {A : Type 0} (xs : List F) (pts : List A) (u : A → ℕ → F) (g : List F) → comb o xs (map (λ t. series o (u t) g) pts) ≡ series o (λ i. comb o xs (map (λ t. u t i) pts)) g
  comb_series xs pts u [] = Mixing.comb_nothing l xs pts
  comb_series xs pts u (c ∷ g) =
      comb_split xs c (λ t. u t 0) (λ t. series o (λ i. u t (suc i)) g) pts
      ∙ ap (λ w. c * comb o xs (map (λ t. u t 0) pts) + w) (comb_series xs pts (λ t i. u t (suc i)) g)

  -- A row of values is summed coefficient by coefficient.
  pub comb_values : (xs g : List F) (pts : List (F × F)) → comb o xs (values o g pts) ≡ series o (λ i. comb o xs (powers o i pts)) g
  comb_values xs g pts = comb_series xs pts (λ t i. twisted o i t.1 * norm o i t.0) g

  -- Rows that give the same sum with every row are the same.
  pub comb_tells : (xs ys : List F) → length xs ≡ length ys → ((vs : List F) → length vs ≡ length xs → comb o xs vs ≡ comb o ys vs) → xs ≡ ys
  comb_tells [] [] len h = refl
  comb_tells [] (y ∷ ys) len h = absurd (omega arith)
  comb_tells (x ∷ xs) [] len h = absurd (omega arith)
  comb_tells (x ∷ xs) (y ∷ ys) len h =
      ap (λ w. w ∷ xs) first ∙ ap (λ ws. y ∷ ws) (comb_tells xs ys (omega arith) (λ vs k. sym (cleared x (comb o xs vs)) ∙ h (zero ∷ vs) (ap suc k) ∙ cleared y (comb o ys vs)))
    where
      cleared : (z r : F) → z * zero + r ≡ r
      cleared z r = simp (ring, l)

      alone : (z : F) (zs : List F) → comb o (z ∷ zs) (one ∷ map (λ _. zero) xs) ≡ z
      alone z zs = ap (λ w. z * one + w) (Mixing.comb_nothing l zs xs) ∙ Basics.add_zero l (z * one) ∙ Basics.mul_one l z

      first : x ≡ y
      first = sym (alone x xs) ∙ h (one ∷ map (λ _. zero) xs) (ap suc (length-map xs (λ _. zero))) ∙ alone y ys

  -- A series whose terms are zero.
  pub series_zero : (u : ℕ → F) (f : List F) → ((i : ℕ) → i < length f → u i ≡ zero) → series o u f ≡ zero
  series_zero u [] h = refl
  series_zero u (c ∷ f) h =
      ap (λ w. c * w + series o (λ i. u (suc i)) f) (h 0 (omega arith)) ∙ ap (λ w. c * zero + w) (series_zero (λ i. u (suc i)) f (λ i k. h (suc i) (omega arith)))
      ∙ simp (ring, l)

  -- A series whose terms are zero but for the last.
  pub series_top : (u : ℕ → F) (f : List F) (m : ℕ) → length f ≤ suc m → ((i : ℕ) → i < m → u i ≡ zero) → series o u f ≡ coef o f m * u m
  series_top u [] m len h = sym (Basics.zero_mul l (u m))
  series_top u (c ∷ []) ℕ.zero len h = Basics.add_zero l (c * u 0)
  series_top u (c ∷ d ∷ f) ℕ.zero len h = absurd (omega arith)
  series_top u (c ∷ f) (suc m) len h =
      ap (λ w. c * w + series o (λ i. u (suc i)) f) (h 0 (omega arith))
      ∙ ap (λ w. c * zero + w) (series_top (λ i. u (suc i)) f m (omega arith) (λ i k. h (suc i) (omega arith))) ∙ cleared (coef o f m * u (suc m))
    where
      cleared : (x : F) → c * zero + x ≡ x
      cleared x = simp (ring, l)
