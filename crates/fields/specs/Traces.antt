-- Traces in a field with a map τ that keeps sums and products: sums of repeated images, as digits over the elements that τ
-- leaves as they are.
--
--   again τ k x          x mapped by τ k times
--   tr o τ k x           the trace: x + τ x + τ (τ x) + .., k terms
--   Left τ d             τ leaves d as it is
--   identity z u n       the n unit rows: u on the diagonal, z elsewhere
--   Kills o τ bs k cs    cs, its image under τ and so on, k rows, combine bs to zero
use Rattle.std.specs.Prelude.{◌≡◌, ℕ, suc, List, [], ◌∷◌, map, length, replicate, refl}
use Rattle.std.proofs.Common.{sym, ◌∙◌, ap, ap₂, arith}
use Rattle.std.specs.List.{AllByRecursion}
use Rattle.fields.specs.Field.{Ops, Laws, comb}
use Rattle.fields.specs.Basics
use Rattle.fields.specs.Basics.{ring}

abbrev pub again : {F : Type 0} → (F → F) → ℕ → F → F
again τ ℕ.zero x = x
again τ (suc k) x = again τ k (τ x)

abbrev pub tr : {F : Type 0} → Ops F → (F → F) → ℕ → F → F
tr o τ ℕ.zero x = o.zero
tr o τ (suc k) x = o.add x (tr o τ k (τ x))

abbrev pub Left : {F : Type 0} → (F → F) → F → Type 0
Left τ d = τ d ≡ d

abbrev pub identity : {A : Type 0} → A → A → ℕ → List (List A)
identity z u ℕ.zero = []
identity z u (suc n) = (u ∷ replicate n z) ∷ map (λ row. z ∷ row) (identity z u n)

-- The unit rows, entry by entry under a map.
pub identity_map : {A B : Type 0} (f : A → B) (z u : A) (n : ℕ) → map (map f) (identity z u n) ≡ identity (f z) (f u) n
identity_map f z u ℕ.zero = refl
identity_map {A} {B} f z u (suc n) = ap₂ (λ x xs. x ∷ xs) (ap (λ xs. f u ∷ xs) (zeros n)) (past (identity z u n) ∙ ap (map (λ row. f z ∷ row)) (identity_map f z u n))
  where
    zeros : (n : ℕ) → map f (replicate n z) ≡ replicate n (f z)
    zeros ℕ.zero = refl
    zeros (suc n) = ap (λ xs. f z ∷ xs) (zeros n)

    past : (rows : List (List A)) → map (map f) (map (λ row. z ∷ row) rows) ≡ map (λ row. f z ∷ row) (map (map f) rows)
    past [] = refl
    past (row ∷ rows) = ap (λ xs. (f z ∷ map f row) ∷ xs) (past rows)

abbrev pub Kills : {F : Type 0} → Ops F → (F → F) → List F → ℕ → List F → Type 0
Kills o τ bs ℕ.zero cs = Unit {0}
Kills o τ bs (suc k) cs = (comb o cs bs ≡ o.zero) × Kills o τ bs k (map τ cs)

module _ {F : Type 0} {o : Ops F} (l : Laws o) where
  open o use {zero, one, add as ◌+◌, mul as ◌*◌}

  infixl 65 ◌+◌
  infixl 70 ◌*◌
  -- A row of zeros combines to zero.
  comb_zeros : (ds : List F) (n : ℕ) → comb o ds (replicate n zero) ≡ zero
  comb_zeros [] n = refl
  comb_zeros (d ∷ ds) ℕ.zero = refl
  comb_zeros (d ∷ ds) (suc n) = ap (λ w. d * zero + w) (comb_zeros ds n) ∙ simp (ring, l)

  -- A first place that is zero in every row counts for nothing.
  comb_past : (d : F) (ds : List F) (rows : List (List F)) → map (comb o (d ∷ ds)) (map (λ row. zero ∷ row) rows) ≡ map (comb o ds) rows
  comb_past d ds [] = refl
  comb_past d ds (row ∷ rows) = ap₂ (λ x xs. x ∷ xs) here (comb_past d ds rows)
    where
      here : d * zero + comb o ds row ≡ comb o ds row
      here = simp (ring, l)

  -- The unit rows give ds back, place by place.
  comb_units : (ds : List F) (n : ℕ) → length ds ≡ n → map (comb o ds) (identity zero one n) ≡ ds
  comb_units [] ℕ.zero e = refl
  comb_units [] (suc n) e = absurd (omega arith)
  comb_units (d ∷ ds) ℕ.zero e = absurd (omega arith)
  comb_units (d ∷ ds) (suc n) e =
      ap₂ (λ x xs. x ∷ xs) (ap (λ w. d * one + w) (comb_zeros ds n) ∙ simp (ring, l)) (comb_past d ds (identity zero one n) ∙ comb_units ds n (omega arith))

module _ {F : Type 0} {o : Ops F} (l : Laws o) (τ : F → F) (adds : (x y : F) → τ (o.add x y) ≡ o.add (τ x) (τ y)) (muls : (x y : F) → τ (o.mul x y) ≡ o.mul (τ x) (τ y)) where
  open o use {zero, one, add as ◌+◌, mul as ◌*◌}

  infixl 65 ◌+◌
  infixl 70 ◌*◌
  -- τ leaves zero.
  left_zero : τ zero ≡ zero
  left_zero = Basics.add_cancel l (τ zero) (τ zero) zero (sym (adds zero zero) ∙ ap τ (Basics.add_zero l zero) ∙ sym (Basics.add_zero l (τ zero)))

  -- The trace of zero is zero.
  tr_zero : (k : ℕ) → tr o τ k zero ≡ zero
  tr_zero ℕ.zero = refl
  tr_zero (suc k) = ap (λ w. zero + tr o τ k w) left_zero ∙ ap (λ w. zero + w) (tr_zero k) ∙ Basics.add_zero l zero

  -- The trace of a sum is the sum of the traces.
  tr_add : (k : ℕ) (x y : F) → tr o τ k (x + y) ≡ tr o τ k x + tr o τ k y
  tr_add ℕ.zero x y = sym (Basics.add_zero l zero)
  tr_add (suc k) x y = ap (λ w. x + y + tr o τ k w) (adds x y) ∙ ap (λ w. x + y + w) (tr_add k (τ x) (τ y)) ∙ simp (ring, l)

  -- A factor that τ leaves can be taken out of a trace.
  tr_mul : (k : ℕ) (d x : F) → Left τ d → tr o τ k (d * x) ≡ d * tr o τ k x
  tr_mul ℕ.zero d x p = sym (Basics.mul_zero l d)
  tr_mul (suc k) d x p =
      ap (λ w. d * x + tr o τ k w) (muls d x ∙ ap (λ w. w * τ x) p) ∙ ap (λ w. d * x + w) (tr_mul k d (τ x) p) ∙ sym (Basics.mul_add l d x (tr o τ k (τ x)))

  -- The trace of the image has one more term above and one less below.
  tr_moves : (k : ℕ) (x : F) → tr o τ k (τ x) + x ≡ tr o τ k x + again τ k x
  tr_moves ℕ.zero x = refl
  tr_moves (suc k) x = ap (λ w. w + x) (Basics.add_comm l (τ x) (tr o τ k (τ (τ x))) ∙ tr_moves k (τ x)) ∙ simp (ring, l)

  -- The image of a trace is the trace of the image.
  tr_image : (k : ℕ) (x : F) → τ (tr o τ k x) ≡ tr o τ k (τ x)
  tr_image ℕ.zero x = left_zero
  tr_image (suc k) x = adds x (tr o τ k (τ x)) ∙ ap (λ w. τ x + w) (tr_image k (τ x))

  -- Where k images of x come back to x, τ leaves its trace.
  pub tr_left : (k : ℕ) (x : F) → again τ k x ≡ x → Left τ (tr o τ k x)
  tr_left k x e = Basics.add_cancel l x (τ (tr o τ k x)) (tr o τ k x) (ap (λ w. x + w) (tr_image k x) ∙ Basics.add_comm l x (tr o τ k (τ x)) ∙ tr_moves k x ∙ ap (λ w. tr o τ k x + w) e ∙ Basics.add_comm l (tr o τ k x) x)

  -- The trace of c times a combination combines the traces of c times each b.
  tr_comb : (k : ℕ) (c : F) (ds bs : List F) → AllByRecursion (Left τ) ds → tr o τ k (c * comb o ds bs) ≡ comb o ds (map (λ b. tr o τ k (c * b)) bs)
  tr_comb k c [] bs h = ap (tr o τ k) (Basics.mul_zero l c) ∙ tr_zero k
  tr_comb k c (d ∷ ds) [] h = ap (tr o τ k) (Basics.mul_zero l c) ∙ tr_zero k
  tr_comb k c (d ∷ ds) (b ∷ bs) h =
      ap (tr o τ k) apart ∙ tr_add k (d * (c * b)) (c * comb o ds bs) ∙ ap₂ (λ x y. x + y) (tr_mul k d (c * b) h.0) (tr_comb k c ds bs h.1)
    where
      apart : c * (d * b + comb o ds bs) ≡ d * (c * b) + c * comb o ds bs
      apart = simp (ring, l)

  -- For each c of a list, the same.
  trs_comb : (k : ℕ) (cs ds bs : List F) → AllByRecursion (Left τ) ds → map (λ c. tr o τ k (c * comb o ds bs)) cs ≡ map (comb o ds) (map (λ c. map (λ b. tr o τ k (c * b)) bs) cs)
  trs_comb k [] ds bs h = refl
  trs_comb k (c ∷ cs) ds bs h = ap₂ (λ x xs. x ∷ xs) (tr_comb k c ds bs h) (trs_comb k cs ds bs h)

  -- Digits are the only ones: where the traces of c b, row by row, are the unit rows, those of c times a combination of bs are
  -- the elements that it was combined with.
  pub trs_only :
      (k n : ℕ) (cs bs ds : List F) → map (λ c. map (λ b. tr o τ k (c * b)) bs) cs ≡ identity zero one n → length ds ≡ n → AllByRecursion (Left τ) ds
      → map (λ c. tr o τ k (c * comb o ds bs)) cs ≡ ds
  trs_only k n cs bs ds e m h = trs_comb k cs ds bs h ∙ ap (map (comb o ds)) e ∙ comb_units l ds n m

  -- The first terms of the traces apart from the others.
  trs_apart :
      (k : ℕ) (a : F) (cs bs : List F)
      → comb o (map (λ c. tr o τ (suc k) (c * a)) cs) bs ≡ a * comb o cs bs + comb o (map (λ c. tr o τ k (c * τ a)) (map τ cs)) bs
  trs_apart k a [] bs = simp (ring, l)
  trs_apart k a (c ∷ cs) [] = simp (ring, l)
  trs_apart k a (c ∷ cs) (b ∷ bs) =
      ap₂ (λ x y. (c * a + tr o τ k x) * b + y) (muls c a) (trs_apart k a cs bs) ∙ sorted (tr o τ k (τ c * τ a)) (comb o cs bs) (comb o (map (λ c. tr o τ k (c * τ a)) (map τ cs)) bs)
    where
      sorted : (t x y : F) → (c * a + t) * b + (a * x + y) ≡ a * (c * b + x) + (t * b + y)
      sorted t x y = simp (ring, l)

  -- What combines to zero with all its images gives no trace.
  trs_none : (k : ℕ) (a : F) (cs bs : List F) → Kills o τ bs k cs → comb o (map (λ c. tr o τ k (c * a)) cs) bs ≡ zero
  trs_none ℕ.zero a [] bs h = refl
  trs_none ℕ.zero a (c ∷ cs) [] h = refl
  trs_none ℕ.zero a (c ∷ cs) (b ∷ bs) h = ap (λ w. zero * b + w) (trs_none ℕ.zero a cs bs h) ∙ simp (ring, l)
  trs_none (suc k) a cs bs h = trs_apart k a cs bs ∙ ap₂ (λ x y. a * x + y) h.0 (trs_none k (τ a) (map τ cs) bs h.1) ∙ simp (ring, l)

  -- Digits give their element: where cs combine bs to one, and their images to zero, the traces of c a combine bs to a.
  pub trs_give : (k : ℕ) (a : F) (cs bs : List F) → comb o cs bs ≡ one → Kills o τ bs k (map τ cs) → comb o (map (λ c. tr o τ (suc k) (c * a)) cs) bs ≡ a
  trs_give k a cs bs e h = trs_apart k a cs bs ∙ ap₂ (λ x y. a * x + y) e (trs_none k (τ a) (map τ cs) bs h) ∙ simp (ring, l)
