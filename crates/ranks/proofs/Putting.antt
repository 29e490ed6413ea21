-- An element put into a list.
--
--   before p marks        how many places before p are marked
--   put q x xs            x put into a list after the first q elements
use Rattle.std.proofs.Common.{◌≡◌, ℕ, suc, ◌≤◌, Bool, true, false, List, [], ◌∷◌, map, length, refl, ap, arith}
use Rattle.std.specs.List.{AllByRecursion}
use Rattle.fields.specs.Field.{Ops, Laws}
use Rattle.ranks.specs.Reduction.{count, zeros, unit}

-- How many places before p are marked.
abbrev pub before : ℕ → List Bool → ℕ
before p [] = 0
before ℕ.zero (m ∷ marks) = 0
before (suc p) (true ∷ marks) = suc (before p marks)
before (suc p) (false ∷ marks) = before p marks

-- x put into a list after the first q elements.
abbrev pub put : {A : Type 0} → ℕ → A → List A → List A
put ℕ.zero x xs = x ∷ xs
put (suc q) x [] = x ∷ []
put (suc q) x (y ∷ xs) = y ∷ put q x xs

-- Images of a list that something was put into.
pub map_put : {A B : Type 0} (f : A → B) (q : ℕ) (x : A) (xs : List A) → map f (put q x xs) ≡ put q (f x) (map f xs)
map_put f ℕ.zero x xs = refl
map_put f (suc q) x [] = refl
map_put {B = B} f (suc q) x (y ∷ xs) = ap {B = List B} (λ w. f y ∷ w) (map_put f q x xs)

-- It is one longer.
pub length_put : {A : Type 0} (q : ℕ) (x : A) (xs : List A) → length (put q x xs) ≡ suc (length xs)
length_put ℕ.zero x xs = refl
length_put (suc q) x [] = refl
length_put (suc q) x (y ∷ xs) = ap suc (length_put q x xs)

-- What holds of the list and of what is put in.
pub all_put : {A : Type 0} (P : A → Type 0) (q : ℕ) (x : A) (xs : List A) → P x → AllByRecursion P xs → AllByRecursion P (put q x xs)
all_put P ℕ.zero x xs h k = (h, k)
all_put P (suc q) x [] h k = (h, tt)
all_put P (suc q) x (y ∷ xs) h k = (k.0, all_put P q x xs h k.1)

-- And back.
pub all_unput : {A : Type 0} (P : A → Type 0) (q : ℕ) (x : A) (xs : List A) → AllByRecursion P (put q x xs) → P x × AllByRecursion P xs
all_unput P ℕ.zero x xs h = (h.0, h.1)
all_unput P (suc q) x [] h = (h.0, tt)
all_unput P (suc q) x (y ∷ xs) h = let r = all_unput P q x xs h.1 in (r.0, (h.0, r.1))

-- No more are marked before p than in all.
pub before_count : (p : ℕ) (marks : List Bool) → before p marks ≤ count marks
before_count p [] = omega arith
before_count ℕ.zero (m ∷ marks) = omega arith
before_count (suc p) (true ∷ marks) = omega (arith, before_count p marks)
before_count (suc p) (false ∷ marks) = omega (arith, before_count p marks)

module _ {F : Type 0} {o : Ops F} (l : Laws o) where
  open o use {zero, one}

  -- A zero put into zeros.
  put_zeros : (q t : ℕ) → put q zero (zeros o t) ≡ zeros o (suc t)
  put_zeros ℕ.zero t = refl
  put_zeros (suc q) ℕ.zero = refl
  put_zeros (suc q) (suc t) = ap (λ w. zero ∷ w) (put_zeros q t)

  -- A zero put in before the one of a unit row.
  pub put_low : (q t j : ℕ) → q ≤ j → put q zero (unit o t j) ≡ unit o (suc t) (suc j)
  put_low ℕ.zero t j e = refl
  put_low (suc q) ℕ.zero j e = refl
  put_low (suc q) (suc t) ℕ.zero e = absurd (omega arith)
  put_low (suc q) (suc t) (suc j) e = ap (λ w. zero ∷ w) (put_low q t j (omega arith))

  -- A zero put in after it.
  pub put_high : (q t j : ℕ) → suc j ≤ q → q ≤ t → put q zero (unit o t j) ≡ unit o (suc t) j
  put_high ℕ.zero t j e k = absurd (omega arith)
  put_high (suc q) ℕ.zero j e k = absurd (omega arith)
  put_high (suc q) (suc t) ℕ.zero e k = ap (λ w. one ∷ w) (put_zeros q t)
  put_high (suc q) (suc t) (suc j) e k = ap (λ w. zero ∷ w) (put_high q t j (omega arith) (omega arith))

  -- A one put into zeros.
  pub put_one : (q t : ℕ) → q ≤ t → put q one (zeros o t) ≡ unit o (suc t) q
  put_one ℕ.zero t e = refl
  put_one (suc q) ℕ.zero e = absurd (omega arith)
  put_one (suc q) (suc t) e = ap (λ w. zero ∷ w) (put_one q t (omega arith))
