-- Entries whose places are marked are omitted.
--
--   omit marks v    the entries of v whose places are not marked
use Rattle.std.proofs.Common.{◌≡◌, Bool, true, false, List, [], ◌∷◌, map, length, refl, ap, arith}
use Rattle.std.specs.List.{AllByRecursion}
use Rattle.fields.specs.Field.{Ops, Laws, plus}
use Rattle.recovery.proofs.Sites.{omit}

-- What is omitted of images.
pub omit_map : {A B : Type 0} (T : A → B) (marks : List Bool) (v : List A) → omit marks (map T v) ≡ map T (omit marks v)
omit_map T [] v = refl
omit_map T (m ∷ marks) [] = refl
omit_map T (true ∷ marks) (x ∷ v) = omit_map T marks v
omit_map {B = B} T (false ∷ marks) (x ∷ v) = ap {B = List B} (λ w. T x ∷ w) (omit_map T marks v)

-- What holds of each element holds of those that are not marked.
pub all_omit : {A : Type 0} (P : A → Type 0) (marks : List Bool) (xs : List A) → AllByRecursion P xs → AllByRecursion P (omit marks xs)
all_omit P [] xs h = tt
all_omit P (m ∷ marks) [] h = tt
all_omit P (true ∷ marks) (x ∷ xs) h = all_omit P marks xs h.1
all_omit P (false ∷ marks) (x ∷ xs) h = (h.0, all_omit P marks xs h.1)

module _ {F : Type 0} {o : Ops F} (l : Laws o) where
  open o use {add as ◌+◌}

  infixl 65 ◌+◌
  -- What is omitted of a sum.
  pub omit_plus : (marks : List Bool) (u v : List F) → length u ≡ length v → omit marks (plus o u v) ≡ plus o (omit marks u) (omit marks v)
  omit_plus [] u v e = refl
  omit_plus (m ∷ marks) [] [] e = refl
  omit_plus (m ∷ marks) [] (y ∷ v) e = absurd (omega arith)
  omit_plus (m ∷ marks) (x ∷ u) [] e = absurd (omega arith)
  omit_plus (true ∷ marks) (x ∷ u) (y ∷ v) e = omit_plus marks u v (omega arith)
  omit_plus (false ∷ marks) (x ∷ u) (y ∷ v) e = ap (λ w. (x + y) ∷ w) (omit_plus marks u v (omega arith))
