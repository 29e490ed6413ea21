-- Rank of elements over the fixed ones, and weight of words.
--
--   Spanned o es v     v is a combination of es with fixed coefficients
--   pick marks xs      the elements of xs that are marked
--   IsRank o xs r      r is the largest number of independent ones among xs
--   Weighs o word t    t is the sum of the ranks of the blocks of the word
--   Ranked o           ranks and weights exist and are one
--   total ns, cut ns w     the sum of these numbers; w cut into blocks of these lengths
--   Tells r P          the answer r is true where P holds, and false where it does not
--   Depends m ls i     place i is the first whose element depends on the earlier ones
use Rattle.std.specs.Prelude.{◌≡◌, ℕ, ◌+◌, ◌<◌, ◌≤◌, Bool, true, false, List, [], ◌∷◌, length, take, drop, slice_index}
use Rattle.std.specs.List.{AllByRecursion}
use Rattle.fields.specs.Field.{Ops, Fixed, comb}
use Rattle.fields.specs.Meaning.{Meaning}
use Rattle.fields.specs.Elements.{elem, elems, ops}
use Rattle.skew.specs.Roots.{Independent}

abbrev pub pick : {A : Type 0} → List Bool → List A → List A
pick [] xs = []
pick (m ∷ marks) [] = []
pick (true ∷ marks) (x ∷ xs) = x ∷ pick marks xs
pick (false ∷ marks) (x ∷ xs) = pick marks xs

module _ {F : Type 0} (o : Ops F) where
  abbrev pub Spanned : List F → F → Type 0
  Spanned es v = (cs : List F) × (length cs ≡ length es) × AllByRecursion (Fixed o) cs × (v ≡ comb o cs es)

  abbrev pub IsRank : List F → ℕ → Type 0
  IsRank xs r =
      ((marks : List Bool) × Independent o (pick marks xs) × (length (pick marks xs) ≡ r))
      × ((marks : List Bool) → Independent o (pick marks xs) → length (pick marks xs) ≤ r)

  abbrev pub Weighs : List (List F) → ℕ → Type 0
  Weighs [] t = t ≡ 0
  Weighs (xs ∷ word) t = (r : ℕ) × IsRank xs r × (u : ℕ) × Weighs word u × (t ≡ r + u)

-- Each list has a rank, and only one, and each word a weight, and only one.
pub record Ranked {F : Type 0} (o : Ops F) : Type 0 where
  pub rank : (xs : List F) → (r : ℕ) × IsRank o xs r
  pub one_rank : (xs : List F) (r s : ℕ) → IsRank o xs r → IsRank o xs s → r ≡ s
  pub weight : (word : List (List F)) → (t : ℕ) × Weighs o word t
  pub one_weight : (word : List (List F)) (t u : ℕ) → Weighs o word t → Weighs o word u → t ≡ u

abbrev pub total : List ℕ → ℕ
total [] = 0
total (n ∷ ns) = n + total ns

abbrev pub cut : {A : Type 0} → List ℕ → List A → List (List A)
cut [] w = []
cut (n ∷ ns) w = take n w ∷ cut ns (drop n w)

abbrev pub Tells : Bool → Type 0 → Type 0
Tells true P = P
Tells false P = ¬ P

pub record Depends (m : Meaning) (ls : List ℕ) (i : ℕ) : Type 0 where
  pub within : i < length ls
  pub before : Independent (ops m) (elems m (take i ls))
  pub here : Spanned (ops m) (elems m (take i ls)) (elem m (slice_index ls i))
  pub whole : ¬ Independent (ops m) (elems m ls)
