-- Lengths that a table has judged, and answers that are not cut.
use Rattle.std.proofs.Common.{◌≡◌, ℕ, ◌≤◌, ◌≢◌, List, [], ◌++◌, length, take, refl, ap, ◌∙◌, inl, inr, arith}
use Rattle.std.proofs.lemmas.List.{take_all}
use Rattle.std.proofs.lemmas.Bool.{cases_lt}
use Rattle.sheets.specs.declared.faults.Reason.{Reason}
use Rattle.station.specs.Calls.{at_station}
use Rattle.station.specs.Tables.{where_so, Silent}

-- Numbers that do not differ are the same.
pub same : (n k : ℕ) → ¬ (n ≢ k) → n ≡ k
same n k h =
    elim (cases_lt n k) [
      | inl below ↦ absurd (h (λ e. omega (arith, below, e)))
      | inr over ↦
          elim (cases_lt k n) [
            | inl above ↦ absurd (h (λ e. omega (arith, above, e)))
            | inr under ↦ omega (arith, over, under)
          ]
    ]

-- So where a row that refuses other numbers is silent.
pub exact : {n k : ℕ} {r : Reason} {i : ℕ} → Silent (where_so (n ≢ k) r i) → n ≡ k
exact {n} {k} {r} {i} silent = same n k (λ d. silent (at_station r i) (d, refl))

-- An answer has room for these symbols.
pub answered : {ys xs zs : List ℕ} → ys ≡ take 64 xs → xs ≡ zs → length zs ≤ 64 → ys ≡ zs
answered {zs = zs} e f h = e ∙ ap (take 64) f ∙ take_all 64 zs h

-- A word that is put into an empty list that has room for it.
pub copied : {ys xs w : List ℕ} → ys ≡ take 24 (xs ++ w) → xs ≡ [] → length w ≤ 24 → ys ≡ w
copied {w = w} e f h = e ∙ ap (λ xs. take 24 (xs ++ w)) f ∙ take_all 24 w h
