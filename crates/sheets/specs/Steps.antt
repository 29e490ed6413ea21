-- What the steps of the reader answer. Each says of the bytes up to some place what stands there, or that no sheet does.
--     Headed      the first two bytes are the kind number and the dimension
--     Judged      the byte x at a place is from low to high
--     Measured    the lengths stand from byte 3 on, and n is their sum
--     Counted     a count and as many bytes stand at a place
--     Stops, StopsMeasuring, StopsCounting     the refusal, where what stands before is in order
use Rattle.std.specs.Prelude.{◌≡◌, ℕ, ◌+◌, ◌<◌, ◌≤◌, List, [], ◌∷◌, ◌++◌, length, take, sum}
use Rattle.sheets.specs.declared.faults.Fault.{Fault}
use Rattle.sheets.specs.Sheets.{Blocks, Lengths, Wants, Short, Broken}

pub record Headed (bytes : List ℕ) (number k : ℕ) : Type 0 where
  pub there : 2 ≤ length bytes
  pub read : take 2 bytes ≡ number ∷ k ∷ []

pub record Judged (bytes : List ℕ) (at low high x : ℕ) : Type 0 where
  pub there : at < length bytes
  pub read : take (at + 1) bytes ≡ take at bytes ++ x ∷ []
  pub least : low ≤ x
  pub most : x ≤ high

abbrev pub Stops : List ℕ → ℕ → ℕ → ℕ → Fault → Type 0
Stops bytes at low high e = (number : ℕ) → Wants number (take at bytes) low high → Broken number bytes e

pub record Measured (bytes : List ℕ) (l : ℕ) (ls : List ℕ) (n : ℕ) : Type 0 where
  pub there : 3 + l ≤ length bytes
  pub read : take (3 + l) bytes ≡ take 3 bytes ++ ls
  pub as_many : length ls ≡ l
  pub lengths : Lengths ls
  pub total : n ≡ sum ls

abbrev pub StopsMeasuring : List ℕ → ℕ → Fault → Type 0
StopsMeasuring bytes l e = (number k : ℕ) → Blocks l → take 3 bytes ≡ number ∷ k ∷ l ∷ [] → Broken number bytes e

pub record Counted (bytes : List ℕ) (at count : ℕ) (xs : List ℕ) : Type 0 where
  pub there : at + 1 + count ≤ length bytes
  pub read : take (at + 1 + count) bytes ≡ take at bytes ++ count ∷ xs
  pub as_many : length xs ≡ count

abbrev pub StopsCounting : List ℕ → ℕ → ℕ → Fault → Type 0
StopsCounting bytes at count e =
    (number : ℕ) → Wants number (take at bytes) count count
    → ((xs : List ℕ) → length xs < count → Short number (take at bytes ++ count ∷ xs)) → Broken number bytes e
