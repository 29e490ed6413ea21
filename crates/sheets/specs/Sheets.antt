-- The grammar of sheets: which bytes are a sheet, and which refusal every other string of bytes gets.
--     Text, spelled   what a sheet says, and its bytes: kind number, dimension k, then lengths, parameters and locators, each
--                     after its count; ls, ps, xs stand for these three
--     Blocks, Length, Lengths      limits: l is 1 to 12, a length is 1 to 8, their sum n is at most 24
--     Opens, Whole    what is judged by the time the lengths are read, and at the end
--     Wants, Short    the bytes so far are in order, and the next has to be from low to high; or they just need more
--     Broken          no sheet stands in front: the refusal is at the first byte, as they are read, that is missing or breaks
--                     its limit; the dimension is judged after the lengths
--     Begins, Spells  a sheet stands in front, up to the byte `end`; the bytes are a sheet
--     Refused         the bytes are no sheet: none stands in front, or bytes follow it
use Rattle.std.specs.Prelude.{◌≡◌, ℕ, ◌-◌, ◌<◌, ◌≤◌, min, ◌≢◌, ◌⊎◌, List, [], ◌∷◌, ◌++◌, length, sum}
use Rattle.std.specs.List.{AllByRecursion}
use Rattle.sheets.specs.declared.faults.Fault.{Fault}
use Rattle.sheets.specs.declared.faults.Reason.TheVariants.{MissingByte, ExtraBytes, OtherKind, Limit}
use Rattle.sheets.specs.Faults.{at_sheet}

pub record Text : Type 0 where
  pub dimension : ℕ
  pub blocks : List ℕ
  pub parameters : List ℕ
  pub locators : List ℕ

-- up to the last length
abbrev pub opening : ℕ → ℕ → List ℕ → List ℕ
opening number k ls = number ∷ k ∷ length ls ∷ ls

-- up to some parameter
abbrev pub to_parameters : ℕ → ℕ → List ℕ → List ℕ → List ℕ
to_parameters number k ls ps = opening number k ls ++ length ls ∷ ps

-- up to some locator
abbrev pub to_locators : ℕ → ℕ → List ℕ → List ℕ → List ℕ → List ℕ
to_locators number k ls ps xs = to_parameters number k ls ps ++ sum ls ∷ xs

abbrev pub spelled : ℕ → Text → List ℕ
spelled number t = to_locators number t.dimension t.blocks t.parameters t.locators

abbrev pub Blocks : ℕ → Type 0
Blocks l = (1 ≤ l) × (l ≤ 12)

abbrev pub Length : ℕ → Type 0
Length x = (1 ≤ x) × (x ≤ 8)

pub record Lengths (ls : List ℕ) : Type 0 where
  pub each : AllByRecursion Length ls
  pub total : sum ls ≤ 24

pub record Opens (k : ℕ) (ls : List ℕ) : Type 0 where
  pub blocks : Blocks (length ls)
  pub lengths : Lengths ls
  pub least : 1 ≤ k
  pub most : k ≤ sum ls

pub record Whole (k : ℕ) (ls ps xs : List ℕ) : Type 0 where
  pub opens : Opens k ls
  pub as_many_parameters : length ps ≡ length ls
  pub as_many_locators : length xs ≡ sum ls

pub data Wants (number : ℕ) : List ℕ → ℕ → ℕ → Type 0 where
  -- the number of blocks
  block_count : {k : ℕ} → Wants number (number ∷ k ∷ []) 1 12
  -- a length, which may not take the sum past its limit
  block_length : {k l : ℕ} {ls : List ℕ} → Blocks l → Lengths ls → length ls < l → Wants number (number ∷ k ∷ l ∷ ls) 1 (min 8 (24 - sum ls))
  -- the count of the parameters is the number of blocks
  parameter_count : {k : ℕ} {ls : List ℕ} → Opens k ls → Wants number (opening number k ls) (length ls) (length ls)
  -- the count of the locators is the sum of the lengths
  locator_count : {k : ℕ} {ls : List ℕ} (ps : List ℕ) → Opens k ls → length ps ≡ length ls → Wants number (to_parameters number k ls ps) (sum ls) (sum ls)

pub data Short (number : ℕ) : List ℕ → Type 0 where
  at_kind : Short number []
  at_dimension : Short number (number ∷ [])
  at_wanted : {u : List ℕ} {low high : ℕ} → Wants number u low high → Short number u
  at_parameter : {k : ℕ} {ls : List ℕ} (ps : List ℕ) → Opens k ls → length ps < length ls → Short number (to_parameters number k ls ps)
  at_locator : {k : ℕ} {ls : List ℕ} (ps xs : List ℕ) → Opens k ls → length ps ≡ length ls → length xs < sum ls → Short number (to_locators number k ls ps xs)

pub data Broken (number : ℕ) : List ℕ → Fault → Type 0 where
  -- the first byte is another kind number
  kind : {x : ℕ} {v : List ℕ} → x ≢ number → Broken number (x ∷ v) (at_sheet OtherKind 0)
  -- the next byte is missing
  missing : {u : List ℕ} → Short number u → Broken number u (at_sheet MissingByte (length u))
  -- the byte after those in order breaks its limit
  limit : {u : List ℕ} {low high : ℕ} (x : ℕ) (v : List ℕ) → Wants number u low high → (x < low) ⊎ (high < x) → Broken number (u ++ x ∷ v) (at_sheet Limit (length u))
  -- the lengths are in order, and the dimension breaks its limit
  dimension : (k : ℕ) (ls v : List ℕ) → Blocks (length ls) → Lengths ls → (k < 1) ⊎ (sum ls < k) → Broken number (opening number k ls ++ v) (at_sheet Limit 1)

pub record Begins (number : ℕ) (bytes : List ℕ) (t : Text) (end : ℕ) : Type 0 where
  pub whole : Whole t.dimension t.blocks t.parameters t.locators
  pub rest : List ℕ
  pub bytes_are : bytes ≡ spelled number t ++ rest
  pub end_is : end ≡ length (spelled number t)

pub record Spells (number : ℕ) (bytes : List ℕ) (t : Text) : Type 0 where
  pub whole : Whole t.dimension t.blocks t.parameters t.locators
  pub bytes_are : bytes ≡ spelled number t

pub data Refused (number : ℕ) : List ℕ → Fault → Type 0 where
  -- no sheet stands in front
  broken : {u : List ℕ} {f : Fault} → Broken number u f → Refused number u f
  -- some byte follows a sheet
  extra : (t : Text) (x : ℕ) (v : List ℕ) → Whole t.dimension t.blocks t.parameters t.locators → Refused number (spelled number t ++ x ∷ v) (at_sheet ExtraBytes (length (spelled number t)))
