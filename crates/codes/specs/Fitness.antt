-- What makes a sheet a lawful code, and the refusal of one that is none.
--
--   at_code reason place    a refusal of the layer that judges codes
--   Outside m least x       x is below `least`, or no code: what no parameter may be with 1, and no locator with 0
--   First P xs i            P holds of the number at place i, and of none before
--   AllNot P xs            P holds of none
--   Related m ps j          parameter j is conjugate to an earlier one
--   ApartUntil m ps j      none of the parameters before place j is
--   grouped m ps bs         the blocks: parameters with the locators of each
--   route ls ps xs          the points: each locator with the parameter of its block
--   Gathered m ls ps xs c   these are the points, and the locators of each block are independent
--   Judged m t              the numbers are codes, parameters are not 0, and no two are conjugate
--   Breaks m ls xs base e   the first block with dependent locators, and in it the first locator that depends on earlier ones
--   Unfit m t e             the code of the sheet is refused
--   Made m t c              c is the code of the sheet, and lawful; and the sheet has none of the faults
--   OneFault m              no sheet has two of the faults
use Rattle.std.specs.Prelude.{◌≡◌, ℕ, ◌+◌, ◌<◌, ◌≤◌, ◌⊎◌, List, [], ◌∷◌, ◌++◌, map, length, take, drop, slice_index, slice_index_or}
use Rattle.fields.specs.Meaning.{Meaning}
use Rattle.fields.specs.Elements.{Elem, elem, elems, ops}
use Rattle.skew.specs.declared.points.Point.{Point}
use Rattle.skew.specs.Roots.{Block, block, Independent, Conjugate}
use Rattle.sheets.specs.declared.faults.Fault.{Fault}
use Rattle.sheets.specs.declared.faults.Reason.{Reason}
use Rattle.sheets.specs.declared.faults.Reason.TheVariants.{NoCode, Dependent}
use Rattle.sheets.specs.declared.faults.Reason.TheVariants as reason
use Rattle.sheets.specs.declared.faults.Layer.TheVariants as layer
use Rattle.codes.specs.declared.shape.Code.{Code}
use Rattle.codes.specs.Holdings.{held, stops}
use Rattle.sheets.specs.Sheets.{Text}
use Rattle.ranks.specs.Ranks.{total, cut, Depends}
use Rattle.codes.specs.Codes.{LawfulCode}

abbrev pub at_code : Reason → ℕ → Fault
at_code reason place = record { reason = reason; layer = layer.Code; place = place }

abbrev pub Outside : Meaning → ℕ → ℕ → Type 0
Outside m least x = (x < least) ⊎ (m.size ≤ x)

pub record First (P : ℕ → Type 0) (xs : List ℕ) (i : ℕ) : Type 0 where
  pub within : i < length xs
  pub here : P (slice_index xs i)
  pub before : (j : ℕ) → j < i → ¬ P (slice_index xs j)

abbrev pub AllNot : (ℕ → Type 0) → List ℕ → Type 0
AllNot P xs = (j : ℕ) → j < length xs → ¬ P (slice_index xs j)

module _ (m : Meaning) where
  abbrev pub Related : List ℕ → ℕ → Type 0
  Related ps j = (i : ℕ) × (i < j) × Conjugate (ops m) (elem m (slice_index ps i)) (elem m (slice_index ps j))

  abbrev pub ApartUntil : List ℕ → ℕ → Type 0
  ApartUntil ps j = (i : ℕ) → i < j → ¬ Related ps i

  abbrev pub grouped : List ℕ → List (List ℕ) → List (Block (Elem m))
  grouped [] bs = []
  grouped (a ∷ ps) [] = []
  grouped (a ∷ ps) (b ∷ bs) = block (elem m a) (elems m b) ∷ grouped ps bs

abbrev pub pointed : ℕ → ℕ → Point
pointed a b = record { parameter = a; locator = b }

abbrev pub route : List ℕ → List ℕ → List ℕ → List Point
route [] ps xs = []
route (n ∷ ls) [] xs = []
route (n ∷ ls) (a ∷ ps) xs = map (pointed a) (take n xs) ++ route ls ps (drop n xs)

pub record Gathered (m : Meaning) (ls ps xs : List ℕ) (points : List Point) : Type 0 where
  pub all : points ≡ route ls ps xs
  pub free : (b : List ℕ) (i : ℕ) → i < length ls → Independent (ops m) (elems m (slice_index_or (cut ls xs) i b))

pub record Judged (m : Meaning) (t : Text) : Type 0 where
  pub parameters : AllNot (Outside m 1) t.parameters
  pub locators : AllNot (Outside m 0) t.locators
  pub apart : ApartUntil m t.parameters (length t.parameters)

pub record Breaks (m : Meaning) (ls xs : List ℕ) (base : ℕ) (e : Fault) : Type 0 where
  pub front : List ℕ
  pub size : ℕ
  pub rest : List ℕ
  pub place : ℕ
  pub lengths_are : ls ≡ front ++ size ∷ rest
  pub before : (b : List ℕ) (i : ℕ) → i < length front → Independent (ops m) (elems m (slice_index_or (cut ls xs) i b))
  pub here : Depends m (take size (drop (total front) xs)) place
  pub fault : e ≡ at_code Dependent (base + (total front + place))

pub data Unfit (m : Meaning) (t : Text) : Fault → Type 0 where
  no_parameter : (i : ℕ) → First (Outside m 1) t.parameters i → Unfit m t (at_code NoCode (4 + length t.blocks + i))
  no_locator : (i : ℕ) → AllNot (Outside m 1) t.parameters → First (Outside m 0) t.locators i
      → Unfit m t (at_code NoCode (5 + length t.blocks + length t.parameters + i))
  related : (j : ℕ) → AllNot (Outside m 1) t.parameters → AllNot (Outside m 0) t.locators → j < length t.parameters → ApartUntil m t.parameters j → Related m t.parameters j
      → Unfit m t (at_code reason.Conjugate (4 + length t.blocks + j))
  dependent : {e : Fault} → Judged m t → Breaks m t.blocks t.locators (5 + length t.blocks + length t.parameters) e → Unfit m t e

pub record Made (m : Meaning) (t : Text) (c : Code) : Type 0 where
  pub dimension : c.dimension ≡ t.dimension
  pub lengths : held c.lengths ≡ t.blocks
  pub points : stops c.course ≡ route t.blocks t.parameters t.locators
  pub lawful : LawfulCode m c
  pub fit : (e : Fault) → ¬ Unfit m t e

-- A sheet has at most one fault of its code.
abbrev pub OneFault : Meaning → Type 0
OneFault m = (t : Text) (e f : Fault) → Unfit m t e → Unfit m t f → e ≡ f
