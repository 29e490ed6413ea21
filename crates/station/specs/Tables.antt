-- Tables of refusals. A row says with which fault it refuses, where its condition holds.
--
--   Row              the faults with which a row refuses: none where its condition does not hold
--   where_so P r i    refuses with reason r at place i where P holds
--   Silent r         the condition of the row does not hold
--   Refuses rs e     the first row whose condition holds refuses with e
--   Accepts rs       no condition holds
--   Judges r a        the answer is a refusal by this row, or its condition does not hold
use Rattle.std.specs.Prelude.{◌≡◌, ℕ, ◌⊎◌, List, [], ◌∷◌, Result, MatchResult}
use Rattle.sheets.specs.declared.faults.Fault.{Fault}
use Rattle.sheets.specs.declared.faults.Reason.{Reason}
use Rattle.station.specs.Calls.{at_station}

abbrev pub Row : Type 1
Row = Fault → Type 0

abbrev pub where_so : Type 0 → Reason → ℕ → Row
where_so P reason place e = P × (e ≡ at_station reason place)

abbrev pub Silent : Row → Type 0
Silent r = (e : Fault) → ¬ r e

abbrev pub Refuses : List Row → Fault → Type 0
Refuses [] e = ⊥
Refuses (r ∷ rs) e = r e ⊎ (Silent r × Refuses rs e)

abbrev pub Accepts : List Row → Type 0
Accepts [] = Unit {0}
Accepts (r ∷ rs) = Silent r × Accepts rs

abbrev pub Judges : {A : Type 0} → Row → Result A Fault → Type 0
Judges r a = MatchResult a (λ _. Silent r) r
