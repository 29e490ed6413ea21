-- Lists of calls with their answers.
--
--   start                 a bare station, with an empty tally
--   History p cs rs q     put to a station at p one after the other, the calls cs are answered rs, and lead to q
use Rattle.std.specs.Prelude.{List, [], ◌∷◌, Result}
use Rattle.fields.specs.Meaning.{Meaning}
use Rattle.sheets.specs.declared.faults.Fault.{Fault}
use Rattle.station.specs.Calls.{Command, Reply}
use Rattle.station.specs.Positions.{Position, bare, at}
use Rattle.station.specs.Rules.{Answered}

abbrev pub start : (m : Meaning) → Position m
start m = at m bare (record { words = 0; errors = 0 })

pub data History (m : Meaning) : Position m → List Command → List (Result Reply Fault) → Position m → Type 0 where
  no_call : {p : Position m} → History m p [] [] p
  call : {p q r : Position m} {c : Command} {cs : List Command} {a : Result Reply Fault} {rest : List (Result Reply Fault)}
      → Answered m p c a q → History m q cs rest r → History m p (c ∷ cs) (a ∷ rest) r
