-- The numbers of refusals.
--     number_of       the number that the format gives a reason
--     layer_number_of the number of the layer that refuses
--     refused_by      a refusal of a layer
--     at_sheet        a refusal of the layer that reads sheets
--     line_of         the line that is printed of a refusal
use Rattle.std.specs.Prelude.{ℕ, List, ◌++◌, codes, decimal}
use Rattle.sheets.specs.declared.faults.Fault.{Fault}
use Rattle.sheets.specs.declared.faults.Layer.{Layer}
use Rattle.sheets.specs.declared.faults.Layer.TheVariants.{Sheet, Code, Station, Job}
use Rattle.sheets.specs.declared.faults.Reason.{Reason}
use Rattle.sheets.specs.declared.faults.Reason.TheVariants.{
  MissingByte,
  ExtraBytes,
  OtherKind,
  Limit,
  NoCode,
  Conjugate,
  Dependent,
  NotOpen,
  WrongLength,
  NoSymbol,
  OutOfRange,
  DependentHint,
  Spent,
  OutOfReach,
  FullTally,
  NoCodeword,
  NoDual,
}

abbrev pub number_of : Reason → ℕ
-- the next byte is missing
number_of MissingByte = 1
-- bytes follow the last section
number_of ExtraBytes = 2
-- the kind number is not the one that was asked for
number_of OtherKind = 3
-- a count, a length, the length of the code or its dimension breaks its limit
number_of Limit = 4
-- a parameter or a locator is no code, or a parameter is 0
number_of NoCode = 5
-- two parameters are conjugate
number_of Conjugate = 6
-- the locators of a block are dependent
number_of Dependent = 7
-- the call is not open in the state of the station
number_of NotOpen = 8
-- an input, a row or a buffer has not its exact length
number_of WrongLength = 9
-- a symbol is no code, or a coefficient of a column hint is not fixed
number_of NoSymbol = 10
-- a block is not one of the code, or an item is none
number_of OutOfRange = 11
-- a hint is a sum of hints of its sort in its block
number_of DependentHint = 12
-- there are n - k hints already
number_of Spent = 13
-- no codeword is in reach of the word
number_of OutOfReach = 14
-- the tally is full
number_of FullTally = 15
-- the word is no codeword
number_of NoCodeword = 16
-- the code has no dual, since k is n
number_of NoDual = 17

abbrev pub layer_number_of : Layer → ℕ
-- the bytes of a sheet
layer_number_of Sheet = 1
-- the code that a sheet describes
layer_number_of Code = 2
-- calls of a station
layer_number_of Station = 3
-- the bytes of a job
layer_number_of Job = 4

abbrev pub refused_by : Layer → Reason → ℕ → Fault
refused_by layer reason place = record { reason = reason; layer = layer; place = place }

abbrev pub at_sheet : Reason → ℕ → Fault
at_sheet reason place = refused_by Sheet reason place

abbrev pub line_of : Fault → List ℕ
line_of f =
    codes "refused " ++ decimal (number_of f.reason) ++ codes " layer " ++ decimal (layer_number_of f.layer) ++ codes " place " ++ decimal f.place
