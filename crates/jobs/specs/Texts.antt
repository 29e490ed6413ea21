-- The text of what a job comes to.
--
--   Found         what was recovered, as lists; found_of and outcome_of make it of the program's values
--   spaced n      a space and the number in decimal
--   numbers xs    each number in decimal, a space before each
--   line name xs  a line: its name and the numbers
--   text_of o     five lines, the counts before their parts; or the line of the refusal
use Rattle.std.specs.Prelude.{ℕ, List, [], ◌∷◌, ◌++◌, codes, decimal, Result, Ok, Err}
use Rattle.sheets.specs.declared.faults.Fault.{Fault}
use Rattle.sheets.specs.Faults.{line_of}
use Rattle.codes.specs.Holdings.{held}
use Rattle.jobs.specs.declared.outcome.Recovered.{Recovered}

pub record Found : Type 0 where
  pub codeword : List ℕ
  pub message : List ℕ
  pub full : List ℕ
  pub row : List ℕ
  pub column : List ℕ
  pub full_errors : ℕ
  pub row_hints : ℕ
  pub column_hints : ℕ

abbrev pub found_of : Recovered → Found
found_of r = record {
  codeword = held r.codeword;
  message = held r.message;
  full = held r.full;
  row = held r.row;
  column = held r.column;
  full_errors = r.counts.full;
  row_hints = r.counts.row;
  column_hints = r.counts.column;
}

abbrev pub outcome_of : Result Recovered Fault → Result Found Fault
outcome_of (Ok r) = Ok (found_of r)
outcome_of (Err e) = Err e

abbrev pub spaced : ℕ → List ℕ
spaced n = codes " " ++ decimal n

abbrev pub numbers : List ℕ → List ℕ
numbers [] = []
numbers (x ∷ xs) = spaced x ++ numbers xs

abbrev pub line : List ℕ → List ℕ → List ℕ
line name xs = name ++ (numbers xs ++ codes "\n")

abbrev pub text_of : Result Found Fault → List ℕ
text_of (Ok r) =
    line (codes "word") r.codeword ++ (line (codes "message") r.message ++ (line (codes "full") (r.full_errors ∷ r.full)
    ++ (line (codes "row") (r.row_hints ∷ r.row) ++ line (codes "column") (r.column_hints ∷ r.column))))
text_of (Err e) = line_of e ++ codes "\n"
