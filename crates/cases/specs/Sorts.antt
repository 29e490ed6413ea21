-- What hints of a sort are called.
use Rattle.std.specs.Prelude.{ℕ, List, codes}
use Rattle.cases.specs.declared.readers.Hint.{Hint}
use Rattle.cases.specs.declared.readers.Hint.TheVariants.{Row, Column}

abbrev pub sort_of : Hint → List ℕ
sort_of (Row block element) = codes "row"
sort_of (Column block coefficients) = codes "column"
