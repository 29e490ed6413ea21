-- What is said of a hint that is not taken.
use Rattle.std.specs.Prelude.{ℕ, List, ◌++◌, codes, decimal}
use Rattle.hints.specs.declared.not_taken.NotTaken.{NotTaken}
use Rattle.hints.specs.declared.not_taken.NotTaken.TheVariants.{NoBlock, WrongLength, NoCode, Dependent, Spent}

abbrev pub reason_of : NotTaken → List ℕ
reason_of NoBlock = codes "no block"
reason_of WrongLength = codes "wrong length"
reason_of (NoCode place) = codes "no code " ++ decimal place
reason_of Dependent = codes "dependent"
reason_of Spent = codes "spent"
