-- What is printed of a number and of a point in a row: a space, and then it.
use Rattle.std.specs.Prelude.{ℕ, List, ◌++◌, codes, decimal}
use Rattle.skew.specs.declared.points.Point.{Point}

abbrev pub number_text : ℕ → List ℕ
number_text x = codes " " ++ decimal x

abbrev pub point_text : Point → List ℕ
point_text p = codes " " ++ decimal p.parameter ++ codes ":" ++ decimal p.locator
