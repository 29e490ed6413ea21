-- Writing the sheet of a code.
--
--   written s         the bytes that s holds
--   Described c t     c is the code of the sheet t: its dimension, its lengths, and each locator with the parameter of its block
use Rattle.std.specs.Prelude.{◌≡◌, ℕ, List}
use Rattle.skew.specs.declared.few.Few.{Few}
use Rattle.skew.specs.Few as few
use Rattle.codes.specs.declared.shape.Code.{Code}
use Rattle.codes.specs.Holdings.{held, stops}
use Rattle.sheets.specs.Sheets.{Text, Whole}
use Rattle.codes.specs.Fitness.{route}

abbrev pub written : Few ℕ 64 → List ℕ
written s = few.held s

pub record Described (c : Code) (t : Text) : Type 0 where
  pub whole : Whole t.dimension t.blocks t.parameters t.locators
  pub dimension : c.dimension ≡ t.dimension
  pub lengths : held c.lengths ≡ t.blocks
  pub points : stops c.course ≡ route t.blocks t.parameters t.locators
