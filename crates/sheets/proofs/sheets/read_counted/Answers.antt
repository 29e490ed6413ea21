-- A section that runs out, and one that is all there.
use Rattle.std.proofs.Common.{arith}
use Rattle.std.proofs.lemmas.Grind.{common_steps}
use Rattle.sheets.proofs.Steps.{counted_missing, counted}
use Rattle.sheets.proofs.sheets.read_counted.Goals as goal

pub returns : goal.returns
returns c = grind (arith, common_steps, counted_missing, counted)
