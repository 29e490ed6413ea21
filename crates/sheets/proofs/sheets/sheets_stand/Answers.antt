use Rattle.sheets.proofs.Certainty.{unambiguous}
use Rattle.sheets.proofs.sheets.sheets_stand.Goals as goal

pub returns : goal.returns
returns c = unambiguous
