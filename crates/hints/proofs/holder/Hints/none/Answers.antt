use Rattle.std.proofs.Common.{refl}
use Rattle.hints.proofs.EmptyHints.{none_held}
use Rattle.hints.proofs.holder.Hints.none.Goals as goal

pub returns : goal.returns
returns c = none_held _ c.empty-form.ensures refl refl refl
