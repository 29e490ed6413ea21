-- After some turns as many points are written.
use Rattle.std.proofs.Common.{take, flat_map}
use Rattle.std.specs.Fmt.{HasWritten, IsPlainFormatter}
use Rattle.shown.specs.Rows.{point_text}
use Rattle.shown.proofs.rows.PlacesDisplay.fmt.Given as goal

abbrev pub invariant-loop-p : goal.invariant-loop-p
invariant-loop-p g l =
    IsPlainFormatter l.initial.f → HasWritten g.W.Write.write_str_gives l.initial.f (flat_map point_text (take l.p-index l.p-items)) l.f
