use Rattle.ranks.specs.Reduction.{row}
use Rattle.ranks.proofs.SweepingLoop.{Sweeping}
use Rattle.ranks.proofs.rows.sweep.Given as goal

abbrev pub invariant-loop-slot : goal.invariant-loop-slot
invariant-loop-slot g l =
    let m = g.K.Kind.meaning l.kind in
    Sweeping m l.initial.slot-items l.p (row m l.by) l.slot-index l.slot-items
