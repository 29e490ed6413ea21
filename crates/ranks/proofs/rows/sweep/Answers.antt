use Rattle.std.proofs.Common.{◌≡◌, ◌+◌, ◌<◌, length, Some, sym, subst, arith, rules}
use Rattle.ranks.specs.Reduction.{row}
use Rattle.ranks.proofs.SweepingLoop.{SlotSwept, Sweeping, sweeping_goes_on, row_swept, sweeping_ends}
use Rattle.ranks.proofs.rows.sweep.Goals as goal
use Rattle.ranks.proofs.rows.sweep.Goals.{in-Some, in_default}

pub loop-slot-preserved : goal.loop-slot-preserved
loop-slot-preserved g c =
    let l = g.met.K.Kind.lawful c.args.kind.now in
    let m = g.K.Kind.meaning c.args.kind.now in
    let h = row m c.args.by.now in
    let n : length c.args.form.now.rows ≡ 8 = search rules in
    let lt : c.loop-slot.slot-index < length c.loop-slot.slot-items = omega (arith, c.loop-slot-test.true, n, c.loop-slot.invariant.size) in
    elim c.match-slot.branch [
      | in-Some w ↦
          subst (Sweeping m c.args.form.now.rows c.args.p h (c.loop-slot.slot-index + 1)) (sym w.slot-items-is)
          (sweeping_goes_on l _ lt c.loop-slot.invariant
          (subst (λ s. SlotSwept m c.args.p h s (Some w.combined.result)) (sym w.in-Some.is) (row_swept l w.in-Some.row w.combined.result c.args.p h w.opposite-minus.ensures w.combined.ensures)))
      | in_default w ↦
          subst (Sweeping m c.args.form.now.rows c.args.p h (c.loop-slot.slot-index + 1)) (sym w.slot-items-is)
          (sweeping_goes_on l _ lt c.loop-slot.invariant (subst (λ s. SlotSwept m c.args.p h s s) (sym w.in_default.is) tt))
    ]

pub returns : goal.returns
returns g c =
    let n : length c.args.form.now.rows ≡ 8 = search rules in
    sweeping_ends (g.met.K.Kind.lawful c.args.kind.now) c.args.form.now _ (omega (arith, c.loop-slot-test.false, n)) c.loop-slot.invariant
