use Rattle.std.proofs.Common.{◌+◌, sym, ap, ◌∙◌, subst, arith, length-take-le}
use Rattle.fields.proofs.Carrier
use Rattle.codes.specs.Holdings.{stops}
use Rattle.recovery.proofs.Walking.{Pointing, pointing_skips, pointing_goes_on, pointing_ends}
use Rattle.recovery.proofs.killing.add_points.Goals as goal
use Rattle.recovery.proofs.killing.add_points.Goals.{in-Some, in_default}

pub loop-slot-preserved : goal.loop-slot-preserved
loop-slot-preserved g c =
    let m = g.K.Kind.meaning c.args.kind.now in
    elim c.match-slot.branch [
      | in-Some w ↦
          pointing_goes_on m w.element_of-locator.result w.in-Some.row c.loop-slot-test.true w.in-Some.is (Carrier.named _ w.element_of-locator.ensures) (ap stops w.out-is ∙ w.push.ensures) c.loop-slot.invariant
      | in_default w ↦
          subst (λ o. Pointing m c.args.form.now c.args.parameter (stops c.args.out.now) (c.loop-slot.slot-index + 1) (stops o)) (sym w.out-is)
          (pointing_skips m c.loop-slot-test.true w.in_default.is c.loop-slot.invariant)
    ]

pub returns : goal.returns
returns g c =
    pointing_ends (g.K.Kind.meaning c.args.kind.now) c.loop-slot-test.false
    (omega (arith, c.loop-slot.out.fits, c.loop-slot.out.whole, length-take-le c.loop-slot.out.len c.loop-slot.out.cells (omega (arith, c.loop-slot.out.fits, c.loop-slot.out.whole)))) c.loop-slot.invariant
