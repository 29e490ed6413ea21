use Rattle.skew.proofs.Growing.{annihilator_starts, annihilator_goes_on, annihilator_room, annihilator_ends}
use Rattle.skew.proofs.annihilators.annihilator.Goals as goal

pub loop-p-init : goal.loop-p-init
loop-p-init g c = annihilator_starts (g.met.K.Kind.lawful c.args.kind.now) c.empty-out.ensures c.push.ensures

pub loop-p-preserved : goal.loop-p-preserved
loop-p-preserved g c =
    annihilator_goes_on (g.met.K.Kind.lawful c.args.kind.now) (record { parameter = 0; locator = 0 }) c.args.points.now c.loop-p-test.true c.loop-p.invariant c.in_ok-out.ensures

pub returns-in_err-out : goal.returns-in_err-out
returns-in_err-out g c =
    absurd (annihilator_room (g.met.K.Kind.lawful c.args.kind.now) c.args.points.now c.if-points-gt-MOST.false c.loop-p-test.true c.loop-p.invariant c.in_err-out.ensures)

pub returns : goal.returns
returns g c = annihilator_ends (g.met.K.Kind.lawful c.args.kind.now) c.if-points-gt-MOST.false c.loop-p-test.false c.loop-p.invariant
