use Rattle.std.proofs.Common.{rules}
use Rattle.codes.proofs.Multipliers.{multipliers_start, multipliers_go_on, multipliers_end}
use Rattle.codes.proofs.duals.multipliers.Goals as goal

pub loop-i-init : goal.loop-i-init
loop-i-init g c = multipliers_start (g.met.K.Kind.lawful c.args.kind.now) c.args.points.now c.empty-out.ensures

pub loop-i-preserved : goal.loop-i-preserved
loop-i-preserved g c =
    multipliers_go_on (g.met.K.Kind.lawful c.args.kind.now) c.args.points.now c.loop-i-test.true c.requires c.loop-i.invariant c.in_ok-w.ensures c.push.ensures

pub returns : goal.returns
returns g c = multipliers_end (g.met.K.Kind.lawful c.args.kind.now) c.args.points.now c.loop-i-test.false (search rules) c.loop-i.invariant
