use Rattle.std.proofs.Common.{arith}
use Rattle.codes.proofs.Holding.{nothing, filled}
use Rattle.codes.proofs.Multipliers.{scaled_more, length_scaled}
use Rattle.codes.proofs.duals.scaled.Goals as goal

pub loop-x-init : goal.loop-x-init
loop-x-init g c = nothing c.empty-out.ensures

pub loop-x-preserved : goal.loop-x-preserved
loop-x-preserved g c =
    scaled_more (g.met.K.Kind.lawful c.args.kind.now) c.args.c c.args.row.now c.loop-x-test.true c.loop-x.invariant c.product-y.ensures c.push.ensures

pub returns : goal.returns
returns g c = filled (omega (arith, length_scaled (g.met.K.Kind.lawful c.args.kind.now) c.args.c c.args.row.now, c.loop-x-test.false)) c.loop-x.invariant
