use Rattle.std.proofs.Common.{arith}
use Rattle.fields.proofs.PowerLoops.{squares_start, squares_go_on}
use Rattle.fields.proofs.bits.reciprocal.Goals as goal

pub loop-init : goal.loop-init
loop-init c = squares_start c.args.a (omega arith)

pub loop-preserved : goal.loop-preserved
loop-preserved c = squares_go_on (omega arith) c.loop.invariant c.times-x.ensures c.times-all.ensures
