use Rattle.fields.proofs.PowerLoops.{cubes_go_on}
use Rattle.fields.proofs.ternary.reciprocal.Goals as goal

pub loop-preserved : goal.loop-preserved
loop-preserved c = cubes_go_on c.requires c.loop.invariant c.cube-x.ensures.value c.multiplied.ensures c.multiplied-all.ensures
