use Rattle.skew.proofs.Untwisting.{untwist_starts, untwist_goes_on, untwist_ends}
use Rattle.skew.proofs.quotients.untwisted.Goals as goal

pub loop-init : goal.loop-init
loop-init g c = untwist_starts (g.met.K.Kind.lawful c.args.kind.now) c.args.x c.code-y.ensures

pub loop-preserved : goal.loop-preserved
loop-preserved g c = untwist_goes_on (g.met.K.Kind.lawful c.args.kind.now) c.loop.invariant c.untwist-y.ensures

pub returns : goal.returns
returns g c = untwist_ends (g.met.K.Kind.lawful c.args.kind.now) c.loop-test.false c.loop.auto.counter-end c.loop.invariant
