use Rattle.std.proofs.Common.{arith}
use Rattle.skew.proofs.Carrying.{pairs_start, pairs_go_on, pairs_few, pairs_end}
use Rattle.skew.proofs.engine.pairs.Goals as goal

pub loop-site-init : goal.loop-site-init
loop-site-init g c = pairs_start (g.met.K.Kind.lawful c.args.kind.now) c.args.k c.start-s.ensures

pub advance-requires : goal.advance-requires
advance-requires g c =
    let few = pairs_few (g.met.K.Kind.lawful c.args.kind.now) c.args.k c.args.sites.now c.if-sites-gt-MOST.false c.loop-site-test.true c.loop-site.invariant in
    (omega arith, omega arith)

pub loop-site-preserved : goal.loop-site-preserved
loop-site-preserved g c =
    pairs_go_on (g.met.K.Kind.lawful c.args.kind.now) (record { parameter = 0; locator = 0; second = 0 }) c.args.k c.args.sites.now c.if-sites-gt-MOST.false c.loop-site-test.true c.loop-site.invariant c.advance.ensures

pub returns : goal.returns
returns g c = (c.if-sites-gt-MOST.false, pairs_end (g.met.K.Kind.lawful c.args.kind.now) c.args.sites.now c.loop-site-test.false c.loop-site.invariant)
