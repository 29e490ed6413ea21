use Rattle.std.proofs.Common.{◌≡◌, length, rules}
use Rattle.skew.proofs.Combining.{raise_starts, raise_goes_on, raise_ends}
use Rattle.skew.proofs.few.changing.Few+u8+N.raise.Goals as goal

pub loop-i-init : goal.loop-i-init
loop-i-init g c = raise_starts (g.met.K.Kind.lawful c.args.kind.now) (search rules)

pub loop-i-preserved : goal.loop-i-preserved
loop-i-preserved g c =
    let n : length c.args.self.now.cells ≡ g.row.N = c.args.self.now.whole in
    raise_goes_on (g.met.K.Kind.lawful c.args.kind.now) c.args.self.now.fits n c.opposite-d.ensures c.loop-i-test.true c.loop-i.invariant
    c.product-left.ensures c.sum-sum.ensures c.twist-below.ensures

pub returns : goal.returns
returns g c =
    let n : length c.args.self.now.cells ≡ g.row.N = c.args.self.now.whole in
    raise_ends (g.met.K.Kind.lawful c.args.kind.now) c.args.self.now.fits n c.loop-i-test.false (search rules) c.loop-i.invariant c.push.ensures
