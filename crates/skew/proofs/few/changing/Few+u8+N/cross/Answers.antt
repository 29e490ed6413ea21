use Rattle.std.proofs.Common.{◌≡◌, max, length, arith, rules}
use Rattle.skew.specs.Few.{held}
use Rattle.skew.proofs.Filling.{long}
use Rattle.skew.proofs.Combining.{crossed, combine_starts, combine_goes_on, combine_ends}
use Rattle.skew.proofs.few.changing.Few+u8+N.cross.Goals as goal

pub loop-i-init : goal.loop-i-init
loop-i-init g c = combine_starts (g.met.K.Kind.lawful c.args.kind.now) (search rules)

pub loop-i-preserved : goal.loop-i-preserved
loop-i-preserved g c =
    let n = long c.args.self.now in
    let k = long c.args.g.now in
    let size : c.max-n.result ≡ max (length (held c.args.self.now)) (length (held c.args.g.now)) = omega (arith, c.max-n.ensures, n, k) in
    combine_goes_on (g.met.K.Kind.lawful c.args.kind.now) size c.loop-i-test.true (omega (arith, c.loop-i-test.true, c.max-n.ensures, c.args.self.now.fits, c.args.g.now.fits))
    c.loop-i.invariant c.get.ensures c.get-in-loop-i.ensures (crossed (g.met.K.Kind.lawful c.args.kind.now) c.args.c c.args.d _ _ c.product-left.ensures c.product-right.ensures c.sum-sum.ensures)

pub returns : goal.returns
returns g c =
    let n = long c.args.self.now in
    let k = long c.args.g.now in
    let size : c.max-n.result ≡ max (length (held c.args.self.now)) (length (held c.args.g.now)) = omega (arith, c.max-n.ensures, n, k) in
    combine_ends (g.met.K.Kind.lawful c.args.kind.now) size c.loop-i-test.false c.loop-i.auto.i-end c.loop-i.invariant
