use Rattle.std.proofs.Common.{rules}
use Rattle.skew.proofs.Resizing.{resize_starts, resize_goes_on, resize_ends}
use Rattle.skew.proofs.few.numbers.Few+u8+N.resized.Goals as goal

pub loop-i-init : goal.loop-i-init
loop-i-init g c = resize_starts c.empty-out.ensures

pub loop-i-preserved : goal.loop-i-preserved
loop-i-preserved g c = resize_goes_on c.loop-i.invariant c.get.ensures c.push.ensures

pub returns : goal.returns
returns g c = resize_ends c.loop-i-test.false (search rules) c.loop-i.invariant
