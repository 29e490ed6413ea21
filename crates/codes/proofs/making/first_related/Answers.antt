use Rattle.std.proofs.Common.{arith, below_more}
use Rattle.codes.proofs.making.first_related.Goals as goal

pub loop-j-init : goal.loop-j-init
loop-j-init g c = λ j h. absurd (omega arith)

pub loop-j-preserved : goal.loop-j-preserved
loop-j-preserved g c = below_more _ _ c.loop-j.invariant c.if-related.ensures

pub returns-then-related : goal.returns-then-related
returns-then-related g c = (c.loop-j-test.true, c.loop-j.invariant, c.if-related.ensures)

pub returns : goal.returns
returns g c = λ j h. c.loop-j.invariant j (omega (arith, c.loop-j-test.false))
