use Rattle.std.proofs.Common.{◌≡◌, length, arith, rules}
use Rattle.ranks.proofs.Weighing.{weighing_goes_on, weighing_all, weighing_ends}
use Rattle.ranks.proofs.weights.weight.Goals as goal

pub loop-n-preserved : goal.loop-n-preserved
loop-n-preserved g c =
    weighing_goes_on (g.K.Kind.meaning c.args.kind.now) c.args.lengths.now c.rank-sum.result _ _ c.loop-n-test.true c.in_ok-block.ensures.cases.0 c.in_ok-block.ensures.cases.1 c.in_ok-block.ensures.cases.2
    c.rank-sum.ensures c.loop-n.invariant

pub overflow_add-sum : goal.overflow_add-sum
overflow_add-sum g c = omega (arith, (loop-n-preserved g c).few)

pub returns-then-is_empty : goal.returns-then-is_empty
returns-then-is_empty g c =
    let m = g.K.Kind.meaning c.args.kind.now in
    let none : length c.loop-n.rest.now ≡ 0 = search rules in
    (omega (arith, none, weighing_all m c.args.lengths.now c.loop-n-test.false c.loop-n.invariant), weighing_ends m c.args.lengths.now c.args.word.now c.loop-n-test.false c.loop-n.invariant)
