use Rattle.std.proofs.Common.{◌+◌, take, sym, subst}
use Rattle.ranks.proofs.Ranking.{Counting, counting_more, counting_ends}
use Rattle.ranks.proofs.ranks.rank.Goals as goal
use Rattle.ranks.proofs.ranks.rank.Goals.{then-more, else-more}

pub loop-x-preserved : goal.loop-x-preserved
loop-x-preserved g c =
    let l = g.met.K.Kind.lawful c.args.kind.now in
    let k = counting_more l c.args.symbols.now c.insert-more.new.self c.insert-more.result c.of_digits.result.cells c.loop-x-test.true c.loop-x.invariant c.of_digits.ensures c.insert-more.ensures in
    let xs = take (c.loop-x.x-index + 1) c.args.symbols.now in
    elim c.if-more.branch [
      | then-more w ↦ subst (Counting l xs c.insert-more.new.self) (sym w.count-is) (k.0 w.if-more.true)
      | else-more w ↦ subst (Counting l xs c.insert-more.new.self) (sym w.count-is) (k.1 w.if-more.false)
    ]

pub returns : goal.returns
returns g c = counting_ends (g.met.K.Kind.lawful c.args.kind.now) c.args.symbols.now c.loop-x-test.false c.loop-x.invariant
