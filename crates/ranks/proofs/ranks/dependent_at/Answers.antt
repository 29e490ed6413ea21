use Rattle.ranks.proofs.Ranking.{free_goes_on, free_stops}
use Rattle.ranks.proofs.ranks.dependent_at.Goals as goal

pub loop-i-preserved : goal.loop-i-preserved
loop-i-preserved g c =
    free_goes_on (g.met.K.Kind.lawful c.args.kind.now) c.args.locators.now c.insert-more.new.self c.insert-more.result c.of_digits.result.cells c.loop-i-test.true c.loop-i.invariant c.of_digits.ensures c.insert-more.ensures c.if-not-more.false

pub returns-then-not-more : goal.returns-then-not-more
returns-then-not-more g c =
    free_stops (g.met.K.Kind.lawful c.args.kind.now) c.args.locators.now c.insert-more.new.self c.insert-more.result c.of_digits.result.cells c.loop-i-test.true c.loop-i.invariant c.of_digits.ensures c.insert-more.ensures c.if-not-more.true
