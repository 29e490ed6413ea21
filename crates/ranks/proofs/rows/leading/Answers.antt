use Rattle.std.proofs.Common.{rules}
use Rattle.ranks.proofs.SeekingLoop.{seeking_goes_on, seeking_finds, seeking_ends}
use Rattle.ranks.proofs.rows.leading.Goals as goal

pub loop-place-preserved : goal.loop-place-preserved
loop-place-preserved g c = seeking_goes_on (g.met.K.Kind.lawful c.args.kind.now) c.loop-place.invariant c.in_default.ensures

pub returns-in-Some : goal.returns-in-Some
returns-in-Some g c = seeking_finds (g.met.K.Kind.lawful c.args.kind.now) c.args.row.now.cells c.loop-place-test.true c.in-Some.ensures

pub returns : goal.returns
returns g c = seeking_ends (g.met.K.Kind.lawful c.args.kind.now) c.loop-place-test.false (search rules) c.loop-place.invariant
