use Rattle.std.proofs.Common.{arith}
use Rattle.codes.proofs.Checking.{check_starts, check_goes_on, check_ends, terms_fit}
use Rattle.codes.proofs.syndrome.syndromes.Goals as goal

pub loop-init : goal.loop-init
loop-init g c =
    check_starts (g.met.K.Kind.lawful c.args.kind.now) c.args.points.now c.args.duals.now c.args.word.now (omega arith) (omega arith) c.scaled-terms.ensures c.empty-out.ensures

pub advance-terms-requires : goal.advance-terms-requires
advance-terms-requires g c = terms_fit (g.met.K.Kind.lawful c.args.kind.now) c.args.points.now c.args.duals.now c.args.word.now (omega arith) c.loop.invariant

pub loop-preserved : goal.loop-preserved
loop-preserved g c =
    check_goes_on (g.met.K.Kind.lawful c.args.kind.now) c.args.points.now c.args.duals.now c.args.word.now (omega arith) (omega arith) (omega arith) c.loop.invariant c.product_sum-s.ensures
    c.push.ensures c.advance-terms.ensures

pub returns : goal.returns
returns g c =
    check_ends (g.met.K.Kind.lawful c.args.kind.now) c.args.points.now c.args.duals.now c.args.k c.args.word.now (omega arith) (omega arith) (omega arith) c.loop-test.false c.loop.auto.counter-end
    c.loop.invariant
