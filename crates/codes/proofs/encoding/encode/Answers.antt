use Rattle.std.proofs.Common.{length, ap, ◌∙◌, arith}
use Rattle.skew.proofs.Filling.{short}
use Rattle.codes.proofs.EncodingLoop.{row, goes_on, ends}
use Rattle.codes.proofs.encoding.encode.Goals as goal

pub loop-p-init : goal.loop-p-init
loop-p-init g c = c.empty-out.ensures

pub loop-p-preserved : goal.loop-p-preserved
loop-p-preserved g c =
    goes_on (g.K.Kind.meaning c.args.kind.now) c.args.message.now c.as_slice-points.result.now (record { parameter = 0; locator = 0 })
    (omega (arith, ap length c.as_slice-points.ensures, short c.args.code.now.course))
    c.loop-p-test.true c.loop-p.invariant c.value-symbol.ensures.sum c.push.ensures

pub returns : goal.returns
returns g c =
    ends (g.K.Kind.meaning c.args.kind.now) c.args.message.now c.as_slice-points.result.now c.loop-p-test.false c.loop-p.invariant
    ∙ ap (row (g.K.Kind.meaning c.args.kind.now) c.args.message.now) c.as_slice-points.ensures
