use Rattle.skew.proofs.Carrying.{worth_is}
use Rattle.skew.proofs.engine.worths.Goals as goal

pub returns : goal.returns
returns g c =
    let l = g.met.K.Kind.lawful c.args.kind.now in (
      worth_is l c.args.s.now.first c.args.site c.as_slice.ensures c.values-a0.ensures.0 c.as_slice-3.ensures c.values-a1.ensures.0 c.sum.ensures,
      worth_is l c.args.s.now.second c.args.site c.as_slice-2.ensures c.values-a0.ensures.1 c.as_slice-4.ensures c.values-a1.ensures.1 c.sum-2.ensures,
    )
