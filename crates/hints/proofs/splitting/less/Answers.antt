use Rattle.std.proofs.Common.{rules}
use Rattle.hints.proofs.Rowwise.{minus_are}
use Rattle.hints.proofs.splitting.less.Goals as goal

pub returns : goal.returns
returns g c =
    minus_are (g.met.K.Kind.lawful c.args.kind.now) c.args.a.now.cells c.args.b.now.cells c.from_fn.result.cells (search rules) (search rules) c.from_fn.ensures.0
    (λ i lt. let h = c.from_fn.ensures.1 i lt in search rules)
