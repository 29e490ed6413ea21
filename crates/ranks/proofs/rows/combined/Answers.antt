use Rattle.std.proofs.Common.{rules}
use Rattle.ranks.proofs.CombinedRows.{combined_is}
use Rattle.ranks.proofs.rows.combined.Goals as goal

pub returns : goal.returns
returns g c =
    combined_is (g.met.K.Kind.lawful c.args.kind.now) c.args.a.now.cells c.args.c c.args.b.now.cells c.from_fn.result.cells (search rules) (search rules) c.from_fn.ensures.0
    (λ i lt. let h = c.from_fn.ensures.1 i lt in search rules)
