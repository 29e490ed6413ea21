use Rattle.std.proofs.Common.{rules}
use Rattle.hints.specs.Shown.{reduced_by}
use Rattle.hints.proofs.Rowwise.{images_are}
use Rattle.hints.proofs.splitting.reduced_row.Goals as goal

pub returns : goal.returns
returns g c = λ k.
    let m = g.K.Kind.meaning c.args.kind.now in
    images_are m (reduced_by m c.args.form.now) c.args.row.now.cells c.from_fn.result.cells (search rules) c.from_fn.ensures.0 (λ i lt. let h = c.from_fn.ensures.1 i lt in search rules)
