use Rattle.fields.specs.Elements.{elem}
use Rattle.ranks.proofs.PaddedDigits.{eight_answers}
use Rattle.hints.proofs.Rowwise.{reduced_is}
use Rattle.hints.proofs.splitting.reduced.Goals as goal

pub returns : goal.returns
returns g c = λ k.
    let m = g.K.Kind.meaning c.args.kind.now in
    reduced_is m c.args.form.now (elem m c.args.x) c.of_digits-digits.result.cells c.cleared-left.result.cells (eight_answers (g.met.K.Kind.lawful c.args.kind.now) c.args.x c.of_digits-digits.ensures)
    (c.cleared-left.ensures k) c.element_of.ensures
