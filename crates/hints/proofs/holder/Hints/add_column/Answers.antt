use Rattle.std.proofs.Common.{refl, ◌∙◌, arith}
use Rattle.std.proofs.lemmas.Result.{err_from_is_err_and}
use Rattle.codes.specs.Holdings.{held}
use Rattle.hints.specs.Taking.{Left}
use Rattle.hints.proofs.Judging.{column_size, column_depends, column_fresh, column_taken}
use Rattle.hints.proofs.CodePlaces.{places_in}
use Rattle.hints.proofs.holder.Hints.add_column.Goals as goal

pub returns-in_err-entry-clause-judged : goal.returns-in_err-entry-clause-judged
returns-in_err-entry-clause-judged g c = λ gs h.
    let l = g.met.K.Kind.lawful c.args.kind.now in
    let p = err_from_is_err_and c.from_residual-in_err-entry.result c.from_residual-in_err-entry.ensures.1 in
    let place = c.in_ok-at.ensures in
    let long = c.if-coefficients-get.false ∙ c.get.ensures in
    let row = c.padded_row-row in
    rw (p.1, p.2, c.in_err-entry.ensures.refused) (
      (
        place.0,
        column_size l place.0 place.1 h c.args.code.now.each c.args.coefficients.now long c.in_default.ensures row.result.cells row.ensures.few,
        c.in_default.ensures,
        column_depends l place.0 place.1 h c.args.code.now.each c.args.coefficients.now long c.in_default.ensures row.result.cells row.ensures.few c.in_err-entry.ensures.extends,
      ),
      tt,
    )

pub returns-then-spent-clause-judged : goal.returns-then-spent-clause-judged
returns-then-spent-clause-judged g c = λ gs h.
    let l = g.met.K.Kind.lawful c.args.kind.now in
    let place = c.in_ok-at.ensures in
    let long = c.if-coefficients-get.false ∙ c.get.ensures in
    let row = c.padded_row-row in (
      (
        place.0,
        column_size l place.0 place.1 h c.args.code.now.each c.args.coefficients.now long c.in_default.ensures row.result.cells row.ensures.few,
        c.in_default.ensures,
        column_fresh l place.0 place.1 h c.args.code.now.each c.args.coefficients.now long c.in_default.ensures row.result.cells row.ensures.few c.in_ok-entry.ensures.extends,
        (λ left. omega (arith, left, c.if-spent.ensures, h.rows, h.columns, places_in c.args.code.now)),
      ),
      tt,
    )

pub returns-clause-judged : goal.returns-clause-judged
returns-clause-judged g c = λ gs h.
    let l = g.met.K.Kind.lawful c.args.kind.now in
    let place = c.in_ok-at.ensures in
    let long = c.if-coefficients-get.false ∙ c.get.ensures in
    let row = c.padded_row-row in
    let left : Left (g.K.Kind.meaning c.args.kind.now) (held c.args.code.now.lengths) c.args.code.now.dimension gs = omega (arith, c.if-spent.ensures, h.rows, h.columns, places_in c.args.code.now) in (
      (
        place.0,
        column_size l place.0 place.1 h c.args.code.now.each c.args.coefficients.now long c.in_default.ensures row.result.cells row.ensures.few,
        c.in_default.ensures,
        column_fresh l place.0 place.1 h c.args.code.now.each c.args.coefficients.now long c.in_default.ensures row.result.cells row.ensures.few c.in_ok-entry.ensures.extends,
        left,
      ),
      column_taken l place.0 place.1 h c.args.code.now.each c.args.coefficients.now long c.in_default.ensures row.result.cells row.ensures.few c.in_ok-entry.ensures.extends _ c.args.code.now.blocks
          c.args.self.now.room left refl refl refl,
    )
