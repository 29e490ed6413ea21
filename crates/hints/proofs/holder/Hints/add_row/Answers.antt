use Rattle.std.proofs.Common.{refl, arith}
use Rattle.std.proofs.lemmas.Result.{err_from_is_err_and}
use Rattle.codes.specs.Holdings.{held}
use Rattle.hints.specs.Taking.{Left}
use Rattle.hints.proofs.Judging.{row_depends, row_fresh, row_taken}
use Rattle.hints.proofs.CodePlaces.{places_in}
use Rattle.hints.proofs.holder.Hints.add_row.Goals as goal

pub returns-in_err-entry-clause-judged : goal.returns-in_err-entry-clause-judged
returns-in_err-entry-clause-judged g c = λ gs h.
    let m = g.K.Kind.meaning c.args.kind.now in
    let p = err_from_is_err_and c.from_residual-in_err-entry.result c.from_residual-in_err-entry.ensures.1 in
    let place = c.in_ok-at.ensures in
    rw (p.1, p.2, c.in_err-entry.ensures.refused)
    ((place.0, omega (arith, c.if-element-size.false, c.size.ensures), row_depends (g.met.K.Kind.lawful c.args.kind.now) place.0 place.1 h c.args.element c.of_digits-row.ensures c.in_err-entry.ensures.extends), tt)

pub returns-then-spent-clause-judged : goal.returns-then-spent-clause-judged
returns-then-spent-clause-judged g c = λ gs h.
    let place = c.in_ok-at.ensures in (
      (
        place.0,
        omega (arith, c.if-element-size.false, c.size.ensures),
        row_fresh (g.met.K.Kind.lawful c.args.kind.now) place.0 place.1 h c.args.element c.of_digits-row.ensures c.in_ok-entry.ensures.extends,
        (λ left. omega (arith, left, c.if-spent.ensures, h.rows, h.columns, places_in c.args.code.now)),
      ),
      tt,
    )

pub returns-clause-judged : goal.returns-clause-judged
returns-clause-judged g c = λ gs h.
    let place = c.in_ok-at.ensures in
    let l = g.met.K.Kind.lawful c.args.kind.now in
    let left : Left (g.K.Kind.meaning c.args.kind.now) (held c.args.code.now.lengths) c.args.code.now.dimension gs = omega (arith, c.if-spent.ensures, h.rows, h.columns, places_in c.args.code.now) in (
      (place.0, omega (arith, c.if-element-size.false, c.size.ensures), row_fresh l place.0 place.1 h c.args.element c.of_digits-row.ensures c.in_ok-entry.ensures.extends, left),
      row_taken l place.0 place.1 h c.args.element c.of_digits-row.ensures c.in_ok-entry.ensures.extends _ c.args.code.now.blocks c.args.self.now.room left refl refl refl,
    )
