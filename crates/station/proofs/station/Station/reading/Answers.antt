use Rattle.std.proofs.Common.{length, refl, ap, ◌∙◌, sym, subst, arith}
use Rattle.station.specs.Tables.{Silent}
use Rattle.station.specs.Refusals.{output}
use Rattle.station.proofs.Exactness.{exact, answered}
use Rattle.station.proofs.Reported.{always}
use Rattle.station.proofs.Solving.{length_item, item_fits}
use Rattle.station.proofs.station.Station.reading.Goals as goal

pub returns-clause-rules : goal.returns-clause-rules
returns-clause-rules g c =
    let m = g.K.Kind.meaning c.args.self.now.kind in
    rw c.in-Solved.is
    (λ gs sound.
    let code = c.in-Solved.plan.code in
    let part = c.in-Some.ensures in
    let long = ap length part.1 ∙ length_item m code gs sound.3.0 c.in-Solved.recovery c.args.item part.0 sound.3.1 in (
      (always refl, ((λ e row. omega (arith, row.0, part.0)), (subst (λ n. Silent (output c.args.room n)) long c.in_ok-exact_output.ensures, tt))),
      (answered c.answer.ensures part.1 (item_fits m code gs sound.3.0 c.in-Solved.recovery c.args.item part.0 sound.3.1), refl, sound.1, sound.2, refl),
    ))

pub returns-clause-sized : goal.returns-clause-sized
returns-clause-sized g c =
    let m = g.K.Kind.meaning c.args.self.now.kind in
    rw c.in-Solved.is
    (λ gs sound.
    let part = c.in-Some.ensures in
    ap length (answered c.answer.ensures part.1 (item_fits m c.in-Solved.plan.code gs sound.3.0 c.in-Solved.recovery c.args.item part.0 sound.3.1))
    ∙ sym (ap length part.1) ∙ sym (exact c.in_ok-exact_output.ensures))
