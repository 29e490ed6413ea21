use Rattle.std.proofs.Common.{refl, inr}
use Rattle.codes.specs.Holdings.{held as numbers}
use Rattle.hints.specs.Taking.{with_row}
use Rattle.station.specs.Positions.{Tallied}
use Rattle.station.proofs.Reported.{always}
use Rattle.station.proofs.Hinted.{row_refused, row_accepted}
use Rattle.station.proofs.station.Station.row.Goals as goal

pub returns-in-Err-clause-rules : goal.returns-in-Err-clause-rules
returns-in-Err-clause-rules g c =
    let m = g.K.Kind.meaning c.args.self.now.kind in
    let t : Tallied = record { words = c.args.self.now.tally.words; errors = c.args.self.now.tally.errors } in
    rw (c.in-Held.is, c.refusal.ensures)
    (λ gs sound. (gs, sound, (inr (always refl, row_refused m c.in-Held.plan.code (numbers c.in-Held.word) gs t c.args.block c.args.element c.in-Err.e (c.in-Err.ensures.judged gs sound.2).0), refl)))

pub returns-clause-rules : goal.returns-clause-rules
returns-clause-rules g c =
    let m = g.K.Kind.meaning c.args.self.now.kind in
    let t : Tallied = record { words = c.args.self.now.tally.words; errors = c.args.self.now.tally.errors } in
    rw c.in-Held.is
    (λ gs sound.
    let judged = c.in-Ok.ensures.judged gs sound.2 in (
      with_row m gs c.args.block c.args.element,
      (sound.0, sound.1, judged.1),
      ((always refl, row_accepted m c.in-Held.plan.code (numbers c.in-Held.word) gs t c.args.block c.args.element judged.0), refl),
    ))
