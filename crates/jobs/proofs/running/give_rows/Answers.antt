-- One hint more is given, or refused.
use Rattle.std.proofs.Common.{◌+◌, ◌*◌, ◌/◌, length, get_or, refl, sym, ap, ◌∙◌, subst, arith}
use Rattle.std.proofs.lemmas.List.{append-nil}
use Rattle.station.specs.Calls.{row}
use Rattle.jobs.specs.Leading.{Led}
use Rattle.jobs.proofs.GivenRows.{row_there, row_given, row_stops, rows_given}
use Rattle.jobs.proofs.running.give_rows.Goals as goal

pub loop-i-init : goal.loop-i-init
loop-i-init g c =
    let s = c.args.station.now in
    record { kind = refl; led = λ cs rs e led. subst (λ us. Led (g.K.Kind.meaning s.kind) us s) (sym (append-nil cs)) led }

pub loop-i-preserved : goal.loop-i-preserved
loop-i-preserved g c =
    let l = c.loop-i in
    let bytes = c.bytes-bytes.result.now in
    record {
      kind = c.row.ensures.kind ∙ l.invariant.kind;
      led = λ cs rs e led.
          row_given g.K.Kind.meaning c.args.station.now.kind l.station c.row.new.self l.invariant.kind cs rs (ap (λ b. row b (get_or bytes (2 * l.i + 1) 0)) c.from-block.ensures)
          (row_there bytes rs l.i (length bytes / 2) e (omega arith) (omega arith)) (l.invariant.led cs rs e led) c.in-Ok.ensures.rules;
    }

pub returns-in-Err-clause-kind : goal.returns-in-Err-clause-kind
returns-in-Err-clause-kind g c = c.row.ensures.kind ∙ c.loop-i.invariant.kind

pub returns-in-Err-clause-led : goal.returns-in-Err-clause-led
returns-in-Err-clause-led g c = λ cs rs e led.
    let l = c.loop-i in
    let bytes = c.bytes-bytes.result.now in
    let these = c.bytes-bytes.ensures ∙ e in
    row_stops g.K.Kind.meaning c.args.station.now.kind l.station c.row.new.self l.invariant.kind cs rs (ap (λ b. row b (get_or bytes (2 * l.i + 1) 0)) c.from-block.ensures)
    (row_there bytes rs l.i (length bytes / 2) these (omega arith) (omega arith)) (l.invariant.led cs rs these led) c.in-Err.fault c.in-Err.ensures.rules (ap (λ n. n + 2 * l.i) c.offset-offset.ensures) c.at_place.ensures

pub returns-clause-led : goal.returns-clause-led
returns-clause-led g c = λ cs rs e led.
    let these = c.bytes-bytes.ensures ∙ e in
    rows_given (g.K.Kind.meaning c.args.station.now.kind) c.loop-i.station cs c.bytes-bytes.result.now rs c.loop-i.i these (omega arith) (c.loop-i.invariant.led cs rs these led)
