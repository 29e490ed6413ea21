-- One hint more is given, or refused.
use Rattle.std.proofs.Common.{take, drop, refl, ap, ◌+◌, ◌∙◌, arith}
use Rattle.jobs.proofs.GivenColumns.{columns_none, column_given, column_stops, columns_given}
use Rattle.jobs.proofs.running.give_columns.Goals as goal

pub loop-at-init : goal.loop-at-init
loop-at-init g c =
    let s = c.args.station.now in
    record { within = omega arith; kind = refl; led = λ cs hs e on led. columns_none (g.K.Kind.meaning s.kind) s cs hs c.args.lengths.now c.bytes-bytes.result.now e on led }

pub loop-at-preserved : goal.loop-at-preserved
loop-at-preserved g c = record {
  within = omega (arith, c.min-size.ensures);
  kind = c.column.ensures.kind ∙ c.loop-at.invariant.kind;
  led = λ cs hs e on led.
      let l = c.loop-at in
      let bytes = c.bytes-bytes.result.now in
      column_given g.K.Kind.meaning c.args.station.now.kind l.station c.column.new.self l.invariant.kind cs hs c.args.lengths.now bytes (l.invariant.led cs hs e on led)
      c.loop-at-test.true c.from-block.ensures c.block_length.ensures c.min-size.ensures _ (ap (λ n. take n (drop (l.at + 1) bytes)) (omega arith)) c.in-Ok.ensures.rules;
}

pub returns-in-Err-clause-kind : goal.returns-in-Err-clause-kind
returns-in-Err-clause-kind g c = c.column.ensures.kind ∙ c.loop-at.invariant.kind

pub returns-in-Err-clause-led : goal.returns-in-Err-clause-led
returns-in-Err-clause-led g c = λ cs hs e on led.
    let l = c.loop-at in
    let bytes = c.bytes-bytes.result.now in
    column_stops g.K.Kind.meaning c.args.station.now.kind l.station c.column.new.self l.invariant.kind cs hs c.args.lengths.now bytes
    (l.invariant.led cs hs (c.bytes-bytes.ensures ∙ e) on led)
    c.loop-at-test.true c.from-block.ensures c.block_length.ensures c.min-size.ensures _ (ap (λ n. take n (drop (l.at + 1) bytes)) (omega arith)) c.in-Err.fault c.in-Err.ensures.rules
    (ap (λ n. n + l.at) c.offset-offset.ensures) c.at_place.ensures

pub returns-clause-led : goal.returns-clause-led
returns-clause-led g c = λ cs hs e on led.
    let m = g.K.Kind.meaning c.args.station.now.kind in
    columns_given m c.loop-at.station cs hs c.args.lengths.now c.bytes-bytes.result.now c.loop-at.at c.loop-at-test.false (c.loop-at.invariant.led cs hs (c.bytes-bytes.ensures ∙ e) on led)
