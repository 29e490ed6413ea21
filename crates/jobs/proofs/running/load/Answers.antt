-- The word is loaded, or refused at a symbol.
use Rattle.std.proofs.Common.{refl, ap, arith}
use Rattle.station.specs.Calls.{load}
use Rattle.jobs.proofs.Leads.{word_stops, led_on, led_stops}
use Rattle.jobs.proofs.running.load.Goals as goal

pub returns-in-Ok-clause-led : goal.returns-in-Ok-clause-led
returns-in-Ok-clause-led g c = λ cs h led.
    let s = c.args.station.now in
    led_on g.K.Kind.meaning s.kind s c.load.new.self refl cs (ap load c.bytes-symbols.ensures) c.in-Ok.ensures.rules led

pub returns-in-Err-clause-led : goal.returns-in-Err-clause-led
returns-in-Err-clause-led g c = λ cs h led.
    let s = c.args.station.now in
    let stopped = led_stops g.K.Kind.meaning s.kind s c.load.new.self refl cs (ap load c.bytes-symbols.ensures) c.in-Err.ensures.rules led in
    word_stops _ c.in-Err.fault stopped h (λ few. omega (arith, c.saturating_add.ensures, c.offset.ensures)) c.at_place.ensures
