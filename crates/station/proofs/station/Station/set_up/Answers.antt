use Rattle.std.proofs.Common.{[], refl}
use Rattle.station.proofs.Reported.{always}
use Rattle.station.proofs.Settled.{bare_opens, no_refusal, sound_plan}
use Rattle.station.proofs.station.Station.set_up.Goals as goal

pub returns-clause-rules : goal.returns-clause-rules
returns-clause-rules g c =
    let s = c.in_ok-code.ensures in
    rw (bare_opens c.args.self.now.state c.args.sheet.now c.in_ok-open.ensures)
    (λ gs sound. ([], sound_plan s.0 c.in_ok-code.code c.prepare-prepared.result s.1 s.2 (c.prepare-prepared.ensures s.2.lawful), ((always refl, (no_refusal c.args.sheet.now s.0 c.in_ok-code.code s.1 s.2, tt)), (s.0, c.in_ok-code.code, s.1, s.2, refl))))
