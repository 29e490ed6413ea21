use Rattle.std.proofs.Common.{refl}
use Rattle.station.proofs.Reported.{reported}
use Rattle.station.proofs.station.Station.reading_back.Goals as goal

pub returns-clause-rules : goal.returns-clause-rules
returns-clause-rules g c = λ gs sound.
    reported _ c.args.self.now.state gs _ c.in-Some.code.now _ (λ u e h. h) (λ u h. h) (λ u r h. (h, refl)) c.in-Some.ensures c.in_ok-open.ensures sound c.read_back.ensures.told
