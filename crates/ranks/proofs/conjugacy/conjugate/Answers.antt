use Rattle.std.proofs.Common.{◌-◌, refl, ap, rules, tests}
use Rattle.std.proofs.lemmas.Iterator.{cases_from_any, YieldsList-from_range}
use Rattle.ranks.proofs.Conjugating.{Meets, searched}
use Rattle.ranks.proofs.conjugacy.conjugate.Goals as goal

pub returns : goal.returns
returns g c =
    let m = g.K.Kind.meaning c.args.kind.now in
    let met = Meets m c.args.a c.args.b in
    searched (g.met.K.Kind.lawful c.args.kind.now) c.args.a c.args.b c.any.result
    (cases_from_any _ _ _ met (λ x. ¬ met x) c.any.ensures.ran (YieldsList-from_range 1 _ _ refl (ap (λ s. s - 1) c.size.ensures)) (λ x q k. search (rules, tests)) (λ x q k. search (rules, tests)))
