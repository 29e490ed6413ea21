use Rattle.std.proofs.Common.{length, refl, ap, ◌∙◌, subst, inl, inr, arith}
use Rattle.fields.specs.Elements.{elems}
use Rattle.codes.specs.Holdings.{held as numbers}
use Rattle.recovery.specs.Reach.{InReach, Recovered}
use Rattle.station.proofs.Reported.{always}
use Rattle.station.proofs.Solving.{solves}
use Rattle.station.proofs.station.Station.decode.Goals as goal

pub returns-in_default-recovered-clause-rules : goal.returns-in_default-recovered-clause-rules
returns-in_default-recovered-clause-rules g c =
    let m = g.K.Kind.meaning c.args.self.now.kind in
    rw c.in-Held.is
    (λ gs sound.
    let none =
    subst (λ w. (v : _) → ¬ InReach m c.in-Held.plan.code gs (elems m w) v) c.as_slice.ensures
    (c.in_default-recovered.ensures sound.0 (ap length c.as_slice.ensures ∙ sound.1) gs sound.2) in
    (gs, sound, (inr (always refl, inr ((λ e row. omega (arith, row.0, c.if-self-ge-MOST_WORDS.false)), inl (none, c.fault-in_default-recovered.ensures))), refl)))

pub returns-clause-rules : goal.returns-clause-rules
returns-clause-rules g c =
    let m = g.K.Kind.meaning c.args.self.now.kind in
    rw c.in-Held.is
    (λ gs sound.
    let found =
    subst (λ w. Recovered m c.in-Held.plan.code gs (elems m w) c.in-Some.recovery) c.as_slice.ensures
    (c.in-Some.ensures sound.0 (ap length c.as_slice.ensures ∙ sound.1) gs sound.2) in (
      gs,
      (sound.0, sound.2.rows, sound.2.columns, (elems m (numbers c.in-Held.word), found)),
      (
        (always refl, ((λ e row. omega (arith, row.0, c.if-self-ge-MOST_WORDS.false)), ((λ e row. row.0 _ found.reach), tt))),
        (c.in-Some.recovery, solves m c.in-Held.plan.code gs (numbers c.in-Held.word) c.in-Some.recovery found, refl),
      ),
    ))
