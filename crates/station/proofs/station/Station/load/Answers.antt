use Rattle.std.proofs.Common.{◌≡◌, length, refl, ap, ◌∙◌, subst, inl, inr, arith}
use Rattle.std.proofs.lemmas.Result.{err_from_is_err_and}
use Rattle.skew.proofs.Filling.{short}
use Rattle.hints.proofs.CodePlaces.{places_in}
use Rattle.codes.specs.Holdings.{held as numbers}
use Rattle.station.specs.Tables.{Silent}
use Rattle.station.specs.Positions.{unhinted, at, held}
use Rattle.station.specs.Refusals.{input}
use Rattle.station.proofs.Exactness.{exact, copied}
use Rattle.station.proofs.Reported.{always}
use Rattle.station.proofs.station.Station.load.Goals as goal

pub returns-in_err-all_codes-clause-rules : goal.returns-in_err-all_codes-clause-rules
returns-in_err-all_codes-clause-rules g c =
    let p = err_from_is_err_and c.from_residual-in_err-all_codes.result c.from_residual-in_err-all_codes.ensures.1 in
    rw (p.1, p.2, c.in-Ready.is)
    (λ gs sound. (gs, sound, (inr (always refl, inr (subst (λ n. Silent (input c.args.word.now n)) c.len.ensures c.in_ok-exact_input.ensures, inl c.in_err-all_codes.ensures)), refl)))

pub returns-clause-rules : goal.returns-clause-rules
returns-clause-rules g c =
    let m = g.K.Kind.meaning c.args.self.now.kind in
    let code = c.in-Ready.plan.code in
    let sized = subst (λ n. Silent (input c.args.word.now n)) c.len.ensures c.in_ok-exact_input.ensures in
    let same : numbers c.append.new.self ≡ c.args.word.now = copied c.append.ensures c.empty-symbols.ensures (omega (arith, exact sized, short code.course)) in
    rw c.in-Ready.is
    (λ gs sound. (
      unhinted m code,
      (sound, ap length same ∙ exact sized, c.none.ensures m (numbers code.lengths) code.dimension (omega (arith, code.blocks)) (omega (arith, code.most, places_in code))),
      ((always refl, (sized, (c.in_ok-all_codes.ensures, tt))), ap (λ w. at m (held code w (unhinted m code)) (record { words = c.args.self.now.tally.words; errors = c.args.self.now.tally.errors })) same),
    ))
