use Rattle.std.proofs.Common.{length, ap, sym, ◌-◌, ◌∙◌, subst, arith}
use Rattle.skew.proofs.Filling.{short}
use Rattle.station.specs.Tables.{Silent}
use Rattle.station.specs.Refusals.{input, output}
use Rattle.station.specs.Rules.{Syndromes}
use Rattle.station.proofs.Exactness.{exact, answered}
use Rattle.station.proofs.reporting.checked.Goals as goal

pub returns-clause-told : goal.returns-clause-told
returns-clause-told g c = λ law sheet.
    let sized = subst (λ n. Silent (input c.args.word.now n)) c.len.ensures c.in_ok-exact_input.ensures in
    let found = c.in-Some.ensures law (exact sized) in (
      (sized, (subst (λ n. Silent (output c.args.room (n - c.args.code.now.dimension))) c.len-2.ensures c.in_ok-exact_output.ensures, (c.in_ok-all_codes.ensures, tt))),
      subst (λ ys. Syndromes (g.K.Kind.meaning c.args.kind.now) c.args.code.now c.args.word.now ys) (sym (answered c.answer.ensures c.as_slice.ensures (omega (arith, found.2, short c.args.code.now.course)))) found,
    )

pub returns-clause-sized : goal.returns-clause-sized
returns-clause-sized g c = λ law.
    let sized = subst (λ n. Silent (input c.args.word.now n)) c.len.ensures c.in_ok-exact_input.ensures in
    let found = c.in-Some.ensures law (exact sized) in
    ap length (answered c.answer.ensures c.as_slice.ensures (omega (arith, found.2, short c.args.code.now.course)))
    ∙ found.2 ∙ ap (λ n. n - c.args.code.now.dimension) (sym c.len-2.ensures) ∙ sym (exact c.in_ok-exact_output.ensures)
