use Rattle.std.proofs.Common.{length, ap, sym, ◌∙◌, subst, inl, inr, arith}
use Rattle.skew.specs.Polynomials.{coefficients}
use Rattle.skew.proofs.Filling.{short}
use Rattle.station.specs.Tables.{Silent}
use Rattle.station.specs.Refusals.{input}
use Rattle.station.proofs.Exactness.{exact, answered}
use Rattle.station.proofs.Reported.{unread, length_read, message_of}
use Rattle.station.proofs.reporting.read_back.Goals as goal

pub returns-in_default-clause-told : goal.returns-in_default-clause-told
returns-in_default-clause-told g c = λ law sheet.
    let sized = subst (λ n. Silent (input c.args.word.now n)) c.len.ensures c.in_ok-exact_input.ensures in
    inr (sized, inr (c.in_ok-exact_output.ensures, inr (c.in_ok-all_codes.ensures, inl (unread c.args.code.now c.args.word.now law (exact sized) c.in_default.ensures, c.fault.ensures))))

pub returns-clause-told : goal.returns-clause-told
returns-clause-told g c = λ law sheet.
    let sized = subst (λ n. Silent (input c.args.word.now n)) c.len.ensures c.in_ok-exact_input.ensures in
    let read = c.in-Some.ensures in
    let long = length_read c.args.code.now c.args.word.now (coefficients c.in-Some.f) read in
    let has = message_of c.args.code.now c.args.word.now (coefficients c.in-Some.f) (answered c.answer.ensures c.as_slice.ensures (omega (arith, long, c.args.code.now.most, short c.args.code.now.course))) read in
    ((sized, (c.in_ok-exact_output.ensures, (c.in_ok-all_codes.ensures, ((λ e row. row.0 (_, has.1)), tt)))), has)

pub returns-clause-sized : goal.returns-clause-sized
returns-clause-sized g c =
    let long = length_read c.args.code.now c.args.word.now (coefficients c.in-Some.f) c.in-Some.ensures in
    ap length (answered c.answer.ensures c.as_slice.ensures (omega (arith, long, c.args.code.now.most, short c.args.code.now.course)))
    ∙ long ∙ sym (exact c.in_ok-exact_output.ensures)
