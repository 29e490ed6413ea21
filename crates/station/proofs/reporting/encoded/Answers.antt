use Rattle.std.proofs.Common.{ap, sym, ◌∙◌, arith, length}
use Rattle.skew.proofs.Filling.{short}
use Rattle.fields.specs.Elements.{elems}
use Rattle.recovery.proofs.Assembly.{word_size}
use Rattle.station.proofs.Exactness.{exact, answered}
use Rattle.station.proofs.reporting.encoded.Goals as goal

pub returns-clause-sized : goal.returns-clause-sized
returns-clause-sized g c =
    let m = g.K.Kind.meaning c.args.kind.now in
    let size = word_size m c.args.code.now (elems m c.args.message.now) in
    ap length (answered c.answer.ensures (c.as_slice.ensures ∙ c.encode-word.ensures) (omega (arith, size, short c.args.code.now.course)))
    ∙ size ∙ sym c.len.ensures ∙ sym (exact c.in_ok-exact_output.ensures)
