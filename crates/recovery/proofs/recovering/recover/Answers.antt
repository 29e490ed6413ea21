use Rattle.std.proofs.Common.{refl, ap, ◌∙◌, arith}
use Rattle.fields.specs.Elements.{elems, codes}
use Rattle.codes.specs.Codes.{word_of}
use Rattle.recovery.proofs.Sameness.{spans_only}
use Rattle.recovery.proofs.recovering.recover.Goals as goal

pub returns-in_err-message : goal.returns-in_err-message
returns-in_err-message g c = record {
  spans = spans_only (g.met.K.Kind.lawful c.args.kind.now) c.args.code.now c.args.word.now;
  other = λ n. simp c.from_residual.ensures refl;
  exact = λ law size gs h. absurd (c.in_err-message.ensures law gs h);
}

pub returns : goal.returns
returns g c = record {
  spans = spans_only (g.met.K.Kind.lawful c.args.kind.now) c.args.code.now c.args.word.now;
  other = λ n. absurd (n (omega arith));
  exact = λ law size gs h.
      let m = g.K.Kind.meaning c.args.kind.now in
      c.weighed.ensures law gs h (c.in_ok-message.ensures law gs h) (c.encode-codeword.ensures ∙ ap (λ q. codes (word_of m c.args.code.now (elems m q))) c.as_slice.ensures);
}
