use Rattle.std.proofs.Common.{refl, arith}
use Rattle.skew.proofs.Filling.{short}
use Rattle.recovery.proofs.Sameness.{spans_only}
use Rattle.recovery.proofs.direct.recover_by.Goals as goal

pub returns-in_err-message : goal.returns-in_err-message
returns-in_err-message g c = record {
  spans = spans_only (g.met.K.Kind.lawful c.args.kind.now) c.args.code.now c.args.word.now;
  other = λ n. simp c.from_residual.ensures refl;
  exact = λ law prep size gs h. absurd (c.in_err-message.ensures law prep gs h);
}

pub returns : goal.returns
returns g c = record {
  spans = spans_only (g.met.K.Kind.lawful c.args.kind.now) c.args.code.now c.args.word.now;
  other = λ n. absurd (n (omega arith));
  exact = λ law prep size gs h.
      let candidate = c.in_ok-message.ensures law prep gs h in
      c.weighed.ensures law gs h candidate (c.encode_by-codeword.ensures.exact prep (omega (arith, candidate.size, law.most, short c.args.code.now.course)));
}
