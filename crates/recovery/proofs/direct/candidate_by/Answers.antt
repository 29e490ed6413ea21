use Rattle.std.proofs.Common.{◌≡◌, ◌+◌, length, sym, subst, arith, MatchOption}
use Rattle.fields.specs.Elements.{elems}
use Rattle.skew.specs.Polynomials.{coefficients}
use Rattle.codes.specs.Holdings.{held}
use Rattle.hints.specs.Splittings.{row_count, column_count}
use Rattle.recovery.specs.Candidates.{Candidate}
use Rattle.recovery.proofs.BareBlocks.{all_none}
use Rattle.recovery.proofs.direct.candidate_by.Goals as goal

pub returns-else-hints-gt0 : goal.returns-else-hints-gt0
returns-else-hints-gt0 g c = λ law prep gs h.
    let m = g.K.Kind.meaning c.args.kind.now in
    let empty : row_count gs + column_count gs ≡ 0 = omega (arith, h.rows, h.columns) in
    subst (λ us. MatchOption c.hintless.result ⊥ (λ f. Candidate m c.args.code.now us (elems m c.args.word.now) (coefficients f))) (sym (all_none (length (held c.args.code.now.lengths)) gs h.size empty))
    (c.hintless.ensures law prep)
