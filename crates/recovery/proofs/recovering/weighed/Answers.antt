use Rattle.std.proofs.Common.{◌≡◌, length, sym, refl, ap, ◌∙◌, arith, length-take-le, rules}
use Rattle.skew.specs.Polynomials.{coefficients}
use Rattle.ranks.specs.Ranks.{total}
use Rattle.codes.specs.Holdings.{held}
use Rattle.recovery.proofs.Assembly.{weighs_few, answer_told, weight_told, full_fits, out_of_reach, in_reach}
use Rattle.recovery.proofs.recovering.weighed.Goals as goal

pub returns-in_err-errors : goal.returns-in_err-errors
returns-in_err-errors g c = λ law gs h candidate encoded.
    let m = g.K.Kind.meaning c.args.kind.now in
    absurd (c.in_err-errors.ensures
    (ap total c.as_slice-lengths.ensures
    ∙ full_fits (g.met.K.Kind.lawful c.args.kind.now) c.args.code.now c.args.hints.now gs c.args.word.now (coefficients c.args.message.now) (held c.args.codeword) (held c.difference-rest.result)
    c.least_splitting-parts.result law h c.requires.same candidate encoded c.difference-rest.ensures
    (answer_told m c.args.hints.now c.least_splitting-parts.result c.as_slice-lengths.ensures c.as_slice.ensures c.least_splitting-parts.ensures c.args.code.now.dimension gs h)
    ∙ sym (ap length c.as_slice-2.ensures)))

pub overflow_add-cost : goal.overflow_add-cost
overflow_add-cost g c =
    let full = c.least_splitting-parts.result.full in
    let n : length full.cells ≡ 24 = search rules in
    record {
      fits = omega (
        arith,
        weighs_few (g.K.Kind.meaning c.args.kind.now) c.as_slice-lengths.result.now c.as_slice-2.result.now c.in_ok-errors.errors c.in_ok-errors.ensures.1,
        c.in_ok-errors.ensures.0,
        ap length c.as_slice-2.ensures,
        length-take-le full.len full.cells (omega (arith, full.fits, n)),
        full.fits,
      );
    }

pub overflow_add-cost-3 : goal.overflow_add-cost-3
overflow_add-cost-3 g c =
    let full = c.least_splitting-parts.result.full in
    let n : length full.cells ≡ 24 = search rules in
    record {
      fits = omega (
        arith,
        weighs_few (g.K.Kind.meaning c.args.kind.now) c.as_slice-lengths.result.now c.as_slice-2.result.now c.in_ok-errors.errors c.in_ok-errors.ensures.1,
        c.in_ok-errors.ensures.0,
        ap length c.as_slice-2.ensures,
        length-take-le full.len full.cells (omega (arith, full.fits, n)),
        full.fits,
        c.args.hints.now.few,
      );
    }

pub returns-then-cost-most : goal.returns-then-cost-most
returns-then-cost-most g c = λ law gs h candidate encoded.
    let m = g.K.Kind.meaning c.args.kind.now in
    out_of_reach (g.met.K.Kind.lawful c.args.kind.now) c.args.code.now c.args.hints.now gs c.args.word.now (coefficients c.args.message.now) (held c.args.codeword) (held c.difference-rest.result)
    c.least_splitting-parts.result law h c.requires.same candidate encoded c.difference-rest.ensures
    (answer_told m c.args.hints.now c.least_splitting-parts.result c.as_slice-lengths.ensures c.as_slice.ensures c.least_splitting-parts.ensures c.args.code.now.dimension gs h)
    c.in_ok-errors.errors (weight_told m c.in_ok-errors.errors c.as_slice-lengths.ensures c.as_slice-2.ensures c.in_ok-errors.ensures.1) (omega (arith, c.if-cost-most.true))

pub returns : goal.returns
returns g c = λ law gs h candidate encoded.
    let m = g.K.Kind.meaning c.args.kind.now in
    in_reach (g.met.K.Kind.lawful c.args.kind.now) c.args.code.now c.args.hints.now gs c.args.word.now (coefficients c.args.message.now) (held c.args.codeword) (held c.difference-rest.result)
    c.least_splitting-parts.result law h c.requires.same candidate encoded c.difference-rest.ensures
    (answer_told m c.args.hints.now c.least_splitting-parts.result c.as_slice-lengths.ensures c.as_slice.ensures c.least_splitting-parts.ensures c.args.code.now.dimension gs h)
    c.in_ok-errors.errors (weight_told m c.in_ok-errors.errors c.as_slice-lengths.ensures c.as_slice-2.ensures c.in_ok-errors.ensures.1) _ refl refl refl refl (omega (arith, c.if-cost-most.false, law.most, c.requires.same))
