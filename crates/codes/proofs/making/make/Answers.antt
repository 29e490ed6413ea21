use Rattle.std.proofs.Common.{length, sym, refl, ap, ◌∙◌, arith}
use Rattle.std.proofs.lemmas.Result.{err_from_is_err_and}
use Rattle.ranks.specs.Ranks.{total}
use Rattle.sheets.specs.Sections.{part_of}
use Rattle.codes.proofs.Fitness.{sum_total, locators_offset, unfit_parameter, unfit_locator, unfit_related, unfit_dependent, made, within}
use Rattle.codes.proofs.making.make.Goals as goal

pub returns-in-Some : goal.returns-in-Some
returns-in-Some g c =
    unfit_parameter (g.K.Kind.meaning c.args.kind.now) c.args.sheet c.requires.laid c.bytes-parameters.ensures c.in-Some.ensures c.offset.ensures c.fault.ensures

pub returns-in-Some-first_outside : goal.returns-in-Some-first_outside
returns-in-Some-first_outside g c =
    unfit_locator (g.K.Kind.meaning c.args.kind.now) c.args.sheet c.requires.laid c.bytes-parameters.ensures c.in_default.ensures c.bytes-locators.ensures
    c.in-Some-first_outside.ensures c.offset-in-Some-first_outside.ensures c.fault-in-Some-first_outside.ensures

pub returns-in-Some-first_related : goal.returns-in-Some-first_related
returns-in-Some-first_related g c =
    unfit_related (g.K.Kind.meaning c.args.kind.now) c.args.sheet c.requires.laid c.bytes-parameters.ensures c.in_default.ensures c.bytes-locators.ensures
    c.in_default-first_outside.ensures c.in-Some-first_related.ensures c.offset-in-Some-first_related.ensures c.fault-in-Some-first_related.ensures

pub gather-requires : goal.gather-requires
gather-requires g c =
    let w = c.requires.whole in
    let e = sum_total (part_of c.args.sheet.lengths) in
    record {
      many = ap length c.bytes-parameters.ensures ∙ w.as_many_parameters ∙ sym (ap length c.bytes-lengths.ensures);
      sum = ap length c.bytes-locators.ensures ∙ w.as_many_locators ∙ e ∙ sym (ap total c.bytes-lengths.ensures);
      few = omega (arith, ap total c.bytes-lengths.ensures, e, w.opens.lengths.total);
      near = omega (arith, c.offset-2.ensures, locators_offset c.args.sheet c.requires.laid, w.opens.blocks.1, w.as_many_parameters);
    }

pub returns-in_err-course : goal.returns-in_err-course
returns-in_err-course g c =
    let p = err_from_is_err_and c.from_residual.result c.from_residual.ensures.1 in
    rw (p.1, p.2)
    (unfit_dependent (g.K.Kind.meaning c.args.kind.now) c.args.sheet c.requires.laid c.bytes-lengths.ensures c.bytes-parameters.ensures c.in_default.ensures c.bytes-locators.ensures
    c.in_default-first_outside.ensures c.in_default-first_related.ensures c.in_err-course.ensures c.offset-2.ensures)

pub returns : goal.returns
returns g c =
    made (g.met.K.Kind.lawful c.args.kind.now) c.args.sheet _ c.requires.whole c.bytes-lengths.ensures c.bytes-parameters.ensures c.bytes-locators.ensures
    c.in_default.ensures c.in_default-first_outside.ensures c.in_default-first_related.ensures c.in_ok-course.ensures c.copied.ensures refl

pub invariant_of-result : goal.invariant_of-result
invariant_of-result g c =
    let w =
    within c.args.sheet c.in_ok-course.course c.copied.result c.requires.whole c.bytes-lengths.ensures c.bytes-parameters.ensures c.bytes-locators.ensures
    c.in_ok-course.ensures c.copied.ensures in
    record { least = w.0; most = w.1; blocks = w.2; each = w.3; sum = w.4 }
