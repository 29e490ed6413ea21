-- The refusals after the lengths in the order of reading, and the sheet.
use Rattle.std.proofs.Common.{refl, ap, inl, inr}
use Rattle.sheets.specs.Sections.{parameters, locators}
use Rattle.std.proofs.lemmas.Result.{err_from_is_err_and}
use Rattle.sheets.proofs.Fronts.{dimension_stops, opened, parameters_stop, locators_stop, parameters_place, locators_place, begins}
use Rattle.sheets.proofs.sheets.read_front.Goals as goal
use Rattle.sheets.proofs.sheets.read_front.Goals.{then-dimension-lt1-via-then-dimension-lt1, then-dimension-lt1-via-else-dimension-lt1+then-dimension-total}

pub returns-then-dimension-lt1 : goal.returns-then-dimension-lt1
returns-then-dimension-lt1 c =
    rw c.fault.ensures
    (dimension_stops c.in_ok-dimension.ensures c.in_ok-blocks.ensures c.in_ok-lengths.ensures
    (elim c.then-dimension-lt1.branch [
      | then-dimension-lt1-via-then-dimension-lt1 w ↦ inl w.if-dimension-lt1.true
      | then-dimension-lt1-via-else-dimension-lt1+then-dimension-total w ↦ inr w.if-dimension-total.true
    ]))

pub returns-in_err-parameters : goal.returns-in_err-parameters
returns-in_err-parameters c =
    let p = err_from_is_err_and c.from_residual-in_err-parameters.result c.from_residual-in_err-parameters.ensures.1 in
    let o = opened c.in_ok-dimension.ensures c.in_ok-blocks.ensures c.in_ok-lengths.ensures c.if-dimension-lt1.false c.if-dimension-total.false in
    rw (p.1, p.2) (parameters_stop o c.in_err-parameters.ensures)

pub returns-in_err-locators : goal.returns-in_err-locators
returns-in_err-locators c =
    let p = err_from_is_err_and c.from_residual-in_err-locators.result c.from_residual-in_err-locators.ensures.1 in
    let o = opened c.in_ok-dimension.ensures c.in_ok-blocks.ensures c.in_ok-lengths.ensures c.if-dimension-lt1.false c.if-dimension-total.false in
    rw (p.1, p.2) (locators_stop o c.in_ok-parameters.ensures c.in_err-locators.ensures)

pub returns : goal.returns
returns c =
    let o = opened c.in_ok-dimension.ensures c.in_ok-blocks.ensures c.in_ok-lengths.ensures c.if-dimension-lt1.false c.if-dimension-total.false in (
      record {
        lengths_at = refl;
        parameters_at = ap (λ i. parameters c.in_ok-parameters.parameters.now i) (parameters_place o);
        locators_at = ap (λ i. locators c.in_ok-locators.locators.now i) (locators_place o c.in_ok-parameters.ensures);
      },
      begins o c.in_ok-parameters.ensures c.in_ok-locators.ensures,
    )
