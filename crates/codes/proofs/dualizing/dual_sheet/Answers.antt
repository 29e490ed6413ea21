use Rattle.std.proofs.Common.{ap, ◌∙◌, arith}
use Rattle.fields.specs.Mirror.{across}
use Rattle.codes.proofs.DualCode.{dual_sheet}
use Rattle.codes.proofs.dualizing.dual_sheet.Goals as goal

pub returns-in_err-d : goal.returns-in_err-d
returns-in_err-d g c = simp c.from_residual.ensures c.in_err-d.ensures

pub returns : goal.returns
returns g c =
    dual_sheet (g.K.Kind.meaning c.args.kind.now) c.args.code.now c.in_ok-d.d c.in_ok-d.ensures (c.across-number.ensures ∙ ap across c.number.ensures)
    c.write_sheet.ensures (omega (arith, c.in_ok-d.ensures.some))
