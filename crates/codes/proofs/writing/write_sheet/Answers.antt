use Rattle.std.proofs.Common.{◌∙◌}
use Rattle.codes.proofs.SheetWriting.{sheet_spelled}
use Rattle.codes.proofs.writing.write_sheet.Goals as goal

pub returns : goal.returns
returns c =
    sheet_spelled c.args.code.now c.args.number c.byte.result c.byte-blocks.result c.byte-2.result
    c.as_slice.result.now c.as_slice-2.result.now c.as_slice-3.result.now
    c.empty-out.ensures c.append.ensures c.append-2.ensures c.append-3.ensures c.append-4.ensures c.append-5.ensures c.append-6.ensures
    c.as_slice.ensures (λ t d. c.as_slice-2.ensures ∙ c.parameters_of-parameters.ensures t d) (c.as_slice-3.ensures ∙ c.locators_of-locators.ensures)
    c.byte.ensures.value (rw c.len.ensures at c.byte-blocks.ensures.value) (rw (c.len-2.ensures, ← c.as_slice-3.ensures) at c.byte-2.ensures.value)
