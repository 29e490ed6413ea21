-- A block or an element that is refused, and all hints.
use Rattle.std.proofs.Common.{arith}
use Rattle.std.proofs.lemmas.Result.{err_from_is_err_and}
use Rattle.jobs.proofs.Rows.{no_row_block, no_element, rows_read}
use Rattle.jobs.proofs.reading.read_rows.Goals as goal

pub returns-in_err-_block : goal.returns-in_err-_block
returns-in_err-_block c =
    let r = c.from_residual-in_err-_block in
    let p = err_from_is_err_and r.result r.ensures.1 in
    rw (p.1, p.2) (no_row_block c.in_ok-count.ensures c.loop.invariant c.loop-test.true c.in_err-_block.ensures)

pub returns-in_err-_element : goal.returns-in_err-_element
returns-in_err-_element c =
    let r = c.from_residual-in_err-_element in
    let p = err_from_is_err_and r.result r.ensures.1 in
    rw (p.1, p.2) (no_element c.in_ok-count.ensures c.loop.invariant c.loop-test.true c.in_ok-_block.ensures c.in_err-_element.ensures)

pub returns : goal.returns
returns c = rows_read c.in_ok-count.ensures c.loop.invariant (omega arith)
