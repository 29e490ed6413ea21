-- A count, a block or a coefficient that is refused, and all hints.
use Rattle.std.proofs.Common.{arith}
use Rattle.std.proofs.lemmas.Result.{err_from_is_err_and}
use Rattle.jobs.proofs.Columns.{no_column_count, no_column_block, no_coefficient, columns_read}
use Rattle.jobs.proofs.reading.read_columns.Goals as goal

pub returns-in_err-count : goal.returns-in_err-count
returns-in_err-count c =
    let p = err_from_is_err_and c.from_residual.result c.from_residual.ensures.1 in
    rw (p.1, p.2) (no_column_count c.args.bytes.now c.args.at c.args.lengths.now _ c.in_err-count.ensures)

pub returns-in_err-block : goal.returns-in_err-block
returns-in_err-block c =
    let r = c.from_residual-in_err-block in
    let p = err_from_is_err_and r.result r.ensures.1 in
    rw (p.1, p.2) (no_column_block c.in_ok-count.ensures c.loop.invariant c.loop-test.true c.in_err-block.ensures)

pub returns-in_err-coefficients : goal.returns-in_err-coefficients
returns-in_err-coefficients c =
    let r = c.from_residual-in_err-coefficients in
    let p = err_from_is_err_and r.result r.ensures.1 in
    rw (p.1, p.2) (no_coefficient c.in_ok-count.ensures c.loop.invariant c.loop-test.true c.in_ok-block.ensures c.from-size.ensures c.in_err-coefficients.ensures)

pub returns : goal.returns
returns c = columns_read c.in_ok-count.ensures c.loop.invariant (omega arith)
