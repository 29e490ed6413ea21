-- The refusals in the order of reading, and the job.
use Rattle.std.proofs.Common.{length, ap}
use Rattle.std.proofs.lemmas.Result.{err_from_is_err_and}
use Rattle.jobs.proofs.Spelling.{place, sheet_to, word_to, rows_stop, rows_to, columns_stop, columns_to, spells, extra_stops}
use Rattle.jobs.proofs.reading.read_job.Goals as goal

pub returns-in_err-rows : goal.returns-in_err-rows
returns-in_err-rows c =
    let r = c.from_residual-in_err-rows in
    let p = err_from_is_err_and r.result r.ensures.1 in
    let w = word_to c.in_ok-sheet.ensures.1 (ap length c.bytes-n.ensures) c.in_ok-word.ensures in
    rw (p.1, p.2) (rows_stop w (ap length c.bytes-lengths.ensures) c.in_err-rows.ensures)

pub returns-in_err-columns : goal.returns-in_err-columns
returns-in_err-columns c =
    let r = c.from_residual-in_err-columns in
    let p = err_from_is_err_and r.result r.ensures.1 in
    let w = word_to c.in_ok-sheet.ensures.1 (ap length c.bytes-n.ensures) c.in_ok-word.ensures in
    let rs = rows_to w (ap length c.bytes-lengths.ensures) c.in_ok-rows.ensures in
    rw (p.1, p.2) (columns_stop rs c.bytes-lengths.ensures c.in_err-columns.ensures)

pub returns-then-end-bytes : goal.returns-then-end-bytes
returns-then-end-bytes c =
    let w = word_to c.in_ok-sheet.ensures.1 (ap length c.bytes-n.ensures) c.in_ok-word.ensures in
    let rs = rows_to w (ap length c.bytes-lengths.ensures) c.in_ok-rows.ensures in
    let j = columns_to rs c.bytes-lengths.ensures c.in_ok-columns.ensures in
    rw c.fault.ensures (extra_stops j c.if-end-bytes.true)

pub returns : goal.returns
returns c =
    let s = sheet_to c.in_ok-sheet.ensures.1 in
    let w = word_to c.in_ok-sheet.ensures.1 (ap length c.bytes-n.ensures) c.in_ok-word.ensures in
    let rs = rows_to w (ap length c.bytes-lengths.ensures) c.in_ok-rows.ensures in
    let j = columns_to rs c.bytes-lengths.ensures c.in_ok-columns.ensures in
    record {
      job = _;
      spells = spells j c.if-end-bytes.false;
      sheet = s.read;
      dimension = c.from.ensures;
      lengths = c.bytes-lengths.ensures;
      word_at = rw (place s);
      rows_at = rw (c.in_ok-rows.ensures.part_is, place w.up_to);
      columns_at = rw (c.in_ok-columns.ensures.part_is, place rs.up_to);
    }
