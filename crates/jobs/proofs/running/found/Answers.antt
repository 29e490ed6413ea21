-- Five items, with the counts of the first; none is refused.
use Rattle.std.proofs.Common.{arith}
use Rattle.jobs.proofs.running.found.Goals as goal

pub returns-in_err-full : goal.returns-in_err-full
returns-in_err-full g c = λ code gs r solved n k. absurd (c.in_err-full.ensures code gs r solved (omega arith) n)

pub returns-in_err-row : goal.returns-in_err-row
returns-in_err-row g c = λ code gs r solved n k. absurd (c.in_err-row.ensures code gs r solved (omega arith) n)

pub returns-in_err-column : goal.returns-in_err-column
returns-in_err-column g c = λ code gs r solved n k. absurd (c.in_err-column.ensures code gs r solved (omega arith) n)

pub returns : goal.returns
returns g c = λ code gs r solved n k.
    let message = c.in_ok-message.ensures code gs r solved (omega arith) k in
    record {
      message = message.item;
      codeword = (c.in_ok-codeword.ensures code gs r solved (omega arith) n).item;
      full = (c.in_ok-full.ensures code gs r solved (omega arith) n).item;
      row = (c.in_ok-row.ensures code gs r solved (omega arith) n).item;
      column = (c.in_ok-column.ensures code gs r solved (omega arith) n).item;
      full_errors = message.full;
      row_hints = message.row;
      column_hints = message.column;
    }
