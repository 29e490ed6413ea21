use Rattle.std.proofs.Common.{codes, arith, ◌∷◌}
use Rattle.skew.specs.Few.{held}
use Rattle.skew.proofs.Filling.{short}
use Rattle.jobs.specs.Texts.{line}
use Rattle.jobs.proofs.Cutting.{five, alone, line_told, counted_told, line_short, counted_short}
use Rattle.jobs.proofs.text.write.Goals as goal

pub returns-in-Ok : goal.returns-in-Ok
returns-in-Ok c =
    let r = c.in-Ok.r in
    rw c.in-Ok.is
    (five (line (codes "word") (held r.codeword)) (line (codes "message") (held r.message)) (line (codes "full") (r.counts.full ∷ held r.full)) (line (codes "row") (r.counts.row ∷ held r.row))
    (line (codes "column") (r.counts.column ∷ held r.column)) c.empty-out.ensures
    (line_told (held c.empty-out.result) (codes "word") (held r.codeword) c.push_line.ensures.text c.as_slice.ensures)
    (line_told (held c.push_line.new.out) (codes "message") (held r.message) c.push_line-in-Ok.ensures.text c.as_slice-in-Ok.ensures)
    (counted_told (held c.push_line-in-Ok.new.out) (codes "full") r.counts.full (held r.full) c.push_counted.ensures.text c.as_slice-in-Ok-2.ensures)
    (counted_told (held c.push_counted.new.out) (codes "row") r.counts.row (held r.row) c.push_counted-in-Ok.ensures.text c.as_slice-in-Ok-3.ensures)
    (counted_told (held c.push_counted-in-Ok.new.out) (codes "column") r.counts.column (held r.column) c.push_counted-in-Ok-2.ensures.text c.as_slice-in-Ok-4.ensures)
    (omega (
      arith,
      line_short (codes "word") (held r.codeword) 5 c.push_line.ensures.short c.as_slice.ensures (short r.codeword),
      line_short (codes "message") (held r.message) 8 c.push_line-in-Ok.ensures.short c.as_slice-in-Ok.ensures (short r.message),
      counted_short (codes "full") r.counts.full (held r.full) 26 c.push_counted.ensures.short c.as_slice-in-Ok-2.ensures (short r.full),
      counted_short (codes "row") r.counts.row (held r.row) 25 c.push_counted-in-Ok.ensures.short c.as_slice-in-Ok-3.ensures (short r.row),
      counted_short (codes "column") r.counts.column (held r.column) 28 c.push_counted-in-Ok-2.ensures.short c.as_slice-in-Ok-4.ensures (short r.column),
    )))

pub returns-in-Err : goal.returns-in-Err
returns-in-Err c = rw c.in-Err.is (alone _ c.empty-out.ensures c.push_fault.ensures.text c.push_fault.ensures.short)
