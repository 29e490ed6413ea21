use Rattle.std.proofs.Common.{rules}
use Rattle.hints.proofs.Rowwise.{padded_cells}
use Rattle.hints.proofs.splitting.padded_row.Goals as goal

pub returns-clause-few : goal.returns-clause-few
returns-clause-few c = λ few. padded_cells c.args.symbols.now c.from_fn.result.cells few c.from_fn.ensures.0 (λ i lt. let h = c.from_fn.ensures.1 i lt in search rules)

pub returns-clause-each : goal.returns-clause-each
returns-clause-each c = λ i lt. let h = c.from_fn.ensures.1 i lt in search rules
