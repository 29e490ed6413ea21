use Rattle.std.proofs.Common.{refl}
use Rattle.ranks.proofs.InsertedRows.{inserted_none, inserted_one}
use Rattle.ranks.proofs.rows.Form.insert.Goals as goal

pub returns-in_default : goal.returns-in_default
returns-in_default g c =
    λ k r. inserted_none (g.met.K.Kind.lawful c.args.kind.now) c.args.self.now c.args.row.now.cells c.cleared-left.result.cells (c.cleared-left.ensures k) c.in_default.ensures k r

pub returns : goal.returns
returns g c =
    λ k r. inserted_one (g.met.K.Kind.lawful c.args.kind.now) c.args.self.now _ c.args.row.now.cells c.cleared-left.result.cells c.combined-new.result.cells
    c.sweep.new.form c.combined-new.result (c.cleared-left.ensures k) c.in-Some.ensures refl c.combined-new.ensures c.sweep.ensures refl k r
