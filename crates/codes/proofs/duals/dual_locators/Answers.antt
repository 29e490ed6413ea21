use Rattle.std.proofs.Common.{inr, arith, rules}
use Rattle.codes.proofs.Multipliers.{located, first_missing}
use Rattle.codes.proofs.duals.dual_locators.Goals as goal

pub returns : goal.returns
returns g c =
    located (g.met.K.Kind.lawful c.args.kind.now) c.args.points.now (grind (arith, rules)) (omega arith) c.in_ok-ws.ensures c.get-first.ensures c.in_ok-inverse.ensures c.as_slice.ensures
    c.scaled.ensures

pub returns-in_err-inverse : goal.returns-in_err-inverse
returns-in_err-inverse g c =
    simp c.from_residual-in_err-inverse.ensures
    (inr (inr (first_missing (g.met.K.Kind.lawful c.args.kind.now) c.args.points.now (grind (arith, rules)) c.in_ok-ws.ensures c.get-first.ensures c.in_err-inverse.ensures)))
