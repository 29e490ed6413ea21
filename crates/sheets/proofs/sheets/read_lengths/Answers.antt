-- A length that is refused; `min-room` is what it may be at most.
use Rattle.std.proofs.Common.{◌≡◌, ◌+◌, ◌-◌, min, subst, arith, rules}
use Rattle.std.proofs.lemmas.Result.{err_from_is_err_and}
use Rattle.sheets.specs.Steps.{Stops}
use Rattle.sheets.proofs.Steps.{measuring_stops}
use Rattle.sheets.proofs.sheets.read_lengths.Goals as goal

pub returns-in_err-total : goal.returns-in_err-total
returns-in_err-total c =
    let s = c.args.bytes.now in
    let at = c.loop-at.at in
    let p = err_from_is_err_and c.from_residual.result c.from_residual.ensures.1 in
    let room : c.min-room.result ≡ min 8 (24 - c.loop-at.total) = search rules in
    let e = c.in_err-total.field-0.0 in
    let place : at ≡ 3 + (at - 3) = omega (arith, c.loop-at.invariant.0) in
    rw (p.1, p.2)
    (measuring_stops s c.args.blocks (at - 3) c.loop-at.total e c.min-room.result room c.loop-at.invariant.1 (search rules)
    (subst (λ i. Stops s i 1 c.min-room.result e) place c.in_err-total.ensures))
