use Rattle.std.proofs.Common.{length, sym, ap, ◌∙◌, arith, rules}
use Rattle.std.proofs.lemmas.List.{get_or-map}
use Rattle.std.proofs.lemmas.List.{length_push}
use Rattle.std.proofs.lemmas.Slice.Zip.{zip_turn, zip_end}
use Rattle.fields.specs.Elements.{codes}
use Rattle.skew.specs.Polynomials.{coefficients, combined}
use Rattle.recovery.proofs.Units.{rebuilding_starts, rebuilding_goes_on, rebuilding_ends}
use Rattle.recovery.proofs.direct.rebuilt.Goals as goal

pub loop-y-init : goal.loop-y-init
loop-y-init g c = rebuilding_starts (g.met.K.Kind.lawful c.args.kind.now) c.empty-out.ensures

pub loop-y-preserved : goal.loop-y-preserved
loop-y-preserved g c =
    let m = g.K.Kind.meaning c.args.kind.now in
    let u = c.in-Some.unit.now in
    let t = zip_turn c.args.symbols.now c.args.prepared.now.units c.loop-y.yielded c.into_iter-y-iterator.result c.loop-y.y-iterator c.next.new.self _ (search rules) (search rules) c.loop-y.yielded_by (c.in-Some.y, c.in-Some.unit) c.in-Some.is c.next.ensures.steps in
    rw (length_push c.loop-y.yielded (c.in-Some.y, c.in-Some.unit))
    (rebuilding_goes_on (g.met.K.Kind.lawful c.args.kind.now) t.0
    (ap coefficients (t.3 u) ∙ sym (get_or-map coefficients c.args.prepared.now.units (length c.loop-y.yielded) u _ t.1))
    (c.gain.ensures ∙ ap (λ s. codes (combined m 1 (coefficients c.loop-y.out) s (coefficients u))) (t.2 0)) c.loop-y.invariant)

pub returns : goal.returns
returns g c =
    let n = zip_end c.args.symbols.now c.args.prepared.now.units c.loop-y.yielded c.into_iter-y-iterator.result c.loop-y.y-iterator c.next.new.self _ (search rules) (search rules) c.loop-y.yielded_by c.in-None.is c.next.ensures.steps in
    rebuilding_ends (g.met.K.Kind.lawful c.args.kind.now) (omega (arith, n, c.requires, c.args.prepared.now.whole)) c.loop-y.invariant
