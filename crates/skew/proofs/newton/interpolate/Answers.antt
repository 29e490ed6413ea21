use Rattle.std.proofs.Common.{◌≢◌, subst, inr, arith, rules}
use Rattle.std.proofs.Math.Path.{subst₂}
use Rattle.std.proofs.lemmas.List.{length_push}
use Rattle.std.proofs.lemmas.Slice.Zip.{zip_turn, zip_end}
use Rattle.fields.specs.Elements.{elem, elems, ops}
use Rattle.skew.specs.Polynomials.{coefficients}
use Rattle.skew.specs.Roots.{at, Vanishes}
use Rattle.skew.specs.Annihilators.{place, Grown}
use Rattle.skew.specs.Interpolation.{Corrected}
use Rattle.skew.proofs.Interpolating.{newton_starts, newton_goes_on, newton_stops, newton_ends}
use Rattle.skew.proofs.newton.interpolate.Goals as goal

pub loop-p-init : goal.loop-p-init
loop-p-init g c = newton_starts (g.met.K.Kind.lawful c.args.kind.now) c.args.points.now c.args.values.now c.empty-f.ensures c.empty-base.ensures c.push.ensures

pub returns-in_err-f : goal.returns-in_err-f
returns-in_err-f g c =
    let t = zip_turn c.args.points.now c.args.values.now c.loop-p.yielded c.into_iter-p-iterator.result c.loop-p.p-iterator c.next.new.self _ (search rules) (search rules) c.loop-p.yielded_by (c.in-Some.p, c.in-Some.v) c.in-Some.is c.next.ensures.steps in
    let m = g.K.Kind.meaning c.args.kind.now in
    simp c.from_residual.ensures
    (inr (inr (newton_stops (g.met.K.Kind.lawful c.args.kind.now) c.in-Some.p.now c.args.points.now c.args.values.now c.if-values-points.false t.0 c.loop-p.invariant
    (subst₂ (λ p v. Vanishes (ops m) (elems m (coefficients c.loop-p.base)) (place m p) × (at (ops m) (elems m (coefficients c.loop-p.f)) (place m p) ≢ elem m v))
    (t.2 c.in-Some.p.now) (t.3 0) c.in_err-f.ensures))))

pub loop-p-preserved : goal.loop-p-preserved
loop-p-preserved g c =
    let m = g.K.Kind.meaning c.args.kind.now in
    let t = zip_turn c.args.points.now c.args.values.now c.loop-p.yielded c.into_iter-p-iterator.result c.loop-p.p-iterator c.next.new.self _ (search rules) (search rules) c.loop-p.yielded_by (c.in-Some.p, c.in-Some.v) c.in-Some.is c.next.ensures.steps in
    rw (length_push c.loop-p.yielded (c.in-Some.p, c.in-Some.v))
    (newton_goes_on (g.met.K.Kind.lawful c.args.kind.now) c.in-Some.p.now c.args.points.now c.args.values.now
    c.if-values-points.false t.0 c.loop-p.invariant
    (subst₂ (λ p v. Corrected m (coefficients c.loop-p.f) (coefficients c.loop-p.base) p v (coefficients c.in_ok-f.f)) (t.2 c.in-Some.p.now) (t.3 0) c.in_ok-f.ensures)
    (subst (λ p. Grown m (coefficients c.loop-p.base) p (coefficients c.in_ok-base.base)) (t.2 c.in-Some.p.now) c.in_ok-base.ensures))

pub returns : goal.returns
returns g c =
    let n = zip_end c.args.points.now c.args.values.now c.loop-p.yielded c.into_iter-p-iterator.result c.loop-p.p-iterator c.next.new.self _ (search rules) (search rules) c.loop-p.yielded_by c.in-None.is c.next.ensures.steps in
    newton_ends (g.met.K.Kind.lawful c.args.kind.now) c.args.points.now c.args.values.now c.if-points-gt-MOST.false c.if-values-points.false
    (omega (arith, n, c.if-values-points.false)) (omega (arith, n)) c.loop-p.invariant
