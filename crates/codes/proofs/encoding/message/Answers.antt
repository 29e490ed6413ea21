use Rattle.std.proofs.Common.{◌≡◌, ◌≢◌, ◌≤◌, length, refl, subst, inr, rules, tests}
use Rattle.std.proofs.lemmas.Iterator.{cases_from_any, YieldsList-from_slice}
use Rattle.std.proofs.lemmas.Iterator.Adapters.{YieldsList-from_skip}
use Rattle.skew.specs.Polynomials.{coefficients}
use Rattle.skew.specs.Interpolation.{Interpolated}
use Rattle.skew.proofs.Filling.{short}
use Rattle.codes.specs.Holdings.{stops}
use Rattle.codes.proofs.Reading.{SearchTells, found_behind, none_behind, no_values, no_message, read}
use Rattle.codes.proofs.encoding.message.Goals as goal

pub returns-in_err-f : goal.returns-in_err-f
returns-in_err-f g c =
    let few : length (stops c.args.code.now.course) ≤ 24 = short c.args.code.now.course in
    simp c.from_residual.ensures
    (no_values (g.met.K.Kind.lawful c.args.kind.now) c.args.code.now c.args.word.now few (rw c.as_slice-points.ensures at c.in_err-f.ensures))

pub returns-then-any : goal.returns-then-any
returns-then-any g c =
    let has = subst (λ ps. Interpolated (g.K.Kind.meaning c.args.kind.now) ps c.args.word.now (coefficients c.in_ok-f.f)) c.as_slice-points.ensures c.in_ok-f.ensures in
    let tells : SearchTells (coefficients c.in_ok-f.f) c.args.code.now.dimension c.any.result =
    cases_from_any _ _ c.any.result (λ x. x ≢ 0) (λ x. x ≡ 0) c.any.ensures.ran (YieldsList-from_skip c.args.code.now.dimension (YieldsList-from_slice (coefficients c.in_ok-f.f) (search rules)) c.skip.ensures.count) (λ x q k. search (rules, tests)) (λ x q k. search (rules, tests)) in
    let found = found_behind (coefficients c.in_ok-f.f) c.args.code.now.dimension c.if-any.true tells in
    inr (no_message (g.met.K.Kind.lawful c.args.kind.now) c.args.code.now c.args.word.now (coefficients c.in_ok-f.f) has found.1 refl found.2)

pub returns : goal.returns
returns g c =
    let few : length (stops c.args.code.now.course) ≤ 24 = short c.args.code.now.course in
    let has = subst (λ ps. Interpolated (g.K.Kind.meaning c.args.kind.now) ps c.args.word.now (coefficients c.in_ok-f.f)) c.as_slice-points.ensures c.in_ok-f.ensures in
    let tells : SearchTells (coefficients c.in_ok-f.f) c.args.code.now.dimension c.any.result =
    cases_from_any _ _ c.any.result (λ x. x ≢ 0) (λ x. x ≡ 0) c.any.ensures.ran (YieldsList-from_skip c.args.code.now.dimension (YieldsList-from_slice (coefficients c.in_ok-f.f) (search rules)) c.skip.ensures.count) (λ x q k. search (rules, tests)) (λ x q k. search (rules, tests)) in
    read (g.met.K.Kind.lawful c.args.kind.now) c.args.code.now c.args.word.now (coefficients c.in_ok-f.f) has (coefficients c.resized.result) c.resized.ensures few
    (λ j h k. none_behind (coefficients c.in_ok-f.f) c.args.code.now.dimension c.if-any.false tells j h)
