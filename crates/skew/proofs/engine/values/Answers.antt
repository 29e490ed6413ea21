use Rattle.std.proofs.Common.{rules, arith, ap, ◌∙◌, length, ◌≡◌}
use Rattle.std.proofs.lemmas.List.{length_push}
use Rattle.std.proofs.lemmas.Slice.Zip.{zip_turn, zip_end}
use Rattle.fields.specs.Meaning.{clip}
use Rattle.skew.proofs.Valuing.{starts, goes_on, ends_with}
use Rattle.skew.proofs.engine.values.Goals as goal

pub loop-a-init : goal.loop-a-init
loop-a-init g c =
    let l = g.met.K.Kind.lawful c.args.kind.now in
    (starts l c.args.f.now c.args.parameter c.args.locator, starts l c.args.g.now c.args.parameter c.args.locator)

pub loop-a-preserved : goal.loop-a-preserved
loop-a-preserved g c =
    let m = g.K.Kind.meaning c.args.kind.now in
    let l = g.met.K.Kind.lawful c.args.kind.now in
    let t = zip_turn c.args.f.now c.args.g.now c.loop-a.yielded c.into_iter-a-iterator.result c.loop-a.a-iterator c.next.new.self _ (search rules) (search rules) c.loop-a.yielded_by (c.in-Some.a, c.in-Some.b) c.in-Some.is c.next.ensures.steps in
    rw (length_push c.loop-a.yielded (c.in-Some.a, c.in-Some.b)) (
      goes_on l t.0 c.loop-a.invariant.0 (c.product.ensures ∙ ap (λ z. m.product (clip m z) (clip m c.loop-a.x)) (t.2 0)) c.sum-u.ensures c.twist.ensures c.product-x.ensures,
      goes_on l t.1 c.loop-a.invariant.1 (c.product-in-loop-a.ensures ∙ ap (λ z. m.product (clip m z) (clip m c.loop-a.x)) (t.3 0)) c.sum-v.ensures c.twist.ensures c.product-x.ensures,
    )

pub returns : goal.returns
returns g c =
    let l = g.met.K.Kind.lawful c.args.kind.now in
    let n = zip_end c.args.f.now c.args.g.now c.loop-a.yielded c.into_iter-a-iterator.result c.loop-a.a-iterator c.next.new.self _ (search rules) (search rules) c.loop-a.yielded_by c.in-None.is c.next.ensures.steps in
    let low : c.min-n.result ≡ length c.loop-a.yielded = omega (arith, n, c.min-n.ensures) in (
      ends_with l (omega (arith, low)) (omega (arith, low)) c.loop-a.invariant.0 c.value-rest.ensures.steps c.sum.ensures,
      ends_with l (omega (arith, low)) (omega (arith, low)) c.loop-a.invariant.1 c.value-others.ensures.steps c.sum-2.ensures,
    )
