use Rattle.std.proofs.Common.{ap, ◌∙◌, arith, rules}
use Rattle.std.proofs.lemmas.List.{length-map}
use Rattle.std.proofs.lemmas.List.{length_push}
use Rattle.std.proofs.lemmas.Slice.Zip.{zip_turn, zip_end}
use Rattle.fields.specs.Meaning.{clip}
use Rattle.fields.specs.Elements.{elem, elems}
use Rattle.skew.specs.declared.points.Point.{Point}
use Rattle.codes.specs.Holdings.{held}
use Rattle.codes.specs.DualAnswers.{advanced}
use Rattle.codes.proofs.Holding.{nothing, filled}
use Rattle.codes.proofs.Checking.{advance_goes_on, length_advanced}
use Rattle.codes.proofs.syndrome.advance.Goals as goal

pub loop-p-init : goal.loop-p-init
loop-p-init g c = nothing c.empty-out.ensures

pub loop-p-preserved : goal.loop-p-preserved
loop-p-preserved g c =
    let m = g.K.Kind.meaning c.args.kind.now in
    let p = c.in-Some.p.now in
    let t = zip_turn c.args.points.now (held c.args.terms.now) c.loop-p.yielded c.into_iter-p-iterator.result c.loop-p.p-iterator c.next.new.self _ (search rules) (search rules) c.loop-p.yielded_by (c.in-Some.p, c.in-Some.t) c.in-Some.is c.next.ensures.steps in
    rw (length_push c.loop-p.yielded (c.in-Some.p, c.in-Some.t))
    (advance_goes_on (g.met.K.Kind.lawful c.args.kind.now) p c.args.points.now (held c.args.terms.now) c.requires t.0 c.loop-p.invariant
    (t.3 0) (c.product-grown.ensures ∙ ap (λ (q : Point). m.product (clip m c.in-Some.t.now) (clip m q.parameter)) (t.2 p)) c.untwist-next.ensures c.push.ensures)

pub returns : goal.returns
returns g c =
    let m = g.K.Kind.meaning c.args.kind.now in
    let ts = held c.args.terms.now in
    let n = zip_end c.args.points.now (held c.args.terms.now) c.loop-p.yielded c.into_iter-p-iterator.result c.loop-p.p-iterator c.next.new.self _ (search rules) (search rules) c.loop-p.yielded_by c.in-None.is c.next.ensures.steps in
    filled {X = advanced m c.args.points.now (elems m ts)} (omega (arith, length_advanced (g.met.K.Kind.lawful c.args.kind.now) c.args.points.now (elems m ts) (length-map ts (elem m) ∙ c.requires), n, c.requires)) c.loop-p.invariant
