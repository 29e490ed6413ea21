use Rattle.std.proofs.Common.{ap, ◌∙◌, arith, rules}
use Rattle.std.proofs.lemmas.List.{length_push}
use Rattle.std.proofs.lemmas.Slice.Zip.{zip_turn, zip_end}
use Rattle.fields.specs.Meaning.{clip}
use Rattle.skew.specs.declared.points.Point.{Point}
use Rattle.skew.specs.Annihilators.{places}
use Rattle.codes.specs.Holdings.{held, stops}
use Rattle.codes.proofs.DualCode.{turned_more, turned_ends, exact_more, exact_all}
use Rattle.codes.proofs.dualizing.turned.Goals as goal

pub loop-p-init : goal.loop-p-init
loop-p-init g c = (c.empty-out.ensures, ap (places (g.K.Kind.meaning c.args.kind.now)) c.empty-out.ensures)

pub loop-p-preserved : goal.loop-p-preserved
loop-p-preserved g c =
    let m = g.K.Kind.meaning c.args.kind.now in
    let ps = c.args.points.now in
    let ds = held c.args.locators.now in
    let p = c.in-Some.p.now in
    let t = zip_turn ps ds c.loop-p.yielded c.into_iter-p-iterator.result c.loop-p.p-iterator c.next.new.self _ (search rules) (search rules) c.loop-p.yielded_by (c.in-Some.p, c.in-Some.b) c.in-Some.is c.next.ensures.steps in
    let turn = c.untwist-parameter.ensures ∙ ap (λ (q : Point). m.untwist (clip m q.parameter)) (t.2 p) in
    rw (length_push c.loop-p.yielded (c.in-Some.p, c.in-Some.b)) (
      exact_more m ps ds p c.requires.size c.requires.room t.0 c.loop-p.invariant.0 turn (t.3 0) c.push.ensures,
      turned_more m ps ds c.requires.size (stops c.loop-p.out) (stops c.push.new.self) p c.requires.room t.0 c.loop-p.invariant.1 turn (t.3 0) c.push.ensures,
    )

pub returns : goal.returns
returns g c =
    let m = g.K.Kind.meaning c.args.kind.now in
    let ps = c.args.points.now in
    let ds = held c.args.locators.now in
    let n = zip_end ps ds c.loop-p.yielded c.into_iter-p-iterator.result c.loop-p.p-iterator c.next.new.self _ (search rules) (search rules) c.loop-p.yielded_by c.in-None.is c.next.ensures.steps in
    record {
      exact = exact_all m ps ds c.requires.size (omega (arith, n, c.requires.size)) c.loop-p.invariant.0;
      points = turned_ends m ps ds c.requires.size (stops c.loop-p.out) (omega (arith, n, c.requires.size)) c.loop-p.invariant.1;
    }
