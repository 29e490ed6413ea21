use Rattle.std.proofs.Common.{ap, ◌∙◌, rules}
use Rattle.std.proofs.lemmas.List.{length_push}
use Rattle.std.proofs.lemmas.Slice.Zip.{zip_turn, zip_end}
use Rattle.fields.specs.Meaning.{clip}
use Rattle.codes.specs.Holdings.{held}
use Rattle.codes.proofs.Checking.{sum_starts, sum_goes_on, sum_ends_shorter}
use Rattle.codes.proofs.syndrome.product_sum.Goals as goal

pub loop-x-init : goal.loop-x-init
loop-x-init g c = sum_starts (g.met.K.Kind.lawful c.args.kind.now) c.args.word.now (held c.args.terms.now)

pub loop-x-preserved : goal.loop-x-preserved
loop-x-preserved g c =
    let m = g.K.Kind.meaning c.args.kind.now in
    let t = zip_turn c.args.word.now (held c.args.terms.now) c.loop-x.yielded c.into_iter-x-iterator.result c.loop-x.x-iterator c.next.new.self _ (search rules) (search rules) c.loop-x.yielded_by (c.in-Some.x, c.in-Some.t) c.in-Some.is c.next.ensures.steps in
    rw (length_push c.loop-x.yielded (c.in-Some.x, c.in-Some.t))
    (sum_goes_on (g.met.K.Kind.lawful c.args.kind.now) t.0 c.loop-x.invariant (t.3 0) (c.product-term.ensures ∙ ap (λ z. m.product (clip m z) (clip m c.in-Some.t.now)) (t.2 0)) c.sum-total.ensures)

pub returns : goal.returns
returns g c =
    let n = zip_end c.args.word.now (held c.args.terms.now) c.loop-x.yielded c.into_iter-x-iterator.result c.loop-x.x-iterator c.next.new.self _ (search rules) (search rules) c.loop-x.yielded_by c.in-None.is c.next.ensures.steps in
    sum_ends_shorter (g.met.K.Kind.lawful c.args.kind.now) n c.loop-x.invariant
