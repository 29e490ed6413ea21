use Rattle.std.proofs.Common.{ap, ◌∙◌, arith, rules}
use Rattle.std.proofs.lemmas.List.{length_push}
use Rattle.std.proofs.lemmas.Slice.Zip.{zip_turn, zip_end}
use Rattle.fields.specs.Meaning.{clip}
use Rattle.codes.specs.Holdings.{held}
use Rattle.codes.proofs.Holding.{filled, nothing}
use Rattle.recovery.proofs.Subtracting.{difference_goes_on, length_difference}
use Rattle.recovery.proofs.recovering.difference.Goals as goal

pub loop-x-init : goal.loop-x-init
loop-x-init g c = nothing c.empty-out.ensures

pub loop-x-preserved : goal.loop-x-preserved
loop-x-preserved g c =
    let m = g.K.Kind.meaning c.args.kind.now in
    let t = zip_turn c.args.word.now (held c.args.codeword.now) c.loop-x.yielded c.into_iter-x-iterator.result c.loop-x.x-iterator c.next.new.self _ (search rules) (search rules) c.loop-x.yielded_by (c.in-Some.x, c.in-Some.y) c.in-Some.is c.next.ensures.steps in
    rw (length_push c.loop-x.yielded (c.in-Some.x, c.in-Some.y))
    (difference_goes_on (g.met.K.Kind.lawful c.args.kind.now) c.args.word.now (held c.args.codeword.now) c.requires t.0 c.loop-x.invariant
    (c.opposite-minus.ensures ∙ ap (λ y. m.opposite (clip m y)) (t.3 0)) (c.sum-here.ensures ∙ ap (λ x. m.sum (clip m x) (clip m c.opposite-minus.result)) (t.2 0)) c.push.ensures)

pub returns : goal.returns
returns g c =
    let n = zip_end c.args.word.now (held c.args.codeword.now) c.loop-x.yielded c.into_iter-x-iterator.result c.loop-x.x-iterator c.next.new.self _ (search rules) (search rules) c.loop-x.yielded_by c.in-None.is c.next.ensures.steps in
    filled (omega (arith, length_difference (g.met.K.Kind.lawful c.args.kind.now) c.args.word.now (held c.args.codeword.now) c.requires, n, c.requires)) c.loop-x.invariant
