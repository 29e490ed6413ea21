use Rattle.std.proofs.Common.{◌≤◌, length, subst, arith}
use Rattle.std.proofs.lemmas.List.{length-take}
use Rattle.skew.specs.Polynomials.{coefficients}
use Rattle.skew.specs.Pairs.{spots, Held}
use Rattle.skew.proofs.Filling.{short}
use Rattle.codes.specs.Holdings.{stops}
use Rattle.recovery.specs.Sites.{sites_in}
use Rattle.recovery.proofs.RebuiltWords
use Rattle.recovery.proofs.Reaching
use Rattle.recovery.proofs.direct.hintless.Goals as goal

pub returns-in_err-left : goal.returns-in_err-left
returns-in_err-left g c = λ law prep.
    let m = g.K.Kind.meaning c.args.kind.now in
    let l = g.met.K.Kind.lawful c.args.kind.now in
    let near = coefficients c.rebuilt-near.result in
    let reads = RebuiltWords.reads_first l c.args.code.now c.args.prepared.now c.args.word.now law prep c.requires near c.rebuilt-near.ensures in
    let near_few : length near ≤ 24 = omega (arith, reads.size, length-take c.args.code.now.dimension (stops c.args.code.now.course), short c.args.code.now.course) in
    let fits =
    RebuiltWords.left_fits l c.args.code.now c.args.prepared.now c.args.word.now law prep c.requires near reads
    (sites_in c.other_sites-sites.result) (c.other_sites-sites.ensures _ prep.values prep near_few) c.in_ok-both.both
    (subst (λ ss. Held m 0 (spots m ss) c.in_ok-both.both) c.as_slice.ensures c.in_ok-both.ensures.1) in
    simp c.from_residual-in_err-left.ensures (omega (arith, fits, c.in_err-left.ensures))

pub returns-in_err-off : goal.returns-in_err-off
returns-in_err-off g c = λ law prep.
    let m = g.K.Kind.meaning c.args.kind.now in
    let l = g.met.K.Kind.lawful c.args.kind.now in
    let near = coefficients c.rebuilt-near.result in
    let reads = RebuiltWords.reads_first l c.args.code.now c.args.prepared.now c.args.word.now law prep c.requires near c.rebuilt-near.ensures in
    let near_few : length near ≤ 24 = omega (arith, reads.size, length-take c.args.code.now.dimension (stops c.args.code.now.course), short c.args.code.now.course) in
    simp c.from_residual-in_err-off.ensures
    (RebuiltWords.divides l c.args.code.now c.args.prepared.now c.args.word.now law prep c.requires near reads
    (sites_in c.other_sites-sites.result) (c.other_sites-sites.ensures _ prep.values prep near_few) c.in_ok-both.both
    (subst (λ ss. Held m 0 (spots m ss) c.in_ok-both.both) c.as_slice.ensures c.in_ok-both.ensures.1) c.in_err-off.ensures)

pub returns : goal.returns
returns g c = λ law prep.
    let m = g.K.Kind.meaning c.args.kind.now in
    let l = g.met.K.Kind.lawful c.args.kind.now in
    let near = coefficients c.rebuilt-near.result in
    let reads = RebuiltWords.reads_first l c.args.code.now c.args.prepared.now c.args.word.now law prep c.requires near c.rebuilt-near.ensures in
    let near_few : length near ≤ 24 = omega (arith, reads.size, length-take c.args.code.now.dimension (stops c.args.code.now.course), short c.args.code.now.course) in
    Reaching.candidate l c.args.code.now c.args.prepared.now c.args.word.now law prep c.requires near reads
    (sites_in c.other_sites-sites.result) (c.other_sites-sites.ensures _ prep.values prep near_few) c.in_ok-both.both
    (subst (λ ss. Held m 0 (spots m ss) c.in_ok-both.both) c.as_slice.ensures c.in_ok-both.ensures.1)
    (coefficients c.in_ok-left.left) c.in_ok-left.ensures (coefficients c.in_ok-off.off) (coefficients c.combine.result) c.opposite-minus.ensures c.in_ok-off.ensures c.combine.ensures
