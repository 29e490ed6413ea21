use Rattle.std.proofs.Common.{◌≡◌, ◌<◌, ◌++◌, take, length, get_or, sym, ap, ◌∙◌, subst, arith, rules}
use Rattle.std.proofs.lemmas.List.{length_push}
use Rattle.std.proofs.lemmas.Slice.Zip.{zip_turn, zip_end}
use Rattle.skew.proofs.Filling.{short}
use Rattle.fields.specs.Elements.{elem}
use Rattle.skew.specs.Annihilators.{places}
use Rattle.ranks.specs.Reduction.{rows_of, InForm}
use Rattle.codes.specs.Holdings.{held, stops}
use Rattle.hints.specs.Holdings.{no_block}
use Rattle.recovery.specs.Steps.{no_point, hint_points}
use Rattle.recovery.proofs.Walking.{block_within, collecting_starts, collecting_goes_on, collecting_ends}
use Rattle.recovery.proofs.killing.row_points.Goals as goal

pub loop-n-init : goal.loop-n-init
loop-n-init g c = collecting_starts (g.K.Kind.meaning c.args.kind.now) c.empty-out.ensures

pub bounds-points-at : goal.bounds-points-at
bounds-points-at g c =
    let t = zip_turn (held c.args.code.now.lengths) c.args.hints.now.blocks c.loop-n.yielded c.into_iter-n-iterator.result c.loop-n.n-iterator c.next.new.self _ (search rules) (search rules) c.loop-n.yielded_by (c.in-Some.n, c.in-Some.block) c.in-Some.is c.next.ensures.steps in
    subst (λ w. c.loop-n.at < length w) (sym c.as_slice-points.ensures) (block_within c.args.code.now t.0 c.loop-n.invariant.ends).0

pub loop-n-preserved : goal.loop-n-preserved
loop-n-preserved g c =
    let m = g.K.Kind.meaning c.args.kind.now in
    let t = zip_turn (held c.args.code.now.lengths) c.args.hints.now.blocks c.loop-n.yielded c.into_iter-n-iterator.result c.loop-n.n-iterator c.next.new.self _ (search rules) (search rules) c.loop-n.yielded_by (c.in-Some.n, c.in-Some.block) c.in-Some.is c.next.ensures.steps in
    let a = (get_or c.as_slice-points.result.now c.loop-n.at no_point).parameter in
    let own = subst (λ b. InForm m b.rows → places m (stops c.add_points.new.out) ≡ take 24 (places m (stops c.loop-n.out) ++ hint_points m (elem m a) (rows_of m b.rows))) (t.3 no_block) c.add_points.ensures in
    rw (length_push c.loop-n.yielded (c.in-Some.n, c.in-Some.block))
    (collecting_goes_on m no_point t.0 t.1 (block_within c.args.code.now t.0 c.loop-n.invariant.ends).0
    (c.from-at.ensures ∙ t.2 0) (ap (λ w. (get_or w c.loop-n.at no_point).parameter) c.as_slice-points.ensures) own c.loop-n.invariant)

pub returns : goal.returns
returns g c =
    let n = zip_end (held c.args.code.now.lengths) c.args.hints.now.blocks c.loop-n.yielded c.into_iter-n-iterator.result c.loop-n.n-iterator c.next.new.self _ (search rules) (search rules) c.loop-n.yielded_by c.in-None.is c.next.ensures.steps in
    collecting_ends (g.K.Kind.meaning c.args.kind.now) (omega (arith, n, c.args.code.now.blocks, c.args.hints.now.room)) (short c.loop-n.out) c.loop-n.invariant
