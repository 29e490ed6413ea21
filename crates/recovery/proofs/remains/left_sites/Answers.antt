use Rattle.std.proofs.Common.{◌≡◌, ◌+◌, ◌≤◌, ◌++◌, take, drop, length, get_or, sym, ap, ◌∙◌, subst, arith, rules}
use Rattle.std.proofs.lemmas.List.{length_push}
use Rattle.std.proofs.lemmas.Slice.Zip.{zip_turn, zip_end}
use Rattle.fields.specs.Elements.{elems}
use Rattle.skew.specs.Polynomials.{coefficients}
use Rattle.skew.specs.Pairs.{spots}
use Rattle.ranks.specs.Reduction.{InForm}
use Rattle.recovery.specs.Steps.{block_spots}
use Rattle.skew.proofs.Filling.{short}
use Rattle.codes.specs.Holdings.{held, stops}
use Rattle.recovery.specs.Sites.{sites_in}
use Rattle.recovery.proofs.Walking.{block_within, Forms}
use Rattle.hints.specs.Holdings.{no_block}
use Rattle.recovery.proofs.Leaving.{own_part, gathering_starts, gathering_goes_on, gathering_ends}
use Rattle.recovery.proofs.remains.left_sites.Goals as goal

pub loop-n-init : goal.loop-n-init
loop-n-init g c = gathering_starts (g.K.Kind.meaning c.args.kind.now) c.empty-out.ensures

pub slice_bounds-add_sites-end : goal.slice_bounds-add_sites-end
slice_bounds-add_sites-end g c =
    let t = zip_turn (held c.args.code.now.lengths) c.args.hints.now.blocks c.loop-n.yielded c.into_iter-n-iterator.result c.loop-n.n-iterator c.next.new.self _ (search rules) (search rules) c.loop-n.yielded_by (c.in-Some.n, c.in-Some.block) c.in-Some.is c.next.ensures.steps in
    omega (arith, c.from.ensures, t.2 0, ap length c.as_slice-points.ensures, (block_within c.args.code.now t.0 c.loop-n.invariant.ends).1)

pub slice_bounds-add_sites-end-in-loop-n : goal.slice_bounds-add_sites-end-in-loop-n
slice_bounds-add_sites-end-in-loop-n g c =
    let t = zip_turn (held c.args.code.now.lengths) c.args.hints.now.blocks c.loop-n.yielded c.into_iter-n-iterator.result c.loop-n.n-iterator c.next.new.self _ (search rules) (search rules) c.loop-n.yielded_by (c.in-Some.n, c.in-Some.block) c.in-Some.is c.next.ensures.steps in
    omega (arith, c.from.ensures, t.2 0, c.requires, (block_within c.args.code.now t.0 c.loop-n.invariant.ends).1)

pub loop-n-preserved : goal.loop-n-preserved
loop-n-preserved g c =
    let m = g.K.Kind.meaning c.args.kind.now in
    let t = zip_turn (held c.args.code.now.lengths) c.args.hints.now.blocks c.loop-n.yielded c.into_iter-n-iterator.result c.loop-n.n-iterator c.next.new.self _ (search rules) (search rules) c.loop-n.yielded_by (c.in-Some.n, c.in-Some.block) c.in-Some.is c.next.ensures.steps in
    let i = length c.loop-n.yielded in
    let n = c.from.result in
    let en : n ≡ get_or (held c.args.code.now.lengths) i 0 = c.from.ensures ∙ t.2 0 in
    let within : c.loop-n.at + n ≤ length (stops c.args.code.now.course) = omega (arith, en, (block_within c.args.code.now t.0 c.loop-n.invariant.ends).1) in
    let k = elems m (coefficients c.args.killer.now) in
    let own = λ (f : Forms m (λ b. b.columns) (held c.args.code.now.lengths) c.args.hints.now.blocks).
    subst (λ b. spots m (sites_in c.add_sites.new.out) ≡ take 24 (spots m (sites_in c.loop-n.out) ++ block_spots m b.columns n k (take n (drop c.loop-n.at (stops c.args.code.now.course))) (take n (drop c.loop-n.at c.args.word.now)))) (t.3 no_block)
    (own_part m c.in-Some.block.now k c.loop-n.at n c.args.word.now (sites_in c.loop-n.out) (sites_in c.add_sites.new.out) c.as_slice-points.ensures within
    (c.add_sites.ensures (subst (λ b. InForm m b.columns) (sym (t.3 no_block)) (f i t.0)))) in
    rw (length_push c.loop-n.yielded (c.in-Some.n, c.in-Some.block))
    (gathering_goes_on m t.0 t.1 en (omega (arith, en, (c.args.code.now.each i t.0).0)) own c.loop-n.invariant)

pub returns : goal.returns
returns g c =
    let n = zip_end (held c.args.code.now.lengths) c.args.hints.now.blocks c.loop-n.yielded c.into_iter-n-iterator.result c.loop-n.n-iterator c.next.new.self _ (search rules) (search rules) c.loop-n.yielded_by c.in-None.is c.next.ensures.steps in
    gathering_ends (g.K.Kind.meaning c.args.kind.now) (omega (arith, n, c.args.code.now.blocks, c.args.hints.now.room)) (short c.loop-n.out) c.loop-n.invariant
