use Rattle.std.proofs.Common.{◌<◌, ◌≤◌, length, sym, subst, arith, rules}
use Rattle.std.proofs.lemmas.List.{length_push}
use Rattle.std.proofs.lemmas.Slice.Zip.{zip_turn, zip_end}
use Rattle.hints.proofs.Parting.{PartedAt, all_at, parted_at_starts, parted_at_room, parted_at_goes_on, parted_ends}
use Rattle.hints.proofs.splitting.least_splitting.Goals as goal

pub loop-n-init : goal.loop-n-init
loop-n-init g c = λ k gs h v. parted_at_starts (g.met.K.Kind.lawful c.args.kind.now) c.empty.ensures c.empty-2.ensures c.empty-3.ensures v

pub loop-n-preserved : goal.loop-n-preserved
loop-n-preserved g c = λ k gs h v.
    let turn = zip_turn c.args.lengths.now c.args.hints.now.blocks c.loop-n.yielded c.into_iter-n-iterator.result _ c.next.new.self _ (search rules) (search rules) c.loop-n.yielded_by _ c.in-Some.is c.next.ensures.steps in
    subst (λ i. PartedAt (g.K.Kind.meaning c.args.kind.now) c.args.lengths.now gs c.args.difference.now i c.in-Some-split_at_checked.behind.now c.split_block.new.parts) (sym (length_push c.loop-n.yielded _))
    (parted_at_goes_on (g.met.K.Kind.lawful c.args.kind.now) _ _ h v turn.0 (turn.2 0) (turn.3 _) c.in-Some-split_at_checked.ensures.cases.1 c.in-Some-split_at_checked.ensures.cases.2 c.split_block.ensures
    (c.loop-n.invariant k gs h v))

pub returns-then-n-gt8 : goal.returns-then-n-gt8
returns-then-n-gt8 g c = λ k gs h v.
    let turn = zip_turn c.args.lengths.now c.args.hints.now.blocks c.loop-n.yielded c.into_iter-n-iterator.result _ c.next.new.self _ (search rules) (search rules) c.loop-n.yielded_by _ c.in-Some.is c.next.ensures.steps in
    absurd (omega (arith, turn.2 0, all_at (λ n. n ≤ 8) c.args.lengths.now (length c.loop-n.yielded) turn.0 v.short, c.if-n-gt8.true))

pub returns-in_default : goal.returns-in_default
returns-in_default g c = λ k gs h v.
    let turn = zip_turn c.args.lengths.now c.args.hints.now.blocks c.loop-n.yielded c.into_iter-n-iterator.result _ c.next.new.self _ (search rules) (search rules) c.loop-n.yielded_by _ c.in-Some.is c.next.ensures.steps in
    let short : length c.loop-n.rest.now < c.in-Some.n.now = c.in_default.ensures.cases in
    absurd (omega (arith, turn.2 0, parted_at_room (g.met.K.Kind.lawful c.args.kind.now) turn.0 (c.loop-n.invariant k gs h v), short))

pub returns : goal.returns
returns g c = λ k gs h v.
    let end = zip_end c.args.lengths.now c.args.hints.now.blocks c.loop-n.yielded c.into_iter-n-iterator.result _ c.next.new.self _ (search rules) (search rules) c.loop-n.yielded_by c.in-None.is c.next.ensures.steps in
    parted_ends (g.met.K.Kind.lawful c.args.kind.now) h.size (omega (arith, end, v.few, c.args.hints.now.room)) (c.loop-n.invariant k gs h v).parted
