use Rattle.std.proofs.Common.{◌≡◌, length, sym, ◌∙◌, subst, arith, rules}
use Rattle.std.proofs.lemmas.List.{length_push}
use Rattle.std.proofs.lemmas.Slice.Zip.{zip_turn, zip_end}
use Rattle.fields.specs.Meaning.{clip}
use Rattle.ranks.proofs.ClearingLoop.{ClearedTo, clear_skips, clear_goes_on, clear_ends}
use Rattle.ranks.proofs.rows.cleared.Goals as goal

pub loop-slot-preserved : goal.loop-slot-preserved
loop-slot-preserved g c =
    let l = g.met.K.Kind.lawful c.args.kind.now in
    let f = c.args.form.now in
    let h = c.args.row.now in
    let n : length h.cells ≡ 8 = search rules in
    let here = zip_turn f.rows h.cells c.loop-slot.yielded c.into_iter-slot-iterator.result _ c.next.new.self _ (search rules) (search rules) c.loop-slot.yielded_by _ c.in-Some.is c.next.ensures.steps in
    subst (ClearedTo l f h c.loop-slot.left) (sym (length_push c.loop-slot.yielded _))
    (clear_skips l f h c.loop-slot.left (omega (arith, here.1, n)) n (sym (here.2 _) ∙ c.in_default.is) c.loop-slot.invariant)

pub loop-slot-preserved-in-Some-slot : goal.loop-slot-preserved-in-Some-slot
loop-slot-preserved-in-Some-slot g c =
    let m = g.K.Kind.meaning c.args.kind.now in
    let l = g.met.K.Kind.lawful c.args.kind.now in
    let f = c.args.form.now in
    let h = c.args.row.now in
    let n : length h.cells ≡ 8 = search rules in
    let here = zip_turn f.rows h.cells c.loop-slot.yielded c.into_iter-slot-iterator.result _ c.next.new.self _ (search rules) (search rules) c.loop-slot.yielded_by _ c.in-Some.is c.next.ensures.steps in
    subst (ClearedTo l f h c.combined-left.result) (sym (length_push c.loop-slot.yielded _))
    (clear_goes_on l f h c.loop-slot.left c.in-Some-slot.other c.combined-left.result (omega (arith, here.1, n)) n (sym (here.2 _) ∙ c.in-Some-slot.is) (subst (λ x. c.opposite-minus.result ≡ m.opposite (clip m x)) (here.3 0) c.opposite-minus.ensures) c.combined-left.ensures
    c.loop-slot.invariant)

pub returns : goal.returns
returns g c =
    let n : length c.args.row.now.cells ≡ 8 = search rules in
    let r : length c.args.form.now.rows ≡ 8 = search rules in
    let done = zip_end c.args.form.now.rows c.args.row.now.cells c.loop-slot.yielded c.into_iter-slot-iterator.result _ c.next.new.self _ (search rules) (search rules) c.loop-slot.yielded_by c.in-None.is
    c.next.ensures.steps in
    clear_ends (g.met.K.Kind.lawful c.args.kind.now) c.args.form.now c.args.row.now c.loop-slot.left (omega (arith, n, r, done)) c.loop-slot.invariant
