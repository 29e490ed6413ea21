use Rattle.std.proofs.Common.{◌≡◌, ◌+◌, ◌-◌, ◌++◌, map, length, get_or, take, drop, ap, subst, arith, rules}
use Rattle.std.proofs.lemmas.List.{length_push}
use Rattle.std.proofs.lemmas.Slice.Zip.{zip_turn, zip_end}
use Rattle.codes.specs.Holdings.{stops}
use Rattle.codes.specs.Fitness.{pointed}
use Rattle.codes.proofs.Gathering.{Gathering, starts, fits, goes_on, ends, breaks}
use Rattle.codes.proofs.making.gather.Goals as goal

pub loop-n-init : goal.loop-n-init
loop-n-init g c = starts (g.K.Kind.meaning c.args.kind.now) c.args.lengths.now c.args.parameters.now c.args.locators.now c.empty-course.ensures

pub overflow_add-part : goal.overflow_add-part
overflow_add-part g c =
    let ls = c.args.lengths.now in
    let t = zip_turn ls c.args.parameters.now c.loop-n.yielded c.into_iter-n-iterator.result c.loop-n.n-iterator c.next.new.self _ (search rules) (search rules) c.loop-n.yielded_by (c.in-Some.n, c.in-Some.parameter) c.in-Some.is c.next.ensures.steps in
    let f = fits (g.K.Kind.meaning c.args.kind.now) ls c.args.parameters.now c.args.locators.now t.0 c.requires.sum c.loop-n.invariant in
    record { fits = omega (arith, f, c.from-size.ensures, t.2 0, c.requires.sum, c.requires.few) }

pub slice_bounds-part-end : goal.slice_bounds-part-end
slice_bounds-part-end g c =
    let ls = c.args.lengths.now in
    let t = zip_turn ls c.args.parameters.now c.loop-n.yielded c.into_iter-n-iterator.result c.loop-n.n-iterator c.next.new.self _ (search rules) (search rules) c.loop-n.yielded_by (c.in-Some.n, c.in-Some.parameter) c.in-Some.is c.next.ensures.steps in
    let f = fits (g.K.Kind.meaning c.args.kind.now) ls c.args.parameters.now c.args.locators.now t.0 c.requires.sum c.loop-n.invariant in
    omega (arith, f, c.from-size.ensures, t.2 0)

pub returns-in-Some-dependent_at : goal.returns-in-Some-dependent_at
returns-in-Some-dependent_at g c =
    let m = g.K.Kind.meaning c.args.kind.now in
    let ls = c.args.lengths.now in
    let t = zip_turn ls c.args.parameters.now c.loop-n.yielded c.into_iter-n-iterator.result c.loop-n.n-iterator c.next.new.self _ (search rules) (search rules) c.loop-n.yielded_by (c.in-Some.n, c.in-Some.parameter) c.in-Some.is c.next.ensures.steps in
    let k : c.loop-n.at + c.from-size.result - c.loop-n.at ≡ get_or ls (length c.loop-n.yielded) 0 = omega (arith, c.from-size.ensures, t.2 0) in
    breaks m ls c.args.parameters.now c.args.locators.now t.0 c.loop-n.invariant (ap (λ n. take n (drop c.loop-n.at c.args.locators.now)) k) c.in-Some-dependent_at.ensures c.fault.ensures

pub loop-n-preserved : goal.loop-n-preserved
loop-n-preserved g c =
    let m = g.K.Kind.meaning c.args.kind.now in
    let ls = c.args.lengths.now in
    let ps = c.args.parameters.now in
    let xs = c.args.locators.now in
    let t = zip_turn ls ps c.loop-n.yielded c.into_iter-n-iterator.result c.loop-n.n-iterator c.next.new.self _ (search rules) (search rules) c.loop-n.yielded_by (c.in-Some.n, c.in-Some.parameter) c.in-Some.is c.next.ensures.steps in
    let k : c.loop-n.at + c.from-size.result - c.loop-n.at ≡ get_or ls (length c.loop-n.yielded) 0 = omega (arith, c.from-size.ensures, t.2 0) in
    let size : get_or ls (length c.loop-n.yielded) 0 ≡ c.from-size.result = omega (arith, c.from-size.ensures, t.2 0) in
    rw (length_push c.loop-n.yielded (c.in-Some.n, c.in-Some.parameter))
    (subst (λ n. Gathering m ls ps xs (length c.loop-n.yielded + 1) (c.loop-n.at + n) (stops c.extend.new.course)) size
    (goes_on m ls ps xs t.0 c.requires.many c.requires.few c.loop-n.invariant (ap (λ n. take n (drop c.loop-n.at xs)) k) c.in_default.ensures
    (subst (λ a. stops c.extend.new.course ≡ take 24 (stops c.loop-n.course ++ map (pointed a) (take (c.loop-n.at + c.from-size.result - c.loop-n.at) (drop c.loop-n.at xs)))) (t.3 0) c.extend.ensures)))

pub returns : goal.returns
returns g c =
    let ls = c.args.lengths.now in
    let n = zip_end ls c.args.parameters.now c.loop-n.yielded c.into_iter-n-iterator.result c.loop-n.n-iterator c.next.new.self _ (search rules) (search rules) c.loop-n.yielded_by c.in-None.is c.next.ensures.steps in
    ends (g.K.Kind.meaning c.args.kind.now) ls c.args.parameters.now c.args.locators.now (omega (arith, n, c.requires.many)) (omega (arith, n)) c.loop-n.invariant
