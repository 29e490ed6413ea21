use Rattle.std.proofs.Common.{◌≡◌, ◌-◌, ◌≤◌, length, sym, refl, ap, ◌∙◌, subst, inl, arith}
use Rattle.fields.specs.Elements.{elems, ops}
use Rattle.skew.specs.Annihilators.{places}
use Rattle.skew.proofs.Filling.{short}
use Rattle.codes.specs.Holdings.{held, stops}
use Rattle.codes.specs.Duals.{dual_points}
use Rattle.codes.specs.DualAnswers.{Located}
use Rattle.codes.specs.Dualizing.{turned_points}
use Rattle.codes.proofs.DualCode.{turned_length, dualized, undual}
use Rattle.codes.proofs.dualizing.dual.Goals as goal

pub returns-then-code-points : goal.returns-then-code-points
returns-then-code-points g c = inl (omega (arith, ap length c.as_slice-points.ensures, c.if-code-points.true))

pub returns-in_err-locators : goal.returns-in_err-locators
returns-in_err-locators g c =
    let few : length (stops c.args.code.now.course) ≤ 24 = short c.args.code.now.course in
    simp c.from_residual.ensures
    (undual (g.K.Kind.meaning c.args.kind.now) c.args.code.now few (rw c.as_slice-points.ensures at c.in_err-locators.ensures))

pub turned-course-requires : goal.turned-course-requires
turned-course-requires g c = record { size = c.in_ok-locators.ensures.size; room = c.in_ok-locators.ensures.room }

pub returns : goal.returns
returns g c =
    let m = g.K.Kind.meaning c.args.kind.now in
    let e = c.as_slice-points.ensures in
    let loc = subst (λ ps. Located m ps (held c.in_ok-locators.locators)) e c.in_ok-locators.ensures in
    dualized (g.met.K.Kind.lawful c.args.kind.now) c.args.code.now _ (held c.in_ok-locators.locators) (omega (arith, ap length e, c.if-code-points.false))
    (ap (λ ps. length ps - c.args.code.now.dimension) e) refl loc
    (c.turned-course.ensures.points ∙ ap (λ ps. dual_points (ops m) (places m ps) (elems m (held c.in_ok-locators.locators))) e)
    (c.turned-course.ensures.exact ∙ ap (λ ps. turned_points m ps (held c.in_ok-locators.locators)) e)

pub invariant_of-result : goal.invariant_of-result
invariant_of-result g c =
    let m = g.K.Kind.meaning c.args.kind.now in
    let code = c.args.code.now in
    let loc = c.in_ok-locators.ensures in
    let l = ap length c.as_slice-points.ensures in
    let n : length (stops c.turned-course.result) ≡ length (stops code.course) =
    ap length c.turned-course.ensures.exact ∙ turned_length m c.as_slice-points.result.now (held c.in_ok-locators.locators) loc.size ∙ l in
    record {
      least = omega (arith, c.if-code-points.false);
      most = omega (arith, l, n);
      blocks = code.blocks;
      each = code.each;
      sum = code.sum ∙ sym n;
    }
