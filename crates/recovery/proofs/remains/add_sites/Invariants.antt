use Rattle.std.proofs.Common.{length, take}
use Rattle.fields.specs.Elements.{elems}
use Rattle.skew.specs.Polynomials.{coefficients}
use Rattle.ranks.specs.Reduction.{row, marks_of}
use Rattle.recovery.specs.Steps.{parameter_of}
use Rattle.recovery.specs.Sites.{sites_in}
use Rattle.recovery.proofs.Leaving.{Leaving}
use Rattle.recovery.proofs.remains.add_sites.Given as goal

abbrev pub invariant-loop-p : goal.invariant-loop-p
invariant-loop-p g l =
    let m = g.K.Kind.meaning l.kind in
    let n = length l.points in
    Leaving m (parameter_of m l.points) (elems m (coefficients l.killer)) (marks_of l.columns) (take n (row m l.locators)) (take n (row m l.left)) (sites_in l.initial.out) l.p (sites_in l.out)
