use Rattle.std.proofs.Common.{◌≡◌, ◌≤◌, List, length}
use Rattle.fields.specs.Elements.{Elem, elems, codes}
use Rattle.skew.specs.Polynomials.{coefficients}
use Rattle.codes.specs.Holdings.{held, stops}
use Rattle.recovery.specs.Sites.{sites_in}
use Rattle.codes.specs.Codes.{word_of}
use Rattle.recovery.specs.Preparation.{Prepares}
use Rattle.recovery.proofs.Turning.{Turning}
use Rattle.recovery.proofs.direct.other_sites.Given as goal

abbrev pub invariant-loop-i : goal.invariant-loop-i
invariant-loop-i g l =
    let m = g.K.Kind.meaning l.kind in
    (M : List (Elem m)) → held l.prepared.values ≡ codes (word_of m l.code M) → Prepares m l.code l.prepared → length (coefficients l.f) ≤ 24 → Turning m (stops l.code.course) M (elems m (coefficients l.f)) l.word l.code.dimension l.i (sites_in l.out)
