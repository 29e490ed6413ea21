use Rattle.std.proofs.Common.{◌≡◌, ◌≤◌, length, take}
use Rattle.skew.specs.Polynomials.{coefficients}
use Rattle.codes.specs.Holdings.{held, stops}
use Rattle.codes.proofs.EncodingLoop.{row}
use Rattle.recovery.specs.Preparation.{Prepares}
use Rattle.recovery.proofs.powers.encode_by.Given as goal

abbrev pub invariant-loop-powers : goal.invariant-loop-powers
invariant-loop-powers g l =
    let m = g.K.Kind.meaning l.kind in
    let f = coefficients l.message in
    (length (held l.out) ≡ l.powers-index) × (Prepares m l.code l.prepared → length f ≤ 24 → held l.out ≡ take l.powers-index (row m f (stops l.code.course)))
