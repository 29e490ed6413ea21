use Rattle.std.proofs.Common.{length}
use Rattle.fields.specs.Elements.{elems}
use Rattle.skew.specs.Polynomials.{coefficients}
use Rattle.codes.specs.Holdings.{held, stops}
use Rattle.recovery.specs.Sites.{sites_in}
use Rattle.recovery.proofs.Leaving.{Gathering}
use Rattle.recovery.proofs.remains.left_sites.Given as goal

abbrev pub invariant-loop-n : goal.invariant-loop-n
invariant-loop-n g l =
    let m = g.K.Kind.meaning l.kind in
    Gathering m (held l.code.lengths) l.hints.blocks (elems m (coefficients l.killer)) (stops l.code.course) l.word (length l.yielded) l.at (sites_in l.out)
