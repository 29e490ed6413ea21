use Rattle.std.proofs.Common.{◌≡◌, length, take}
use Rattle.fields.specs.Elements.{elems, ops}
use Rattle.skew.specs.Annihilators.{places}
use Rattle.codes.specs.Holdings.{held, stops}
use Rattle.codes.specs.Duals.{dual_points}
use Rattle.codes.specs.Dualizing.{turned_points}
use Rattle.codes.proofs.dualizing.turned.Given as goal

abbrev pub invariant-loop-p : goal.invariant-loop-p
invariant-loop-p g l =
    let m = g.K.Kind.meaning l.kind in
    (stops l.out ≡ take (length l.yielded) (turned_points m l.points (held l.locators)))
    × (places m (stops l.out) ≡ take (length l.yielded) (dual_points (ops m) (places m l.points) (elems m (held l.locators))))
