use Rattle.std.proofs.Common.{ℕ, List, length}
use Rattle.fields.specs.Elements.{Elem}
use Rattle.hints.specs.Splittings.{Given}
use Rattle.hints.specs.Holdings.{Holds}
use Rattle.hints.specs.Outcomes.{Divided}
use Rattle.hints.proofs.Parting.{PartedAt}
use Rattle.hints.proofs.splitting.least_splitting.Given as goal

abbrev pub invariant-loop-n : goal.invariant-loop-n
invariant-loop-n g l =
    let m = g.K.Kind.meaning l.kind in
    (k : ℕ) (gs : List (Given (Elem m))) → Holds m l.lengths k l.hints gs → Divided l.lengths l.difference → PartedAt m l.lengths gs l.difference (length l.yielded) l.rest l.parts
