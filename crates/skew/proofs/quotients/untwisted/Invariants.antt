use Rattle.skew.proofs.Untwisting.{Untwisting}
use Rattle.skew.proofs.quotients.untwisted.Given as goal

abbrev pub invariant-loop : goal.invariant-loop
invariant-loop g l = Untwisting (g.K.Kind.meaning l.kind) l.x l.counter l.y
