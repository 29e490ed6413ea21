use Rattle.codes.specs.Fitness.{ApartUntil}
use Rattle.codes.proofs.making.first_related.Given as goal

abbrev pub invariant-loop-j : goal.invariant-loop-j
invariant-loop-j g l = ApartUntil (g.K.Kind.meaning l.kind) l.parameters l.j
