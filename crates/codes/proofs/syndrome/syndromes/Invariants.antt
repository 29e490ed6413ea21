use Rattle.codes.specs.Holdings.{held}
use Rattle.codes.proofs.Checking.{Checking}
use Rattle.codes.proofs.syndrome.syndromes.Given as goal

abbrev pub invariant-loop : goal.invariant-loop
invariant-loop g l = Checking (g.K.Kind.meaning l.kind) l.points l.duals l.word l.counter (held l.terms) (held l.out)
