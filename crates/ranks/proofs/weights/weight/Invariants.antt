use Rattle.ranks.proofs.Weighing.{Weighing}
use Rattle.ranks.proofs.weights.weight.Given as goal

abbrev pub invariant-loop-n : goal.invariant-loop-n
invariant-loop-n g l = Weighing (g.K.Kind.meaning l.kind) l.lengths l.word l.n-index l.rest l.sum
