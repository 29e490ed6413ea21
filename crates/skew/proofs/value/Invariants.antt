use Rattle.skew.proofs.Valuing.{Valuing}
use Rattle.skew.proofs.value.Given as goal

abbrev pub invariant-loop-c : goal.invariant-loop-c
invariant-loop-c g l = Valuing (g.K.Kind.meaning l.kind) l.f l.parameter l.initial.x l.c-index l.total l.x
