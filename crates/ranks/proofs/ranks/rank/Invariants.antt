use Rattle.std.proofs.Common.{take}
use Rattle.ranks.proofs.Ranking.{Counting}
use Rattle.ranks.proofs.ranks.rank.Given as goal

abbrev pub invariant-loop-x : goal.invariant-loop-x
invariant-loop-x g l = Counting (g.met.K.Kind.lawful l.kind) (take l.x-index l.symbols) l.form l.count
