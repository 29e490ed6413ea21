use Rattle.std.proofs.Common.{take}
use Rattle.ranks.proofs.Ranking.{Free}
use Rattle.ranks.proofs.ranks.dependent_at.Given as goal

abbrev pub invariant-loop-i : goal.invariant-loop-i
invariant-loop-i g l = Free (g.met.K.Kind.lawful l.kind) (take l.i l.locators) l.form
