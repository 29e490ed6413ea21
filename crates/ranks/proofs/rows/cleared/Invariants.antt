use Rattle.std.proofs.Common.{length}
use Rattle.ranks.proofs.ClearingLoop.{ClearedTo}
use Rattle.ranks.proofs.rows.cleared.Given as goal

abbrev pub invariant-loop-slot : goal.invariant-loop-slot
invariant-loop-slot g l = ClearedTo (g.met.K.Kind.lawful l.kind) l.form l.row l.left (length l.yielded)
