-- As many symbols are there as were drawn, at most as many as fit.
use Rattle.std.proofs.Common.{◌≡◌, length, min}
use Rattle.skew.specs.Few.{held}
use Rattle.drills.proofs.random.Random.drawn.Given as goal

abbrev pub invariant-loop-i : goal.invariant-loop-i
invariant-loop-i g l = length (held l.out) ≡ min g.row.N l._i
