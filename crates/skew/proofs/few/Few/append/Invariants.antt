use Rattle.std.proofs.Common.{◌≡◌, ◌++◌, take}
use Rattle.skew.specs.Few.{held}
use Rattle.skew.proofs.few.Few.append.Given as goal

abbrev pub invariant-loop-x : goal.invariant-loop-x
invariant-loop-x g l = held l.self ≡ take g.row.N (held l.initial.self ++ take l.x-index l.more)
