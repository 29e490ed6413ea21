-- So many points are there as the blocks before have, and the places before in this block.
use Rattle.std.proofs.Common.{◌≡◌, ◌+◌, ◌*◌, length}
use Rattle.skew.specs.Few.{held}
use Rattle.skew_checks.proofs.course.Given as goal

abbrev pub invariant-loop-j : goal.invariant-loop-j
invariant-loop-j g l = length (held l.points) ≡ (g.K.Kind.meaning l.kind).width * l._i + l.j

abbrev pub invariant-loop-i : goal.invariant-loop-i
invariant-loop-i g l = length (held l.points) ≡ (g.K.Kind.meaning l.kind).width * l._i
