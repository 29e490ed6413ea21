use Rattle.std.proofs.Common.{length}
use Rattle.codes.specs.Holdings.{stops}
use Rattle.codes.proofs.Gathering.{Gathering}
use Rattle.codes.proofs.making.gather.Given as goal

abbrev pub invariant-loop-n : goal.invariant-loop-n
invariant-loop-n g l = Gathering (g.K.Kind.meaning l.kind) l.lengths l.parameters l.locators (length l.yielded) l.at (stops l.course)
