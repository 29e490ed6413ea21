use Rattle.codes.specs.Holdings.{held}
use Rattle.codes.proofs.SheetWriting.{Listing}
use Rattle.codes.proofs.writing.parameters_of.Given as goal

abbrev pub invariant-loop-n : goal.invariant-loop-n
invariant-loop-n l = Listing l.code l.n-index l.at (held l.out)
