use Rattle.std.proofs.Common.{map, length}
use Rattle.fields.specs.Field.{plus}
use Rattle.fields.specs.Elements.{elems, ops}
use Rattle.codes.specs.Holdings.{held}
use Rattle.codes.proofs.Holding.{Filling}
use Rattle.recovery.proofs.recovering.difference.Given as goal

abbrev pub invariant-loop-x : goal.invariant-loop-x
invariant-loop-x g l =
    let m = g.K.Kind.meaning l.kind in
    Filling (plus (ops m) (elems m l.word) (map (ops m).neg (elems m (held l.codeword)))) (length l.yielded) (held l.out)
