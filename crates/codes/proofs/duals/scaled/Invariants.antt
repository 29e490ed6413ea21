use Rattle.fields.specs.Field.{scale}
use Rattle.fields.specs.Elements.{elem, elems, ops}
use Rattle.codes.specs.Holdings.{held}
use Rattle.codes.proofs.Holding.{Filling}
use Rattle.codes.proofs.duals.scaled.Given as goal

abbrev pub invariant-loop-x : goal.invariant-loop-x
invariant-loop-x g l = let m = g.K.Kind.meaning l.kind in Filling (scale (ops m) (elem m l.c) (elems m l.row)) l.x-index (held l.out)
