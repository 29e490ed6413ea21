use Rattle.std.proofs.Common.{take}
use Rattle.skew.specs.Pairs.{spots, Held}
use Rattle.skew.proofs.engine.pairs.Given as goal

abbrev pub invariant-loop-site : goal.invariant-loop-site
invariant-loop-site g l = Held (g.K.Kind.meaning l.kind) l.k (spots (g.K.Kind.meaning l.kind) (take l.site-index l.sites)) l.s
