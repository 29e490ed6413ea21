use Rattle.std.proofs.Common.{arith}
use Rattle.std.proofs.lemmas.List.{length-take}
use Rattle.skew.specs.Few.{held}
use Rattle.skew.proofs.Filling.{put_is, put_past}
use Rattle.skew.proofs.few.Few.put.Goals as goal

pub returns-then-i-self : goal.returns-then-i-self
returns-then-i-self g c = put_is c.args.self.now.len c.args.self.now.cells c.args.i c.args.x c.if-i-self.true

pub returns-else-i-self : goal.returns-else-i-self
returns-else-i-self g c =
    put_past (held c.args.self.now) c.args.i c.args.x (omega (arith, length-take c.args.self.now.len c.args.self.now.cells))
