use Rattle.std.proofs.Common.{arith}
use Rattle.skew.specs.Few.{held}
use Rattle.skew.proofs.Filling.{short}
use Rattle.jobs.proofs.Cutting.{none, numbers_next, length_next}
use Rattle.jobs.proofs.text.push_symbols.Goals as goal

pub loop-x-init : goal.loop-x-init
loop-x-init c = record { text = none (held c.args.out.now) (short c.args.out.now); short = omega arith }

pub loop-x-preserved : goal.loop-x-preserved
loop-x-preserved c = record {
  text = numbers_next (held c.args.out.now) c.args.symbols.now c.loop-x.x-index c.loop-x-test.true c.loop-x.invariant.text c.push_symbol.ensures.text;
  short = length_next c.args.symbols.now c.loop-x.x-index c.loop-x-test.true c.loop-x.invariant.short c.push_symbol.ensures.short;
}
