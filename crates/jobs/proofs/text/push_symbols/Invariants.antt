use Rattle.std.proofs.Common.{◌≡◌, ◌*◌, ◌≤◌, ◌++◌, length, take}
use Rattle.skew.specs.Few.{held}
use Rattle.jobs.specs.Texts.{numbers}
use Rattle.jobs.proofs.text.push_symbols.Given as goal

abbrev pub invariant-loop-x : goal.invariant-loop-x
invariant-loop-x l = record {
  text : held l.out ≡ take 1024 (held l.fn.out ++ numbers (take l.x-index l.symbols));
  short : length (numbers (take l.x-index l.symbols)) ≤ 4 * l.x-index;
}
