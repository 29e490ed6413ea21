use Rattle.std.proofs.Common.{◌≡◌, ◌++◌, map, take}
use Rattle.codes.specs.Holdings.{stops}
use Rattle.codes.specs.Fitness.{pointed}
use Rattle.codes.proofs.making.extend.Given as goal

abbrev pub invariant-loop-b : goal.invariant-loop-b
invariant-loop-b l = stops l.course ≡ take 24 (stops l.initial.course ++ take l.b-index (map (pointed l.parameter) l.locators))
