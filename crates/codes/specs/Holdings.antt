-- Lists of fixed capacity.
--
--   held s     the symbols that s holds
--   stops c    the points that c holds
use Rattle.std.specs.Prelude.{ℕ, List}
use Rattle.skew.specs.declared.points.Point.{Point}
use Rattle.skew.specs.declared.few.Few.{Few}
use Rattle.skew.specs.Few as few

abbrev pub held : Few ℕ 24 → List ℕ
held s = few.held s

abbrev pub stops : Few Point 24 → List Point
stops c = few.held c
