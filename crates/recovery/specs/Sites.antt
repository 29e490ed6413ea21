-- Lists of sites.
--
--   sites_in s     the sites that s holds
use Rattle.std.specs.Prelude.{List}
use Rattle.skew.specs.declared.few.Few.{Few}
use Rattle.skew.specs.declared.points.Site.{Site}
use Rattle.skew.specs.Few.{held}

abbrev pub sites_in : Few Site 24 → List Site
sites_in s = held s
