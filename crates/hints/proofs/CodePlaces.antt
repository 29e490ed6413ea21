-- The places of a code.
--
--   total (held c.lengths)    how many its lengths say
use Rattle.std.proofs.Common.{◌≡◌, length, sym}
use Rattle.ranks.specs.Ranks.{total}
use Rattle.codes.specs.declared.shape.Code.{Code}
use Rattle.codes.specs.Holdings.{stops, held as held_in}

-- A code has as many points as its lengths say.
pub places_in : (c : Code) → length (stops c.course) ≡ total (held_in c.lengths)
places_in c = sym c.sum
