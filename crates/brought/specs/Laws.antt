-- The laws of the brought kind, from what `fields` has proved of residues.
use Rattle.std.specs.Prelude.{[], ◌∷◌, refl}
use Rattle.std.proofs.Common.{lit<, lit≤}
use Rattle.fields.specs.Meaning.{Laws}
use Rattle.fields.specs.Residues.{sum, product, power, trace}
use Rattle.fields.specs.Shipped.{modulus256}
use Rattle.fields.specs.Rings.{ring256}
use Rattle.fields.specs.DigitTests.{DigitLaws}
use Rattle.fields.specs.ResidueKinds.{Additive, power_whole, residue_laws, powers_additive}
use Rattle.fields.specs.TraceDigits.{trace_digits}
use Rattle.fields.specs.ShippedLaws.{order256, fourths256, traces_length}
use Rattle.brought.specs.Over16.{over16}

-- The 16th power keeps sums, since the fourth does.
sixteenths : Additive modulus256 ring256 order256 (lit≤ tt) 16
sixteenths = powers_additive modulus256 ring256 order256 (lit≤ tt) 4 4 fourths256 fourths256

digits : DigitLaws over16
unfolding power product sum trace
digits =
    trace_digits modulus256 ring256 order256 (lit≤ tt) 16 sixteenths _ _ (lit< tt, (lit< tt, tt)) (lit< tt, (lit< tt, tt)) 1 refl refl refl refl refl 200 16

pub over16_laws : Laws over16
over16_laws =
    residue_laws modulus256 ring256 order256 200 16 16 _ _ (lit≤ tt) (lit< tt) (lit≤ tt) (lit≤ tt) sixteenths (power_whole modulus256 ring256 order256)
    (lit< tt, (lit< tt, tt)) (traces_length modulus256 16 (139 ∷ 69 ∷ [])) digits
