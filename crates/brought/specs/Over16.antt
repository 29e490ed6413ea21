-- Kind 200: GF(256) with the 16th power for its twist. The fixed elements are a GF(16), and the basis is 1 and 2. Digit j is the
-- trace of a times c_j, where c_1 and c_2 are 139 and 69: the trace of c_i b_j is 1 for i = j and else 0.
use Rattle.std.specs.Prelude.{[], ◌∷◌}
use Rattle.fields.specs.Meaning.{Meaning}
use Rattle.fields.specs.Residues.{traces, residues}
use Rattle.fields.specs.Shipped.{modulus256}

abbrev pub over16 : Meaning
over16 = residues modulus256 200 16 16 (1 ∷ 2 ∷ []) (traces modulus256 16 (139 ∷ 69 ∷ []))
