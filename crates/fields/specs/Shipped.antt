-- The four kinds that ship.
use Rattle.std.specs.Prelude.{◌+◌, ◌-◌, ◌*◌, ◌%◌, ◌^◌, [], ◌∷◌}
use Rattle.fields.specs.Meaning.{Meaning}
use Rattle.fields.specs.Residues.{Modulus, coefficients, traces, residues}

-- Kind 1: bit polynomials modulo z^8 + z^4 + z^3 + z^2 + 1; bit 0 of a code is the constant. Twist is the fourth power, and
-- the fixed elements are 0, 1, 214 and 215. Digit j is the trace of a times c_j, where c_1 to c_4 are 3, 140, 69 and 200: the
-- trace of c_i b_j is 1 for i = j and else 0.
abbrev pub modulus256 : Modulus
modulus256 = record { base = 2; low = 1 ∷ 0 ∷ 1 ∷ 1 ∷ 1 ∷ 0 ∷ 0 ∷ 0 ∷ [] }

abbrev pub gf256 : Meaning
gf256 = residues modulus256 1 4 64 (1 ∷ 2 ∷ 4 ∷ 8 ∷ []) (traces modulus256 4 (3 ∷ 140 ∷ 69 ∷ 200 ∷ []))

-- Kind 2: bit polynomials modulo z^4 + z + 1. Twist is the fourth power, and the fixed elements are 0, 1, 6 and 7.
abbrev pub modulus16 : Modulus
modulus16 = record { base = 2; low = 1 ∷ 1 ∷ 0 ∷ 0 ∷ [] }

abbrev pub gf16 : Meaning
gf16 = residues modulus16 2 4 4 (1 ∷ 2 ∷ []) (traces modulus16 4 (3 ∷ 1 ∷ []))

-- Kind 3: polynomials over the integers modulo 3, modulo z^4 + z + 2. Twist is the cube, the fixed elements are 0, 1 and 2,
-- and the digits are the coefficients.
abbrev pub modulus81 : Modulus
modulus81 = record { base = 3; low = 2 ∷ 1 ∷ 0 ∷ 0 ∷ [] }

abbrev pub gf81 : Meaning
gf81 = residues modulus81 3 3 27 (1 ∷ 3 ∷ 9 ∷ 27 ∷ []) (coefficients 3 4)

-- Kind 4: the integers modulo 13. The inverse of a is its eleventh power, since its twelfth is 1. Twist leaves every element.
abbrev pub mod13 : Meaning
mod13 = record {
  number = 4;
  size = 13;
  sum = λ a b. (a + b) % 13;
  opposite = λ a. (13 - a) % 13;
  product = λ a b. (a * b) % 13;
  inverse = λ a. (a ^ 11) % 13;
  twist = λ a. a;
  untwist = λ a. a;
  width = 1;
  basis = 1 ∷ [];
  digits = λ a. a ∷ [];
}
