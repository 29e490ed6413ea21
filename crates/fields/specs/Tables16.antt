-- The powers of 2 in the field of 16 elements modulo z^4 + z + 1, and the exponents that give each code.
--
--   powers16   1, 2, 4, .., 2^15 = 1: entry i is the i-th power of 2
--   logs16     entry a is the exponent below 15 with which the power of 2 is a; entry 0 means nothing
use Rattle.std.specs.Prelude.{ℕ, List, [], ◌∷◌}

abbrev pub powers16 : List ℕ
powers16 = 1 ∷ 2 ∷ 4 ∷ 8 ∷ 3 ∷ 6 ∷ 12 ∷ 11 ∷ 5 ∷ 10 ∷ 7 ∷ 14 ∷ 15 ∷ 13 ∷ 9 ∷ 1 ∷ []

abbrev pub logs16 : List ℕ
logs16 = 0 ∷ 0 ∷ 1 ∷ 4 ∷ 2 ∷ 8 ∷ 5 ∷ 10 ∷ 3 ∷ 14 ∷ 9 ∷ 7 ∷ 6 ∷ 13 ∷ 11 ∷ 12 ∷ []
