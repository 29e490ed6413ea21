-- The additive map of bit polynomials with given images of 1, 2, 4, ..: the exclusive or of the images that the bits choose.
use Rattle.std.specs.Prelude.{ℕ, ◌/◌, ◌%◌, cond, List, [], ◌∷◌, ◌==◌, bit_xor}

abbrev pub spread : List ℕ → ℕ → ℕ
spread [] a = 0
spread (x ∷ xs) a = bit_xor (cond (a % 2 == 1) x 0) (spread xs (a / 2))
