-- The coefficients of a polynomial of degree below 4, the constant first.
use Rattle.std.specs.Prelude.{ℕ, List, [], ◌∷◌}
use Rattle.fields.specs.declared.trits.Trits.{Trits}

abbrev pub trits : Trits → List ℕ
trits t = t.c0 ∷ t.c1 ∷ t.c2 ∷ t.c3 ∷ []
