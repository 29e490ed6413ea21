-- In a field where 1 + 1 is 0 squares keep sums, and where 1 + 1 + 1 is 0 cubes do.
use Rattle.std.specs.Prelude.{◌≡◌}
use Rattle.std.proofs.Common.{◌∙◌, ap}
use Rattle.fields.specs.Field.{Ops, Laws}
use Rattle.fields.specs.Basics.{ring}

module _ {F : Type 0} {o : Ops F} (l : Laws o) where
  open o use {zero, one, add as ◌+◌, mul as ◌*◌}

  infixl 65 ◌+◌
  infixl 70 ◌*◌
  -- What is multiplied by a multiple of one that is zero falls away.
  falls_away : (x y n : F) → n ≡ zero → x + y * n ≡ x
  falls_away x y n e = ap (λ w. x + y * w) e ∙ simp (ring, l)

  pub square_add : one + one ≡ zero → (x y : F) → (x + y) * (x + y) ≡ x * x + y * y
  square_add e x y = expanded ∙ falls_away (x * x + y * y) (x * y) (one + one) e
    where
      expanded : (x + y) * (x + y) ≡ x * x + y * y + x * y * (one + one)
      expanded = simp (ring, l)

  pub cube_add : one + (one + one) ≡ zero → (x y : F) → (x + y) * ((x + y) * (x + y)) ≡ x * (x * x) + y * (y * y)
  cube_add e x y = expanded ∙ falls_away (x * (x * x) + y * (y * y)) (x * (x * y) + x * (y * y)) (one + (one + one)) e
    where
      expanded : (x + y) * ((x + y) * (x + y)) ≡ x * (x * x) + y * (y * y) + (x * (x * y) + x * (y * y)) * (one + (one + one))
      expanded = simp (ring, l)
