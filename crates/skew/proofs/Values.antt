-- The value of a skew polynomial as a sum, and by recursion: both are the same.
--
--   norm_step, term_step    the next norm, and the next term of the sum, by one step
--   eval_value              the recursion gives the sum
use Rattle.std.proofs.Common.{◌≡◌, ℕ, suc, List, [], ◌∷◌, sym, refl, ap, ◌∙◌}
use Rattle.fields.specs.Field.{Ops, Laws}
use Rattle.fields.specs.Twists
use Rattle.fields.specs.Basics
use Rattle.fields.specs.Basics.{ring}
use Rattle.fields.specs.Twists.{twists}
use Rattle.skew.specs.Values.{twisted, norm, series, value, step, eval}

module _ {F : Type 0} {o : Ops F} (l : Laws o) where
  open o use {zero, one, add as ◌+◌, mul as ◌*◌, twist}

  infixl 65 ◌+◌
  infixl 70 ◌*◌
  -- A norm grows at its other end too.
  norm_step : (i : ℕ) (a : F) → twist (norm o i a) * a ≡ norm o (suc i) a
  norm_step ℕ.zero a = simp (ring, twists, l)
  norm_step (suc i) a =
      ap (λ w. w * a) (Twists.twist_mul l (twisted o i a) (norm o i a)) ∙ Basics.mul_assoc l _ _ a
      ∙ ap (λ w. twist (twisted o i a) * w) (norm_step i a)

  -- One step takes the i-th term of the sum to the next.
  pub term_step : (a b : F) (i : ℕ) → step o a (twisted o i b * norm o i a) ≡ twisted o (suc i) b * norm o (suc i) a
  term_step a b i =
      ap (λ w. w * a) (Twists.twist_mul l (twisted o i b) (norm o i a)) ∙ Basics.mul_assoc l _ _ a ∙ ap (λ w. twist (twisted o i b) * w) (norm_step i a)

  -- The recursion sums a series each of whose terms is the step of the one before.
  eval_from : (a : F) (f : List F) (u : ℕ → F) → ((i : ℕ) → step o a (u i) ≡ u (suc i)) → eval o a f (u 0) ≡ series o u f
  eval_from a [] u h = refl
  eval_from a (c ∷ f) u h =
      ap (λ w. c * u 0 + eval o a f w) (h 0) ∙ ap (λ w. c * u 0 + w) (eval_from a f (λ i. u (suc i)) (λ i. h (suc i)))

  -- The recursion gives the sum of the definition.
  pub eval_value : (a : F) (f : List F) (b : F) → eval o a f b ≡ value o a f b
  eval_value a f b = ap (eval o a f) (sym (Basics.mul_one l b)) ∙ eval_from a f (λ i. twisted o i b * norm o i a) (term_step a b)
