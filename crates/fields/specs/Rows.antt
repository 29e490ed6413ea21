-- Sums, scalings and combinations of rows of elements.
use Rattle.std.specs.Prelude.{◌≡◌, suc, max, List, [], ◌∷◌, map, length}
use Rattle.std.proofs.Common.{sym, ◌∙◌, ap, arith}
use Rattle.std.specs.List.{AllByRecursion}
use Rattle.fields.specs.Lists.{all_map}
use Rattle.fields.specs.Field.{Ops, Laws, Fixed, plus, comb}
use Rattle.fields.specs.Basics
use Rattle.fields.specs.Twists
use Rattle.fields.specs.Basics.{ring}

module _ {F : Type 0} {o : Ops F} (l : Laws o) where
  open o use {zero, add as ◌+◌, mul as ◌*◌}

  infixl 65 ◌+◌
  infixl 70 ◌*◌
  pub length_plus : (f g : List F) → length (plus o f g) ≡ max (length f) (length g)
  length_plus [] g = omega arith
  length_plus (x ∷ f) [] = omega arith
  length_plus (x ∷ f) (y ∷ g) = ap suc (length_plus f g) ∙ omega arith

  pub comb_plus : (cs ds es : List F) → comb o (plus o cs ds) es ≡ comb o cs es + comb o ds es
  comb_plus [] ds es = sym (Basics.zero_add l _)
  comb_plus (c ∷ cs) [] es = sym (Basics.add_zero l _)
  comb_plus (c ∷ cs) (d ∷ ds) [] = sym (Basics.add_zero l _)
  comb_plus (c ∷ cs) (d ∷ ds) (e ∷ es) = ap (λ w. (c + d) * e + w) (comb_plus cs ds es) ∙ simp (ring, l)

  pub comb_scale : (d : F) (cs es : List F) → comb o (map (o.mul d) cs) es ≡ d * comb o cs es
  comb_scale d [] es = sym (Basics.mul_zero l d)
  comb_scale d (c ∷ cs) [] = sym (Basics.mul_zero l d)
  comb_scale d (c ∷ cs) (e ∷ es) = ap (λ w. d * c * e + w) (comb_scale d cs es) ∙ simp (ring, l)

  -- Sums of rows of fixed elements, and their products with a fixed element, are rows of fixed elements.
  pub fixed_plus : (cs ds : List F) → AllByRecursion (Fixed o) cs → AllByRecursion (Fixed o) ds → AllByRecursion (Fixed o) (plus o cs ds)
  fixed_plus [] ds h k = k
  fixed_plus (c ∷ cs) [] h k = h
  fixed_plus (c ∷ cs) (d ∷ ds) h k = (Twists.fixed_add l c d h.0 k.0, fixed_plus cs ds h.1 k.1)

  pub fixed_scaled : (d : F) (cs : List F) → Fixed o d → AllByRecursion (Fixed o) cs → AllByRecursion (Fixed o) (map (o.mul d) cs)
  fixed_scaled d cs p h = all_map (Fixed o) (Fixed o) (o.mul d) (λ c q. Twists.fixed_mul l d c p q) cs h
