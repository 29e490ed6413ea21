-- The dual code is lawful over the mirror: its blocks have independent locators, and no two of its parameters are conjugate there.
use Rattle.std.proofs.Common.{◌≡◌, List, [], ◌∷◌, length, drop, sym, ap, ◌∙◌, arith, length-drop}
use Rattle.std.specs.List.{AllByRecursion}
use Rattle.fields.specs.Field.{Ops, Laws, mirror}
use Rattle.fields.specs.Inverses
use Rattle.fields.specs.Twists
use Rattle.fields.specs.Basics.{ring}
use Rattle.skew.specs.Roots.{Block, block, locator_count, points, Conjugate, Apart, Lawful}
use Rattle.skew.proofs.Sharpness
use Rattle.codes.specs.Duals.{DualLocators, dual_blocks, DualLawful}
use Rattle.codes.proofs.Mirrors
use Rattle.codes.proofs.StrictLocators
use Rattle.codes.proofs.StrictLocators.{Strict}

module _ {F : Type 0} {o : Ops F} (l : Laws o) where
  open o use {mul as ◌*◌, inv, twist, untwist}

  infixl 70 ◌*◌
  -- Untwisted parameters that are conjugate in the mirror come from conjugate ones.
  mirror_conjugate : (a b : F) → Conjugate (mirror o) (untwist a) (untwist b) → Conjugate o a b
  mirror_conjugate a b h = (inv h.0, Inverses.inv_nonzero l h.0 h.1, proof)
    where
      regroup : (c u : F) → c * a * u ≡ u * a * c
      regroup c u = simp (ring, l)

      proof : b ≡ twist (inv h.0) * a * inv (inv h.0)
      proof =
          sym (l.twist_untwist b) ∙ ap twist h.2 ∙ Twists.twist_mul l (untwist h.0 * untwist a) (inv h.0)
          ∙ ap (λ w. w * twist (inv h.0)) (Twists.twist_mul l (untwist h.0) (untwist a) ∙ ap (λ w. w * twist (untwist a)) (l.twist_untwist h.0) ∙ ap (λ w. h.0 * w) (l.twist_untwist a))
          ∙ regroup h.0 (twist (inv h.0)) ∙ ap (λ w. twist (inv h.0) * a * w) (sym (Inverses.inv_inv l h.0 h.1))

  -- So no two are.
  dual_apart : (a : F) (blocks : List (Block F)) (alpha : List F) → AllByRecursion (Apart o a) blocks → AllByRecursion (Apart (mirror o) (untwist a)) (dual_blocks o blocks alpha)
  dual_apart a [] alpha h = tt
  dual_apart a (block b bs ∷ blocks) alpha h = ((λ c. h.0 (mirror_conjugate a b c)), dual_apart a blocks (drop (length bs) alpha) h.1)

  -- Block by block.
  strict_lawful : (blocks : List (Block F)) (alpha : List F) → Lawful o blocks → length alpha ≡ locator_count blocks → Strict l (points blocks) alpha → Lawful (mirror o) (dual_blocks o blocks alpha)
  strict_lawful [] alpha h len s = tt
  strict_lawful (block a bs ∷ blocks) alpha h len s = (
    Twists.twist_nonzero (Mirrors.mirror_laws l) a h.0,
    StrictLocators.strict_head l a bs (points blocks) alpha (omega arith) s,
    dual_apart a blocks (drop (length bs) alpha) h.2,
    strict_lawful blocks (drop (length bs) alpha) h.3 (omega (arith, length-drop (length bs) alpha)) (StrictLocators.strict_tail l a bs (points blocks) alpha s),
  )

  -- As many dual locators as places.
  places_size : (blocks : List (Block F)) (alpha : List F) → DualLocators o (points blocks) alpha → length alpha ≡ locator_count blocks
  places_size blocks alpha d = d.size ∙ Sharpness.length_points l blocks

  -- The dual code is lawful over the mirror.
  pub dual_lawful : DualLawful o
  dual_lawful blocks alpha h d = (
    Mirrors.points_dual l blocks alpha (places_size blocks alpha d),
    strict_lawful blocks alpha h (places_size blocks alpha d) (StrictLocators.strict l (points blocks) alpha (Sharpness.sharp_lawful l blocks h) d),
  )
