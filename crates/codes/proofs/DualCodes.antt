-- The dual code is orthogonal to the code, and has the code as its dual.
--
--   crossed, uncrossed    the dual's codewords have the sum zero with the code's, and no other word has
--   duality               all that holds of duals and syndromes
use Rattle.std.proofs.Common.{◌≡◌, ℕ, ◌+◌ as ◌+ℕ◌, ◌≢◌, ◌↔◌, List, map, length, sym, refl, ap, ◌∙◌, subst, arith}
use Rattle.fields.specs.Field.{Ops, Laws, mirror, comb}
use Rattle.fields.specs.Inverses
use Rattle.skew.specs.Roots.{Block, points, Lawful}
use Rattle.skew.specs.Interpolation.{values}
use Rattle.skew.proofs.Sharpness
use Rattle.skew.proofs.Sharpness.{Sharp}
use Rattle.codes.specs.Duals.{Codeword, powers, DualLocators, dual_points, dual_blocks, Orthogonal, DualOfDual, Duality}
use Rattle.codes.proofs.Combs
use Rattle.codes.proofs.Interpolants
use Rattle.codes.proofs.Locators
use Rattle.codes.proofs.Mirrors
use Rattle.codes.proofs.DualLawfulness
use Rattle.codes.proofs.ScaledLocators
use Rattle.codes.proofs.ScaledLocators.{first, normalised}

module _ {F : Type 0} {o : Ops F} (l : Laws o) where
  open o use {zero, mul as ◌*◌, inv}

  infixl 70 ◌*◌
  -- A lawful code with its dual.
  module _ (blocks : List (Block F)) (alpha : List F) (h : Lawful o blocks) (d : DualLocators o (points blocks) alpha) where
    -- The points of the code.
    abbrev pts : List (F × F)
    pts = points blocks

    -- They are sharp.
    sharp : Sharp o pts
    sharp = Sharpness.sharp_lawful l blocks h

    -- And so are the dual points, over the mirror.
    dual_sharp : Sharp (mirror o) (dual_points o pts alpha)
    dual_sharp = subst (Sharp (mirror o)) (DualLawfulness.dual_lawful l blocks alpha h d).0 (Sharpness.sharp_lawful (Mirrors.mirror_laws l) (dual_blocks o blocks alpha) (DualLawfulness.dual_lawful l blocks alpha h d).1)

    -- By this the locators are multiplied in the dual of the dual.
    factor_nonzero : inv (first l pts) ≢ zero
    factor_nonzero = Inverses.inv_nonzero l (first l pts) (ScaledLocators.first_nonzero l pts sharp (Locators.some_place l pts alpha d))

    -- The points of the dual of the dual, for any dual locators of the dual.
    back_points : (beta : List F) → DualLocators (mirror o) (dual_points o pts alpha) beta → dual_points (mirror o) (dual_points o pts alpha) beta ≡ map (λ t. (t.0, t.1 * inv (first l pts))) pts
    back_points beta e =
        ap (dual_points (mirror o) (dual_points o pts alpha)) (Locators.dual_unique (Mirrors.mirror_laws l) (dual_points o pts alpha) beta (normalised l pts) dual_sharp e (ScaledLocators.back_locators l pts alpha sharp d))
        ∙ ScaledLocators.duals_duals l (inv (first l pts)) pts alpha d.size

    -- The dual's codewords have the sum zero with the code's.
    crossed : (k j : ℕ) (c w : List F) → j +ℕ k ≡ length pts → Codeword (mirror o) (dual_points o pts alpha) j c → Codeword o pts k w → comb o w c ≡ zero
    crossed k j c w e r s =
        ap (comb o w) (sym r.2) ∙ Combs.comb_values (Mirrors.mirror_laws l) w r.0 (dual_points o pts alpha)
        ∙ Combs.series_zero (Mirrors.mirror_laws l) (λ i. comb o w (powers (mirror o) i (dual_points o pts alpha))) r.0
        (λ i m. Mirrors.syndrome_zero l pts alpha w k i d (omega (arith, r.1)) s)

    -- A word that has the sum zero with each codeword is a codeword of the dual: those sums are its syndromes there.
    uncrossed : (k j : ℕ) (c : List F) → j +ℕ k ≡ length pts → length c ≡ length pts → ((w : List F) → Codeword o pts k w → comb o w c ≡ zero) → Codeword (mirror o) (dual_points o pts alpha) j c
    uncrossed k j c e lc q =
        let ld = Mirrors.length_duals l pts alpha d.size in
        (Mirrors.points_tell (Mirrors.mirror_laws l) (dual_points o pts alpha) (normalised l pts) j c dual_sharp (ScaledLocators.back_locators l pts alpha sharp d) (omega arith) (lc ∙ sym ld)).0
        (λ i m. ap (λ ws. comb o c (powers o i ws)) (back_points (normalised l pts) (ScaledLocators.back_locators l pts alpha sharp d)) ∙ ap (comb o c) (sym (Interpolants.values_monomial l i qts))
        ∙ Combs.comb_comm l c (values o (Interpolants.monomial l i) qts)
        ∙ q (values o (Interpolants.monomial l i) qts)
        ((ScaledLocators.scaling_keeps l (inv (first l pts)) pts k (values o (Interpolants.monomial l i) qts) factor_nonzero).0
        (Interpolants.padded l qts (Interpolants.monomial l i) (values o (Interpolants.monomial l i) qts) k (omega (arith, Interpolants.length_monomial l i, ld)) refl)))
      where
        qts : List (F × F)
        qts = map (λ t. (t.0, t.1 * inv (first l pts))) pts

  -- The dual's codewords are the words whose sum of products with each codeword is zero.
  pub orthogonal : Orthogonal o
  orthogonal blocks alpha k j c h d e lc =
      let lp = Sharpness.length_points l blocks in
      subst (λ ps. Codeword (mirror o) ps j c ↔ ((w : List F) → Codeword o (points blocks) k w → comb o w c ≡ zero)) (sym (DualLawfulness.dual_lawful l blocks alpha h d).0)
      ((λ r w s. crossed blocks alpha h d k j c w (e ∙ sym lp) r s), (λ q. uncrossed blocks alpha h d k j c (e ∙ sym lp) (lc ∙ sym lp) q))

  -- The dual of the dual code has the codewords of the first.
  pub dual_of_dual : DualOfDual o
  dual_of_dual blocks alpha beta h d e k w =
      let there = (DualLawfulness.dual_lawful l blocks alpha h d).0 in
      let e2 : DualLocators (mirror o) (dual_points o (points blocks) alpha) beta = subst (λ ps. DualLocators (mirror o) ps beta) there e in
      let moved : points (dual_blocks (mirror o) (dual_blocks o blocks alpha) beta) ≡ map (λ t. (t.0, t.1 * inv (first l (points blocks)))) (points blocks) =
      Mirrors.points_dual (Mirrors.mirror_laws l) (dual_blocks o blocks alpha) beta (e.size ∙ Sharpness.length_points (Mirrors.mirror_laws l) (dual_blocks o blocks alpha))
      ∙ ap (λ ps. dual_points (mirror o) ps beta) there ∙ back_points blocks alpha h d beta e2 in
      subst (λ ps. Codeword o ps k w ↔ Codeword o (points blocks) k w) (sym moved) (ScaledLocators.scaling_keeps l (inv (first l (points blocks))) (points blocks) k w (factor_nonzero blocks alpha h d))

  -- All that holds of duals and syndromes.
  pub duality : Duality o
  duality = record {
    there = Locators.duals_there l;
    alone = Locators.duals_alone l;
    lawful = DualLawfulness.dual_lawful l;
    orthogonal = orthogonal;
    back = dual_of_dual;
    tell = Mirrors.syndromes_tell l;
  }
