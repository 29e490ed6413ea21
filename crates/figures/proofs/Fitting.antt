-- The sheets A and B have no fault, so that nothing refuses them.
use Rattle.std.proofs.Common.{ℕ, suc, ◌<◌, ◌≢◌, List, [], ◌∷◌, get_or, refl, ap, arith}
use Rattle.fields.specs.Residues.{sum, product, power}
use Rattle.fields.specs.Elements.{Elem, element, elem, elems, ops}
use Rattle.fields.specs.Shipped.{gf16, mod13}
use Rattle.fields.specs.Mod13Laws.{mod13_laws}
use Rattle.fields.specs.ShippedLaws.{gf16_laws}
use Rattle.skew.specs.Roots.{Independent}
use Rattle.sheets.specs.declared.faults.Fault.{Fault}
use Rattle.ranks.specs.Ranks.{cut}
use Rattle.codes.specs.Fitness.{route, ApartUntil, Unfit}
use Rattle.codes.proofs.Rightness.{not_unfit}
use Rattle.figures.specs.Figures.{text_a}
use Rattle.figures.proofs.Small.{none_outside, apart_until, independent_two}
use Rattle.figures.proofs.Reaching.{independent_one}
use Rattle.figures.proofs.Unreached.{laws_13}
use Rattle.figures.proofs.Reached.{said_b}

-- In kind 2 the code 2 is not zero.
pub two : elem gf16 2 ≢ (ops gf16).zero
unfolding element ops
two e = omega (arith, ap (λ (x : Elem gf16). x.code) e)

-- The parameters 1 2 3 4 of A are apart.
apart_a : ApartUntil mod13 (1 ∷ 2 ∷ 3 ∷ 4 ∷ []) 4
unfolding element ops sum product power
apart_a = apart_until mod13_laws (1 ∷ 2 ∷ 3 ∷ 4 ∷ []) tt

-- So are the parameters 1 2 of B.
pub apart_b : ApartUntil gf16 (1 ∷ 2 ∷ []) 2
unfolding element ops sum product power
apart_b = apart_until gf16_laws (1 ∷ 2 ∷ []) tt

-- In A the locator 1 of each block is independent.
one_a : Independent (ops mod13) (elems mod13 (1 ∷ []))
unfolding ops
one_a = independent_one laws_13 (elem mod13 1) laws_13.one_zero

-- In B so are the locators 1 2.
both_b : Independent (ops gf16) (elems gf16 (1 ∷ 2 ∷ []))
unfolding element ops sum product power
both_b = independent_two gf16_laws 1 2 tt two

-- So it is in every block of A.
free_a : (d : List ℕ) (i : ℕ) → i < 4 → Independent (ops mod13) (elems mod13 (get_or (cut (1 ∷ 1 ∷ 1 ∷ 1 ∷ []) (1 ∷ 1 ∷ 1 ∷ 1 ∷ [])) i d))
free_a d ℕ.zero h = one_a
free_a d (suc ℕ.zero) h = one_a
free_a d (suc (suc ℕ.zero)) h = one_a
free_a d (suc (suc (suc ℕ.zero))) h = one_a
free_a d (suc (suc (suc (suc i)))) h = absurd (omega arith)

-- So it is in both blocks of B.
free_b : (d : List ℕ) (i : ℕ) → i < 2 → Independent (ops gf16) (elems gf16 (get_or (cut (2 ∷ 2 ∷ []) (1 ∷ 2 ∷ 1 ∷ 2 ∷ [])) i d))
free_b d ℕ.zero h = both_b
free_b d (suc ℕ.zero) h = both_b
free_b d (suc (suc i)) h = absurd (omega arith)

-- A has none of the faults.
pub a_fit : (e : Fault) → ¬ Unfit mod13 text_a e
a_fit =
    not_unfit text_a {points = route text_a.blocks text_a.parameters text_a.locators} (none_outside mod13 1 (1 ∷ 2 ∷ 3 ∷ 4 ∷ []) tt) (none_outside mod13 0 (1 ∷ 1 ∷ 1 ∷ 1 ∷ []) tt) apart_a
    (record { all = refl; free = free_a })

-- Nor has B.
pub b_fit : (e : Fault) → ¬ Unfit gf16 said_b e
b_fit =
    not_unfit said_b {points = route said_b.blocks said_b.parameters said_b.locators} (none_outside gf16 1 (1 ∷ 2 ∷ []) tt) (none_outside gf16 0 (1 ∷ 2 ∷ 1 ∷ 2 ∷ []) tt) apart_b
    (record { all = refl; free = free_b })
