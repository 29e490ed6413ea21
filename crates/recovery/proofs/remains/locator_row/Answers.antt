use Rattle.std.proofs.Common.{◌≡◌, ℕ, suc, List, [], ◌∷◌, get_or, sym, refl, ap, ◌∙◌, arith, rules}
use Rattle.std.proofs.lemmas.List.{length-map}
use Rattle.fields.specs.Elements.{elems}
use Rattle.skew.specs.declared.points.Point.{Point}
use Rattle.hints.proofs.Padding.{padded_numbers}
use Rattle.hints.proofs.Rowwise.{padded_cells}
use Rattle.recovery.specs.Steps.{no_point, locators_of}
use Rattle.recovery.proofs.remains.locator_row.Goals as goal

-- The locator at a place; 0 past the end.
locator_at : (ps : List Point) (i : ℕ) → get_or (locators_of ps) i 0 ≡ (get_or ps i no_point).locator
locator_at [] i = refl
locator_at (p ∷ ps) ℕ.zero = refl
locator_at (p ∷ ps) (suc i) = locator_at ps i

pub returns : goal.returns
returns c = λ m.
    ap (elems m) (padded_cells (locators_of c.args.points.now) c.from_fn.result.cells (omega (arith, c.requires, length-map c.args.points.now (λ p. p.locator))) c.from_fn.ensures.0
    (λ i lt. let h = c.from_fn.ensures.1 i lt in let e : get_or c.from_fn.result.cells i 0 ≡ (get_or c.args.points.now i no_point).locator = search rules in e ∙ sym (locator_at c.args.points.now i)))
    ∙ padded_numbers m (locators_of c.args.points.now)
