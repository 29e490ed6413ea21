-- A sheet whose code was made is not unfit.
use Rattle.std.proofs.Common.{◌≡◌, ℕ, ◌<◌, List, [], ◌∷◌, ◌++◌, length, get_or, take, drop, refl, ap, ◌∙◌, subst, arith}
use Rattle.std.proofs.lemmas.List.{length-append, drop-drop}
use Rattle.fields.specs.Meaning.{Meaning}
use Rattle.fields.specs.Elements.{elems, ops}
use Rattle.skew.specs.declared.points.Point.{Point}
use Rattle.skew.specs.Roots.{Independent}
use Rattle.sheets.specs.declared.faults.Fault.{Fault}
use Rattle.ranks.specs.Ranks.{total, cut}
use Rattle.sheets.specs.Sheets.{Text}
use Rattle.codes.specs.Fitness.{Outside, AllNot, ApartUntil, Gathered, Unfit, no_parameter, no_locator, related, dependent}

-- The block behind some others.
pub block_behind : (front : List ℕ) (n : ℕ) (rest xs b : List ℕ) → get_or (cut (front ++ n ∷ rest) xs) (length front) b ≡ take n (drop (total front) xs)
block_behind [] n rest xs b = refl
block_behind (k ∷ front) n rest xs b = block_behind front n rest (drop k xs) b ∙ ap (take n) (drop-drop (total front) k xs)

-- What was judged right has none of the faults.
pub not_unfit : {m : Meaning} (t : Text) {points : List Point} → AllNot (Outside m 1) t.parameters → AllNot (Outside m 0) t.locators → ApartUntil m t.parameters (length t.parameters)
    → Gathered m t.blocks t.parameters t.locators points → (e : Fault) → ¬ Unfit m t e
not_unfit t a b apart g e (no_parameter i first) = a i first.within first.here
not_unfit t a b apart g e (no_locator i right first) = b i first.within first.here
not_unfit t a b apart g e (related j right codes h before here) = apart j h here
not_unfit {m} t a b apart g e (dependent judged breaks) =
    let within : length breaks.front < length t.blocks = omega (arith, ap length breaks.lengths_are, length-append breaks.front (breaks.size ∷ breaks.rest)) in
    breaks.here.whole
    (subst (λ w. Independent (ops m) (elems m w))
    (ap (λ ls. get_or (cut ls t.locators) (length breaks.front) []) breaks.lengths_are ∙ block_behind breaks.front breaks.size breaks.rest t.locators [])
    (g.free [] (length breaks.front) within))
