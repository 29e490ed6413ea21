-- What the search for conjugate parameters finds.
use Rattle.std.proofs.Common.{ℕ, ◌<◌, ◌≤◌, Bool, true, false, List, length, get_or, take, sym, subst, arith}
use Rattle.std.proofs.lemmas.List.{length-take, get_or-take}
use Rattle.std.specs.Bool.{MatchBool}
use Rattle.std.specs.List.{HoldsAt, AllWithin}
use Rattle.ranks.specs.Ranks.{Tells}
use Rattle.fields.specs.Meaning.{Meaning}
use Rattle.fields.specs.Elements.{elem, ops}
use Rattle.skew.specs.Roots.{Conjugate}
use Rattle.codes.specs.Fitness.{Related}

-- Whether parameter j is conjugate to an earlier one, by what a search through the earlier ones tells.
pub related_told : (m : Meaning) (ps : List ℕ) (j : ℕ) (r : Bool) → j ≤ length ps
    → MatchBool r ((k : ℕ) × (k < length (take j ps)) × HoldsAt (λ a. Conjugate (ops m) (elem m a) (elem m (get_or ps j 0))) (take j ps) k)
    (AllWithin (λ a. ¬ Conjugate (ops m) (elem m a) (elem m (get_or ps j 0))) (take j ps) 0 (length (take j ps)))
    → Tells r (Related m ps j)
related_told m ps j true h e =
    let k : e.0 < j = omega (arith, e.1, length-take j ps) in
    (e.0, k, subst (λ a. Conjugate (ops m) (elem m a) (elem m (get_or ps j 0))) (get_or-take j ps e.0 0 k) (e.2 0))
related_told m ps j false h e =
    λ r. e r.0 0 (omega arith) (omega (arith, r.1, length-take j ps)) (subst (λ a. Conjugate (ops m) (elem m a) (elem m (get_or ps j 0))) (sym (get_or-take j ps r.0 0 r.1)) r.2)
