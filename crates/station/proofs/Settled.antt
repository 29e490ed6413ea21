-- A station that is set up.
use Rattle.std.proofs.Common.{◌≡◌, ℕ, true, true≢false, List, Some, None, Option, subst, sym, refl, inl, inr, MatchOption, IfSome}
use Rattle.fields.specs.Meaning.{Meaning}
use Rattle.sheets.specs.Sheets.{Text, Spells}
use Rattle.sheets.proofs.Certainty.{unambiguous}
use Rattle.codes.specs.declared.shape.Code.{Code}
use Rattle.codes.specs.Fitness.{Unfit, Made}
use Rattle.recovery.specs.declared.prepared.Prepared.{Prepared}
use Rattle.recovery.specs.Preparation.{Prepares}
use Rattle.station.specs.declared.state.State.{State}
use Rattle.station.specs.declared.state.State.TheVariants.{Bare, Ready, Held, Solved}
use Rattle.station.specs.Calls.{set_up, opens}
use Rattle.station.specs.Tables.{Silent}
use Rattle.station.specs.Refusals.{no_sheet}
use Rattle.station.specs.Standings.{stage_of, SoundPlan}

-- Only a bare station is set up.
pub bare_opens : (s : State) (bytes : List ℕ) → opens (stage_of s) (set_up bytes) ≡ true → s ≡ Bare
bare_opens Bare bytes opened = refl
bare_opens (Ready p) bytes opened = absurd (true≢false (sym opened))
bare_opens (Held p w h) bytes opened = absurd (true≢false (sym opened))
bare_opens (Solved p r i j) bytes opened = absurd (true≢false (sym opened))

-- A sheet whose code was made is not refused.
pub no_refusal : {m : Meaning} (bytes : List ℕ) (t : Text) (c : Code) → Spells m.number bytes t → Made m t c → Silent (no_sheet m bytes)
no_refusal {m} bytes t c spells made e (inl refused) = unambiguous.not_both m.number bytes t e spells refused
no_refusal {m} bytes t c spells made e (inr unfit) = made.fit e (subst (λ u. Unfit m u e) (unambiguous.one_sheet m.number bytes unfit.0 t unfit.1 spells) unfit.2)

-- What was prepared is the code's own.
prepared_own : (m : Meaning) (c : Code) (p : Option Prepared) → MatchOption p ⊥ (Prepares m c) → IfSome p (Prepares m c)
prepared_own m c None h = absurd h
prepared_own m c (Some p) h = h

-- A made code with what was prepared is sound.
pub sound_plan : {m : Meaning} (t : Text) (c : Code) (p : Option Prepared) {bytes : List ℕ} → Spells m.number bytes t → Made m t c → MatchOption p ⊥ (Prepares m c) → SoundPlan m (record { code = c; prepared = p })
sound_plan {m} t c p spells made own = record {
  lawful = made.lawful;
  sheet = (t, record { whole = spells.whole; dimension = made.dimension; lengths = made.lengths; points = made.points });
  prepared = prepared_own m c p own;
}
