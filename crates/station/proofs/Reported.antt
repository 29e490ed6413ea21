-- What is reported of a code.
use Rattle.std.proofs.Common.{◌≡◌, ℕ, Bool, true, false, true≢false, List, Result, Ok, Err, length, sym, refl, ap, ◌∙◌, subst, inl, inr}
use Rattle.std.proofs.lemmas.List.{length-map}
use Rattle.fields.specs.Meaning.{Meaning}
use Rattle.fields.specs.Elements.{Elem, elem, elems}
use Rattle.skew.specs.Polynomials.{Codes}
use Rattle.codes.specs.declared.shape.Code.{Code}
use Rattle.codes.specs.Holdings.{held as numbers}
use Rattle.codes.specs.Codes.{LawfulCode, Message, Codeword, Read, Unread}
use Rattle.hints.specs.Splittings.{Given}
use Rattle.sheets.specs.declared.faults.Fault.{Fault}
use Rattle.sheets.specs.declared.faults.Reason.TheVariants.{NotOpen}
use Rattle.sheets.specs.Sheets.{Text}
use Rattle.codes.specs.Writing.{Described}
use Rattle.station.specs.declared.plan.Plan.{Plan}
use Rattle.station.specs.declared.state.State.{State}
use Rattle.station.specs.declared.state.State.TheVariants.{Bare, Ready, Held, Solved}
use Rattle.station.specs.Calls.{Command, Reply, opens}
use Rattle.station.specs.Tables.{Row, where_so, Silent, Refuses, Accepts}
use Rattle.station.specs.Positions.{Standing, ready, held, solved, Tallied, at, stage, size_of, OfCode}
use Rattle.station.specs.Refusals.{of_code, code_rows, later_rows}
use Rattle.station.specs.Rules.{Told, Acts, Answered}
use Rattle.station.specs.Standings.{stage_of, HasCode, standing_of, SoundPlan, Sound, CodeReports}

-- A word as long as the code that is not read is no codeword.
pub unread : {m : Meaning} (c : Code) (w : List ℕ) → LawfulCode m c → length w ≡ size_of c → Unread m c w → ¬ Codeword m c w
unread c w law size (inl other) = absurd (other size)
unread c w law size (inr none) = none law

-- What is read has k symbols.
pub length_read : {m : Meaning} (c : Code) (w f : List ℕ) → Read m c w f → length f ≡ c.dimension
length_read {m} c w f r = sym (length-map f (elem m)) ∙ (r.given).0

-- A message is one of its word however it is written down.
pub message_of : {m : Meaning} (c : Code) (w f : List ℕ) {ys : List ℕ} → ys ≡ f → Read m c w f → Codes m ys × Message m c w (elems m ys)
message_of {m} c w f e r = subst (λ ys. Codes m ys × Message m c w (elems m ys)) (sym e) (r.proper, r.given)

-- The row that comes first is silent where a call is open.
pub always : {b : Bool} → b ≡ true → Silent (where_so (b ≡ false) NotOpen 0)
always opened e row = absurd (true≢false (sym opened ∙ row.0))

-- What is told of the code c is told at u: its tables, and what a call says of it. And the code is lawful, and that of a sheet.
record Shows (m : Meaning) (u : Standing m) (c : Code) : Type 1 where
  pub refuses : (rows : Code → List Row) (e : Fault) → Refuses (rows c) e → Refuses (of_code m u rows) e
  pub accepts : (rows : Code → List Row) → Accepts (rows c) → Accepts (of_code m u rows)
  pub tells : (P : Code → Type 0) → P c → OfCode m u P
  pub lawful : LawfulCode m c
  pub sheet : (t : Text) × Described c t

-- A code is shown where it is the one that P is true of.
shown : {m : Meaning} (u : Standing m) (p : Plan) (c : Code) → c ≡ p.code → SoundPlan m p
    → ((rows : Code → List Row) → of_code m u rows ≡ rows p.code) → ((P : Code → Type 0) → P p.code → OfCode m u P) → Shows m u c
shown {m} u p c is sound rows_are told = record {
  refuses = λ rows e h. subst (λ rs. Refuses rs e) (sym (rows_are rows)) (subst (λ d. Refuses (rows d) e) is h);
  accepts = λ rows h. subst Accepts (sym (rows_are rows)) (subst (λ d. Accepts (rows d)) is h);
  tells = λ P h. told P (subst P is h);
  lawful = subst (LawfulCode m) (sym is) sound.lawful;
  sheet = subst (λ d. (t : Text) × Described d t) (sym is) sound.sheet;
}

-- So it is in each state that has a code.
shows : {m : Meaning} (s : State) (gs : List (Given (Elem m))) (c : Code) → HasCode s c → Sound m s gs → Shows m (standing_of m s gs) c
shows Bare gs c is sound = absurd is
shows (Ready p) gs c is sound = shown (ready p.code) p c is sound (λ rows. refl) (λ P h. h)
shows (Held p w h) gs c is sound = shown (held p.code (numbers w) gs) p c is sound.0 (λ rows. refl) (λ P h. h)
shows (Solved p r i j) gs c is sound = shown (solved p.code gs r) p c is sound.0 (λ rows. refl) (λ P h. h)

-- The state by the rules is the state.
stage_is : (m : Meaning) (s : State) (gs : List (Given (Elem m))) → stage m (standing_of m s gs) ≡ stage_of s
stage_is m Bare gs = refl
stage_is m (Ready p) gs = refl
stage_is m (Held p w h) gs = refl
stage_is m (Solved p r i j) gs = refl

-- What is told of the code of a sound station is told of the station, where its table and what the call says are those of a code.
pub reported : {m : Meaning} (command : Command) (s : State) (gs : List (Given (Elem m))) (t : Tallied) (c : Code) (a : Result Reply Fault)
    → ((u : Standing m) (e : Fault) → Refuses (of_code m u (code_rows m command)) e → Refuses (later_rows m command u t) e)
    → ((u : Standing m) → Accepts (of_code m u (code_rows m command)) → Accepts (later_rows m command u t))
    → ((u : Standing m) (r : Reply) → OfCode m u (λ code. Told m command code r) → Acts m command u t r (at m u t))
    → HasCode s c → opens (stage_of s) command ≡ true → Sound m s gs → CodeReports m c command a
    → Answered m (at m (standing_of m s gs) t) command a (at m (standing_of m s gs) t)
reported {m} command s gs t c (Ok r) refuses accepts acts is opened sound told =
    let there = shows s gs c is sound in
    let k = told there.lawful there.sheet in
    let u = standing_of m s gs in
    ((always (ap (λ i. opens i command) (stage_is m s gs) ∙ opened), accepts u (there.accepts (code_rows m command) k.0)), acts u r (there.tells (λ code. Told m command code r) k.1))
reported {m} command s gs t c (Err e) refuses accepts acts is opened sound told =
    let there = shows s gs c is sound in
    let u = standing_of m s gs in
    (inr (always (ap (λ i. opens i command) (stage_is m s gs) ∙ opened), refuses u e (there.refuses (code_rows m command) e (told there.lawful there.sheet))), refl)
