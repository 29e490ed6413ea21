-- What decode answers for a word that is held with a tally that is not full, and what is handed out from then on.
--
--   Gives m c w gs t q    what was recovered, that it was, and that decode leads there
use Rattle.std.proofs.Common.{◌≡◌, ℕ, ◌+◌, ◌≢◌, ◌↔◌, true, false, List, map, Result, Ok, Err, IsOk, inl, inr, refl, ap, ◌∙◌, subst, arith}
use Rattle.std.proofs.lemmas.List.{length-map}
use Rattle.fields.specs.Field.{plus}
use Rattle.fields.specs.Meaning.{Meaning, Laws}
use Rattle.fields.specs.Elements.{Elem, elem, elems, ops}
use Rattle.sheets.specs.declared.faults.Fault.{Fault}
use Rattle.codes.specs.declared.shape.Code.{Code}
use Rattle.codes.specs.Holdings.{held as numbers}
use Rattle.hints.specs.Splittings.{Given, row_count, column_count}
use Rattle.recovery.specs.declared.outcome.Recovery.{Recovery}
use Rattle.recovery.specs.Reach.{InReach}
use Rattle.recovery.proofs.Unhinted.{difference_is}
use Rattle.recovery.proofs.Uniqueness.{one_in_reach}
use Rattle.station.specs.Calls.{
  Command,
  set_up,
  load,
  row,
  column,
  decode,
  clear,
  tally,
  read,
  Reply,
  done,
  wrote,
  weighs,
  counted,
  handed,
}
use Rattle.station.specs.Tables.{Refuses, Accepts}
use Rattle.station.specs.Positions.{held, solved, Tallied, Position, at}
use Rattle.station.specs.Refusals.{rows_of}
use Rattle.station.specs.Rules.{Solves, Acts, Answered}
use Rattle.station.specs.Histories.{History, no_call, call}
use Rattle.station.specs.Promises.{Uncleared, HandsOut, Waits, Outcome}
use Rattle.station.proofs.Keeping.{silent, waits_kept}

module _ {m : Meaning} where
  abbrev pub Gives : Code → List ℕ → List (Given (Elem m)) → Tallied → Position m → Type 0
  Gives c w gs t q = (r : Recovery) × Solves m c gs w r × (q ≡ at m (solved c gs r) (record { words = t.words + 1; errors = t.errors + r.errors }))

  -- A decode that is not refused recovers.
  pub gives : (c : Code) (w : List ℕ) (gs : List (Given (Elem m))) (t : Tallied) (r : Reply) (q : Position m) → Acts m decode (held c w gs) t r q → Gives c w gs t q
  gives c w gs t done q h = h
  gives c w gs t (wrote x) q h = absurd h.0
  gives c w gs t (weighs n) q h = absurd h.0
  gives c w gs t (counted x y) q h = absurd h.0
  gives c w gs t (handed x f a b) q h = absurd h.0

  module _ {c : Code} {w : List ℕ} {gs : List (Given (Elem m))} {t : Tallied} (wait : Waits m c w gs t) where
    -- Where one is refused, no codeword is in reach: decode is open, and the tally is not full.
    none_reached : (e : Fault) → Refuses (rows_of m (at m (held c w gs) t) decode) e → (v : List (Elem m)) → ¬ InReach m c gs (elems m w) v
    none_reached e (inl h) = let shut : true ≡ false = h.0 in absurd (cc)
    none_reached e (inr (a, inl h)) = absurd (omega (arith, h.0, wait.room))
    none_reached e (inr (a, inr (b, inl h))) = h.0
    none_reached e (inr (a, inr (b, inr h))) = absurd h.1

    -- So decode gives a codeword exactly when one is in reach.
    pub exact : (a : Result Reply Fault) (q : Position m) → Answered m (at m (held c w gs) t) decode a q → IsOk a ↔ ((v : List (Elem m)) × InReach m c gs (elems m w) v)
    exact (Ok r) q h = let g = gives c w gs t r q h.1 in ((λ _. (elems m (numbers g.0.codeword), g.1.reach)), (λ _. refl))
    exact (Err e) q h = ((λ ok. let never : false ≡ true = ok in absurd (cc)), (λ v. absurd (none_reached e h.0 v.0 v.1)))

  module _ (c : Code) (gs : List (Given (Elem m))) (r : Recovery) where
    -- From a station that is solved, a call other than clear leaves what was recovered.
    acts_stay : (command : Command) (t : Tallied) (a : Reply) (q : Position m) → Accepts (rows_of m (at m (solved c gs r) t) command) → Acts m command (solved c gs r) t a q → command ≢ clear
        → q.standing ≡ solved c gs r
    acts_stay (set_up x) t a q n h k = absurd (silent n.0 refl)
    acts_stay (load x) t a q n h k = absurd (silent n.0 refl)
    acts_stay (row b x) t a q n h k = absurd (silent n.0 refl)
    acts_stay (column b x) t a q n h k = absurd (silent n.0 refl)
    acts_stay decode t a q n h k = absurd (silent n.0 refl)
    acts_stay clear t a q n h k = absurd (k refl)
    acts_stay (read i room) t (handed xs x y z) q n h k = ap (λ (p : Position m). p.standing) h.4
    acts_stay tally t (counted x y) q n h k = ap (λ (p : Position m). p.standing) h.2
    acts_stay command t a q n h k = ap (λ (p : Position m). p.standing) h.1

    -- So does one that is refused.
    answer_stays : (p q : Position m) (command : Command) (a : Result Reply Fault) → p.standing ≡ solved c gs r → Answered m p command a q → command ≢ clear → q.standing ≡ solved c gs r
    answer_stays p q command (Ok a) e h k =
        let there = subst (λ s. Accepts (rows_of m (at m s p.tally) command) × Acts m command s p.tally a q) e h in acts_stay command p.tally a q there.0 there.1 k
    answer_stays p q command (Err f) e h k = ap (λ (p : Position m). p.standing) h.1 ∙ e

    -- And so do all calls until the next clear.
    stays : {p q : Position m} {cs : List Command} {rs : List (Result Reply Fault)} → History m p cs rs q → Uncleared m cs → p.standing ≡ solved c gs r → q.standing ≡ solved c gs r
    stays no_call k e = e
    stays (call {p = p} {q = q} {c = command} {a = a} h rest) k e = stays rest k.1 (answer_stays p q command a e h k.0)

    -- What is read there is handed out.
    handed_out : (q : Position m) → q.standing ≡ solved c gs r → HandsOut m gs r q
    handed_out q e cs rs p calls k i room xs f a b p' h =
        let there = subst (λ s. Acts m (read i room) s p.tally (handed xs f a b) p') (stays calls k e) h.1 in (there.0, there.1, there.2, there.3)

module _ {m : Meaning} (l : Laws m) where
  -- No two codewords are in reach of a word that is held.
  pub alone : {c : Code} {w : List ℕ} {gs : List (Given (Elem m))} {t : Tallied} → Waits m c w gs t → (u v : List (Elem m)) → InReach m c gs (elems m w) u → InReach m c gs (elems m w) v → u ≡ v
  alone {c} {w} {gs} wait = let k = waits_kept l wait in one_in_reach l c gs (elems m w) k.lawful (length-map w (elem m) ∙ k.long) k.many (λ i p. (k.free i p).fit)

  -- Without hints the full part of what solves is the difference.
  whole : {c : Code} {w : List ℕ} {gs : List (Given (Elem m))} {t : Tallied} → Waits m c w gs t → (r : Recovery) → Solves m c gs w r → row_count gs + column_count gs ≡ 0
      → elems m (numbers r.parts.full) ≡ plus (ops m) (elems m w) (map (ops m).neg (elems m (numbers r.codeword)))
  whole {c} {w} {gs} wait r R bare =
      let k = waits_kept l wait in
      difference_is l c gs (elems m w) (elems m (numbers r.codeword)) r.parts k.many bare (length-map w (elem m) ∙ k.long) (length-map (numbers r.codeword) (elem m) ∙ R.sizes.0) R.sizes.1 R.splitting

  -- What decode gives.
  pub outcome : {c : Code} {w : List ℕ} {gs : List (Given (Elem m))} {t : Tallied} → Waits m c w gs t → (q : Position m) → Answered m (at m (held c w gs) t) decode (Ok done) q
      → (r : Recovery) × Outcome m c w gs q r
  outcome {c} {w} {gs} {t} wait q h =
      let (r, k, e) = gives c w gs t done q h.1 in (
        r,
        record {
          handed_out = handed_out c gs r q (ap (λ (p : Position m). p.standing) e);
          solves = k;
          only_one = λ v there. alone wait v (elems m (numbers r.codeword)) there k.reach;
          hintless = whole wait r k;
        },
      )
