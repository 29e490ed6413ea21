-- Each step of a run takes one call more, or ends at it.
use Rattle.std.proofs.Common.{◌≡◌, ℕ, ◌+◌, ◌<◌, ◌≤◌, List, [], ◌∷◌, ◌++◌, length, replicate, Result, Ok, Err, refl, sym, ap, ◌∙◌, subst, inl, inr, arith}
use Rattle.std.proofs.lemmas.List.{length-append, replicate_more}
use Rattle.fields.specs.Meaning.{Meaning}
use Rattle.sheets.specs.declared.faults.Fault.{Fault}
use Rattle.station.specs.declared.station.Station.{Station}
use Rattle.station.specs.Calls.{Command, load, Reply, done}
use Rattle.station.specs.Tables.{Refuses}
use Rattle.station.specs.Positions.{Standing, bare, ready, held, solved, Tallied, Position, at}
use Rattle.station.specs.Refusals.{rows_of}
use Rattle.station.specs.Rules.{Answered}
use Rattle.station.specs.Histories.{start, History, no_call, call}
use Rattle.station.specs.Standings.{Sound, position_of, Goes}
use Rattle.jobs.specs.Runs.{Stopped, moved}
use Rattle.jobs.specs.Leading.{Led, WordStops}

-- One call more at the end.
pub snoc : {m : Meaning} {p q r : Position m} (cs : List Command) (rs : List (Result Reply Fault)) (c : Command) (a : Result Reply Fault)
    → History m p cs rs q → Answered m q c a r → History m p (cs ++ c ∷ []) (rs ++ a ∷ []) r
snoc cs rs c a no_call e = call e no_call
snoc cs rs c a (call h rest) e = call h (snoc _ _ c a rest e)

-- It is answered done too.
pub all_done : (cs : List Command) (c : Command) → replicate {A = Result Reply Fault} (length cs) (Ok done) ++ Ok done ∷ [] ≡ replicate (length (cs ++ c ∷ [])) (Ok done)
all_done cs c = replicate_more (length cs) (Ok done) ∙ ap (λ n. replicate n (Ok done)) (sym (length-append cs (c ∷ [])))

-- A bare station was put no call.
pub led_none : (m : Meaning) {K : Type 0} (s : Station K) → Sound m s.state [] → position_of m s [] ≡ start m → Led m [] s
led_none m s sound e = ([], sound, subst (λ p. History m (start m) [] [] p) (sym e) no_call)

-- What refuses a word stands at one of its symbols, or at its front.
word_place : (m : Meaning) (u : Standing m) (t : Tallied) (w : List ℕ) (e : Fault) → Refuses (rows_of m (at m u t) (load w)) e → e.place ≤ length w
word_place m bare t w e (inl h) = omega (arith, ap (λ (f : Fault). f.place) h.1)
word_place m bare t w e (inr h) = absurd h.1
word_place m (ready c) t w e (inl h) = omega (arith, ap (λ (f : Fault). f.place) h.1)
word_place m (ready c) t w e (inr (a, inl h)) = omega (arith, ap (λ (f : Fault). f.place) h.1)
word_place m (ready c) t w e (inr (a, inr (b, inl h))) = omega (arith, ap (λ (f : Fault). f.place) h.fault, h.first.within)
word_place m (ready c) t w e (inr (a, inr (b, inr h))) = absurd h.1
word_place m (held c x gs) t w e (inl h) = omega (arith, ap (λ (f : Fault). f.place) h.1)
word_place m (held c x gs) t w e (inr h) = absurd h.1
word_place m (solved c gs r) t w e (inl h) = omega (arith, ap (λ (f : Fault). f.place) h.1)
word_place m (solved c gs r) t w e (inr h) = absurd h.1

-- So where a word is refused, it is at the symbol's place behind the front of the section.
pub word_stops : {m : Meaning} {cs : List Command} {at place : ℕ} {e : Fault} (w : List ℕ) (f : Fault) → Stopped m cs (load w) f → at + length w < 18446744073709551616
    → (at + f.place < 18446744073709551616 → place ≡ at + f.place) → e ≡ moved f place → WordStops m cs w at e
word_stops {m} w f stopped few added is =
    let within = word_place m stopped.0.standing stopped.0.tally w f stopped.2.0 in
    record { refusal = f; stopped = stopped; moved_is = is ∙ ap (moved f) (added (omega (arith, within))) }

module _ {K : Type 0} (meaning : K → Meaning) (k : K) (s t : Station K) (same : s.kind ≡ k) (cs : List Command) {c d : Command} (is : c ≡ d) where
  -- A call that is not refused leads on.
  pub led_on : Goes (meaning s.kind) s c (Ok done) t → Led (meaning k) cs s → Led (meaning k) (cs ++ d ∷ []) t
  led_on goes led =
      let m = meaning k in
      let there = subst (λ c. Goes m s c (Ok done) t) is (subst (λ j. Goes (meaning j) s c (Ok done) t) same goes) in
      let next = there led.0 led.1 in (
        next.0,
        next.1,
        subst (λ rs. History m (start m) (cs ++ d ∷ []) rs (position_of m t next.0)) (all_done cs d) (snoc cs (replicate (length cs) (Ok done)) d (Ok done) led.2 next.2),
      )

  -- One that is refused ends the job.
  pub led_stops : {e : Fault} → Goes (meaning s.kind) s c (Err e) t → Led (meaning k) cs s → Stopped (meaning k) cs d e
  led_stops {e} goes led =
      let m = meaning k in
      let there = subst (λ c. Goes m s c (Err e) t) is (subst (λ j. Goes (meaning j) s c (Err e) t) same goes) in
      let next = there led.0 led.1 in (position_of m s led.0, led.2, (next.2.0, refl))
