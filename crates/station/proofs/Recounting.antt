-- A list of calls with their answers, one call at a time.
use Rattle.std.proofs.Common.{◌≡◌, ℕ, ◌+◌, ◌<◌, List, [], ◌∷◌, ◌++◌, map, length, take, get_or, Result, sym, subst}
use Rattle.std.proofs.lemmas.List.{map-append, take_more}
use Rattle.fields.specs.Meaning.{Meaning}
use Rattle.sheets.specs.declared.faults.Fault.{Fault}
use Rattle.station.specs.declared.answers.Answer.{Answer}
use Rattle.station.specs.declared.calls.Call.{Call}
use Rattle.station.specs.declared.station.Station.{Station}
use Rattle.station.specs.Calls.{Command, Reply}
use Rattle.station.specs.Positions.{Position}
use Rattle.station.specs.Rules.{Answered}
use Rattle.station.specs.Histories.{start, History, no_call, call}
use Rattle.station.specs.Standings.{command_of, reply_of, replied, Sound, position_of, Goes, Replayed}

-- One call more at the end.
snoc : {m : Meaning} {p q r : Position m} (cs : List Command) (rs : List (Result Reply Fault)) (c : Command) (a : Result Reply Fault)
    → History m p cs rs q → Answered m q c a r → History m p (cs ++ c ∷ []) (rs ++ a ∷ []) r
snoc cs rs c a no_call e = call e no_call
snoc cs rs c a (call h rest) e = call h (snoc _ _ c a rest e)

-- A bare station was put no call.
pub none_yet : (m : Meaning) {K : Type 0} (s : Station K) → Sound m s.state [] → position_of m s [] ≡ start m → Replayed m [] [] s
none_yet m s sound e = ([], sound, subst (λ p. History m (start m) [] [] p) (sym e) no_call)

-- One call more.
one_more : (m : Meaning) {K : Type 0} (s t : Station K) (calls : List Call) (answers : List (Result Answer Fault)) (c : Call) (a : Result Answer Fault)
    → Replayed m calls answers s → Goes m s (command_of c) (replied reply_of a) t → Replayed m (calls ++ c ∷ []) (answers ++ a ∷ []) t
one_more m s t calls answers c a before goes =
    let next = goes before.0 before.1 in (
      next.0,
      next.1,
      subst (λ cs. History m (start m) cs (map (replied reply_of) (answers ++ a ∷ [])) (position_of m t next.0)) (sym (map-append command_of calls (c ∷ [])))
          (subst (λ rs. History m (start m) (map command_of calls ++ command_of c ∷ []) rs (position_of m t next.0)) (sym (map-append (replied reply_of) answers (a ∷ [])))
          (snoc (map command_of calls) (map (replied reply_of) answers) (command_of c) (replied reply_of a) before.2 next.2)),
    )

-- So where a list of calls is gone through, over the kind of the station.
pub next_call : {K : Type 0} (meaning : K → Meaning) (s t : Station K) {k : K} → s.kind ≡ k → (calls : List Call) (i : ℕ) (d : Call) (answers : List (Result Answer Fault)) {more : List (Result Answer Fault)} (a : Result Answer Fault)
    → i < length calls → more ≡ answers ++ a ∷ [] → Replayed (meaning k) (take i calls) answers s → Goes (meaning s.kind) s (command_of (get_or calls i d)) (replied reply_of a) t
    → Replayed (meaning k) (take (i + 1) calls) more t
next_call meaning s t {k} e calls i d answers {more} a h f before goes =
    let there = subst (λ j. Goes (meaning j) s (command_of (get_or calls i d)) (replied reply_of a) t) e goes in
    subst (λ cs. Replayed (meaning k) cs more t) (sym (take_more calls i d h))
    (subst (λ rs. Replayed (meaning k) (take i calls ++ get_or calls i d ∷ []) rs t) (sym f) (one_more (meaning k) s t (take i calls) answers (get_or calls i d) a before there))
