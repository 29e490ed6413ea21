-- A run that decodes stands solved, by the code of its sheet.
--     OfSheet m x c        c is the code of the sheet x
--     Decoded m x cs s     the calls cs lead to the station s, which has recovered a word by the code of the sheet x
use Rattle.std.proofs.Common.{◌≡◌, ℕ, List, [], ◌∷◌, ◌++◌, length, replicate, sum, Result, Ok, Err, sym, ap, ◌∙◌, subst}
use Rattle.fields.specs.Meaning.{Meaning}
use Rattle.fields.specs.Elements.{Elem}
use Rattle.sheets.specs.declared.faults.Fault.{Fault}
use Rattle.sheets.specs.Sheets.{Text, Spells}
use Rattle.sheets.proofs.Certainty.{unambiguous as sheets}
use Rattle.codes.specs.declared.shape.Code.{Code}
use Rattle.codes.specs.Fitness.{Made}
use Rattle.codes.proofs.Fitness.{sum_total}
use Rattle.hints.specs.Splittings.{Given}
use Rattle.ranks.specs.Ranks.{total}
use Rattle.recovery.specs.declared.outcome.Recovery.{Recovery}
use Rattle.station.specs.declared.state.State.{State}
use Rattle.station.specs.declared.state.State.TheVariants.{Bare, Ready, Held, Solved as AsSolved}
use Rattle.station.specs.declared.station.Station.{Station}
use Rattle.station.specs.Calls.{Command, set_up, load, row, column, decode, clear, tally, read, Reply, done, counted, handed}
use Rattle.station.specs.Positions.{Standing, bare, ready, held, solved, Tallied, Position, at, size_of, OfCode}
use Rattle.station.specs.Rules.{Acts, Answered}
use Rattle.station.specs.Histories.{start, History, no_call, call}
use Rattle.station.specs.Standings.{standing_of, position_of, Goes}
use Rattle.jobs.specs.Runs.{Taken}
use Rattle.jobs.specs.Leading.{Led, Solved}
use Rattle.jobs.proofs.Leads.{snoc, all_done}

abbrev pub OfSheet : Meaning → List ℕ → Code → Type 0
OfSheet m x c = (t : Text) × Spells m.number x t × Made m t c

pub record Decoded (m : Meaning) {K : Type 0} (x : List ℕ) (cs : List Command) (s : Station K) : Type 0 where
  pub code : Code
  pub of_sheet : OfSheet m x code
  pub hints : List (Given (Elem m))
  pub recovery : Recovery
  pub solved : Solved m code hints recovery s
  pub taken : Taken m cs (position_of m s hints)

module _ {m : Meaning} (P : Code → Type 0) where
  -- Where a call leads, the code is the one that was there.
  there : {s : Standing m} {t : Tallied} (q : Position m) → q ≡ at m s t → OfCode m s P → OfCode m q.standing P
  there q e k = subst (λ (p : Position m). OfCode m p.standing P) (sym e) k

  -- A call that is not refused keeps it.
  acts_keep : (c : Command) (s : Standing m) (t : Tallied) (r : Reply) (q : Position m) → Acts m c s t r q → OfCode m s P → OfCode m q.standing P
  acts_keep (set_up x) bare t done q a k = absurd k
  acts_keep (load w) (ready c) t done q a k = there q a k
  acts_keep (row b x) (held c w gs) t done q a k = there q a k
  acts_keep (column b h) (held c w gs) t done q a k = there q a k
  acts_keep decode (held c w gs) t done q a k = there q a.2 k
  acts_keep clear (held c w gs) t done q a k = there q a k
  acts_keep clear (solved c gs r) t done q a k = there q a k
  acts_keep (read i room) (solved c gs r) t (handed xs f x y) q a k = there q a.4 k
  acts_keep tally s t (counted words errors) q a k = there q a.2 k
  acts_keep c s t r q a k = there q a.1 k

  -- So does each call.
  answer_keeps : (p q : Position m) (c : Command) (a : Result Reply Fault) → Answered m p c a q → OfCode m p.standing P → OfCode m q.standing P
  answer_keeps p q c (Ok r) h k = acts_keep c p.standing p.tally r q h.1 k
  answer_keeps p q c (Err e) h k = subst (λ (p : Position m). OfCode m p.standing P) (sym h.1) k

  -- So do all.
  history_keeps : {p q : Position m} {cs : List Command} {rs : List (Result Reply Fault)} → History m p cs rs q → OfCode m p.standing P → OfCode m q.standing P
  history_keeps no_call k = k
  history_keeps (call {p = p} {q = q} {c = c} {a = a} h rest) k = history_keeps rest (answer_keeps p q c a h k)

  -- A decode that is not refused solves.
  decode_solves : (s : Standing m) (t : Tallied) (q : Position m) → Acts m decode s t done q → OfCode m s P → (c : Code) × P c × ((gs : List (Given (Elem m))) × (r : Recovery) × (q.standing ≡ solved c gs r))
  decode_solves bare t q a k = absurd k
  decode_solves (ready c) t q a k = absurd a.0
  decode_solves (held c w gs) t q a k = (c, k, (gs, a.0, ap (λ (p : Position m). p.standing) a.2))
  decode_solves (solved c gs r) t q a k = absurd a.0

-- After set_up there is the code of the sheet.
set_up_makes : {m : Meaning} {x : List ℕ} {cs : List Command} {rs : List (Result Reply Fault)} {q : Position m} → History m (start m) (set_up x ∷ cs) (Ok done ∷ rs) q → OfCode m q.standing (OfSheet m x)
set_up_makes {m} {x} (call h rest) =
    history_keeps (OfSheet m x) rest (subst (λ (p : Position m). OfCode m p.standing (OfSheet m x)) (sym h.1.4) (h.1.0, h.1.2, h.1.3))

-- The hints are those that the station stands for.
own_hints : {m : Meaning} {c : Code} {r : Recovery} (s : State) (gs hs : List (Given (Elem m))) → standing_of m s gs ≡ solved c hs r → standing_of m s gs ≡ solved c gs r
own_hints Bare gs hs e = (cc)
own_hints (Ready p) gs hs e = (cc)
own_hints (Held p w h) gs hs e = (cc)
own_hints (AsSolved p x i j) gs hs e = (cc)

-- So it is at the end of a run.
pub decoded : {K : Type 0} (meaning : K → Meaning) (k : K) (s t : Station K) → s.kind ≡ k → (x : List ℕ) (cs : List Command) → Goes (meaning s.kind) s decode (Ok done) t → Led (meaning k) (set_up x ∷ cs) s
    → Decoded (meaning k) x (set_up x ∷ cs ++ decode ∷ []) t
decoded meaning k s t same x cs goes led =
    let m = meaning k in
    let next = subst (λ j. Goes (meaning j) s decode (Ok done) t) same goes led.0 led.1 in
    let p = position_of m s led.0 in
    let found = decode_solves (OfSheet m x) p.standing p.tally (position_of m t next.0) next.2.1 (set_up_makes led.2) in
    record {
      code = found.0;
      of_sheet = found.1;
      hints = next.0;
      recovery = found.2.1;
      solved = record { sound = next.1; stands = own_hints t.state next.0 found.2.0 found.2.2 };
      taken =
          subst (λ rs. History m (start m) (set_up x ∷ cs ++ decode ∷ []) rs (position_of m t next.0)) (all_done (set_up x ∷ cs) decode)
          (snoc (set_up x ∷ cs) (replicate (length (set_up x ∷ cs)) (Ok done)) decode (Ok done) led.2 next.2);
    }

-- The code of a sheet has its sizes.
pub sizes : {m : Meaning} {x : List ℕ} {c : Code} {u : Text} → OfSheet m x c → Spells m.number x u → (c.dimension ≡ u.dimension) × (size_of c ≡ sum u.blocks)
sizes {m} {x} {c} {u} made spells =
    let same : made.0 ≡ u = sheets.one_sheet m.number x made.0 u made.1 spells in (
      made.2.dimension ∙ ap (λ (t : Text). t.dimension) same,
      sym c.sum ∙ ap total made.2.lengths ∙ sym (sum_total made.0.blocks) ∙ ap (λ (t : Text). sum t.blocks) same,
    )
