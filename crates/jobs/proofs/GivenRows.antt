-- The row hints are given one by one.
--     RowAt rs i b x     hint i of rs is (b, x)
use Rattle.std.proofs.Common.{◌≡◌, ℕ, suc, ◌+◌, ◌*◌, ◌<◌, ◌≤◌, List, [], ◌∷◌, ◌++◌, length, take, get_or, Ok, Err, refl, sym, ap, ◌∙◌, subst, add-one, arith}
use Rattle.std.proofs.lemmas.List.{append_assoc, map-append, take_all}
use Rattle.fields.specs.Meaning.{Meaning}
use Rattle.sheets.specs.declared.faults.Fault.{Fault}
use Rattle.station.specs.declared.station.Station.{Station}
use Rattle.station.specs.Calls.{Command, row, done}
use Rattle.station.specs.Standings.{Goes}
use Rattle.jobs.specs.Jobs.{row_bytes}
use Rattle.jobs.specs.Runs.{moved, row_calls}
use Rattle.jobs.specs.Leading.{Led, RowStops}
use Rattle.jobs.proofs.Leads.{led_on, led_stops}

pub record RowAt (rs : List (ℕ × ℕ)) (i b x : ℕ) : Type 0 where
  pub rest : List (ℕ × ℕ)
  pub hints_are : rs ≡ take i rs ++ (b, x) ∷ rest
  pub next : take (suc i) rs ≡ take i rs ++ (b, x) ∷ []
  pub place : length (row_bytes (take i rs)) ≡ 2 * i

-- Each has two bytes.
row_size : (rs : List (ℕ × ℕ)) → length (row_bytes rs) ≡ 2 * length rs
row_size [] = refl
row_size (r ∷ rs) = omega (arith, row_size rs)

-- They are its block and its element.
row_at : (rs : List (ℕ × ℕ)) (i j : ℕ) → j ≡ 2 * i → i < length rs → RowAt rs i (get_or (row_bytes rs) j 0) (get_or (row_bytes rs) (suc j) 0)
row_at [] i j e h = absurd (omega arith)
row_at (r ∷ rs) ℕ.zero ℕ.zero e h = record { rest = rs; hints_are = refl; next = refl; place = refl }
row_at (r ∷ rs) ℕ.zero (suc j) e h = absurd (omega arith)
row_at (r ∷ rs) (suc i) ℕ.zero e h = absurd (omega arith)
row_at (r ∷ rs) (suc i) (suc ℕ.zero) e h = absurd (omega arith)
row_at (r ∷ rs) (suc i) (suc (suc j)) e h =
    let k = row_at rs i j (omega arith) (omega arith) in
    record {
      rest = k.rest;
      hints_are = ap (λ (u : List (ℕ × ℕ)). r ∷ u) k.hints_are;
      next = ap (λ (u : List (ℕ × ℕ)). r ∷ u) k.next;
      place = omega (arith, k.place);
    }

-- So it is where the bytes are those of the hints.
pub row_there : (bytes : List ℕ) (rs : List (ℕ × ℕ)) (i half : ℕ) → bytes ≡ row_bytes rs → 2 * half ≤ length bytes → i < half → RowAt rs i (get_or bytes (2 * i) 0) (get_or bytes (2 * i + 1) 0)
row_there bytes rs i half e most h =
    let k = row_at rs i (2 * i) refl (omega (arith, ap length e, row_size rs)) in
    rw (e, add-one) k

module _ {K : Type 0} (meaning : K → Meaning) (k : K) (s t : Station K) (same : s.kind ≡ k) (cs : List Command) (rs : List (ℕ × ℕ)) {i b x : ℕ} {c : Command} (is : c ≡ row b x)
    (there : RowAt rs i b x) (led : Led (meaning k) (cs ++ row_calls (take i rs)) s) where
  -- One hint more is given.
  pub row_given : Goes (meaning s.kind) s c (Ok done) t → Led (meaning k) (cs ++ row_calls (take (i + 1) rs)) t
  row_given goes =
      let as_calls : (cs ++ row_calls (take i rs)) ++ row b x ∷ [] ≡ cs ++ row_calls (take (i + 1) rs) =
      append_assoc cs (row_calls (take i rs)) (row b x ∷ [])
      ∙ ap (λ (u : List Command). cs ++ u) (sym (map-append (λ (r : ℕ × ℕ). row r.0 r.1) (take i rs) ((b, x) ∷ [])) ∙ ap row_calls (sym there.next ∙ ap (λ n. take n rs) (sym (add-one i))))
      in
      subst (λ us. Led (meaning k) us t) as_calls (led_on meaning k s t same (cs ++ row_calls (take i rs)) is goes led)

  -- One is refused.
  pub row_stops : {at place : ℕ} {e : Fault} (f : Fault) → Goes (meaning s.kind) s c (Err f) t → place ≡ at + 2 * i → e ≡ moved f place → RowStops (meaning k) cs rs at e
  row_stops {at} f goes place moved_is =
      record {
        front = take i rs;
        hint = (b, x);
        rest = there.rest;
        hints_are = there.hints_are;
        refusal = f;
        stopped = led_stops meaning k s t same (cs ++ row_calls (take i rs)) is goes led;
        moved_is = moved_is ∙ ap (moved f) (place ∙ ap (λ n. at + n) (sym there.place));
      }

-- All hints are given.
pub rows_given : {K : Type 0} (m : Meaning) (s : Station K) (cs : List Command) (bytes : List ℕ) (rs : List (ℕ × ℕ)) (i : ℕ) → bytes ≡ row_bytes rs → length bytes ≤ 2 * i + 1
    → Led m (cs ++ row_calls (take i rs)) s → Led m (cs ++ row_calls rs) s
rows_given m s cs bytes rs i e h led =
    subst (λ us. Led m (cs ++ row_calls us) s) (take_all i rs (omega (arith, ap length e, row_size rs))) led
