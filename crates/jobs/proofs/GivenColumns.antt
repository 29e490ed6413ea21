-- The column hints are given one by one.
--     ColumnsLed        the hints of the bytes before a place are given, and behind it stand the rest
--     ColumnHere        the first hint of the rest
use Rattle.std.proofs.Common.{◌≡◌, ℕ, ◌+◌, ◌-◌, ◌<◌, ◌≤◌, min, List, [], ◌∷◌, ◌++◌, length, take, drop, get_or, slice_index, Ok, Err, refl, sym, ap, ◌∙◌, subst, add-one, arith, length-drop}
use Rattle.std.proofs.Math.Seq.{drop-cons, take-append_seam, drop-append_seam}
use Rattle.std.proofs.lemmas.List.{append_assoc, append-nil, map-append, length-append, drop-drop}
use Rattle.fields.specs.Meaning.{Meaning}
use Rattle.sheets.specs.declared.faults.Fault.{Fault}
use Rattle.station.specs.declared.station.Station.{Station}
use Rattle.station.specs.Calls.{Command, column, done}
use Rattle.station.specs.Standings.{Goes}
use Rattle.jobs.specs.Jobs.{column_bytes}
use Rattle.jobs.specs.Steps.{OnBlock}
use Rattle.jobs.specs.Runs.{moved, column_calls}
use Rattle.jobs.specs.Leading.{Led, ColumnStops, OnBlocks}
use Rattle.jobs.proofs.Columns.{bytes_more}
use Rattle.jobs.proofs.Leads.{led_on, led_stops}

pub record ColumnsLed (m : Meaning) {K : Type 0} (cs : List Command) (hs : List (ℕ × List ℕ)) (lengths bytes : List ℕ) (at : ℕ) (s : Station K) : Type 0 where
  pub front : List (ℕ × List ℕ)
  pub rest : List (ℕ × List ℕ)
  pub hints_are : hs ≡ front ++ rest
  pub ahead : drop at bytes ≡ column_bytes rest
  pub on_blocks : OnBlocks lengths rest
  pub place : at ≡ length (column_bytes front)
  pub led : Led m (cs ++ column_calls front) s

pub record ColumnHere (lengths bytes : List ℕ) (at : ℕ) (rest : List (ℕ × List ℕ)) : Type 0 where
  pub hint : ℕ × List ℕ
  pub after : List (ℕ × List ℕ)
  pub rest_is : rest ≡ hint ∷ after
  pub block : get_or bytes at 0 ≡ hint.0
  pub behind : drop (at + 1) bytes ≡ hint.1 ++ column_bytes after
  pub on_block : OnBlock lengths hint
  pub on_blocks : OnBlocks lengths after

-- No hint is given yet.
pub columns_none : {K : Type 0} (m : Meaning) (s : Station K) (cs : List Command) (hs : List (ℕ × List ℕ)) (lengths bytes : List ℕ) → bytes ≡ column_bytes hs → OnBlocks lengths hs → Led m cs s
    → ColumnsLed m cs hs lengths bytes 0 s
columns_none m s cs hs lengths bytes e on led =
    record { front = []; rest = hs; hints_are = refl; ahead = e; on_blocks = on; place = refl; led = subst (λ us. Led m us s) (sym (append-nil cs)) led }

-- Before the end of the bytes there is a hint.
here : (lengths bytes : List ℕ) (at : ℕ) (rest : List (ℕ × List ℕ)) → at < length bytes → drop at bytes ≡ column_bytes rest → OnBlocks lengths rest → ColumnHere lengths bytes at rest
here lengths bytes at [] below e on = absurd (omega (arith, length-drop at bytes, ap length e))
here lengths bytes at (h ∷ hs) below e on =
    let cut = sym (drop-cons bytes at 0 below) ∙ e in
    record {
      hint = h;
      after = hs;
      rest_is = refl;
      block = (cc);
      behind = ap (λ i. drop i bytes) (add-one at) ∙ (cc);
      on_block = on.0;
      on_blocks = on.1;
    }

-- It has as many coefficients as its block has symbols.
size_here : (lengths bytes : List ℕ) (at : ℕ) (rest : List (ℕ × List ℕ)) (k : ColumnHere lengths bytes at rest) (b l size : ℕ) → b ≡ get_or bytes at 0 → (1 ≤ b → b ≤ length lengths → l ≡ slice_index lengths (b - 1))
    → size ≡ min l (length bytes - at - 1) → size ≡ length k.hint.1
size_here lengths bytes at rest k b l size block lengths_are size_is =
    let same : b ≡ k.hint.0 = block ∙ k.block in
    let own : l ≡ length k.hint.1 = lengths_are (omega (arith, k.on_block.0.0)) (omega (arith, k.on_block.0.1)) ∙ ap (λ i. slice_index lengths (i - 1)) same ∙ sym k.on_block.1 in
    omega (arith, length-drop (at + 1) bytes, ap length k.behind, length-append k.hint.1 (column_bytes k.after))

module _ {K : Type 0} (meaning : K → Meaning) (k : K) (s t : Station K) (same : s.kind ≡ k) (cs : List Command) (hs : List (ℕ × List ℕ)) (lengths bytes : List ℕ) {at b l size : ℕ}
    (f : ColumnsLed (meaning k) cs hs lengths bytes at s) (below : at < length bytes) (block : b ≡ get_or bytes at 0) (lengths_are : 1 ≤ b → b ≤ length lengths → l ≡ slice_index lengths (b - 1))
    (size_is : size ≡ min l (length bytes - at - 1)) (xs : List ℕ) (part : xs ≡ take size (drop (at + 1) bytes)) where
  -- The hint that is next.
  next : ColumnHere lengths bytes at f.rest
  next = here lengths bytes at f.rest below f.ahead f.on_blocks

  -- How long it is.
  long : size ≡ length next.hint.1
  long = size_here lengths bytes at f.rest next b l size block lengths_are size_is

  -- Its coefficients.
  coefficients : xs ≡ next.hint.1
  coefficients = part ∙ ap (λ n. take n (drop (at + 1) bytes)) long ∙ ap (take (length next.hint.1)) next.behind ∙ take-append_seam next.hint.1 (column_bytes next.after)

  -- Its call.
  its_call : column b xs ≡ column next.hint.0 next.hint.1
  its_call = ap (λ i. column i xs) (block ∙ next.block) ∙ ap (column next.hint.0) coefficients

  -- It is given.
  pub column_given : Goes (meaning s.kind) s (column b xs) (Ok done) t → ColumnsLed (meaning k) cs hs lengths bytes (at + 1 + size) t
  column_given goes =
      let m = meaning k in
      let h = next.hint in
      let end : at + 1 + size ≡ at + 1 + length h.1 = omega (arith, long) in
      let calls : (cs ++ column_calls f.front) ++ column h.0 h.1 ∷ [] ≡ cs ++ column_calls (f.front ++ h ∷ []) =
      append_assoc cs (column_calls f.front) (column h.0 h.1 ∷ []) ∙ ap (λ (u : List Command). cs ++ u) (sym (map-append (λ (h : ℕ × List ℕ). column h.0 h.1) f.front (h ∷ [])))
      in
      record {
        front = f.front ++ h ∷ [];
        rest = next.after;
        hints_are = f.hints_are ∙ ap (λ (u : List (ℕ × List ℕ)). f.front ++ u) next.rest_is ∙ sym (append_assoc f.front (h ∷ []) next.after);
        ahead =
            ap (λ n. drop n bytes) end ∙ sym (drop-drop (length h.1) (at + 1) bytes) ∙ ap (drop (length h.1)) next.behind
            ∙ drop-append_seam h.1 (column_bytes next.after);
        on_blocks = next.on_blocks;
        place = omega (arith, f.place, long, sym (ap length (bytes_more f.front h.0 h.1)) ∙ length-append (column_bytes f.front) (h.0 ∷ h.1));
        led = subst (λ us. Led m us t) calls (led_on meaning k s t same (cs ++ column_calls f.front) its_call goes f.led);
      }

  -- It is refused.
  pub column_stops : {start place : ℕ} {e : Fault} (g : Fault) → Goes (meaning s.kind) s (column b xs) (Err g) t → place ≡ start + at → e ≡ moved g place → ColumnStops (meaning k) cs hs start e
  column_stops {start} g goes place moved_is =
      record {
        front = f.front;
        hint = next.hint;
        rest = next.after;
        hints_are = f.hints_are ∙ ap (λ (u : List (ℕ × List ℕ)). f.front ++ u) next.rest_is;
        refusal = g;
        stopped = led_stops meaning k s t same (cs ++ column_calls f.front) its_call goes f.led;
        moved_is = moved_is ∙ ap (moved g) (place ∙ ap (λ n. start + n) f.place);
      }

-- All hints are given.
pub columns_given : {K : Type 0} (m : Meaning) (s : Station K) (cs : List Command) (hs : List (ℕ × List ℕ)) (lengths bytes : List ℕ) (at : ℕ) → length bytes ≤ at → ColumnsLed m cs hs lengths bytes at s
    → Led m (cs ++ column_calls hs) s
columns_given m s cs hs lengths bytes at end f = subst (λ us. Led m (cs ++ column_calls us) s) (sym (f.hints_are ∙ ap (λ (u : List (ℕ × List ℕ)). f.front ++ u) (none f.rest f.ahead) ∙ append-nil f.front)) f.led where
  -- No bytes are left, so no hint is.
  none : (rest : List (ℕ × List ℕ)) → drop at bytes ≡ column_bytes rest → rest ≡ []
  none [] e = refl
  none (h ∷ rest) e = absurd (omega (arith, length-drop at bytes, ap length e))
