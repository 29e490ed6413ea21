-- Why the reader of the column hints answers as it promises.
--     start           the place behind their count
--     ColumnsSoFar    n column hints stand there, up to a place
use Rattle.std.proofs.Common.{◌≡◌, ℕ, ◌+◌, ◌-◌, ◌<◌, ◌≤◌, List, [], ◌∷◌, ◌++◌, length, take, drop, slice_index, sym, ap, ◌∙◌, subst, refl, arith}
use Rattle.std.proofs.lemmas.List.{append_assoc, append-nil, length-append}
use Rattle.std.proofs.ByRecursion.{All-push}
use Rattle.std.specs.List.{AllByRecursion}
use Rattle.sheets.specs.declared.faults.Fault.{Fault}
use Rattle.sheets.specs.Sheets.{Text}
use Rattle.jobs.specs.Jobs.{column_bytes, to_rows, to_columns, Rowed, Hinted, WantsBlock, Short, column_count, column_block, at_coefficient}
use Rattle.jobs.specs.Steps.{Stand, Judged, PartRead, OnBlock, ColumnsRead, StopsCount, StopsBlock, StopsPart, StopsColumns}
use Rattle.jobs.proofs.Steps.{stand_more, up_to_end, part_is}

pub record ColumnsSoFar (bytes : List ℕ) (start : ℕ) (lengths : List ℕ) (end n : ℕ) : Type 0 where
  pub columns : List (ℕ × List ℕ)
  pub stand : Stand bytes start (column_bytes columns)
  pub end_is : end ≡ start + length (column_bytes columns)
  pub on_blocks : AllByRecursion (OnBlock lengths) columns
  pub as_many : length columns ≡ n

-- The count is missing, or too large.
pub no_column_count : (bytes : List ℕ) (at : ℕ) (lengths : List ℕ) (e : Fault) → StopsCount bytes at 0 24 e → StopsColumns bytes at lengths e
no_column_count bytes at lengths e stops number t w rs rowed lengths_are read = stops number (rw read (column_count rowed))

-- One column hint more adds its block and its coefficients.
pub bytes_more : (hs : List (ℕ × List ℕ)) (b : ℕ) (xs : List ℕ) → column_bytes hs ++ b ∷ xs ≡ column_bytes (hs ++ (b, xs) ∷ [])
bytes_more [] b xs = ap (λ (u : List ℕ). b ∷ u) (sym (append-nil xs))
bytes_more (h ∷ hs) b xs = ap (λ (u : List ℕ). h.0 ∷ u) (append_assoc h.1 (column_bytes hs) (b ∷ xs) ∙ ap (λ (u : List ℕ). h.1 ++ u) (bytes_more hs b xs))

-- One more is read.
pub columns_more : {bytes lengths xs : List ℕ} {start end n b : ℕ} → ColumnsSoFar bytes start lengths end n → Judged bytes end 1 (length lengths) b
    → PartRead bytes (end + 1) (slice_index lengths (b - 1)) xs → ColumnsSoFar bytes start lengths (end + (1 + length xs)) (n + 1)
columns_more {bytes} {lengths} {xs} {start} {end} {n} {b} f j p =
    let hint : Stand bytes end (b ∷ xs) = stand_more j.stand refl p.stand in
    let as_bytes = bytes_more f.columns b xs in
    record {
      columns = f.columns ++ (b, xs) ∷ [];
      stand = rw as_bytes at (stand_more f.stand f.end_is hint);
      end_is = omega (arith, f.end_is, sym (ap length as_bytes) ∙ length-append (column_bytes f.columns) (b ∷ xs));
      on_blocks = All-push (OnBlock lengths) f.columns (b, xs) f.on_blocks ((j.least, j.most), p.as_many);
      as_many = length-append f.columns ((b, xs) ∷ []) ∙ ap (λ i. i + 1) f.as_many;
    }

-- Up to some hint, the bytes are in order.
up_to_column : (number : ℕ) (t : Text) (w : List ℕ) (rs : List (ℕ × ℕ)) {bytes lengths : List ℕ} {at count end n : ℕ} → Judged bytes at 0 24 count
    → (f : ColumnsSoFar bytes (at + 1) lengths end n) → take at bytes ≡ to_rows number t w (length rs) rs
    → take end bytes ≡ to_columns number t w rs count f.columns
up_to_column number t w rs {bytes} {lengths} {at} {count} j f read =
    ap (λ i. take i bytes) f.end_is
    ∙ up_to_end (column_bytes f.columns) f.stand (up_to_end (count ∷ []) j.stand read)
    ∙ append_assoc (to_rows number t w (length rs) rs) (count ∷ []) (column_bytes f.columns)

-- These hints are in order.
hinted : {t : Text} {w bytes lengths : List ℕ} {rs : List (ℕ × ℕ)} {start end n : ℕ} → Rowed t w rs → lengths ≡ t.blocks
    → (f : ColumnsSoFar bytes start lengths end n) → n ≤ 24 → Hinted t w rs f.columns
hinted rowed lengths_are f few =
    record {
      rowed = rowed;
      columns = subst (λ (ls : List ℕ). AllByRecursion (OnBlock ls) f.columns) lengths_are f.on_blocks;
      few = omega (arith, f.as_many);
    }

-- The block of a hint is missing, or none.
pub no_column_block : {bytes lengths : List ℕ} {at count end n : ℕ} {e : Fault} → Judged bytes at 0 24 count
    → ColumnsSoFar bytes (at + 1) lengths end n → n < count → StopsBlock bytes end (length lengths) e → StopsColumns bytes at lengths e
no_column_block {bytes} {lengths} {at} {count} {end} j f less stops number t w rs rowed lengths_are read =
    let wants : WantsBlock number (to_columns number t w rs count f.columns) (length t.blocks) =
    column_block count (hinted rowed lengths_are f (omega (arith, j.most))) (omega (arith, f.as_many)) j.most
    in
    stops number (subst (λ (u : List ℕ). WantsBlock number u (length lengths)) (sym (up_to_column number t w rs j f read)) (rw lengths_are wants))

-- A coefficient of a hint is missing.
pub no_coefficient : {bytes lengths : List ℕ} {at count end n b size : ℕ} {e : Fault} → Judged bytes at 0 24 count
    → ColumnsSoFar bytes (at + 1) lengths end n → n < count → Judged bytes end 1 (length lengths) b → size ≡ slice_index lengths (b - 1)
    → StopsPart bytes (end + 1) size e → StopsColumns bytes at lengths e
no_coefficient {bytes} {lengths} {at} {count} {end} {n} {b} j f less block size_is stops number t w rs rowed lengths_are read =
    stops number (λ xs fewer.
    let short : Short number (to_columns number t w rs count f.columns ++ b ∷ xs) =
    at_coefficient count b xs (hinted rowed lengths_are f (omega (arith, j.most))) (omega (arith, f.as_many)) j.most (block.least, rw lengths_are at block.most)
    (rw (size_is, lengths_are) at fewer)
    in
    let as_hint : take (end + 1) bytes ++ xs ≡ to_columns number t w rs count f.columns ++ b ∷ xs =
    ap (λ (u : List ℕ). u ++ xs) (up_to_end (b ∷ []) block.stand (up_to_column number t w rs j f read))
    ∙ append_assoc (to_columns number t w rs count f.columns) (b ∷ []) xs
    in
    subst (λ (u : List ℕ). Short number u) (sym as_hint) short)

-- All are read.
pub columns_read : {bytes lengths : List ℕ} {at count end n : ℕ} → Judged bytes at 0 24 count → ColumnsSoFar bytes (at + 1) lengths end n → n ≡ count
    → ColumnsRead bytes at lengths (take (end - (at + 1)) (drop (at + 1) bytes))
columns_read {bytes} {lengths} {at} {count} {end} {n} j f all =
    let size : end - (at + 1) ≡ length (column_bytes f.columns) = omega (arith, f.end_is) in
    let count_is : count ≡ length f.columns = omega (arith, f.as_many) in
    record {
      columns = f.columns;
      part_is = rw size (part_is (column_bytes f.columns) f.stand);
      stand = rw count_is at (stand_more j.stand refl f.stand);
      on_blocks = f.on_blocks;
      few = omega (arith, j.most);
    }
