-- Why the reader of the row hints answers as it promises.
--     start          the place behind their count
--     RowsSoFar      n row hints stand there, up to a place
use Rattle.std.proofs.Common.{◌≡◌, ℕ, ◌+◌, ◌-◌, ◌<◌, ◌≤◌, List, [], ◌∷◌, ◌++◌, length, take, drop, sym, ap, ◌∙◌, subst, refl, arith}
use Rattle.std.proofs.lemmas.List.{append_assoc, length-append}
use Rattle.std.proofs.ByRecursion.{All-push}
use Rattle.std.specs.List.{AllByRecursion}
use Rattle.sheets.specs.declared.faults.Fault.{Fault}
use Rattle.sheets.specs.Sheets.{Text}
use Rattle.jobs.specs.Jobs.{row_bytes, to_symbols, to_rows, Worded, Rowed, WantsBlock, Short, row_count, row_block, at_element}
use Rattle.jobs.specs.Steps.{Stand, Judged, InRange, RowsRead, StopsByte, StopsCount, StopsBlock, StopsRows}
use Rattle.jobs.proofs.Steps.{stand_more, up_to_end, part_is}

pub record RowsSoFar (bytes : List ℕ) (start blocks end n : ℕ) : Type 0 where
  pub rows : List (ℕ × ℕ)
  pub stand : Stand bytes start (row_bytes rows)
  pub end_is : end ≡ start + length (row_bytes rows)
  pub in_blocks : AllByRecursion (λ r. InRange blocks r.0) rows
  pub as_many : length rows ≡ n

-- The count is missing, or too large.
pub no_row_count : (bytes : List ℕ) (at blocks : ℕ) (e : Fault) → StopsCount bytes at 0 24 e → StopsRows bytes at blocks e
no_row_count bytes at blocks e stops number t w worded blocks_are read = stops number (rw read (row_count worded))

-- One row hint more adds its two bytes.
bytes_more : (rs : List (ℕ × ℕ)) (b x : ℕ) → row_bytes rs ++ b ∷ x ∷ [] ≡ row_bytes (rs ++ (b, x) ∷ [])
bytes_more [] b x = refl
bytes_more (r ∷ rs) b x = ap (λ (u : List ℕ). r.0 ∷ r.1 ∷ u) (bytes_more rs b x)

-- One more is read.
pub rows_more : {bytes : List ℕ} {start blocks end n b x : ℕ} → RowsSoFar bytes start blocks end n → Judged bytes end 1 blocks b
    → Stand bytes (end + 1) (x ∷ []) → RowsSoFar bytes start blocks (end + 2) (n + 1)
rows_more {bytes} {start} {blocks} {end} {n} {b} {x} f j s =
    let hint : Stand bytes end (b ∷ x ∷ []) = stand_more j.stand refl s in
    let as_bytes = bytes_more f.rows b x in
    record {
      rows = f.rows ++ (b, x) ∷ [];
      stand = rw as_bytes at (stand_more f.stand f.end_is hint);
      end_is = omega (arith, f.end_is, sym (ap length as_bytes) ∙ length-append (row_bytes f.rows) (b ∷ x ∷ []));
      in_blocks = All-push (λ r. InRange blocks r.0) f.rows (b, x) f.in_blocks (j.least, j.most);
      as_many = length-append f.rows ((b, x) ∷ []) ∙ ap (λ i. i + 1) f.as_many;
    }

-- Up to some hint, the bytes are in order.
up_to_row : (number : ℕ) (t : Text) (w : List ℕ) {bytes : List ℕ} {at blocks count end n : ℕ} → Judged bytes at 0 24 count
    → (f : RowsSoFar bytes (at + 1) blocks end n) → take at bytes ≡ to_symbols number t w → take end bytes ≡ to_rows number t w count f.rows
up_to_row number t w {bytes} {at} {blocks} {count} j f read =
    ap (λ i. take i bytes) f.end_is
    ∙ up_to_end (row_bytes f.rows) f.stand (up_to_end (count ∷ []) j.stand read)
    ∙ append_assoc (to_symbols number t w) (count ∷ []) (row_bytes f.rows)

-- These hints are in order.
rowed : {t : Text} {w bytes : List ℕ} {start blocks end n : ℕ} → Worded t w → blocks ≡ length t.blocks → (f : RowsSoFar bytes start blocks end n)
    → n ≤ 24 → Rowed t w f.rows
rowed worded blocks_are f few =
    record {
      worded = worded;
      rows = subst (λ l. AllByRecursion (λ r. InRange l r.0) f.rows) blocks_are f.in_blocks;
      few = omega (arith, f.as_many);
    }

-- The block of a hint is missing, or none.
pub no_row_block : {bytes : List ℕ} {at blocks count end n : ℕ} {e : Fault} → Judged bytes at 0 24 count → RowsSoFar bytes (at + 1) blocks end n
    → n < count → StopsBlock bytes end blocks e → StopsRows bytes at blocks e
no_row_block {bytes} {at} {blocks} {count} {end} j f less stops number t w worded blocks_are read =
    let wants : WantsBlock number (to_rows number t w count f.rows) (length t.blocks) =
    row_block count (rowed worded blocks_are f (omega (arith, j.most))) (omega (arith, f.as_many)) j.most
    in
    stops number (subst (λ (u : List ℕ). WantsBlock number u blocks) (sym (up_to_row number t w j f read)) (rw blocks_are wants))

-- The element of a hint is missing.
pub no_element : {bytes : List ℕ} {at blocks count end n b : ℕ} {e : Fault} → Judged bytes at 0 24 count → RowsSoFar bytes (at + 1) blocks end n
    → n < count → Judged bytes end 1 blocks b → StopsByte bytes (end + 1) e → StopsRows bytes at blocks e
no_element {bytes} {at} {blocks} {count} {end} {n} {b} j f less block stops number t w worded blocks_are read =
    let short : Short number (to_rows number t w count f.rows ++ b ∷ []) =
    at_element count b (rowed worded blocks_are f (omega (arith, j.most))) (omega (arith, f.as_many)) j.most (block.least, rw blocks_are at block.most)
    in
    stops number (subst (λ (u : List ℕ). Short number u) (sym (up_to_end (b ∷ []) block.stand (up_to_row number t w j f read))) short)

-- All are read.
pub rows_read : {bytes : List ℕ} {at blocks count end n : ℕ} → Judged bytes at 0 24 count → RowsSoFar bytes (at + 1) blocks end n → n ≡ count
    → RowsRead bytes at blocks (take (end - (at + 1)) (drop (at + 1) bytes))
rows_read {bytes} {at} {blocks} {count} {end} {n} j f all =
    let size : end - (at + 1) ≡ length (row_bytes f.rows) = omega (arith, f.end_is) in
    let count_is : count ≡ length f.rows = omega (arith, f.as_many) in
    record {
      rows = f.rows;
      part_is = rw size (part_is (row_bytes f.rows) f.stand);
      stand = rw count_is at (stand_more j.stand refl f.stand);
      in_blocks = f.in_blocks;
      few = omega (arith, j.most);
    }
