-- From the steps of the reader to the grammar.
--     t, w, rs, hs               the sheet, the word, the row hints and the column hints that were read
--     UpTo                       the bytes up to a place are u
--     WordTo, RowsTo, JobTo      they are in order, up to the end of the word, of the row hints and of the job
use Rattle.std.proofs.Common.{◌≡◌, ℕ, ◌+◌, ◌<◌, ◌≤◌, List, [], ◌∷◌, ◌++◌, length, get_or, take, sum, sym, ap, ◌∙◌, subst, arith}
use Rattle.std.proofs.lemmas.List.{take_all, take_more, length-take-le, length-append}
use Rattle.std.proofs.Math.Seq.{take-append_seam}
use Rattle.std.specs.List.{AllByRecursion}
use Rattle.sheets.specs.declared.faults.Fault.{Fault}
use Rattle.sheets.specs.declared.faults.Reason.TheVariants.{ExtraBytes}
use Rattle.sheets.specs.Sheets.{Text, spelled, Begins}
use Rattle.jobs.specs.Jobs.{Job, at_job, row_bytes, column_bytes, to_symbols, to_rows, job_bytes, Worded, Rowed, IsJob, Spells, Refused, extra}
use Rattle.jobs.specs.Steps.{Stand, InRange, OnBlock, WordRead, RowsRead, ColumnsRead, StopsWord, StopsRows, StopsColumns}
use Rattle.jobs.proofs.Steps.{up_to_end, stops_at}

pub record UpTo (bytes : List ℕ) (at : ℕ) (u : List ℕ) : Type 0 where
  pub there : at ≤ length bytes
  pub read : take at bytes ≡ u

pub record WordTo (number : ℕ) (bytes : List ℕ) (t : Text) (w : List ℕ) (at : ℕ) : Type 0 where
  pub worded : Worded t w
  pub up_to : UpTo bytes at (to_symbols number t w)

pub record RowsTo (number : ℕ) (bytes : List ℕ) (t : Text) (w : List ℕ) (rs : List (ℕ × ℕ)) (at : ℕ) : Type 0 where
  pub rowed : Rowed t w rs
  pub up_to : UpTo bytes at (to_rows number t w (length rs) rs)

pub record JobTo (number : ℕ) (bytes : List ℕ) (j : Job) (at : ℕ) : Type 0 where
  pub is_job : IsJob j
  pub up_to : UpTo bytes at (job_bytes number j)

-- The place up to which bytes are read is how many they are.
pub place : {bytes u : List ℕ} {at : ℕ} → UpTo bytes at u → at ≡ length u
place {bytes} {u} {at} p = sym (length-take-le at bytes p.there) ∙ ap length p.read

-- A section stands behind the bytes so far: its count and its bytes.
section : {bytes u : List ℕ} {at count : ℕ} (xs : List ℕ) → UpTo bytes at u → Stand bytes at (count ∷ xs) → UpTo bytes (at + 1 + length xs) (u ++ count ∷ xs)
section {bytes} {u} {at} {count} xs p s =
    let end : at + 1 + length xs ≡ at + length (count ∷ xs) = omega arith in
    record { there = omega (arith, s.there); read = ap (λ i. take i bytes) end ∙ up_to_end (count ∷ xs) s p.read }

-- The sheet stands up to its end.
pub sheet_to : {number end : ℕ} {bytes : List ℕ} {t : Text} → Begins number bytes t end → UpTo bytes end (spelled number t)
sheet_to {number} {end} {bytes} {t} b =
    record {
      there = omega (arith, b.end_is, ap length b.bytes_are ∙ length-append (spelled number t) b.rest);
      read = rw (b.bytes_are, b.end_is) (take-append_seam (spelled number t) b.rest);
    }

-- No word follows the sheet.
pub word_stops : {number at n : ℕ} {bytes : List ℕ} {t : Text} {e : Fault} → Begins number bytes t at → n ≡ length t.locators → StopsWord bytes at n e
    → Refused number bytes e
word_stops {number} {at} {n} {bytes} {t} b n_is stops = stops number t b.whole (n_is ∙ b.whole.as_many_locators) (sheet_to b).read

-- A word follows it.
pub word_to : {number at n : ℕ} {bytes w : List ℕ} {t : Text} → Begins number bytes t at → n ≡ length t.locators → WordRead bytes at n w
    → WordTo number bytes t w (at + 1 + length w)
word_to {number} {at} {n} {bytes} {w} {t} b n_is r =
    let total : n ≡ sum t.blocks = n_is ∙ b.whole.as_many_locators in
    record {
      worded = record { sheet = b.whole; word = r.as_many ∙ total };
      up_to = section w (sheet_to b) (rw total at r.stand);
    }

-- No row hints follow the word.
pub rows_stop : {number at blocks : ℕ} {bytes w : List ℕ} {t : Text} {e : Fault} → WordTo number bytes t w at → blocks ≡ length t.blocks
    → StopsRows bytes at blocks e → Refused number bytes e
rows_stop {number} {at} {blocks} {bytes} {w} {t} p blocks_are stops = stops number t w p.worded blocks_are p.up_to.read

-- Row hints follow it.
pub rows_to : {number at blocks : ℕ} {bytes w part : List ℕ} {t : Text} → WordTo number bytes t w at → blocks ≡ length t.blocks
    → (r : RowsRead bytes at blocks part) → RowsTo number bytes t w r.rows (at + 1 + length part)
rows_to {number} {at} {blocks} {bytes} {w} {part} {t} p blocks_are r =
    record {
      rowed = record { worded = p.worded; rows = subst (λ l. AllByRecursion (λ h. InRange l h.0) r.rows) blocks_are r.in_blocks; few = r.few };
      up_to = rw r.part_is (section (row_bytes r.rows) p.up_to r.stand);
    }

-- No column hints follow the row hints.
pub columns_stop : {number at : ℕ} {bytes w lengths : List ℕ} {rs : List (ℕ × ℕ)} {t : Text} {e : Fault} → RowsTo number bytes t w rs at
    → lengths ≡ t.blocks → StopsColumns bytes at lengths e → Refused number bytes e
columns_stop {number} {at} {bytes} {w} {lengths} {rs} {t} p lengths_are stops = stops number t w rs p.rowed lengths_are p.up_to.read

-- Column hints follow them.
pub columns_to : {number at : ℕ} {bytes w lengths part : List ℕ} {rs : List (ℕ × ℕ)} {t : Text} → RowsTo number bytes t w rs at → lengths ≡ t.blocks
    → (r : ColumnsRead bytes at lengths part)
    → JobTo number bytes (record { sheet = t; word = w; rows = rs; columns = r.columns }) (at + 1 + length part)
columns_to {number} {at} {bytes} {w} {lengths} {part} {rs} {t} p lengths_are r =
    record {
      is_job = record { rowed = p.rowed; columns = subst (λ (ls : List ℕ). AllByRecursion (OnBlock ls) r.columns) lengths_are r.on_blocks; few = r.few };
      up_to = rw r.part_is (section (column_bytes r.columns) p.up_to r.stand);
    }

-- No byte follows the job.
pub spells : {number end : ℕ} {bytes : List ℕ} {j : Job} → JobTo number bytes j end → length bytes ≤ end → Spells number bytes j
spells {number} {end} {bytes} p h = record { job = p.is_job; bytes_are = sym (take_all end bytes h) ∙ p.up_to.read }

-- Some byte follows the job.
pub extra_stops : {number end : ℕ} {bytes : List ℕ} {j : Job} → JobTo number bytes j end → end < length bytes → Refused number bytes (at_job ExtraBytes end)
extra_stops {number} {end} {bytes} {j} p h =
    let x = get_or bytes end 0 in
    let s : Stand bytes end (x ∷ []) = record { there = omega arith; read = take_more bytes end 0 h } in
    stops_at (λ (u : List ℕ) i. Refused number u (at_job ExtraBytes i)) s
    (λ v. subst (λ (u : List ℕ). Refused number (u ++ x ∷ v) (at_job ExtraBytes (length u))) (sym p.up_to.read) (extra j x v p.is_job))
