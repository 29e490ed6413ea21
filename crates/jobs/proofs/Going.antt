-- Each case of the grammar has the computed answer. Below, t is the sheet, w the word, rs and hs the row and column hints.
--     Goes          the bytes u are in order, a sheet and what stands behind it; `next` is what is computed behind them
--     Looks         behind u the computation looks at a byte from low to high, and else refuses it for the reason
--     Answered      a sheet stands in front of the bytes, and what stands behind it comes to a
--     Either        the bytes have a refusal: no sheet stands in front, or what stands behind it comes to the refusal
use Rattle.std.proofs.Common.{◌≡◌, ℕ, suc, ◌+◌, ◌-◌, ◌<◌, ◌≤◌, ◌⊎◌, List, [], ◌∷◌, ◌++◌, length, sum, Ok, Err, sym, refl, ap, ◌∙◌, inl, inr, add-zero, arith}
use Rattle.std.proofs.lemmas.List.{append_assoc, append-nil, length-append}
use Rattle.sheets.specs.declared.faults.Fault.{Fault}
use Rattle.sheets.specs.declared.faults.Reason.{Reason}
use Rattle.sheets.specs.declared.faults.Reason.TheVariants.{MissingByte, ExtraBytes, Limit, OutOfRange}
use Rattle.sheets.specs.Sheets.{Text, spelled, Begins, Broken}
use Rattle.jobs.specs.Jobs.{Job, row_bytes, column_bytes, to_symbols, to_rows, to_columns, job_bytes, Sheeted, Worded, Rowed, Hinted, IsJob, WantsCount, symbol_count, row_count, column_count, WantsBlock, row_block, column_block, Short, at_count, at_symbol, at_block, at_element, at_coefficient, Spells, Refused, no_sheet, missing, count, block, extra}
use Rattle.jobs.proofs.Verdict.{Answer, stop, limited, parted, row, column, hints, ending, column_part, row_part, behind, limited_in, limited_out, parted_in, parted_short, column_short, rows_along, columns_along}

pub record Goes (number : ℕ) (u : List ℕ) (next : ℕ → List ℕ → Answer) : Type 0 where
  pub sheet : Text
  pub begins : Begins number u sheet (length (spelled number sheet))
  pub goes : (total : ℕ) (v : List ℕ) → behind total sheet (begins.rest ++ v) ≡ next total v

pub record Answered (number : ℕ) (bytes : List ℕ) (a : Answer) : Type 0 where
  pub sheet : Text
  pub begins : Begins number bytes sheet (length (spelled number sheet))
  pub comes_to : behind (length bytes) sheet begins.rest ≡ a

-- A sheet in front stays there when more stands behind.
abbrev begins_more : {number end : ℕ} {bytes u : List ℕ} {t : Text} (v : List ℕ) → bytes ≡ u ++ v → Begins number u t end → Begins number bytes t end
begins_more {number} {t = t} v e b = record {
  whole = b.whole;
  rest = b.rest ++ v;
  bytes_are = e ∙ ap (λ (u : List ℕ). u ++ v) b.bytes_are ∙ append_assoc (spelled number t) b.rest v;
  end_is = b.end_is;
}

-- The bytes of a sheet are in order, and all behind it is computed.
start : {number : ℕ} {t : Text} → Sheeted t → Goes number (spelled number t) (λ total. behind total t)
start {number} {t} whole = record {
  sheet = t;
  begins = record { whole = whole; rest = []; bytes_are = sym (append-nil (spelled number t)); end_is = refl };
  goes = λ total v. refl;
}

-- Bytes in order go on by those that the computation passes.
further : {number : ℕ} {u : List ℕ} {next then : ℕ → List ℕ → Answer} (xs : List ℕ) → Goes number u next → ((total : ℕ) (v : List ℕ) → next total (xs ++ v) ≡ then total v) → Goes number (u ++ xs) then
further xs g passed = record {
  sheet = g.sheet;
  begins = begins_more xs refl g.begins;
  goes = λ total v. ap (behind total g.sheet) (append_assoc g.begins.rest xs v) ∙ g.goes total (xs ++ v) ∙ passed total v;
}

-- The answer to what stands behind bytes in order is the answer to all bytes.
ended : {number : ℕ} {bytes u : List ℕ} {next : ℕ → List ℕ → Answer} {a : Answer} (v : List ℕ) → bytes ≡ u ++ v → Goes number u next → next (length bytes) v ≡ a → Answered number bytes a
ended {bytes = bytes} v e g answer = record { sheet = g.sheet; begins = begins_more v e g.begins; comes_to = g.goes (length bytes) v ∙ answer }

-- The place of a byte behind others.
place : (u : List ℕ) (x : ℕ) (v : List ℕ) → length (u ++ x ∷ v) - suc (length v) ≡ length u
place u x v = simp length-append (omega arith)

-- A sheet and a word are passed.
with_word : {number : ℕ} {t : Text} {w : List ℕ} → Worded t w → Goes number (to_symbols number t w) (λ total. row_part total t w)
with_word {t = t} {w} p =
    let n = sum t.blocks in
    further (n ∷ w) (start p.sheet)
    (λ total v.
    limited_in total n n Limit (λ m. parted total n (row_part total t)) n (w ++ v) (omega arith) (omega arith)
    ∙ parted_in total n (row_part total t) w v p.word)

-- So are some of r row hints, and as many more are computed as are left.
with_rows : {number : ℕ} {t : Text} {w : List ℕ} {rs : List (ℕ × ℕ)} (r more : ℕ) → Rowed t w rs → length rs + more ≡ r → r ≤ 24
    → Goes number (to_rows number t w r rs) (λ total. hints (row total t) more rs (column_part total t w))
with_rows {t = t} {w} {rs} r more p e few =
    further (r ∷ row_bytes rs) (with_word p.worded)
    (λ total v.
    limited_in total 0 24 Limit (λ i. hints (row total t) i [] (column_part total t w)) r (row_bytes rs ++ v) (omega arith) few
    ∙ ap (λ i. hints (row total t) i [] (column_part total t w) (row_bytes rs ++ v)) (sym e)
    ∙ rows_along total more t rs (column_part total t w) v p.rows)

-- So are all of them.
with_all_rows : {number : ℕ} {t : Text} {w : List ℕ} {rs : List (ℕ × ℕ)} → Rowed t w rs → Goes number (to_rows number t w (length rs) rs) (λ total. column_part total t w rs)
with_all_rows {rs = rs} p = with_rows (length rs) 0 p (add-zero (length rs)) p.few

-- So are some of c column hints.
with_columns : {number : ℕ} {t : Text} {w : List ℕ} {rs : List (ℕ × ℕ)} {hs : List (ℕ × List ℕ)} (c more : ℕ) → Hinted t w rs hs → length hs + more ≡ c → c ≤ 24
    → Goes number (to_columns number t w rs c hs) (λ total. hints (column total t) more hs (ending total t w rs))
with_columns {t = t} {w} {rs} {hs} c more p e few =
    further (c ∷ column_bytes hs) (with_all_rows p.rowed)
    (λ total v.
    limited_in total 0 24 Limit (λ i. hints (column total t) i [] (ending total t w rs)) c (column_bytes hs ++ v) (omega arith) few
    ∙ ap (λ i. hints (column total t) i [] (ending total t w rs) (column_bytes hs ++ v)) (sym e)
    ∙ columns_along total more t hs (ending total t w rs) v p.columns)

-- So is a job.
with_all : {number : ℕ} {j : Job} → IsJob j → Goes number (job_bytes number j) (λ total. ending total j.sheet j.word j.rows j.columns)
with_all {j = j} p = with_columns (length j.columns) 0 p (add-zero (length j.columns)) p.few

record Looks (number : ℕ) (u : List ℕ) (low high : ℕ) (reason : Reason) : Type 0 where
  next : ℕ → ℕ → List ℕ → Answer
  goes : Goes number u (λ total. limited total low high reason (next total))

-- A count that is wanted is what is looked at.
looks_at_count : {number low high : ℕ} {u : List ℕ} → WantsCount number u low high → Looks number u low high Limit
looks_at_count (symbol_count p) = record { next = _; goes = start p }
looks_at_count (row_count p) = record { next = _; goes = with_word p }
looks_at_count (column_count p) = record { next = _; goes = with_all_rows p }

-- So is a block.
looks_at_block : {number l : ℕ} {u : List ℕ} → WantsBlock number u l → Looks number u 1 l OutOfRange
looks_at_block (row_block {rs = rs} r p less few) = record { next = _; goes = with_rows r (suc (r - suc (length rs))) p (omega arith) few }
looks_at_block (column_block {hs = hs} c p less few) = record { next = _; goes = with_columns c (suc (c - suc (length hs))) p (omega arith) few }

-- Bytes that end where one is looked at are refused.
looks_behind : {number low high : ℕ} {u : List ℕ} {reason : Reason} → Looks number u low high reason → Answered number u (stop MissingByte (length u))
looks_behind {u = u} p = ended [] (sym (append-nil u)) p.goes refl

-- A byte that breaks its limits is refused.
looks_out : {number low high : ℕ} {u : List ℕ} {reason : Reason} (x : ℕ) (v : List ℕ) → Looks number u low high reason → (x < low) ⊎ (high < x) → Answered number (u ++ x ∷ v) (stop reason (length u))
looks_out {low = low} {high} {u} {reason} x v p out =
    let total = length (u ++ x ∷ v) in
    ended (x ∷ v) refl p.goes (limited_out total low high reason (p.next total) x v out ∙ ap (stop reason) (place u x v))

-- Bytes that need more are refused at their end.
of_short : {number : ℕ} {u : List ℕ} → Short number u → Answered number u (stop MissingByte (length u))
of_short (at_count w) = looks_behind (looks_at_count w)
of_short {number} {u} (at_symbol {t} w p less) =
    let n = sum t.blocks in
    let total = length u in
    ended (n ∷ w) refl (start p)
    (limited_in total n n Limit (λ m. parted total n (row_part total t)) n w (omega arith) (omega arith) ∙ parted_short total n (row_part total t) w less)
of_short (at_block w) = looks_behind (looks_at_block w)
of_short {u = u} (at_element {t} {rs = rs} r b p less few inside) =
    let total = length u in
    ended (b ∷ []) refl (with_rows r (suc (r - suc (length rs))) p (omega arith) few)
    (limited_in total 1 (length t.blocks) OutOfRange (λ i v. stop MissingByte total) b [] inside.0 inside.1)
of_short {u = u} (at_coefficient {t} {w} {rs} {hs} c b h p less few inside fewer) =
    let total = length u in
    let more = c - suc (length hs) in
    ended (b ∷ h) refl (with_columns c (suc more) p (omega arith) few)
    (column_short total t (λ i v. hints (column total t) more (hs ++ i ∷ []) (ending total t w rs) v) b h inside fewer)

-- Bytes that are a job have it as the answer.
pub of_spells : {number : ℕ} {bytes : List ℕ} {j : Job} → Spells number bytes j → Answered number bytes (Ok j)
of_spells {number} {bytes} {j} s = ended [] (s.bytes_are ∙ sym (append-nil (job_bytes number j))) (with_all s.job) refl

abbrev pub Either : ℕ → List ℕ → Fault → Type 0
Either number bytes e = Broken number bytes e ⊎ Answered number bytes (Err e)

-- Bytes that are refused have the refusal as the answer, or no sheet in front.
pub of_refused : {number : ℕ} {bytes : List ℕ} {e : Fault} → Refused number bytes e → Either number bytes e
of_refused (no_sheet b) = inl b
of_refused (missing s) = inr (of_short s)
of_refused (count x v w out) = inr (looks_out x v (looks_at_count w) out)
of_refused (block x v w out) = inr (looks_out x v (looks_at_block w) out)
of_refused {number} (extra j x v p) = inr (ended (x ∷ v) refl (with_all p) (ap (stop ExtraBytes) (place (job_bytes number j) x v)))
