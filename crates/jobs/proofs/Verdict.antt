-- What the bytes behind a sheet come to, computed.
--     Answer, stop            the job or the refusal; a refusal
--     limited, one, parted    a byte from low to high; any byte; as many bytes. `next` goes on from there
--     row, column, hints      a row hint; a column hint; as many hints behind those that are there
--     behind                  all that stands behind the sheet t
--     row_part, column_part   and behind its word w; and behind the row hints rs
--     ending                  and behind the column hints hs, where nothing may stand
--     total                   how many bytes there are, those of the sheet too
use Rattle.std.proofs.Common.{◌≡◌, ℕ, zero, suc, ◌+◌, ◌-◌, ◌<◌, ◌≤◌, cond, ◌&&◌, leb, ◌⊎◌, List, [], ◌∷◌, ◌++◌, length, take, drop, sum, slice_index, Result, Ok, Err, refl, ap, ◌∙◌, inl, inr, suc-add, zero-add, arith}
use Rattle.std.specs.List.{AllByRecursion}
use Rattle.std.proofs.lemmas.List.{append_assoc, append-nil, length-append, take_at, drop_at}
use Rattle.std.proofs.lemmas.Bool.{le-leb, lt-leb, and_from, and_left, and_right, cond-true, cond-false}
use Rattle.sheets.specs.declared.faults.Fault.{Fault}
use Rattle.sheets.specs.declared.faults.Reason.{Reason}
use Rattle.sheets.specs.declared.faults.Reason.TheVariants.{MissingByte, ExtraBytes, Limit, OutOfRange}
use Rattle.sheets.specs.Sheets.{Text}
use Rattle.jobs.specs.Jobs.{Job, at_job, row_bytes, column_bytes, InBlocks, ColumnOf}

abbrev pub Answer : Type 0
Answer = Result Job Fault

abbrev pub stop : Reason → ℕ → Answer
stop reason place = Err (at_job reason place)

abbrev pub limited : (total low high : ℕ) → Reason → (ℕ → List ℕ → Answer) → List ℕ → Answer
limited total low high reason next [] = stop MissingByte total
limited total low high reason next (x ∷ v) = cond (leb low x && leb x high) (next x v) (stop reason (total - suc (length v)))

abbrev one : ℕ → (ℕ → List ℕ → Answer) → List ℕ → Answer
one total next [] = stop MissingByte total
one total next (x ∷ v) = next x v

abbrev pub parted : (total count : ℕ) → (List ℕ → List ℕ → Answer) → List ℕ → Answer
parted total count next v = cond (leb count (length v)) (next (take count v) (drop count v)) (stop MissingByte total)

abbrev pub row : ℕ → Text → (ℕ × ℕ → List ℕ → Answer) → List ℕ → Answer
row total t next = limited total 1 (length t.blocks) OutOfRange (λ b. one total (λ x. next (b, x)))

abbrev pub column : ℕ → Text → (ℕ × List ℕ → List ℕ → Answer) → List ℕ → Answer
column total t next = limited total 1 (length t.blocks) OutOfRange (λ b. parted total (slice_index t.blocks (b - 1)) (λ xs. next (b, xs)))

abbrev pub hints : {H : Type 0} → ((H → List ℕ → Answer) → List ℕ → Answer) → ℕ → List H → (List H → List ℕ → Answer) → List ℕ → Answer
hints hint zero hs next v = next hs v
hints hint (suc count) hs next v = hint (λ h w. hints hint count (hs ++ h ∷ []) next w) v

abbrev pub ending : ℕ → Text → List ℕ → List (ℕ × ℕ) → List (ℕ × List ℕ) → List ℕ → Answer
ending total t w rs hs [] = Ok (record { sheet = t; word = w; rows = rs; columns = hs })
ending total t w rs hs (x ∷ v) = stop ExtraBytes (total - suc (length v))

abbrev pub column_part : ℕ → Text → List ℕ → List (ℕ × ℕ) → List ℕ → Answer
column_part total t w rs = limited total 0 24 Limit (λ c. hints (column total t) c [] (ending total t w rs))

abbrev pub row_part : ℕ → Text → List ℕ → List ℕ → Answer
row_part total t w = limited total 0 24 Limit (λ r. hints (row total t) r [] (column_part total t w))

abbrev pub behind : ℕ → Text → List ℕ → Answer
behind total t = limited total (sum t.blocks) (sum t.blocks) Limit (λ n. parted total (sum t.blocks) (row_part total t))

-- A byte within its limits is passed.
pub limited_in : (total low high : ℕ) (reason : Reason) (next : ℕ → List ℕ → Answer) (x : ℕ) (v : List ℕ) → low ≤ x → x ≤ high → limited total low high reason next (x ∷ v) ≡ next x v
limited_in total low high reason next x v l h = cond-true _ _ _ (and_from _ _ (le-leb low x l) (le-leb x high h))

-- Any other is refused at its place.
pub limited_out : (total low high : ℕ) (reason : Reason) (next : ℕ → List ℕ → Answer) (x : ℕ) (v : List ℕ) → (x < low) ⊎ (high < x) → limited total low high reason next (x ∷ v) ≡ stop reason (total - suc (length v))
limited_out total low high reason next x v (inl l) = cond-false _ _ _ (and_left _ _ (lt-leb low x l))
limited_out total low high reason next x v (inr h) = cond-false _ _ _ (and_right _ _ (lt-leb x high h))

-- A part that is all there is passed.
pub parted_in : (total count : ℕ) (next : List ℕ → List ℕ → Answer) (xs v : List ℕ) → length xs ≡ count → parted total count next (xs ++ v) ≡ next xs v
parted_in total count next xs v e =
    let h : count ≤ length (xs ++ v) = simp length-append (omega arith) in
    cond-true _ _ _ (le-leb count (length (xs ++ v)) h)
    ∙ ap (λ (r : List ℕ). next r (drop count (xs ++ v))) (take_at xs v count e)
    ∙ ap (λ (r : List ℕ). next xs r) (drop_at xs v count e)

-- A part that runs out is refused.
pub parted_short : (total count : ℕ) (next : List ℕ → List ℕ → Answer) (xs : List ℕ) → length xs < count → parted total count next xs ≡ stop MissingByte total
parted_short total count next xs h = cond-false _ _ _ (lt-leb count (length xs) h)

-- A column hint that runs out is refused.
pub column_short : (total : ℕ) (t : Text) (next : ℕ × List ℕ → List ℕ → Answer) (b : ℕ) (xs : List ℕ) → InBlocks t b → length xs < slice_index t.blocks (b - 1) → column total t next (b ∷ xs) ≡ stop MissingByte total
column_short total t next b xs inside fewer =
    limited_in total 1 (length t.blocks) OutOfRange (λ i. parted total (slice_index t.blocks (i - 1)) (λ ys. next (i, ys))) b xs inside.0 inside.1
    ∙ parted_short total (slice_index t.blocks (b - 1)) (λ ys. next (b, ys)) xs fewer

-- Hints in order are passed, where each is.
hints_along : {H : Type 0} (hint : (H → List ℕ → Answer) → List ℕ → Answer) (bytes_of : List H → List ℕ) (Fits : H → Type 0) → bytes_of [] ≡ []
    → ((h : H) (hs : List H) (next : H → List ℕ → Answer) (v : List ℕ) → Fits h → hint next (bytes_of (h ∷ hs) ++ v) ≡ next h (bytes_of hs ++ v))
    → (count : ℕ) (before hs : List H) (next : List H → List ℕ → Answer) (v : List ℕ) → AllByRecursion Fits hs
    → hints hint (length hs + count) before next (bytes_of hs ++ v) ≡ hints hint count (before ++ hs) next v
hints_along hint bytes_of Fits none passed count before [] next v all = rw (none, zero-add, append-nil)
hints_along hint bytes_of Fits none passed count before (h ∷ hs) next v (fits, others) =
    rw suc-add
    (passed h hs (λ i w. hints hint (length hs + count) (before ++ i ∷ []) next w) v fits
    ∙ hints_along hint bytes_of Fits none passed count (before ++ h ∷ []) hs next v others
    ∙ ap (λ is. hints hint count is next v) (append_assoc before (h ∷ []) hs))

-- Row hints in order are passed.
pub rows_along : (total count : ℕ) (t : Text) (rs : List (ℕ × ℕ)) (next : List (ℕ × ℕ) → List ℕ → Answer) (v : List ℕ) → AllByRecursion (λ r. InBlocks t r.0) rs → hints (row total t) (length rs + count) [] next (row_bytes rs ++ v) ≡ hints (row total t) count rs next v
rows_along total count t rs next v all =
    hints_along (row total t) row_bytes (λ r. InBlocks t r.0) refl
    (λ r rs next v fits. limited_in total 1 (length t.blocks) OutOfRange (λ b. one total (λ x. next (b, x))) r.0 (r.1 ∷ (row_bytes rs ++ v)) fits.0 fits.1)
    count [] rs next v all

-- Column hints in order are passed.
pub columns_along : (total count : ℕ) (t : Text) (hs : List (ℕ × List ℕ)) (next : List (ℕ × List ℕ) → List ℕ → Answer) (v : List ℕ) → AllByRecursion (ColumnOf t) hs → hints (column total t) (length hs + count) [] next (column_bytes hs ++ v) ≡ hints (column total t) count hs next v
columns_along total count t hs next v all =
    hints_along (column total t) column_bytes (ColumnOf t) refl
    (λ h hs next v fits.
    let size = slice_index t.blocks (h.0 - 1) in
    ap (λ (u : List ℕ). column total t next (h.0 ∷ u)) (append_assoc h.1 (column_bytes hs) v)
    ∙ limited_in total 1 (length t.blocks) OutOfRange (λ b. parted total (slice_index t.blocks (b - 1)) (λ xs. next (b, xs))) h.0 (h.1 ++ (column_bytes hs ++ v)) fits.0.0 fits.0.1
    ∙ parted_in total size (λ xs. next (h.0, xs)) h.1 (column_bytes hs ++ v) fits.1)
    count [] hs next v all
