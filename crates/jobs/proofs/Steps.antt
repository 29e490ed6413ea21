-- Why each step of the reader answers as it promises.
--     bytes, at      the whole of the bytes, and the place at which a step reads
--     .._missing     the bytes end where a step wants one more
--     .._breaks      the byte that is there breaks its limit
use Rattle.std.proofs.Common.{◌≡◌, ℕ, ◌+◌, ◌-◌, ◌<◌, ◌≤◌, ◌⊎◌, List, [], ◌∷◌, ◌++◌, length, take, drop, sym, ap, ◌∙◌, subst, arith, take-add}
use Rattle.std.proofs.lemmas.List.{take_all, take-append-drop, length-take-le, length-drop, append_assoc, length-append, drop-take}
use Rattle.std.proofs.Math.Seq.{drop-append_seam}
use Rattle.sheets.specs.declared.faults.Fault.{Fault}
use Rattle.sheets.specs.declared.faults.Reason.TheVariants.{MissingByte, Limit, OutOfRange}
use Rattle.jobs.specs.Jobs.{at_job, Short, at_count, at_block, Refused, missing, count, block}
use Rattle.jobs.specs.Steps.{Stand, PartRead, StopsByte, StopsCount, StopsBlock, StopsPart}

-- Bytes that stand behind others stand with them.
pub stand_more : {bytes : List ℕ} {at end : ℕ} {xs ys : List ℕ} → Stand bytes at xs → end ≡ at + length xs → Stand bytes end ys → Stand bytes at (xs ++ ys)
stand_more {bytes} {at} {end} {xs} {ys} s e r =
    let place : at + length (xs ++ ys) ≡ end + length ys = omega (arith, length-append xs ys) in
    record {
      there = omega (arith, r.there, place);
      read = ap (λ i. take i bytes) place ∙ r.read ∙ ap (λ (u : List ℕ). u ++ ys) (ap (λ i. take i bytes) e ∙ s.read) ∙ append_assoc (take at bytes) xs ys;
    }

-- Bytes that stand behind known ones are known with them.
pub up_to_end : {bytes u : List ℕ} {at : ℕ} (xs : List ℕ) → Stand bytes at xs → take at bytes ≡ u → take (at + length xs) bytes ≡ u ++ xs
up_to_end xs s e = s.read ∙ ap (λ (v : List ℕ). v ++ xs) e

-- The bytes that stand at a place are those of the part that begins there.
pub part_is : {bytes : List ℕ} {at : ℕ} (xs : List ℕ) → Stand bytes at xs → take (length xs) (drop at bytes) ≡ xs
part_is {bytes} {at} xs s =
    let n : length (take at bytes) ≡ at = length-take-le at bytes (omega (arith, s.there)) in
    sym (drop-take at (length xs) bytes)
    ∙ ap (λ (u : List ℕ). drop at u) s.read
    ∙ ap (λ i. drop i (take at bytes ++ xs)) (sym n)
    ∙ drop-append_seam (take at bytes) xs

-- A part stands where as many bytes are there.
pub part_stands : (bytes : List ℕ) (at n : ℕ) → at + n ≤ length bytes → PartRead bytes at n (take n (drop at bytes))
part_stands bytes at n h =
    let rest = drop at bytes in
    let as_many : length (take n rest) ≡ n = length-take-le n rest (simp length-drop (omega arith)) in
    record {
      stand = record { there = omega (arith, as_many); read = ap (λ i. take (at + i) bytes) as_many ∙ take-add at n bytes };
      as_many = as_many;
    }

-- The bytes end where one more is wanted.
pub byte_missing : (bytes : List ℕ) (at : ℕ) → length bytes ≤ at → StopsByte bytes at (at_job MissingByte (length bytes))
byte_missing bytes at h number s = missing (subst (λ (u : List ℕ). Short number u) (take_all at bytes h) s)

-- The bytes end in a part.
pub part_missing : (bytes : List ℕ) (at n : ℕ) → length bytes - at < n → StopsPart bytes at n (at_job MissingByte (length bytes))
part_missing bytes at n less number short =
    missing (subst (λ (u : List ℕ). Short number u) (take-append-drop at bytes) (short (drop at bytes) (simp length-drop (omega arith))))

-- What is refused of the bytes up to a place, the byte there and any others is refused of all the bytes.
pub stops_at : {bytes : List ℕ} {at x : ℕ} (Stops : List ℕ → ℕ → Type 0) → Stand bytes at (x ∷ [])
    → ((v : List ℕ) → Stops (take at bytes ++ x ∷ v) (length (take at bytes))) → Stops bytes at
stops_at {bytes} {at} {x} Stops s all =
    let v = drop (at + 1) bytes in
    let whole : take at bytes ++ x ∷ v ≡ bytes =
    sym (append_assoc (take at bytes) (x ∷ []) v) ∙ ap (λ (u : List ℕ). u ++ v) (sym s.read) ∙ take-append-drop (at + 1) bytes
    in
    subst (λ (u : List ℕ). Stops u at) whole
    (subst (λ i. Stops (take at bytes ++ x ∷ v) i) (length-take-le at bytes (omega (arith, s.there))) (all v))

-- A count breaks its limit.
pub count_breaks : (bytes : List ℕ) (at low high x : ℕ) → Stand bytes at (x ∷ []) → (x < low) ⊎ (high < x) → StopsCount bytes at low high (at_job Limit at)
count_breaks bytes at low high x s out number w =
    stops_at (λ (u : List ℕ) i. Refused number u (at_job Limit i)) s (λ v. count x v w out)

-- No block has the number.
pub block_breaks : (bytes : List ℕ) (at blocks x : ℕ) → Stand bytes at (x ∷ []) → (x < 1) ⊎ (blocks < x) → StopsBlock bytes at blocks (at_job OutOfRange at)
block_breaks bytes at blocks x s out number w =
    stops_at (λ (u : List ℕ) i. Refused number u (at_job OutOfRange i)) s (λ v. block x v w out)

-- A count is not there.
pub no_count : (bytes : List ℕ) (at low high : ℕ) (e : Fault) → StopsByte bytes at e → StopsCount bytes at low high e
no_count bytes at low high e s number w = s number (at_count w)

-- The number of a block is not there.
pub no_block : (bytes : List ℕ) (at blocks : ℕ) (e : Fault) → StopsByte bytes at e → StopsBlock bytes at blocks e
no_block bytes at blocks e s number w = s number (at_block w)
