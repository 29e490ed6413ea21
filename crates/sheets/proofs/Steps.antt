-- Why each step of the reader answers as it promises.
--     bytes, at      the whole of the bytes, and the place at which a step reads
--     .._missing     the bytes end where a step wants one more
--     .._limit       the byte that is there breaks its limit
--     room           the most that the next length may be
use Rattle.std.proofs.Common.{◌≡◌, ℕ, ◌+◌, ◌-◌, ◌<◌, ◌≤◌, min, ◌≢◌, ◌⊎◌, List, [], ◌∷◌, ◌++◌, length, get_or, take, drop, sum, sym, ap, ◌∙◌, subst, inl, inr, not-suc-le-zero, arith, take-add}
use Rattle.std.proofs.lemmas.List.{take_all, take-append-drop, length-take-le, length-drop, append_assoc, get_or-drop, same_from_push, take_more, drop_more}
use Rattle.std.proofs.ByRecursion.{All-more}
use Rattle.std.proofs.lemmas.List.Sums.{sum_by_more}
use Rattle.sheets.specs.declared.faults.Fault.{Fault}
use Rattle.sheets.specs.declared.faults.Reason.TheVariants.{MissingByte, OtherKind, Limit}
use Rattle.sheets.specs.Faults.{at_sheet}
use Rattle.sheets.specs.Sheets.{Length, Wants, block_length, Short, at_kind, at_dimension, at_wanted, Broken, kind, missing, limit}
use Rattle.sheets.specs.Steps.{Judged, Measured, Counted, Stops, StopsMeasuring, StopsCounting}

-- Another kind number is refused at once.
pub head_other : (number : ℕ) (bytes : List ℕ) → 1 ≤ length bytes → get_or bytes 0 0 ≢ number → Broken number bytes (at_sheet OtherKind 0)
head_other number [] h n = absurd (not-suc-le-zero h)
head_other number (x ∷ v) h n = kind n

-- Nothing is too short, and so is the kind number alone.
pub head_missing : (number : ℕ) (bytes : List ℕ) → (length bytes < 1) ⊎ ((length bytes < 2) × (get_or bytes 0 0 ≡ number)) → Broken number bytes (at_sheet MissingByte (length bytes))
head_missing number [] h = missing at_kind
head_missing number (x ∷ []) (inl h) = let z : ⊥ = omega arith in absurd z
head_missing number (x ∷ []) (inr (h, e)) = rw e (missing at_dimension)
head_missing number (x ∷ (y ∷ v)) (inl h) = let z : ⊥ = omega arith in absurd z
head_missing number (x ∷ (y ∷ v)) (inr (h, e)) = let z : ⊥ = omega arith in absurd z

-- What stands before, at and after a place.
around : (bytes : List ℕ) (at : ℕ) → at < length bytes → take at bytes ++ get_or bytes at 0 ∷ drop (at + 1) bytes ≡ bytes
around bytes at h = ap (λ (r : List ℕ). take at bytes ++ r) (sym (drop_more bytes at 0 h)) ∙ take-append-drop at bytes

-- Bytes that end where a limited one is wanted.
pub stops_missing : (bytes : List ℕ) (at low high : ℕ) → length bytes ≤ at → Stops bytes at low high (at_sheet MissingByte (length bytes))
stops_missing bytes at low high h number w =
    missing (at_wanted (subst (λ (u : List ℕ). Wants number u low high) (take_all at bytes h) w))

-- A byte that breaks its limit.
pub stops_limit : (bytes : List ℕ) (at low high : ℕ) → at < length bytes → (get_or bytes at 0 < low) ⊎ (high < get_or bytes at 0) → Stops bytes at low high (at_sheet Limit at)
stops_limit bytes at low high h out number w =
    let n : length (take at bytes) ≡ at = length-take-le at bytes (omega arith) in
    let b : Broken number (take at bytes ++ get_or bytes at 0 ∷ drop (at + 1) bytes) (at_sheet Limit (length (take at bytes))) = limit (get_or bytes at 0) (drop (at + 1) bytes) w out in
    subst (λ p. Broken number bytes (at_sheet Limit p)) n
    (subst (λ (u : List ℕ). Broken number u (at_sheet Limit (length (take at bytes)))) (around bytes at h) b)

-- A byte that keeps its limit.
pub judged : (bytes : List ℕ) (at low high : ℕ) → at < length bytes → low ≤ get_or bytes at 0 → get_or bytes at 0 ≤ high → Judged bytes at low high (get_or bytes at 0)
judged bytes at low high h l m = record { there = h; read = take_more bytes at 0 h; least = l; most = m }

-- Bytes that end in a section whose count is there.
pub counted_missing : (bytes : List ℕ) (at count x : ℕ) → Judged bytes at count count x → length bytes < at + 1 + count → StopsCounting bytes at count (at_sheet MissingByte (length bytes))
counted_missing bytes at count x j h number w short =
    let e : count ≡ x = omega arith in
    let t : take (at + 1) bytes ≡ take at bytes ++ count ∷ [] = j.read ∙ ap (λ i. take at bytes ++ i ∷ []) (sym e) in
    let s : take at bytes ++ count ∷ drop (at + 1) bytes ≡ bytes =
    sym (append_assoc (take at bytes) (count ∷ []) (drop (at + 1) bytes))
    ∙ ap (λ (r : List ℕ). r ++ drop (at + 1) bytes) (sym t) ∙ take-append-drop (at + 1) bytes
    in
    missing (subst (λ (u : List ℕ). Short number u) s (short (drop (at + 1) bytes) (simp length-drop (omega arith))))

-- A section whose bytes are all there.
pub counted : (bytes : List ℕ) (at count x : ℕ) → Judged bytes at count count x → at + 1 + count ≤ length bytes → Counted bytes at count (take count (drop (at + 1) bytes))
counted bytes at count x j h =
    let e : count ≡ x = omega arith in
    let t : take (at + 1) bytes ≡ take at bytes ++ count ∷ [] = j.read ∙ ap (λ i. take at bytes ++ i ∷ []) (sym e) in
    record {
      there = h;
      read = take-add (at + 1) count bytes
          ∙ ap (λ (r : List ℕ). r ++ take count (drop (at + 1) bytes)) t
          ∙ append_assoc (take at bytes) (count ∷ []) (take count (drop (at + 1) bytes));
      as_many = length-take-le count (drop (at + 1) bytes) (simp length-drop (omega arith));
    }

-- The byte that a limit was held to is the one at its place.
judged_is : {bytes : List ℕ} {at low high x : ℕ} → Judged bytes at low high x → x ≡ get_or bytes at 0
judged_is {bytes} {at} {low} {high} {x} j =
    (same_from_push (take at bytes) (take at bytes) x (get_or bytes at 0) (sym j.read ∙ take_more bytes at 0 j.there)).1

-- One more length keeps its limit, and takes the sum no further than allowed.
pub measured_more : (bytes : List ℕ) (i total x room : ℕ) → room ≡ min 8 (24 - total) → Measured bytes i (take i (drop 3 bytes)) total → Judged bytes (3 + i) 1 room x → Measured bytes (i + 1) (take (i + 1) (drop 3 bytes)) (total + x)
measured_more bytes i total x room r m j =
    let rest = drop 3 bytes in
    let h : i < length rest = simp length-drop (omega (arith, j.there)) in
    let is : get_or rest i 0 ≡ x = get_or-drop 3 bytes i 0 ∙ sym (judged_is j) in
    let grown : sum (take (i + 1) rest) ≡ sum (take i rest) + x = sum_by_more (λ y. y) rest i 0 h ∙ ap (λ y. sum (take i rest) + y) is in
    let most : x ≤ room = j.most in
    record {
      there = omega (arith, j.there);
      read = take-add 3 (i + 1) bytes;
      as_many = length-take-le (i + 1) rest (omega arith);
      lengths = record {
        each = All-more Length rest i 0 h m.lengths.each (rw is (omega (arith, j.least), omega arith));
        total = omega (arith, m.total, m.lengths.total);
      };
      total = omega (arith, m.total);
    }

-- A length that is missing or breaks its limit.
pub measuring_stops : (bytes : List ℕ) (l i total : ℕ) (e : Fault) (room : ℕ) → room ≡ min 8 (24 - total) → Measured bytes i (take i (drop 3 bytes)) total → i < l → Stops bytes (3 + i) 1 room e → StopsMeasuring bytes l e
measuring_stops bytes l i total e room r m h stops number k blocks t =
    let ls = take i (drop 3 bytes) in
    let u : number ∷ k ∷ l ∷ ls ≡ take (3 + i) bytes = ap (λ (r : List ℕ). r ++ ls) (sym t) ∙ sym m.read in
    let w : Wants number (number ∷ k ∷ l ∷ ls) 1 (min 8 (24 - sum ls)) = block_length blocks m.lengths (omega (arith, m.as_many)) in
    stops number
    (subst (λ (v : List ℕ). Wants number v 1 room) u
    (subst (λ n. Wants number (number ∷ k ∷ l ∷ ls) 1 n) (ap (λ n. min 8 (24 - n)) (sym m.total) ∙ sym r) w))
