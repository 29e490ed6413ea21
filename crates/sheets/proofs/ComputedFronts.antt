-- What a byte string begins with can be computed: a sheet and the bytes behind it, or a refusal. Bytes within their limits are passed.
--
--     Verdict, spelt, stopped    a sheet with the bytes behind it, or a refusal of the front
--     limited, counted           one byte from low to high; a count and as many bytes; `next` goes on from there
--     measured, closing, front   the lengths; the dimension and all behind it; all
--     sections, places, ending   parameters and locators; locators; what is then spelt
--     total                      how many bytes there are
use Rattle.std.proofs.Common.{◌≡◌, ℕ, zero, suc, ◌+◌, ◌-◌, ◌<◌, ◌≤◌, min, true, false, cond, ◌&&◌, eqb, leb, ◌⊎◌, List, [], ◌∷◌, ◌++◌, length, take, drop, sum, ap, ◌∙◌, inl, inr, suc-add, zero-add, arith}
use Rattle.std.specs.List.{AllByRecursion}
use Rattle.std.proofs.lemmas.List.{append_assoc, append-nil, length-append, take_at, drop_at}
use Rattle.std.proofs.lemmas.List.Sums.{sum_by-cons, sum_by_push}
use Rattle.std.proofs.lemmas.Bool.{le-leb, lt-leb, and_from, and_left, and_right, cond-true, cond-false}
use Rattle.sheets.specs.declared.faults.Fault.{Fault}
use Rattle.sheets.specs.declared.faults.Reason.{Reason}
use Rattle.sheets.specs.declared.faults.Reason.TheVariants.{MissingByte, OtherKind, Limit}
use Rattle.sheets.specs.Faults.{at_sheet}
use Rattle.sheets.specs.Sheets.{Text, Length}

pub data Verdict : Type 0 where
  spelt : Text → List ℕ → Verdict
  stopped : Fault → Verdict

abbrev pub stop : Reason → ℕ → Verdict
stop reason place = stopped (at_sheet reason place)

abbrev pub limited : (total low high : ℕ) → (ℕ → List ℕ → Verdict) → List ℕ → Verdict
limited total low high next [] = stop MissingByte total
limited total low high next (x ∷ v) = cond (leb low x && leb x high) (next x v) (stop Limit (total - suc (length v)))

abbrev counted : (total count : ℕ) → (List ℕ → List ℕ → Verdict) → List ℕ → Verdict
counted total count next = limited total count count (λ x v. cond (leb count (length v)) (next (take count v) (drop count v)) (stop MissingByte total))

abbrev pub measured : (total count : ℕ) → List ℕ → (List ℕ → List ℕ → Verdict) → List ℕ → Verdict
measured total zero ls next v = next ls v
measured total (suc count) ls next v = limited total 1 (min 8 (24 - sum ls)) (λ x w. measured total count (ls ++ x ∷ []) next w) v

abbrev pub ending : ℕ → (ls ps xs v : List ℕ) → Verdict
ending k ls ps xs v = spelt (record { dimension = k; blocks = ls; parameters = ps; locators = xs }) v

abbrev pub places : (total k : ℕ) → (ls ps v : List ℕ) → Verdict
places total k ls ps v = counted total (sum ls) (ending k ls ps) v

abbrev pub sections : (total k : ℕ) → (ls v : List ℕ) → Verdict
sections total k ls v = counted total (length ls) (places total k ls) v

abbrev pub closing : (total k : ℕ) → List ℕ → List ℕ → Verdict
closing total k ls v = cond (leb 1 k && leb k (sum ls)) (sections total k ls v) (stop Limit 1)

abbrev pub front : (number total : ℕ) → List ℕ → Verdict
front number total [] = stop MissingByte total
front number total (x ∷ []) = cond (eqb x number) (stop MissingByte total) (stop OtherKind 0)
front number total (x ∷ (k ∷ v)) =
    cond (eqb x number) (limited total 1 12 (λ l w. measured total l [] (closing total k) w) v) (stop OtherKind 0)

-- A number within its limits passes the test.
pub within : (low high x : ℕ) → low ≤ x → x ≤ high → (leb low x && leb x high) ≡ true
within low high x l h = and_from _ _ (le-leb low x l) (le-leb x high h)

-- One outside does not.
pub outside : (low high x : ℕ) → (x < low) ⊎ (high < x) → (leb low x && leb x high) ≡ false
outside low high x (inl h) = and_left _ _ (lt-leb low x h)
outside low high x (inr h) = and_right _ _ (lt-leb x high h)

-- A byte within its limits is passed.
pub limited_in : (total low high : ℕ) (next : ℕ → List ℕ → Verdict) (x : ℕ) (v : List ℕ) → low ≤ x → x ≤ high → limited total low high next (x ∷ v) ≡ next x v
limited_in total low high next x v l h = cond-true _ _ _ (within low high x l h)

-- Lengths within their limits are passed.
pub measured_along : (total count : ℕ) (ls ms : List ℕ) (next : List ℕ → List ℕ → Verdict) (v : List ℕ) → AllByRecursion Length ms → sum ls + sum ms ≤ 24 → measured total (length ms + count) ls next (ms ++ v) ≡ measured total count (ls ++ ms) next v
measured_along total count ls [] next v a h = rw (zero-add, append-nil)
measured_along total count ls (x ∷ ms) next v (a, others) h =
    let s : sum (x ∷ ms) ≡ x + sum ms = sum_by-cons (λ y. y) x ms in
    let p : sum (ls ++ x ∷ []) ≡ sum ls + x = sum_by_push (λ y. y) ls x in
    let more : x ≤ min 8 (24 - sum ls) = omega arith in
    let least : 1 ≤ x = a.0 in
    let again = measured_along total count (ls ++ x ∷ []) ms next v others (omega arith) in
    rw suc-add
    (limited_in total 1 (min 8 (24 - sum ls)) (λ y w. measured total (length ms + count) (ls ++ y ∷ []) next w) x (ms ++ v) least more
    ∙ again ∙ ap (λ (r : List ℕ). measured total count r next v) (append_assoc ls (x ∷ []) ms))

-- A section that is all there is passed.
pub counted_in : (total count : ℕ) (next : List ℕ → List ℕ → Verdict) (xs v : List ℕ) → length xs ≡ count → counted total count next (count ∷ (xs ++ v)) ≡ next xs v
counted_in total count next xs v e =
    let h : count ≤ length (xs ++ v) = simp length-append (omega arith) in
    let low : count ≤ count = omega arith in
    limited_in total count count (λ x w. cond (leb count (length w)) (next (take count w) (drop count w)) (stop MissingByte total)) count (xs ++ v) low low
    ∙ cond-true _ _ _ (le-leb count (length (xs ++ v)) h)
    ∙ ap (λ (r : List ℕ). next r (drop count (xs ++ v))) (take_at xs v count e)
    ∙ ap (λ (r : List ℕ). next xs r) (drop_at xs v count e)

-- A section that runs out is refused.
pub counted_short : (total count : ℕ) (next : List ℕ → List ℕ → Verdict) (xs : List ℕ) → length xs < count → counted total count next (count ∷ xs) ≡ stop MissingByte total
counted_short total count next xs h =
    let low : count ≤ count = omega arith in
    limited_in total count count (λ x w. cond (leb count (length w)) (next (take count w) (drop count w)) (stop MissingByte total)) count xs low low
    ∙ cond-false _ _ _ (lt-leb count (length xs) h)
