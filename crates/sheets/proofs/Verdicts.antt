-- The grammar has one answer for every byte string: the answer can be computed, and both relations agree with it.
--
--     Looks, wanted    after some bytes the computation looks at a byte within its limits, and it is the byte that is wanted
--     verdict          what is computed of the front
--     final            the answer where no byte may follow
use Rattle.std.proofs.Common.{◌≡◌, ℕ, suc, ◌+◌, ◌-◌, min, ◌≢◌, List, [], ◌∷◌, ◌++◌, length, sum, sym, refl, ap, ◌∙◌, subst, add-zero, arith}
use Rattle.std.proofs.lemmas.List.{append_assoc, append-nil, length-append}
use Rattle.std.proofs.lemmas.Bool.{eq-eqb, ne_eqb, cond-true, cond-false}
use Rattle.sheets.specs.declared.faults.Fault.{Fault}
use Rattle.sheets.specs.declared.faults.Reason.TheVariants.{MissingByte, ExtraBytes, OtherKind, Limit}
use Rattle.sheets.specs.Sheets.{Text, opening, to_parameters, spelled, Blocks, Lengths, Opens, Wants, block_count, block_length, parameter_count, locator_count, Short, at_kind, at_dimension, at_wanted, at_parameter, at_locator, Broken, kind, missing, limit, dimension, Begins, Spells, Refused, broken, extra}
use Rattle.sheets.proofs.ComputedFronts.{Verdict, closing, counted_in, counted_short, ending, front, limited, limited_in, measured, measured_along, outside, places, sections, spelt, stop, stopped, within}

-- The kind number that is asked for is passed.
front_kind : (number total k : ℕ) (v : List ℕ) → front number total (number ∷ (k ∷ v)) ≡ limited total 1 12 (λ l w. measured total l [] (closing total k) w) v
front_kind number total k v = cond-true _ _ _ (eq-eqb number number refl)

-- Any other is refused.
other_kind : (number total x : ℕ) (v : List ℕ) → x ≢ number → front number total (x ∷ v) ≡ stop OtherKind 0
other_kind number total x [] n = cond-false _ _ _ (ne_eqb x number n)
other_kind number total x (k ∷ v) n = cond-false _ _ _ (ne_eqb x number n)

-- Some lengths are passed, and the rest is wanted.
front_lengths : (number total k count : ℕ) (ls v : List ℕ) → Blocks (length ls + count) → Lengths ls → front number total (number ∷ k ∷ (length ls + count) ∷ (ls ++ v)) ≡ measured total count ls (closing total k) v
front_lengths number total k count ls v b g =
    front_kind number total k ((length ls + count) ∷ (ls ++ v))
    ∙ limited_in total 1 12 (λ l w. measured total l [] (closing total k) w) (length ls + count) (ls ++ v) b.0 b.1
    ∙ measured_along total count [] ls (closing total k) v g.each (omega (arith, g.total))

-- All lengths are passed.
front_measured : (number total k : ℕ) (ls v : List ℕ) → Blocks (length ls) → Lengths ls → front number total (opening number k ls ++ v) ≡ closing total k ls v
front_measured number total k ls v b g =
    let e : length ls + 0 ≡ length ls = add-zero (length ls) in
    subst (λ l. front number total (number ∷ k ∷ l ∷ (ls ++ v)) ≡ closing total k ls v) e
    (front_lengths number total k 0 ls v (rw e b) g)

-- All lengths are passed, and the dimension keeps its limits.
front_opened : (number total k : ℕ) (ls v : List ℕ) → Opens k ls → front number total (opening number k ls ++ v) ≡ sections total k ls v
front_opened number total k ls v o =
    front_measured number total k ls v o.blocks o.lengths ∙ cond-true _ _ _ (within 1 (sum ls) k o.least o.most)

-- All parameters are passed.
front_parameters : (number total k : ℕ) (ls ps v : List ℕ) → Opens k ls → length ps ≡ length ls → front number total (to_parameters number k ls ps ++ v) ≡ places total k ls ps v
front_parameters number total k ls ps v o e =
    ap (λ (r : List ℕ). front number total (number ∷ k ∷ length ls ∷ r)) (append_assoc ls (length ls ∷ ps) v)
    ∙ front_opened number total k ls (length ls ∷ (ps ++ v)) o
    ∙ counted_in total (length ls) (places total k ls) ps v e

-- After the bytes u the computation looks at a byte from low to high.
abbrev Looks : ℕ → ℕ → List ℕ → ℕ → ℕ → Type 0
Looks number total u low high = (next : ℕ → List ℕ → Verdict) × ((v : List ℕ) → front number total (u ++ v) ≡ limited total low high next v)

-- So it does where a length is wanted.
wanted_length : (number total k l count : ℕ) (ls : List ℕ) → Blocks l → Lengths ls → length ls + suc count ≡ l → Looks number total (number ∷ k ∷ l ∷ ls) 1 (min 8 (24 - sum ls))
wanted_length number total k l count ls b g e = (
  λ x w. measured total count (ls ++ x ∷ []) (closing total k) w,
  λ v.
      subst (λ i. front number total (number ∷ k ∷ i ∷ (ls ++ v)) ≡ measured total (suc count) ls (closing total k) v) e
      (front_lengths number total k (suc count) ls v (rw e b) g),
)

-- What is wanted next is what the computation looks at next.
wanted : {number low high : ℕ} {u : List ℕ} → Wants number u low high → (total : ℕ) → Looks number total u low high
wanted {number} (block_count {k}) total = (_, λ v. front_kind number total k v)
wanted {number} (block_length {k} {l} {ls} b g h) total = wanted_length number total k l (l - suc (length ls)) ls b g (omega arith)
wanted {number} (parameter_count {k} {ls} o) total = (_, λ v. front_opened number total k ls v o)
wanted {number} (locator_count {k} {ls} ps o e) total = (_, λ v. front_parameters number total k ls ps v o e)

-- Bytes that need more are refused at their end.
short : {number : ℕ} {u : List ℕ} → Short number u → (total : ℕ) → front number total u ≡ stop MissingByte total
short at_kind total = refl
short {number} at_dimension total = cond-true _ _ _ (eq-eqb number number refl)
short {number} {u} (at_wanted w) total =
    let p = wanted w total in
    ap (λ (r : List ℕ). front number total r) (sym (append-nil u)) ∙ p.1 []
short {number} (at_parameter {k} {ls} ps o h) total =
    front_opened number total k ls (length ls ∷ ps) o ∙ counted_short total (length ls) (places total k ls) ps h
short {number} (at_locator {k} {ls} ps xs o e h) total =
    front_parameters number total k ls ps (sum ls ∷ xs) o e ∙ counted_short total (sum ls) (ending k ls ps) xs h

abbrev verdict : ℕ → List ℕ → Verdict
verdict number bytes = front number (length bytes) bytes

-- A refusal of the front is the one that is computed.
pub of_broken : {number : ℕ} {bytes : List ℕ} {e : Fault} → Broken number bytes e → verdict number bytes ≡ stopped e
of_broken {number} (kind {x} {v} n) = other_kind number (length (x ∷ v)) x v n
of_broken (missing {u} s) = short s (length u)
of_broken {number} (limit {u} {low} {high} x v w out) =
    let total = length (u ++ x ∷ v) in
    let p = wanted w total in
    let n : total ≡ length u + suc (length v) = length-append u (x ∷ v) in
    let place : total - suc (length v) ≡ length u = omega arith in
    p.1 (x ∷ v) ∙ cond-false _ _ _ (outside low high x out) ∙ ap (stop Limit) place
of_broken {number} (dimension k ls v b g out) =
    front_measured number (length (opening number k ls ++ v)) k ls v b g ∙ cond-false _ _ _ (outside 1 (sum ls) k out)

-- A sheet at the front is the one that is computed.
pub of_begins : {number end : ℕ} {bytes : List ℕ} {t : Text} → (b : Begins number bytes t end) → verdict number bytes ≡ spelt t b.rest
of_begins {number} {end} {bytes} {t} b =
    let total = length bytes in
    let k = t.dimension in
    let ls = t.blocks in
    let ps = t.parameters in
    let xs = t.locators in
    let o = b.whole.opens in
    ap (λ (r : List ℕ). front number total r) (b.bytes_are ∙ append_assoc (to_parameters number k ls ps) (sum ls ∷ xs) b.rest)
    ∙ front_parameters number total k ls ps (sum ls ∷ (xs ++ b.rest)) o b.whole.as_many_parameters
    ∙ counted_in total (sum ls) (ending k ls ps) xs b.rest b.whole.as_many_locators

abbrev final : ℕ → Verdict → Verdict
final number (spelt t []) = spelt t []
final number (spelt t (x ∷ v)) = stop ExtraBytes (length (spelled number t))
final number (stopped e) = stopped e

-- A sheet with nothing behind it begins the bytes.
from_spells : {number : ℕ} {bytes : List ℕ} {t : Text} → Spells number bytes t → Begins number bytes t (length (spelled number t))
from_spells {number} {bytes} {t} s =
    record { whole = s.whole; rest = []; bytes_are = s.bytes_are ∙ sym (append-nil (spelled number t)); end_is = refl }

-- Bytes that are a sheet have it as the answer.
pub of_spells : {number : ℕ} {bytes : List ℕ} {t : Text} → Spells number bytes t → final number (verdict number bytes) ≡ spelt t []
unfolding from_spells
of_spells {number} s = ap (final number) (of_begins (from_spells s))

-- Bytes that are refused have the refusal as the answer.
pub of_refused : {number : ℕ} {bytes : List ℕ} {e : Fault} → Refused number bytes e → final number (verdict number bytes) ≡ stopped e
of_refused {number} (broken b) = ap (final number) (of_broken b)
of_refused {number} (extra t x v w) =
    ap (final number)
    (of_begins {number = number} {end = length (spelled number t)} {bytes = spelled number t ++ x ∷ v} {t = t}
    (record { whole = w; rest = x ∷ v; bytes_are = refl; end_is = refl }))
