-- From the steps of the reader to the grammar.
--     k, l, n        dimension, number of blocks, sum of their lengths
--     ls, ps, xs     lengths, parameters, locators
--     Opened         the first bytes are read, up to the last length, and keep their limits
use Rattle.std.proofs.Common.{◌≡◌, ℕ, ◌+◌, ◌<◌, ◌≤◌, ◌⊎◌, List, [], ◌∷◌, ◌++◌, length, take, drop, sum, sym, ap, ◌∙◌, subst, not-suc-le-zero, arith}
use Rattle.std.proofs.lemmas.List.{take-append-drop, length-take-le, length-append, append-nil, nil_from_length}
use Rattle.sheets.specs.declared.faults.Fault.{Fault}
use Rattle.sheets.specs.declared.faults.Reason.TheVariants.{ExtraBytes, Limit}
use Rattle.sheets.specs.Faults.{at_sheet}
use Rattle.sheets.specs.Sheets.{Text, opening, to_parameters, to_locators, Opens, Wants, block_count, parameter_count, locator_count, Short, at_parameter, at_locator, Broken, dimension, Begins, Spells, spelled, Refused, extra}
use Rattle.sheets.specs.Steps.{Headed, Judged, Measured, Counted, Stops, StopsMeasuring, StopsCounting}

-- The number of blocks is missing or breaks its limit.
pub blocks_stop : {number k : ℕ} {bytes : List ℕ} {e : Fault} → Headed bytes number k → Stops bytes 2 1 12 e → Broken number bytes e
blocks_stop {number} {k} {bytes} {e} h stops =
    stops number (subst (λ (u : List ℕ). Wants number u 1 12) (sym h.read) block_count)

-- Kind number, dimension and number of blocks.
three : {number k l : ℕ} {bytes : List ℕ} → Headed bytes number k → Judged bytes 2 1 12 l → take 3 bytes ≡ number ∷ k ∷ l ∷ []
three {number} {k} {l} h j = j.read ∙ ap (λ (u : List ℕ). u ++ l ∷ []) h.read

-- A length is missing or breaks its limit.
pub lengths_stop : {number k l : ℕ} {bytes : List ℕ} {e : Fault} → Headed bytes number k → Judged bytes 2 1 12 l → StopsMeasuring bytes l e → Broken number bytes e
lengths_stop {number} {k} h j stops = stops number k (j.least, j.most) (three h j)

-- All bytes up to the last length.
up_to_lengths : {number k l n : ℕ} {bytes ls : List ℕ} → Headed bytes number k → Judged bytes 2 1 12 l → Measured bytes l ls n → take (3 + l) bytes ≡ opening number k ls
up_to_lengths {number} {k} {l} {n} {bytes} {ls} h j m =
    m.read ∙ ap (λ (u : List ℕ). u ++ ls) (three h j) ∙ ap (λ i. number ∷ k ∷ i ∷ ls) (sym m.as_many)

-- The dimension breaks its limit.
pub dimension_stops : {number k l n : ℕ} {bytes ls : List ℕ} → Headed bytes number k → Judged bytes 2 1 12 l → Measured bytes l ls n → (k < 1) ⊎ (n < k) → Broken number bytes (at_sheet Limit 1)
dimension_stops {number} {k} {l} {n} {bytes} {ls} h j m out =
    let b : Broken number (opening number k ls ++ drop (3 + l) bytes) (at_sheet Limit 1) =
    dimension k ls (drop (3 + l) bytes) (rw m.as_many (j.least, j.most)) m.lengths (rw m.total at out)
    in
    subst (λ (u : List ℕ). Broken number u (at_sheet Limit 1))
    (ap (λ (u : List ℕ). u ++ drop (3 + l) bytes) (sym (up_to_lengths h j m)) ∙ take-append-drop (3 + l) bytes) b

pub record Opened (number k l n : ℕ) (bytes ls : List ℕ) : Type 0 where
  pub read : take (3 + l) bytes ≡ opening number k ls
  pub as_many : length ls ≡ l
  pub total : n ≡ sum ls
  pub opens : Opens k ls

-- All up to the lengths keeps its limits.
pub opened : {number k l n : ℕ} {bytes ls : List ℕ} → Headed bytes number k → Judged bytes 2 1 12 l → Measured bytes l ls n → 1 ≤ k → k ≤ n → Opened number k l n bytes ls
opened {number} {k} {l} {n} {bytes} {ls} h j m low high =
    record {
      read = up_to_lengths h j m;
      as_many = m.as_many;
      total = m.total;
      opens = record { blocks = rw m.as_many (j.least, j.most); lengths = m.lengths; least = low; most = omega (arith, m.total) };
    }

-- The count of the parameters is missing or not the number of blocks, or a parameter is missing.
pub parameters_stop : {number k l n : ℕ} {bytes ls : List ℕ} {e : Fault} → Opened number k l n bytes ls → StopsCounting bytes (3 + l) l e → Broken number bytes e
parameters_stop {number} {k} {l} {n} {bytes} {ls} {e} o stops =
    let w : Wants number (opening number k ls) l l = subst (λ i. Wants number (opening number k ls) i i) o.as_many (parameter_count o.opens) in
    stops number (subst (λ (u : List ℕ). Wants number u l l) (sym o.read) w)
    (λ ps h. let s : Short number (to_parameters number k ls ps) = at_parameter ps o.opens (omega (arith, o.as_many)) in
    subst (λ (u : List ℕ). Short number (u ++ l ∷ ps)) (sym o.read)
    (subst (λ i. Short number (opening number k ls ++ i ∷ ps)) o.as_many s))

-- All bytes up to the last parameter.
up_to_parameters : {number k l n : ℕ} {bytes ls ps : List ℕ} → Opened number k l n bytes ls → Counted bytes (3 + l) l ps → take (3 + l + 1 + l) bytes ≡ to_parameters number k ls ps
up_to_parameters {number} {k} {l} {n} {bytes} {ls} {ps} o c =
    c.read ∙ ap (λ (u : List ℕ). u ++ l ∷ ps) o.read ∙ ap (λ i. opening number k ls ++ i ∷ ps) (sym o.as_many)

-- The count of the locators is missing or not the sum of the lengths, or a locator is missing.
pub locators_stop : {number k l n : ℕ} {bytes ls ps : List ℕ} {e : Fault} → Opened number k l n bytes ls → Counted bytes (3 + l) l ps → StopsCounting bytes (3 + l + 1 + l) n e → Broken number bytes e
locators_stop {number} {k} {l} {n} {bytes} {ls} {ps} {e} o c stops =
    let m : length ps ≡ length ls = c.as_many ∙ sym o.as_many in
    let t = up_to_parameters o c in
    let w : Wants number (to_parameters number k ls ps) n n =
    subst (λ i. Wants number (to_parameters number k ls ps) i i) (sym o.total) (locator_count ps o.opens m)
    in
    stops number (subst (λ (u : List ℕ). Wants number u n n) (sym t) w)
    (λ xs h. let s : Short number (to_locators number k ls ps xs) = at_locator ps xs o.opens m (omega (arith, o.total)) in
    subst (λ (u : List ℕ). Short number (u ++ n ∷ xs)) (sym t)
    (subst (λ i. Short number (to_parameters number k ls ps ++ i ∷ xs)) (sym o.total) s))

-- The parameters stand after their count, which follows the lengths.
pub parameters_place : {number k l n : ℕ} {bytes ls : List ℕ} → Opened number k l n bytes ls → 3 + l + 1 ≡ 4 + length ls
parameters_place o = omega (arith, o.as_many)

-- The locators stand after theirs, which follows the parameters.
pub locators_place : {number k l n : ℕ} {bytes ls ps : List ℕ} → Opened number k l n bytes ls → Counted bytes (3 + l) l ps → 3 + l + 1 + l + 1 ≡ 5 + length ls + length ps
locators_place o c = omega (arith, o.as_many, c.as_many)

-- All of the sheet is read.
pub begins : {number k l n : ℕ} {bytes ls ps xs : List ℕ} → Opened number k l n bytes ls → Counted bytes (3 + l) l ps → Counted bytes (3 + l + 1 + l) n xs → Begins number bytes (record { dimension = k; blocks = ls; parameters = ps; locators = xs }) (3 + l + 1 + l + 1 + n)
begins {number} {k} {l} {n} {bytes} {ls} {ps} {xs} o c d =
    let end : ℕ = 3 + l + 1 + l + 1 + n in
    let t : take end bytes ≡ to_locators number k ls ps xs =
    d.read ∙ ap (λ (u : List ℕ). u ++ n ∷ xs) (up_to_parameters o c) ∙ ap (λ i. to_parameters number k ls ps ++ i ∷ xs) o.total
    in
    record {
      whole = record { opens = o.opens; as_many_parameters = c.as_many ∙ sym o.as_many; as_many_locators = d.as_many ∙ o.total };
      rest = drop end bytes;
      bytes_are = sym (ap (λ (u : List ℕ). u ++ drop end bytes) (sym t) ∙ take-append-drop end bytes);
      end_is = sym (length-take-le end bytes d.there) ∙ ap length t;
    }

-- No byte follows the sheet.
pub spells : {number end : ℕ} {bytes : List ℕ} {t : Text} → Begins number bytes t end → length bytes ≤ end → Spells number bytes t
spells {number} {end} {bytes} {t} b h =
    let n : length bytes ≡ length (spelled number t) + length b.rest = ap length b.bytes_are ∙ length-append (spelled number t) b.rest in
    let none : b.rest ≡ [] = nil_from_length b.rest (omega (arith, b.end_is)) in
    record { whole = b.whole; bytes_are = b.bytes_are ∙ ap (λ (r : List ℕ). spelled number t ++ r) none ∙ append-nil (spelled number t) }

-- Some byte follows the sheet.
pub extra_stops : {number end : ℕ} {bytes : List ℕ} {t : Text} → Begins number bytes t end → end < length bytes → Refused number bytes (at_sheet ExtraBytes end)
extra_stops {number} {end} {bytes} {t} b h =
    let n : length bytes ≡ length (spelled number t) + length b.rest = ap length b.bytes_are ∙ length-append (spelled number t) b.rest in
    rw (b.bytes_are, b.end_is) (more b.rest (omega (arith, b.end_is)))
  where
    more : (v : List ℕ) → 0 < length v → Refused number (spelled number t ++ v) (at_sheet ExtraBytes (length (spelled number t)))
    more [] z = absurd (not-suc-le-zero z)
    more (x ∷ v) z = extra t x v b.whole
