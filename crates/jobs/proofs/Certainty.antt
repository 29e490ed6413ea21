-- Every string of bytes has one answer: what stands behind the sheet, which is one, comes to one.
use Rattle.std.proofs.Common.{◌≡◌, ℕ, ◌++◌, List, length, sym, ap, ◌∙◌, Ok, inl, inr}
use Rattle.std.proofs.lemmas.List.{append_cancel_left}
use Rattle.sheets.specs.declared.faults.Fault.{Fault}
use Rattle.sheets.specs.Sheets.{Text, spelled, broken}
use Rattle.sheets.proofs.Certainty.{unambiguous as sheets}
use Rattle.jobs.specs.Jobs.{Job}
use Rattle.jobs.specs.Readings.{Unambiguous}
use Rattle.jobs.proofs.Verdict.{Answer, behind}
use Rattle.jobs.proofs.Going.{Answered, Either, of_spells, of_refused}

-- Two answers to the same bytes behind the sheet are one.
one_answer : {number : ℕ} {bytes : List ℕ} {a b : Answer} → Answered number bytes a → Answered number bytes b → a ≡ b
one_answer {number} {bytes} p q =
    let same : p.sheet ≡ q.sheet = (sheets.one_front number bytes _ _ _ _ p.begins q.begins).0 in
    let rest : p.begins.rest ≡ q.begins.rest =
    append_cancel_left (spelled number p.sheet) p.begins.rest q.begins.rest
    (sym p.begins.bytes_are ∙ q.begins.bytes_are ∙ ap (λ (t : Text). spelled number t ++ q.begins.rest) (sym same))
    in
    sym p.comes_to ∙ ap (λ (t : Text). behind (length bytes) t p.begins.rest) same ∙ ap (behind (length bytes) q.sheet) rest ∙ q.comes_to

-- Two refusals are one.
one_fault : {number : ℕ} {bytes : List ℕ} {e f : Fault} → Either number bytes e → Either number bytes f → e ≡ f
one_fault {number} {bytes} (inl p) (inl q) = sheets.one_refusal number bytes _ _ (broken p) (broken q)
one_fault {number} {bytes} (inl p) (inr q) = absurd (sheets.not_both_in_front number bytes _ _ _ q.begins p)
one_fault {number} {bytes} (inr p) (inl q) = absurd (sheets.not_both_in_front number bytes _ _ _ p.begins q)
one_fault (inr p) (inr q) = let same = one_answer p q in cc

-- A job is not refused.
not_refused : {number : ℕ} {bytes : List ℕ} {j : Job} {e : Fault} → Answered number bytes (Ok j) → Either number bytes e → ⊥
not_refused {number} {bytes} p (inl q) = sheets.not_both_in_front number bytes _ _ _ p.begins q
not_refused p (inr q) = let same = one_answer p q in cc

-- One job, or one refusal, and never both.
pub unambiguous : Unambiguous
unambiguous = record {
  one_job = λ number bytes i j p q. let same = one_answer (of_spells p) (of_spells q) in cc;
  one_refusal = λ number bytes e f p q. one_fault (of_refused p) (of_refused q);
  not_both = λ number bytes j e p q. not_refused (of_spells p) (of_refused q);
}
