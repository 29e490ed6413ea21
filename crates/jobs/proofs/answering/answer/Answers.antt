use Rattle.std.proofs.Common.{Err, ap, ◌∙◌, rules}
use Rattle.sheets.specs.declared.faults.Fault.{Fault}
use Rattle.fields.specs.Mirror.{mirrored}
use Rattle.fields.specs.Shipped.{gf256, gf16, gf81, mod13}
use Rattle.jobs.specs.Texts.{text_of, outcome_of}
use Rattle.jobs.specs.Answers.{kind_1, kind_2, kind_3, kind_4, mirror_1, mirror_2, mirror_3, mirror_4}
use Rattle.jobs.proofs.answering.answer.Goals.{in-1, in-2, in-3, in-4, in-129, in-130, in-131, in-132, in_default-number}
use Rattle.jobs.proofs.Naming.{nothing_told, run_told, other_told}
use Rattle.jobs.proofs.answering.answer.Goals as goal

pub returns-in_default : goal.returns-in_default
returns-in_default c = nothing_told c.args.job.now c.in_default.len_below (c.write.ensures ∙ ap (λ (e : Fault). text_of (Err e)) c.fault.ensures)

pub returns : goal.returns
returns c =
    let job = c.args.job.now in
    let some = c.in-len1-up.len_at_least in
    elim c.match-number.branch [
      | in-1 w ↦ run_told job 1 gf256 (outcome_of w.run-outcome.result) some w.in-1.is kind_1 w.run-outcome.ensures (c.write-2.ensures ∙ ap (λ o. text_of (outcome_of o)) w.outcome-is)
      | in-2 w ↦ run_told job 2 gf16 (outcome_of w.run-outcome-in-2.result) some w.in-2.is kind_2 w.run-outcome-in-2.ensures (c.write-2.ensures ∙ ap (λ o. text_of (outcome_of o)) w.outcome-is)
      | in-3 w ↦ run_told job 3 gf81 (outcome_of w.run-outcome-in-3.result) some w.in-3.is kind_3 w.run-outcome-in-3.ensures (c.write-2.ensures ∙ ap (λ o. text_of (outcome_of o)) w.outcome-is)
      | in-4 w ↦ run_told job 4 mod13 (outcome_of w.run-outcome-in-4.result) some w.in-4.is kind_4 w.run-outcome-in-4.ensures (c.write-2.ensures ∙ ap (λ o. text_of (outcome_of o)) w.outcome-is)
      | in-129 w ↦ run_told job 129 (mirrored gf256) (outcome_of w.run-outcome-in-129.result) some w.in-129.is mirror_1 w.run-outcome-in-129.ensures (c.write-2.ensures ∙ ap (λ o. text_of (outcome_of o)) w.outcome-is)
      | in-130 w ↦ run_told job 130 (mirrored gf16) (outcome_of w.run-outcome-in-130.result) some w.in-130.is mirror_2 w.run-outcome-in-130.ensures (c.write-2.ensures ∙ ap (λ o. text_of (outcome_of o)) w.outcome-is)
      | in-131 w ↦ run_told job 131 (mirrored gf81) (outcome_of w.run-outcome-in-131.result) some w.in-131.is mirror_3 w.run-outcome-in-131.ensures (c.write-2.ensures ∙ ap (λ o. text_of (outcome_of o)) w.outcome-is)
      | in-132 w ↦ run_told job 132 (mirrored mod13) (outcome_of w.run-outcome-in-132.result) some w.in-132.is mirror_4 w.run-outcome-in-132.ensures (c.write-2.ensures ∙ ap (λ o. text_of (outcome_of o)) w.outcome-is)
      | in_default-number w ↦ other_told job some (record {
        not_1 = search rules;
        not_2 = search rules;
        not_3 = search rules;
        not_4 = search rules;
        not_129 = search rules;
        not_130 = search rules;
        not_131 = search rules;
        not_132 = search rules;
      }) (c.write-2.ensures ∙ ap (λ o. text_of (outcome_of o)) w.outcome-is ∙ ap (λ (e : Fault). text_of (Err e)) w.fault-in_default-number.ensures)
    ]
