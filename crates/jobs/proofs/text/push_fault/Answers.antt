use Rattle.std.proofs.Common.{◌++◌, ◌≤◌, ◌∙◌, ap, length, subst, take}
use Rattle.skew.specs.Few.{held}
use Rattle.sheets.specs.Faults.{number_of, layer_number_of}
use Rattle.jobs.specs.Texts.{spaced}
use Rattle.jobs.proofs.Cutting.{refused, refusal_fits}
use Rattle.jobs.proofs.text.push_fault.Goals as goal

pub returns-clause-text : goal.returns-clause-text
returns-clause-text c =
    refused (held c.args.out.now) (number_of c.args.fault.reason) (layer_number_of c.args.fault.layer) c.args.fault.place c.append.ensures
    (c.push_number.ensures.text ∙ ap (λ n. take 1024 (held c.append.new.self ++ spaced n)) (c.from.ensures ∙ c.number.ensures)) c.append-2.ensures
    (c.push_number-2.ensures.text ∙ ap (λ n. take 1024 (held c.append-2.new.self ++ spaced n)) (c.from-2.ensures ∙ c.layer_number.ensures)) c.append-3.ensures c.push_number-3.ensures.text c.push_end.ensures

pub returns-clause-short : goal.returns-clause-short
returns-clause-short c =
    refusal_fits (number_of c.args.fault.reason) (layer_number_of c.args.fault.layer) c.args.fault.place (subst (λ k. length (spaced k) ≤ 21) (c.from.ensures ∙ c.number.ensures) c.push_number.ensures.short)
    (subst (λ k. length (spaced k) ≤ 21) (c.from-2.ensures ∙ c.layer_number.ensures) c.push_number-2.ensures.short) c.push_number-3.ensures.short
