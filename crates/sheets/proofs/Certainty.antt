-- Every string of bytes has one answer: two answers to the same bytes are both the computed one.
use Rattle.std.proofs.Common.{◌≡◌, ℕ, length, sym, ap, ◌∙◌, arith}
use Rattle.sheets.specs.Sheets.{Text, spelled}
use Rattle.sheets.specs.Readings.{Unambiguous}
use Rattle.sheets.proofs.Verdicts.{of_begins, of_broken, of_spells, of_refused}

-- One sheet, or one refusal, and never both.
pub unambiguous : Unambiguous
unambiguous = record {
  one_sheet = λ number bytes s t p q. let a = of_spells p in let b = of_spells q in cc;
  one_refusal = λ number bytes e f p q. let a = of_refused p in let b = of_refused q in cc;
  not_both = λ number bytes t e p q. let a = of_spells p in let b = of_refused q in let z : ◌≡◌ {A = ℕ} 0 1 = cc in omega arith;
  one_front = λ number bytes s t m n p q.
      let a = of_begins p in
      let b = of_begins q in
      let same : s ≡ t = cc in
      (same, p.end_is ∙ ap (λ (r : Text). length (spelled number r)) same ∙ sym q.end_is);
  not_both_in_front = λ number bytes t end e p q. let a = of_begins p in let b = of_broken q in let z : ◌≡◌ {A = ℕ} 0 1 = cc in omega arith;
}
