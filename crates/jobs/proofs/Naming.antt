-- The kind that a job names.
use Rattle.std.proofs.Common.{◌≡◌, ℕ, ◌<◌, ◌≤◌, ◌≢◌, List, [], ◌∷◌, length, get_or, Result, Err, subst, sym, refl, ap, arith}
use Rattle.fields.specs.Meaning.{Meaning}
use Rattle.sheets.specs.declared.faults.Fault.{Fault}
use Rattle.sheets.specs.declared.faults.Reason.TheVariants.{MissingByte, OtherKind}
use Rattle.sheets.specs.Faults.{at_sheet}
use Rattle.jobs.specs.Texts.{Found, text_of}
use Rattle.jobs.specs.Runs.{Comes}
use Rattle.jobs.specs.Answers.{Shipped, kind_1, kind_2, kind_3, kind_4, mirror_1, mirror_2, mirror_3, mirror_4, Answers, empty, other_kind, run}

-- No byte at all.
pub nothing_told : (job : List ℕ) {text : List ℕ} → length job < 1 → text ≡ text_of (Err (at_sheet MissingByte 0)) → Answers job text
nothing_told [] h e = subst (Answers []) (sym e) empty
nothing_told (x ∷ v) h e = absurd (omega (arith, h))

-- A kind that is shipped, or its mirror.
pub run_told : (job : List ℕ) (n : ℕ) (m : Meaning) (o : Result Found Fault) {text : List ℕ} → 1 ≤ length job → get_or job 0 0 ≡ n → Shipped n m → Comes m job o → text ≡ text_of o → Answers job text
run_told [] n m o h e s k f = absurd (omega (arith, h))
run_told (x ∷ v) n m o h e s k f = subst (Answers (x ∷ v)) (sym f) (run m o (subst (λ z. Shipped z m) (sym e) s) k)

-- What is none of the eight numbers.
pub record Other (n : ℕ) : Type 0 where
  pub not_1 : n ≢ 1
  pub not_2 : n ≢ 2
  pub not_3 : n ≢ 3
  pub not_4 : n ≢ 4
  pub not_129 : n ≢ 129
  pub not_130 : n ≢ 130
  pub not_131 : n ≢ 131
  pub not_132 : n ≢ 132

-- It names no kind.
none_shipped : (n : ℕ) (m : Meaning) → Other n → ¬ Shipped n m
none_shipped n m o kind_1 = o.not_1 refl
none_shipped n m o kind_2 = o.not_2 refl
none_shipped n m o kind_3 = o.not_3 refl
none_shipped n m o kind_4 = o.not_4 refl
none_shipped n m o mirror_1 = o.not_129 refl
none_shipped n m o mirror_2 = o.not_130 refl
none_shipped n m o mirror_3 = o.not_131 refl
none_shipped n m o mirror_4 = o.not_132 refl

pub other_told : (job : List ℕ) {text : List ℕ} → 1 ≤ length job → Other (get_or job 0 0) → text ≡ text_of (Err (at_sheet OtherKind 0)) → Answers job text
other_told [] h o e = absurd (omega (arith, h))
other_told (x ∷ v) h o e = subst (Answers (x ∷ v)) (sym e) (other_kind (λ m s. none_shipped x m o s))
