-- The text that answers a job.
--
--   Shipped n m         the kind number n, of a shipped kind or its mirror, means m
--   Answers job text    the text of what the job comes to over the kind that its first byte picks; of a refusal where it picks none
use Rattle.std.specs.Prelude.{ℕ, List, [], ◌∷◌, Result, Err}
use Rattle.fields.specs.Meaning.{Meaning}
use Rattle.fields.specs.Mirror.{mirrored}
use Rattle.fields.specs.Shipped.{gf256, gf16, gf81, mod13}
use Rattle.sheets.specs.declared.faults.Fault.{Fault}
use Rattle.sheets.specs.declared.faults.Reason.TheVariants.{MissingByte, OtherKind}
use Rattle.sheets.specs.Faults.{at_sheet}
use Rattle.jobs.specs.Texts.{Found, text_of}
use Rattle.jobs.specs.Runs.{Comes}

pub data Shipped : ℕ → Meaning → Type 0 where
  kind_1 : Shipped 1 gf256
  kind_2 : Shipped 2 gf16
  kind_3 : Shipped 3 gf81
  kind_4 : Shipped 4 mod13
  mirror_1 : Shipped 129 (mirrored gf256)
  mirror_2 : Shipped 130 (mirrored gf16)
  mirror_3 : Shipped 131 (mirrored gf81)
  mirror_4 : Shipped 132 (mirrored mod13)

pub data Answers : List ℕ → List ℕ → Type 0 where
  empty : Answers [] (text_of (Err (at_sheet MissingByte 0)))
  other_kind : {n : ℕ} {v : List ℕ} → ((m : Meaning) → ¬ Shipped n m) → Answers (n ∷ v) (text_of (Err (at_sheet OtherKind 0)))
  run : {n : ℕ} {v : List ℕ} (m : Meaning) (o : Result Found Fault) → Shipped n m → Comes m (n ∷ v) o → Answers (n ∷ v) (text_of o)
