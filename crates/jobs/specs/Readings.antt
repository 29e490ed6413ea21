-- What a job in memory says, and that the grammar has one answer for every byte string.
--     Read number bytes j     the bytes are a job, and j has its parts, each of its own case and where the parts before it and a count end
--     Unambiguous             one job, or one refusal, and never both
use Rattle.std.specs.Prelude.{◌≡◌, ℕ, ◌+◌, List, length}
use Rattle.sheets.specs.declared.faults.Fault.{Fault}
use Rattle.sheets.specs.Sheets.{spelled}
use Rattle.jobs.specs.declared.job.Job.{Job as JobParts}
use Rattle.jobs.specs.Sections.{view, word, rows, columns}
use Rattle.jobs.specs.Jobs.{Job, row_bytes, column_bytes, to_symbols, to_rows, Spells, Refused}

pub record Read (number : ℕ) (bytes : List ℕ) (j : JobParts) : Type 0 where
  pub job : Job
  pub spells : Spells number bytes job
  pub sheet : j.sheet.now ≡ spelled number job.sheet
  pub dimension : j.dimension ≡ job.sheet.dimension
  pub lengths : j.lengths.now ≡ job.sheet.blocks
  pub word_at : view j.word ≡ word job.word (length (spelled number job.sheet) + 1)
  pub rows_at : view j.rows ≡ rows (row_bytes job.rows) (length (to_symbols number job.sheet job.word) + 1)
  pub columns_at : view j.columns ≡ columns (column_bytes job.columns) (length (to_rows number job.sheet job.word (length job.rows) job.rows) + 1)

pub record Unambiguous : Type 0 where
  pub one_job : (number : ℕ) (bytes : List ℕ) (i j : Job) → Spells number bytes i → Spells number bytes j → i ≡ j
  pub one_refusal : (number : ℕ) (bytes : List ℕ) (e f : Fault) → Refused number bytes e → Refused number bytes f → e ≡ f
  pub not_both : (number : ℕ) (bytes : List ℕ) (j : Job) (e : Fault) → Spells number bytes j → ¬ Refused number bytes e
