-- What hosts in C are promised.
--
--   Written job old new n      a buffer below 1,024 bytes is not written, and the answer is 0; any other has the text that answers the job at its front, and what
--                              it had behind that, and the answer is how long the text is, at most 1,024
use Rattle.std.specs.Prelude.{◌≡◌, ℕ, ◌<◌, ◌≤◌, List, ◌++◌, length, drop}
use Rattle.jobs.specs.Answers.{Answers}

pub record Written (job old new : List ℕ) (n : ℕ) : Type 0 where
  pub small : length old < 1024 → (n ≡ 0) × (new ≡ old)
  pub large : 1024 ≤ length old → (text : List ℕ) × Answers job text × (length text ≤ 1024) × (n ≡ length text) × (new ≡ text ++ drop (length text) old)
