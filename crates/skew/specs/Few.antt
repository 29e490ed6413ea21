-- Lists of fixed capacity.
--
--   held s             what s holds
--   Resized c f n r    r has the first n numbers of f, with zeros behind, but no more than c
use Rattle.std.specs.Prelude.{◌≡◌, ℕ, ◌<◌, min, List, length, take, slice_index}
use Rattle.skew.specs.declared.few.Few.{Few}

abbrev pub held : {T : Type 0} {N : ℕ} → Few T N → List T
held s = take s.len s.cells

pub record Resized (c : ℕ) (f : List ℕ) (n : ℕ) (r : List ℕ) : Type 0 where
  pub size : length r ≡ min n c
  pub same : (l : ℕ) → l < length r → slice_index r l ≡ slice_index f l
