-- What a section of a job is.
--     part_of     its bytes
--     offset_of   where they stand in the bytes that it was read from
--     Part, view  a section as a value: which one it is, its bytes and its offset
use Rattle.std.specs.Prelude.{ℕ, List}
use Rattle.jobs.specs.declared.sections.Section.{Section}
use Rattle.jobs.specs.declared.sections.Section.TheVariants.{Word, Rows, Columns}

abbrev pub part_of : Section → List ℕ
part_of (Word part at) = part.now
part_of (Rows part at) = part.now
part_of (Columns part at) = part.now

abbrev pub offset_of : Section → ℕ
offset_of (Word part at) = at
offset_of (Rows part at) = at
offset_of (Columns part at) = at

pub data Part : Type 0 where
  word : List ℕ → ℕ → Part
  rows : List ℕ → ℕ → Part
  columns : List ℕ → ℕ → Part

abbrev pub view : Section → Part
view (Word part at) = word part.now at
view (Rows part at) = rows part.now at
view (Columns part at) = columns part.now at
