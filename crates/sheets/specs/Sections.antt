-- What a section is.
--     part_of     its bytes
--     offset_of   where they stand in the bytes that it was read from
--     Part, view  a section as a value: which one it is, its bytes and its offset
use Rattle.std.specs.Prelude.{ℕ, List}
use Rattle.sheets.specs.declared.sections.Section.{Section}
use Rattle.sheets.specs.declared.sections.Section.TheVariants.{Lengths, Parameters, Locators}

abbrev pub part_of : Section → List ℕ
part_of (Lengths part at) = part.now
part_of (Parameters part at) = part.now
part_of (Locators part at) = part.now

abbrev pub offset_of : Section → ℕ
offset_of (Lengths part at) = at
offset_of (Parameters part at) = at
offset_of (Locators part at) = at

pub data Part : Type 0 where
  lengths : List ℕ → ℕ → Part
  parameters : List ℕ → ℕ → Part
  locators : List ℕ → ℕ → Part

abbrev pub view : Section → Part
view (Lengths part at) = lengths part.now at
view (Parameters part at) = parameters part.now at
view (Locators part at) = locators part.now at
