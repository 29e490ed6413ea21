-- What a sheet in memory says, and that the grammar has one answer for every byte string.
--     text_of       its dimension and the bytes of its sections
--     Laid          each section is of its own case, and stands where the sections before it end
--     Unambiguous   one sheet, or one refusal, and never both; so at the front of the bytes too, with one end
use Rattle.std.specs.Prelude.{◌≡◌, ℕ, ◌+◌, List, length}
use Rattle.sheets.specs.declared.faults.Fault.{Fault}
use Rattle.sheets.specs.declared.sheets.Sheet.{Sheet}
use Rattle.sheets.specs.Sections.{part_of, view, lengths, parameters, locators}
use Rattle.sheets.specs.Sheets.{Text, Begins, Spells, Broken, Refused}

abbrev pub text_of : Sheet → Text
text_of s = record { dimension = s.dimension; blocks = part_of s.lengths; parameters = part_of s.parameters; locators = part_of s.locators }

pub record Laid (s : Sheet) : Type 0 where
  pub lengths_at : view s.lengths ≡ lengths (part_of s.lengths) 3
  pub parameters_at : view s.parameters ≡ parameters (part_of s.parameters) (4 + length (part_of s.lengths))
  pub locators_at : view s.locators ≡ locators (part_of s.locators) (5 + length (part_of s.lengths) + length (part_of s.parameters))

pub record Unambiguous : Type 0 where
  pub one_sheet : (number : ℕ) (bytes : List ℕ) (s t : Text) → Spells number bytes s → Spells number bytes t → s ≡ t
  pub one_refusal : (number : ℕ) (bytes : List ℕ) (e f : Fault) → Refused number bytes e → Refused number bytes f → e ≡ f
  pub not_both : (number : ℕ) (bytes : List ℕ) (t : Text) (e : Fault) → Spells number bytes t → Refused number bytes e → ⊥
  pub one_front : (number : ℕ) (bytes : List ℕ) (s t : Text) (m n : ℕ) → Begins number bytes s m → Begins number bytes t n → (s ≡ t) × (m ≡ n)
  pub not_both_in_front : (number : ℕ) (bytes : List ℕ) (t : Text) (end : ℕ) (e : Fault) → Begins number bytes t end → Broken number bytes e → ⊥
