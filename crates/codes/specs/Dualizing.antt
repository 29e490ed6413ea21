-- The dual code of a code, over the mirror of the kind.
--
--   turned_points m ps ds    the points of the dual code: untwisted parameters with the dual locators, in codes
--   dual_text m t k ds       the sheet of the dual code
--   Dualized m c d    d has the lengths of c and the dimension n - k; where c is lawful, its points are the untwisted parameters with
--                     the dual locators, d is lawful over the mirror, and its codewords are the words whose sum of products with
--                     every codeword of c is zero
--   DualSheet m c bs        for the sheet of which c was made and c lawful, bs are the mirror's number, the dimension n - k, the
--                            lengths, the untwisted parameters and the dual locators, as a sheet
--   Undual m c        k is n or more, or c is not lawful
use Rattle.std.specs.Prelude.{◌≡◌, ℕ, ◌+◌, ◌-◌, ◌<◌, ◌≤◌, ◌⊎◌, ◌↔◌, List, [], ◌∷◌, map, length}
use Rattle.fields.specs.Field.{mirror, comb}
use Rattle.fields.specs.Meaning.{Meaning, clip}
use Rattle.fields.specs.Mirror.{mirrored, across}
use Rattle.skew.specs.declared.points.Point.{Point}
use Rattle.skew.specs.Polynomials.{Codes}
use Rattle.fields.specs.Elements.{Elem, elems, ops}
use Rattle.codes.specs.declared.shape.Code.{Code}
use Rattle.codes.specs.Holdings.{held, stops}
use Rattle.codes.specs.Codes.{pts, LawfulCode}
use Rattle.sheets.specs.Sheets.{Text, spelled}
use Rattle.codes.specs.Writing.{Described}
use Rattle.codes.specs.Duals.{Codeword, dual_points, DualLocators}

abbrev pub turned_points : Meaning → List Point → List ℕ → List Point
turned_points m [] ds = []
turned_points m (p ∷ ps) [] = []
turned_points m (p ∷ ps) (d ∷ ds) = record { parameter = m.untwist (clip m p.parameter); locator = d } ∷ turned_points m ps ds

abbrev pub dual_text : Meaning → Text → ℕ → List ℕ → Text
dual_text m t k ds = record { dimension = k; blocks = t.blocks; parameters = map (λ a. m.untwist (clip m a)) t.parameters; locators = ds }

pub record Dualized (m : Meaning) (c d : Code) : Type 0 where
  pub some : c.dimension < length (stops c.course)
  pub dimension : d.dimension + c.dimension ≡ length (stops c.course)
  pub lengths : held d.lengths ≡ held c.lengths
  pub exact : (ds : List ℕ) × Codes m ds × (length ds ≡ length (stops c.course)) × (stops d.course ≡ turned_points m (stops c.course) ds) × (LawfulCode m c → DualLocators (ops m) (pts m c) (elems m ds))
  pub locators : LawfulCode m c → (alpha : List (Elem m)) × DualLocators (ops m) (pts m c) alpha × (pts (mirrored m) d ≡ dual_points (ops m) (pts m c) alpha)
  pub lawful : LawfulCode m c → LawfulCode (mirrored m) d
  pub orthogonal : LawfulCode m c → (w : List (Elem m)) → length w ≡ length (stops c.course)
      → Codeword (mirror (ops m)) (pts (mirrored m) d) d.dimension w ↔ ((v : List (Elem m)) → Codeword (ops m) (pts m c) c.dimension v → comb (ops m) v w ≡ (ops m).zero)

pub record DualSheet (m : Meaning) (c : Code) (bs : List ℕ) : Type 0 where
  pub duals : List ℕ
  pub locators : LawfulCode m c → DualLocators (ops m) (pts m c) (elems m duals)
  pub proper : Codes m duals
  pub sheet : (t : Text) → Described c t → bs ≡ spelled (across m.number) (dual_text m t (length t.locators - t.dimension) duals)

abbrev pub Undual : Meaning → Code → Type 0
Undual m c = (length (stops c.course) ≤ c.dimension) ⊎ ¬ LawfulCode m c
