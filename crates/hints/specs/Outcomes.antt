-- The parts that the program answers.
--
--   parts_from ns f r c        three words, cut into blocks of these lengths
--   parts_of m ns p            the program's parts, in elements
--   BlockSplit m e g old new  new has behind what old has the parts of e that no splitting has lighter
--   Divided ns d               at most twelve blocks of at most eight symbols make up d, at most 24 symbols
--   LeastAnswer m ns gs d p   the parts are codes, as many as d has, and a splitting of d with a full part of least weight
use Rattle.std.specs.Prelude.{◌≡◌, ℕ, ◌≤◌, List, [], ◌∷◌, ◌++◌, length, take, drop}
use Rattle.std.specs.List.{AllByRecursion}
use Rattle.fields.specs.Meaning.{Meaning}
use Rattle.fields.specs.Elements.{Elem, elems, codes, ops}
use Rattle.skew.specs.Polynomials.{Codes}
use Rattle.ranks.specs.Ranks.{Weighs, total, cut}
use Rattle.codes.specs.Holdings.{held}
use Rattle.hints.specs.declared.parts.Parts.{Parts as PartsCodes}
use Rattle.hints.specs.Splittings.{Given, Parts, Splitting, full_part}
use Rattle.hints.specs.Least.{LeastParts}

abbrev pub parts_from : {F : Type 0} → List ℕ → List F → List F → List F → List (Parts F)
parts_from [] f r c = []
parts_from (n ∷ ns) f r c = record { full = take n f; row = take n r; column = take n c } ∷ parts_from ns (drop n f) (drop n r) (drop n c)

abbrev pub parts_of : (m : Meaning) → List ℕ → PartsCodes → List (Parts (Elem m))
parts_of m ns p = parts_from ns (elems m (held p.full)) (elems m (held p.row)) (elems m (held p.column))

pub record BlockSplit (m : Meaning) (e : List ℕ) (g : Given (Elem m)) (old new : PartsCodes) : Type 0 where
  pub parts : Parts (Elem m)
  pub full : held new.full ≡ take 24 (held old.full ++ codes parts.full)
  pub row : held new.row ≡ take 24 (held old.row ++ codes parts.row)
  pub column : held new.column ≡ take 24 (held old.column ++ codes parts.column)
  pub least : LeastParts (ops m) g (elems m e) parts

pub record Divided (ns d : List ℕ) : Type 0 where
  pub short : AllByRecursion (λ n. n ≤ 8) ns
  pub few : length ns ≤ 12
  pub sum : total ns ≡ length d
  pub room : length d ≤ 24

pub record LeastAnswer (m : Meaning) (ns : List ℕ) (gs : List (Given (Elem m))) (d : List ℕ) (p : PartsCodes) : Type 0 where
  pub full_codes : Codes m (held p.full)
  pub row_codes : Codes m (held p.row)
  pub column_codes : Codes m (held p.column)
  pub full_size : length (held p.full) ≡ length d
  pub row_size : length (held p.row) ≡ length d
  pub column_size : length (held p.column) ≡ length d
  pub splitting : Splitting (ops m) gs (cut ns (elems m d)) (parts_of m ns p)
  pub least : (qs : List (Parts (Elem m))) (t u : ℕ) → Weighs (ops m) (full_part (parts_of m ns p)) t
      → Splitting (ops m) gs (cut ns (elems m d)) qs → Weighs (ops m) (full_part qs) u → t ≤ u
