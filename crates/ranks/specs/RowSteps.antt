-- What the parts of an insertion promise.
--
--   clear o marks hs v     v less the rows, each times what v has at the row's pivot
--   PivotAt m h p i       the place p of h is not zero, and i is the inverse of what stands there
--   less m p h r           r less its entry at the place p times h
--   Swept m f p h g        g is f with each row made zero at the place p by h
use Rattle.std.specs.Prelude.{◌≡◌, ℕ, ◌<◌, Bool, ◌≢◌, List, map, length}
use Rattle.fields.specs.Field.{Ops, plus, scale}
use Rattle.fields.specs.Meaning.{Meaning}
use Rattle.fields.specs.Elements.{Elem, elem, ops}
use Rattle.skew.specs.Products.{coef}
use Rattle.ranks.specs.Ranks.{pick}
use Rattle.ranks.specs.Reduction.{mix, marks_of, rows_of}
use Rattle.ranks.specs.declared.rows.Form.{Form}

abbrev pub clear : {F : Type 0} → Ops F → List Bool → List (List F) → List F → List F
clear o marks hs v = plus o v (map o.neg (mix o (length v) hs (pick marks v)))

pub record PivotAt (m : Meaning) (h : List (Elem m)) (p i : ℕ) : Type 0 where
  pub low : p < 8
  pub nonzero : coef (ops m) h p ≢ (ops m).zero
  pub inverse : elem m i ≡ (ops m).inv (coef (ops m) h p)

abbrev pub less : (m : Meaning) → ℕ → List (Elem m) → List (Elem m) → List (Elem m)
less m p h r = plus (ops m) r (scale (ops m) ((ops m).neg (coef (ops m) r p)) h)

pub record Swept (m : Meaning) (f : Form) (p : ℕ) (h : List (Elem m)) (g : Form) : Type 0 where
  pub size : length g.rows ≡ length f.rows
  pub marks : marks_of g ≡ marks_of f
  pub rows : rows_of m g ≡ map (less m p h) (rows_of m f)
