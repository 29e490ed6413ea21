-- Polynomials that vanish at given points.
--
--   place m p, places m ps     a point of the program as (parameter, locator), in elements
--   Among x xs                 x stands in xs
--   Monic o f                  the last coefficient of f is one
--   Annihilator o pts f        f is monic, has degree at most the number of points, and vanishes at each, and so at every
--                              combination with fixed coefficients of points that share a parameter
--   Multiple o g h             h is a multiple of g: its value is that of some polynomial at the value of g
--   Annihilated m ps f         f is in codes, and is such a polynomial for at most 24 points; and all that vanishes at the points is a
--                              multiple of it, so that none of lower degree does
--   Root m a v c               x - c takes v to zero at the parameter a
--   Grown m g p f              f vanishes wherever g does, and at the point p; it is monic where g is; and each multiple of g that
--                              vanishes at p is a multiple of f
use Rattle.std.specs.Prelude.{◌≡◌, ℕ, suc, ◌≤◌, ◌⊎◌, List, [], ◌∷◌, map, length}
use Rattle.std.specs.List.{AllByRecursion}
use Rattle.fields.specs.Field.{Ops, Fixed, comb}
use Rattle.fields.specs.Meaning.{Meaning}
use Rattle.fields.specs.Elements.{Elem, elem, elems, ops}
use Rattle.skew.specs.declared.points.Point.{Point}
use Rattle.skew.specs.Values.{step, value}
use Rattle.skew.specs.Roots.{Vanishes}
use Rattle.skew.specs.Products.{coef}
use Rattle.skew.specs.Polynomials.{Codes}

abbrev pub place : (m : Meaning) → Point → Elem m × Elem m
place m p = (elem m p.parameter, elem m p.locator)

abbrev pub places : (m : Meaning) → List Point → List (Elem m × Elem m)
places m ps = map (place m) ps

abbrev pub Among : {A : Type 0} → A → List A → Type 0
Among x [] = ⊥
Among x (y ∷ ys) = (x ≡ y) ⊎ Among x ys

abbrev pub Monic : {F : Type 0} → Ops F → List F → Type 0
Monic o f = (n : ℕ) × (length f ≡ suc n) × (coef o f n ≡ o.one)

pub record Annihilator {F : Type 0} (o : Ops F) (pts : List (F × F)) (f : List F) : Type 0 where
  pub monic : Monic o f
  pub degree : length f ≤ suc (length pts)
  pub vanishes : AllByRecursion (Vanishes o f) pts
  pub spans : (a : F) (cs es : List F) → AllByRecursion (Fixed o) cs → AllByRecursion (λ e. Among (a, e) pts) es → value o a f (comb o cs es) ≡ o.zero

abbrev pub Multiple : {F : Type 0} → Ops F → List F → List F → Type 0
Multiple {F} o g h = (q : List F) × ((a b : F) → value o a h b ≡ value o a q (value o a g b))

pub record Annihilated (m : Meaning) (ps : List Point) (f : List ℕ) : Type 0 where
  pub room : length ps ≤ 24
  pub proper : Codes m f
  pub annihilator : Annihilator (ops m) (places m ps) (elems m f)
  pub least : (h : List (Elem m)) → AllByRecursion (Vanishes (ops m) h) (places m ps) → Multiple (ops m) (elems m f) h

pub record Root (m : Meaning) (a v c : ℕ) : Type 0 where
  pub is : (ops m).mul (elem m c) (elem m v) ≡ step (ops m) (elem m a) (elem m v)

pub record Grown (m : Meaning) (g : List ℕ) (p : Point) (f : List ℕ) : Type 0 where
  pub proper : Codes m g → Codes m f
  pub size : length f ≤ suc (length g)
  pub monic : Monic (ops m) (elems m g) → Monic (ops m) (elems m f)
  pub there : Vanishes (ops m) (elems m f) (place m p)
  pub keeps : (t : Elem m × Elem m) → Vanishes (ops m) (elems m g) t → Vanishes (ops m) (elems m f) t
  pub least : (h : List (Elem m)) → Multiple (ops m) (elems m g) h → Vanishes (ops m) h (place m p) → Multiple (ops m) (elems m f) h
