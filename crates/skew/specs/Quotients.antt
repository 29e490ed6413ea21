-- Division on the left.
--
--   Quotient o n p d k q      q has k coefficients, and n and p × q agree at places d to d + k - 1; no other q does that. So, if
--                             some f with k coefficients has p × f = n, it is q
--   Divided m n p k q         q is in codes, and is such a quotient of n by p, where d is the degree of p
--   Undivided m p k           p is zero, or d + k is more than 48
--   Leads m f d i             d is the degree of f, and i the inverse of its coefficient there
--   Untwisted m n x y         y is the code that n twists take to x
use Rattle.std.specs.Prelude.{◌≡◌, ℕ, ◌+◌, ◌<◌, ◌≤◌, ◌⊎◌, List, length}
use Rattle.std.specs.List.{AllByRecursion}
use Rattle.fields.specs.Field.{Ops, Zero}
use Rattle.fields.specs.Meaning.{Meaning, clip}
use Rattle.fields.specs.Elements.{elem, elems, ops}
use Rattle.skew.specs.Values.{twisted}
use Rattle.skew.specs.Products.{coef, coefficient, Degree}
use Rattle.skew.specs.Polynomials.{Codes}

pub record Quotient {F : Type 0} (o : Ops F) (n p : List F) (d k : ℕ) (q : List F) : Type 0 where
  pub size : length q ≡ k
  pub agrees : (l : ℕ) → d ≤ l → l < d + k → coef o n l ≡ coefficient o p q l
  pub only : (f : List F) → length f ≡ k → ((l : ℕ) → d ≤ l → l < d + k → coef o n l ≡ coefficient o p f l) → f ≡ q

pub record Divided (m : Meaning) (n p : List ℕ) (k : ℕ) (q : List ℕ) : Type 0 where
  pub d : ℕ
  pub degree : Degree (ops m) (elems m p) d
  pub room : d + k ≤ 48
  pub proper : Codes m q
  pub quotient : Quotient (ops m) (elems m n) (elems m p) d k (elems m q)

abbrev pub Undivided : Meaning → List ℕ → ℕ → Type 0
Undivided m p k = AllByRecursion (Zero (ops m)) (elems m p) ⊎ ((d : ℕ) × Degree (ops m) (elems m p) d × (48 < d + k))

pub record Leads (m : Meaning) (f : List ℕ) (d i : ℕ) : Type 0 where
  pub degree : Degree (ops m) (elems m f) d
  pub inverse : elem m i ≡ (ops m).inv (coef (ops m) (elems m f) d)

pub record Untwisted (m : Meaning) (n x y : ℕ) : Type 0 where
  pub is : twisted (ops m) n (elem m y) ≡ elem m x
  pub counts : clip m y ≡ y
