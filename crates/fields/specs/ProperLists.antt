-- Lists of coefficients that are proper, and what keeps them so.
--
--   Proper p d f   f is a list of d numbers below p: a polynomial of degree below d over the integers modulo p
use Rattle.std.specs.Prelude.{ℕ, zero, suc, ◌+◌, ◌*◌, ◌/◌, ◌<◌, List, [], ◌∷◌, ◌++◌, length, replicate}
use Rattle.std.proofs.Math.Path.{sym}
use Rattle.std.proofs.Common.{subst, zero-add, suc-add, mod-lt}
use Rattle.fields.specs.Residues.{coefficients, plus, scale, moved}

pub data Proper (p : ℕ) : ℕ → List ℕ → Type 0 where
  none : Proper p 0 []
  more : {d x : ℕ} {f : List ℕ} → x < p → Proper p d f → Proper p (suc d) (x ∷ f)

module _ (p : ℕ) (pos : 0 < p) where
  -- Any number of zeros is proper.
  pub zeros_proper : (d : ℕ) → Proper p d (replicate d 0)
  zeros_proper zero = none
  zeros_proper (suc d) = more pos (zeros_proper d)

  -- A proper list moved up is proper.
  pub moved_proper : {d c : ℕ} {f : List ℕ} → c < p → Proper p d f → Proper p d (moved c f)
  moved_proper h none = none
  moved_proper h (more k r) = more h (moved_proper k r)

  -- A sum of lists of one length is proper.
  pub plus_proper : {d : ℕ} {f g : List ℕ} → Proper p d f → Proper p d g → Proper p d (plus p f g)
  plus_proper none none = none
  plus_proper (more {x} h r) (more {x = y} k s) = more (mod-lt (x + y) pos) (plus_proper r s)

  -- A constant times any list is proper, at its length.
  pub scale_any : (c : ℕ) (f : List ℕ) → Proper p (length f) (scale p c f)
  scale_any c [] = none
  scale_any c (x ∷ f) = more (mod-lt (c * x) pos) (scale_any c f)

  -- A constant times a proper list is proper.
  pub scale_proper : {d : ℕ} {f : List ℕ} (c : ℕ) → Proper p d f → Proper p d (scale p c f)
  scale_proper c none = none
  scale_proper c (more {x} h r) = more (mod-lt (c * x) pos) (scale_proper c r)

  -- The coefficients of a number are proper.
  pub coefficients_proper : (d a : ℕ) → Proper p d (coefficients p d a)
  coefficients_proper zero a = none
  coefficients_proper (suc d) a = more (mod-lt a pos) (coefficients_proper d (a / p))

  -- A proper list, and n zeros above it, are proper.
  pub padded_proper : {d : ℕ} {f : List ℕ} (n : ℕ) → Proper p d f → Proper p (d + n) (f ++ replicate n 0)
  padded_proper n none = subst (λ d. Proper p d (replicate n 0)) (sym (zero-add n)) (zeros_proper n)
  padded_proper n (more {d} {x} {f} h r) = subst (λ e. Proper p e (x ∷ f ++ replicate n 0)) (sym (suc-add d n)) (more h (padded_proper n r))
