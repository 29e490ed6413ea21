-- Sums of polynomials, and polynomials that have the same coefficients.
--
--   plus_nil, plus_assoc    a sum with nothing, and sums grouped at will
--   same_coefs              lists of one length with the same coefficients are the same
use Rattle.std.proofs.Common.{◌≡◌, ℕ, suc, List, [], ◌∷◌, length, refl, ap, ◌∙◌, arith}
use Rattle.fields.specs.Field.{Ops, Laws, plus, scale}
use Rattle.fields.specs.Basics
use Rattle.skew.specs.Products.{coef}

-- Lists with the same head and tail are the same.
pub cons_path : {F : Type 0} {x y : F} {xs ys : List F} → x ≡ y → xs ≡ ys → x ∷ xs ≡ y ∷ ys
cons_path {F} {x} {y} {xs} {ys} p q = ap (λ w. w ∷ xs) p ∙ ap (λ w. y ∷ w) q

module _ {F : Type 0} {o : Ops F} (l : Laws o) where
  -- A sum with nothing.
  pub plus_nil : (f : List F) → plus o f [] ≡ f
  plus_nil [] = refl
  plus_nil (x ∷ f) = refl

  -- Sums may be grouped at will.
  pub plus_assoc : (f g h : List F) → plus o (plus o f g) h ≡ plus o f (plus o g h)
  plus_assoc [] g h = refl
  plus_assoc (x ∷ f) [] h = refl
  plus_assoc (x ∷ f) (y ∷ g) [] = refl
  plus_assoc (x ∷ f) (y ∷ g) (z ∷ h) = cons_path (Basics.add_assoc l x y z) (plus_assoc f g h)

  -- Once a polynomial is the polynomial.
  pub scale_one : (f : List F) → scale o o.one f ≡ f
  scale_one [] = refl
  scale_one (x ∷ f) = cons_path (Basics.one_mul l x) (scale_one f)

  -- Lists of one length with the same coefficients are the same.
  pub same_coefs : (f g : List F) → length f ≡ length g → ((i : ℕ) → coef o f i ≡ coef o g i) → f ≡ g
  same_coefs [] [] len h = refl
  same_coefs [] (y ∷ g) len h = absurd (omega arith)
  same_coefs (x ∷ f) [] len h = absurd (omega arith)
  same_coefs (x ∷ f) (y ∷ g) len h = cons_path (h 0) (same_coefs f g (omega arith) (λ i. h (suc i)))
