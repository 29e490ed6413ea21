-- Rows that are swept: each less a multiple of one row.
--
--   sweep ks g rows       each row less its element of ks times g
--   heads, tails          the first entries of the rows, and the rows from the next place on
use Rattle.std.proofs.Common.{◌≡◌, ℕ, suc, List, [], ◌∷◌, map, length, drop, sym, refl, ap, ◌∙◌, arith}
use Rattle.fields.specs.Field.{Ops, Laws, plus, scale}
use Rattle.fields.specs.Basics
use Rattle.fields.specs.Basics.{ring}
use Rattle.skew.specs.Products.{coef}
use Rattle.skew.proofs.Coefficients
use Rattle.skew.proofs.Sums
use Rattle.skew.proofs.Sums.{cons_path}
use Rattle.ranks.specs.Reduction.{heads, tails, zeros}

module _ {F : Type 0} {o : Ops F} (l : Laws o) where
  open o use {zero, one, add as ◌+◌, mul as ◌*◌, neg}

  infixl 65 ◌+◌
  infixl 70 ◌*◌
  -- Each row less its multiple of g.
  abbrev pub sweep : List F → List F → List (List F) → List (List F)
  sweep [] g rows = []
  sweep (k ∷ ks) g [] = []
  sweep (k ∷ ks) g (r ∷ rows) = plus o r (scale o (neg k) g) ∷ sweep ks g rows

  -- The sweep by the entries at the place p.
  pub sweep_is : (p : ℕ) (g : List F) (rows : List (List F)) → sweep (map (λ r. coef o r p) rows) g rows ≡ map (λ r. plus o r (scale o (neg (coef o r p)) g)) rows
  sweep_is p g [] = refl
  sweep_is p g (r ∷ rows) = ap (λ w. plus o r (scale o (neg (coef o r p)) g) ∷ w) (sweep_is p g rows)

  -- A sweep keeps the number of rows.
  pub length_sweep : (ks g : List F) (rows : List (List F)) → length ks ≡ length rows → length (sweep ks g rows) ≡ length rows
  length_sweep [] g [] e = refl
  length_sweep [] g (r ∷ rows) e = absurd (omega arith)
  length_sweep (k ∷ ks) g [] e = refl
  length_sweep (k ∷ ks) g (r ∷ rows) e = ap suc (length_sweep ks g rows (omega arith))

  -- The first entry of a row that is swept.
  head_sum : (k : F) (r g : List F) → coef o (plus o r (scale o (neg k) g)) 0 ≡ coef o r 0 + neg (k * coef o g 0)
  head_sum k r g = Coefficients.coef_plus l r (scale o (neg k) g) 0 ∙ ap (λ w. coef o r 0 + w) (Coefficients.coef_scale l (neg k) g 0 ∙ Basics.neg_mul l k (coef o g 0))

  -- What follows the first place of a multiple.
  drop_scale : (c : F) (g : List F) → drop 1 (scale o c g) ≡ scale o c (drop 1 g)
  drop_scale c [] = refl
  drop_scale c (x ∷ g) = refl

  -- And of a sum.
  drop_plus : (r s : List F) → drop 1 (plus o r s) ≡ plus o (drop 1 r) (drop 1 s)
  drop_plus [] s = refl
  drop_plus (x ∷ r) [] = sym (Sums.plus_nil l r)
  drop_plus (x ∷ r) (y ∷ s) = refl

  -- A sweep from the next place on.
  pub tails_sweep : (ks g : List F) (rows : List (List F)) → tails o (sweep ks g rows) ≡ sweep ks (drop 1 g) (tails o rows)
  tails_sweep [] g rows = refl
  tails_sweep (k ∷ ks) g [] = refl
  tails_sweep (k ∷ ks) g (r ∷ rows) = cons_path (drop_plus r (scale o (neg k) g) ∙ ap (plus o (drop 1 r)) (drop_scale (neg k) g)) (tails_sweep ks g rows)

  -- Where g has zero the entries stay; where g has one and the multiples are the entries, they go.
  pub heads_stay : (ks g : List F) (rows : List (List F)) → length ks ≡ length rows → coef o g 0 ≡ zero → heads o (sweep ks g rows) ≡ heads o rows
  heads_stay [] g [] e z = refl
  heads_stay [] g (r ∷ rows) e z = absurd (omega arith)
  heads_stay (k ∷ ks) g [] e z = refl
  heads_stay (k ∷ ks) g (r ∷ rows) e z = cons_path (head_sum k r g ∙ ap (λ w. coef o r 0 + neg (k * w)) z ∙ nought (coef o r 0)) (heads_stay ks g rows (omega arith) z)
    where
      nought : (x : F) → x + neg (k * zero) ≡ x
      nought x = simp (ring, l)

  -- Where g has one, and each multiple is the entry there, the entries become zero.
  pub heads_go : (g : List F) (rows : List (List F)) → coef o g 0 ≡ one → (ks : List F) → ks ≡ heads o rows → heads o (sweep ks g rows) ≡ zeros o (length rows)
  heads_go g rows z ks e = ap (λ w. heads o (sweep w g rows)) e ∙ go rows
    where
      gone : (x : F) → x + neg (x * one) ≡ zero
      gone x = simp (ring, l)

      go : (rs : List (List F)) → heads o (sweep (heads o rs) g rs) ≡ zeros o (length rs)
      go [] = refl
      go (r ∷ rs) = cons_path (head_sum (coef o r 0) r g ∙ ap (λ w. coef o r 0 + neg (coef o r 0 * w)) z ∙ gone (coef o r 0)) (go rs)
