-- The difference of two codewords that are near one word is near zero, block by block.
--
--   Fits o s    there is a symbol for each locator, and the column hints are rows of as many fixed coefficients
--   near        what spans the values of the difference in each block
use Rattle.std.proofs.Common.{◌≡◌, ℕ, suc, ◌+◌ as ◌+ℕ◌, ◌<◌, ◌≤◌, List, [], ◌∷◌, map, length, get_or, drop, sym, ap, ◌∙◌, subst, arith}
use Rattle.std.proofs.lemmas.List.{length-drop, length-take-le}
use Rattle.std.specs.List.{AllByRecursion}
use Rattle.fields.specs.Field.{Ops, Laws, Zero, plus, scale}
use Rattle.fields.specs.Basics
use Rattle.fields.specs.Basics.{ring}
use Rattle.skew.specs.Values.{eval}
use Rattle.skew.specs.Products.{coef}
use Rattle.skew.specs.Roots.{Block, block}
use Rattle.skew.proofs.Evaluation
use Rattle.skew.proofs.Coefficients
use Rattle.skew.proofs.Sums
use Rattle.ranks.specs.Ranks.{total, cut, Spanned, Weighs}
use Rattle.ranks.specs.Reduction.{Row}
use Rattle.ranks.proofs.Separating
use Rattle.ranks.proofs.Separating.{together}
use Rattle.codes.specs.Codes.{block_size}
use Rattle.hints.specs.Splittings.{Given, Parts, Splitting, full_part, row_count, column_count}
use Rattle.recovery.proofs.Sites.{Site, code, givens, differences}
use Rattle.recovery.proofs.Siting.{sited}
use Rattle.recovery.proofs.Leftovers
use Rattle.recovery.proofs.Remainders
use Rattle.recovery.proofs.Remainders.{less}
use Rattle.recovery.proofs.NearBlock

pub record Fits {F : Type 0} (o : Ops F) (s : Site F) : Type 0 where
  pub size : length s.symbols ≡ length s.locators
  -- So it is spanned.
  pub columns : AllByRecursion (Row o (length s.locators)) s.given.columns

module _ {F : Type 0} {o : Ops F} (l : Laws o) where
  open o use {one, add as ◌+◌, mul as ◌*◌, neg}

  infixl 65 ◌+◌
  infixl 70 ◌*◌
  -- The value of a difference of polynomials, as what a symbol has beyond the one less what it has beyond the other.
  value_less : (a b y : F) (f g : List F) → y + neg (eval o a g b) + neg (y + neg (eval o a f b)) ≡ eval o a (less l f g) b
  value_less a b y f g =
      cancel (eval o a f b) (eval o a g b)
      ∙ sym (Evaluation.eval_plus l a (scale o one f) (scale o (neg one) g) b ∙ ap (λ w. w + eval o a (scale o (neg one) g) b) (Evaluation.eval_scaled l a one f b)
      ∙ ap (λ w. one * eval o a f b + w) (Evaluation.eval_scaled l a (neg one) g b))
    where
      cancel : (u v : F) → y + neg v + neg (y + neg u) ≡ one * u + neg one * v
      cancel u v = simp (ring, l)

  -- So the values of the difference are spanned by what spans the difference of the rows.
  values_spanned : (a : F) (es ys bs f g : List F) → length ys ≡ length bs
      → AllByRecursion (Spanned o es) (plus o (plus o ys (map neg (map (eval o a g) bs))) (map neg (plus o ys (map neg (map (eval o a f) bs)))))
      → AllByRecursion (λ b. Spanned o es (eval o a (less l f g) b)) bs
  values_spanned a es [] [] f g e h = tt
  values_spanned a es [] (b ∷ bs) f g e h = absurd (omega arith)
  values_spanned a es (y ∷ ys) [] f g e h = absurd (omega arith)
  values_spanned a es (y ∷ ys) (b ∷ bs) f g e h = (subst (Spanned o es) (value_less a b y f g) h.0, values_spanned a es ys bs f g (omega arith) h.1)

  -- Block by block.
  pub near : (sites : List (Site F)) (f g : List F) (ps qs : List (Parts F)) (r t : ℕ) → AllByRecursion (Fits o) sites
      → Splitting o (givens sites) (differences o f sites) ps → Splitting o (givens sites) (differences o g sites) qs → Weighs o (full_part ps) r → Weighs o (full_part qs) t
      → (spans : List (List F)) × (together spans ≡ r +ℕ t +ℕ (row_count (givens sites) +ℕ column_count (givens sites))) × Separating.Within l (less l f g) (code sites) spans
  near [] f g [] [] r t fits P Q R T = ([], omega (arith, R, T), tt)
  near [] f g [] (q ∷ qs) r t fits P Q R T = absurd Q
  near [] f g (p ∷ ps) qs r t fits P Q R T = absurd P
  near (s ∷ sites) f g [] qs r t fits P Q R T = absurd P
  near (s ∷ sites) f g (p ∷ ps) [] r t fits P Q R T = absurd Q
  near (s ∷ sites) f g (p ∷ ps) (q ∷ qs) r t fits P Q R T =
      let d = Leftovers.length_difference l f s fits.0.size in
      let e = Leftovers.length_difference l g s fits.0.size in
      let here = NearBlock.near_block l R.0 T.0 d e fits.0.columns P.0 Q.0 R.1 T.1 in
      let there = near sites f g ps qs R.2 T.2 fits.1 P.1 Q.1 R.3 T.3 in
      (here.0 ∷ there.0, omega (arith, here.1, there.1, R.4, T.4), (values_spanned s.parameter here.0 s.symbols s.locators f g fits.0.size here.2, there.2))

  -- Polynomials of one length whose difference is zero are the same.
  pub same : (f g : List F) → length f ≡ length g → AllByRecursion (Zero o) (less l f g) → f ≡ g
  same f g e z = Sums.same_coefs l f g e (λ i. Basics.equal_of_sub l (coef o f i) (coef o g i) (sym (Remainders.coef_less l f g i) ∙ Coefficients.coef_of l (less l f g) z i))

  -- Blocks with symbols and column hints of their lengths fit.
  pub all_fit : (blocks : List (Block F)) (w : List F) (gs : List (Given F)) (none : Given F) → total (map block_size blocks) ≤ length w → length gs ≡ length blocks
      → ((i : ℕ) → i < length blocks → AllByRecursion (Row o (get_or (map block_size blocks) i 0)) (get_or gs i none).columns)
      → AllByRecursion (Fits o) (sited blocks (cut (map block_size blocks) w) gs)
  all_fit [] w gs none long e fit = tt
  all_fit (block a bs ∷ blocks) w [] none long e fit = absurd (omega arith)
  all_fit (block a bs ∷ blocks) w (g ∷ gs) none long e fit = (
    record { size = length-take-le (length bs) w (omega (arith, long)); columns = fit 0 (omega arith) },
    all_fit blocks (drop (length bs) w) gs none (omega (arith, long, length-drop (length bs) w)) (omega arith) (λ i k. fit (suc i) (omega (arith, k))),
  )
