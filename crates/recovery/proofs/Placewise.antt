-- Opposites and combinations of elements under linear maps, place by place.
--
--   Evaluation.Linear l T    T keeps sums and fixed multiples
use Rattle.std.proofs.Common.{◌≡◌, ℕ, suc, List, [], ◌∷◌, map, sym, refl, ap, ◌∙◌}
use Rattle.std.specs.List.{AllByRecursion}
use Rattle.fields.specs.Field.{Ops, Laws, Fixed, comb}
use Rattle.fields.specs.Basics
use Rattle.fields.specs.Twists
use Rattle.fields.specs.Basics.{ring}
use Rattle.skew.proofs.Evaluation
use Rattle.skew.proofs.Sums.{cons_path}
use Rattle.ranks.specs.Reduction.{heads, tails, mix}
use Rattle.ranks.proofs.Mixing

module _ {F : Type 0} {o : Ops F} (l : Laws o) where
  open o use {zero, one, add as ◌+◌, mul as ◌*◌, neg}

  infixl 65 ◌+◌
  infixl 70 ◌*◌
  -- The opposite is linear.
  pub neg_linear : Evaluation.Linear l neg
  neg_linear = (Basics.neg_sum l, λ d x p. sym (Basics.mul_neg l d x))

  -- The opposite as a product.
  one_less : (x : F) → neg one * x ≡ neg x
  one_less x = simp (ring, l)

  -- A linear map keeps opposites.
  pub linear_neg : (T : F → F) → Evaluation.Linear l T → (x : F) → T (neg x) ≡ neg (T x)
  linear_neg T L x = ap T (sym (one_less x)) ∙ L.1 (neg one) x (Twists.fixed_neg l one (Twists.fixed_one l)) ∙ one_less (T x)

  -- The same of each of a list.
  pub map_neg_map : (T : F → F) → Evaluation.Linear l T → (v : List F) → map neg (map T v) ≡ map T (map neg v)
  map_neg_map T L [] = refl
  map_neg_map T L (x ∷ v) = cons_path (sym (linear_neg T L x)) (map_neg_map T L v)

  -- A combination with opposite coefficients.
  pub comb_neg : (cs es : List F) → comb o (map neg cs) es ≡ neg (comb o cs es)
  comb_neg [] es = sym (Basics.neg_zero l)
  comb_neg (c ∷ cs) [] = sym (Basics.neg_zero l)
  comb_neg (c ∷ cs) (e ∷ es) = ap (λ w. neg c * e + w) (comb_neg cs es) ∙ simp (ring, l)

  -- A sum of fixed rows times images is the image of the sum.
  pub mix_map : (T : F → F) → Evaluation.Linear l T → (n : ℕ) (hs : List (List F)) (xs : List F) → AllByRecursion (AllByRecursion (Fixed o)) hs → mix o n hs (map T xs) ≡ map T (mix o n hs xs)
  mix_map T L ℕ.zero hs xs k = refl
  mix_map T L (suc n) hs xs k =
      cons_path (Evaluation.comb_map l T L (heads o hs) xs (Mixing.fixed_heads l hs k)) (mix_map T L n (tails o hs) xs (Mixing.fixed_tails l hs k))
