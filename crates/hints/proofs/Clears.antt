-- What is left of a difference when column hints are cleared away by their pivots, and what a splitting says of it.
use Rattle.std.proofs.Common.{◌≡◌, ℕ, suc, max, Bool, List, [], ◌∷◌, map, length, sym, refl, ap, ◌∙◌, subst, arith}
use Rattle.std.proofs.lemmas.List.{length-map}
use Rattle.std.specs.List.{AllByRecursion}
use Rattle.fields.specs.Field.{Ops, Laws, Zero, Fixed, plus}
use Rattle.fields.specs.Basics
use Rattle.fields.specs.Twists
use Rattle.fields.specs.Basics.{ring}
use Rattle.fields.specs.Rows
use Rattle.skew.proofs.Evaluation
use Rattle.skew.proofs.Sums
use Rattle.skew.proofs.Sums.{cons_path}
use Rattle.ranks.specs.Ranks.{pick, Spanned}
use Rattle.ranks.specs.Reduction.{count, heads, tails, mix, Pivots, Reduced}
use Rattle.ranks.specs.RowSteps.{clear}
use Rattle.ranks.proofs.Spans
use Rattle.ranks.proofs.Picks
use Rattle.ranks.proofs.Mixing
use Rattle.ranks.proofs.ClearedRow
use Rattle.hints.specs.Splittings.{Given, Parts, Splits}

module _ {F : Type 0} {o : Ops F} (l : Laws o) where
  open o use {zero, one, mul as ◌*◌, neg}

  infixl 70 ◌*◌
  -- Sums of rows in either order.
  plus_comm : (u v : List F) → plus o u v ≡ plus o v u
  plus_comm [] v = sym (Sums.plus_nil l v)
  plus_comm (x ∷ u) [] = refl
  plus_comm (x ∷ u) (y ∷ v) = cons_path (Basics.add_comm l x y) (plus_comm u v)

  -- The first two of three rows in either order.
  pub plus_left_comm : (u v w : List F) → plus o u (plus o v w) ≡ plus o v (plus o u w)
  plus_left_comm u v w = sym (Sums.plus_assoc l u v w) ∙ ap (λ z. plus o z w) (plus_comm u v) ∙ Sums.plus_assoc l v u w

  -- Opposites of a sum.
  negs_plus : (u v : List F) → map neg (plus o u v) ≡ plus o (map neg u) (map neg v)
  negs_plus [] v = refl
  negs_plus (x ∷ u) [] = refl
  negs_plus (x ∷ u) (y ∷ v) = cons_path (Basics.neg_sum l x y) (negs_plus u v)

  -- Images of a sum.
  pub map_plus : (T : F → F) → Evaluation.Linear l T → (u v : List F) → map T (plus o u v) ≡ plus o (map T u) (map T v)
  map_plus T L [] v = refl
  map_plus T L (x ∷ u) [] = refl
  map_plus T L (x ∷ u) (y ∷ v) = cons_path (L.0 x y) (map_plus T L u v)

  -- A sum is cleared part by part.
  pub clear_plus : (marks : List Bool) (hs : List (List F)) (u v : List F) → length u ≡ length v → clear o marks hs (plus o u v) ≡ plus o (clear o marks hs u) (clear o marks hs v)
  clear_plus marks hs u v e =
      ap (λ n. plus o (plus o u v) (map neg (mix o n hs (pick marks (plus o u v))))) (Rows.length_plus l u v ∙ largest)
      ∙ ap (λ w. plus o (plus o u v) (map neg (mix o (length u) hs w))) (Picks.pick_plus l marks u v e)
      ∙ ap (λ w. plus o (plus o u v) (map neg w)) (Mixing.mix_plus l (length u) hs (pick marks u) (pick marks v))
      ∙ swap u v (mix o (length u) hs (pick marks u)) (mix o (length u) hs (pick marks v))
      ∙ ap (λ n. plus o (clear o marks hs u) (plus o v (map neg (mix o n hs (pick marks v))))) e
    where
      largest : max (length u) (length v) ≡ length u
      largest = omega arith

      swap : (p q r s : List F) → plus o (plus o p q) (map neg (plus o r s)) ≡ plus o (plus o p (map neg r)) (plus o q (map neg s))
      swap p q r s = simp (negs_plus, Sums.plus_assoc l, plus_left_comm)

  -- The opposite of what is spanned.
  spanned_neg : (es : List F) (u : F) → Spanned o es u → Spanned o es (neg u)
  spanned_neg es u s = subst (Spanned o es) (one_less u) (Spans.spanned_scale l es (neg one) u (Twists.fixed_neg l one (Twists.fixed_one l)) s)
    where
      one_less : (y : F) → neg one * y ≡ neg y
      one_less y = simp (ring, l)

  -- Opposites of what is spanned.
  pub all_neg : (es us : List F) → AllByRecursion (Spanned o es) us → AllByRecursion (Spanned o es) (map neg us)
  all_neg es [] h = tt
  all_neg es (u ∷ us) h = (spanned_neg es u h.0, all_neg es us h.1)

  -- Sums of what is spanned.
  pub all_sum : (es us vs : List F) → AllByRecursion (Spanned o es) us → AllByRecursion (Spanned o es) vs → AllByRecursion (Spanned o es) (plus o us vs)
  all_sum es [] vs h k = k
  all_sum es (u ∷ us) [] h k = h
  all_sum es (u ∷ us) (v ∷ vs) h k = (Spans.spanned_add l es u v h.0 k.0, all_sum es us vs h.1 k.1)

  -- Sums of fixed rows times what is spanned.
  pub all_mix : (n : ℕ) (hs : List (List F)) (es ps : List F) → AllByRecursion (AllByRecursion (Fixed o)) hs → AllByRecursion (Spanned o es) ps → AllByRecursion (Spanned o es) (mix o n hs ps)
  all_mix ℕ.zero hs es ps k h = tt
  all_mix (suc n) hs es ps k h = (Spans.spanned_comb l es (heads o hs) ps (Mixing.fixed_heads l hs k) h, all_mix n (tails o hs) es ps (Mixing.fixed_tails l hs k) h)

  -- What is spanned stays so when it is cleared by fixed rows.
  clear_spanned : (marks : List Bool) (hs : List (List F)) (es v : List F) → AllByRecursion (AllByRecursion (Fixed o)) hs → AllByRecursion (Spanned o es) v → AllByRecursion (Spanned o es) (clear o marks hs v)
  clear_spanned marks hs es v k h =
      all_sum es v (map neg (mix o (length v) hs (pick marks v))) h
      (all_neg es (mix o (length v) hs (pick marks v)) (all_mix (length v) hs es (pick marks v) k (Spans.all_pick l (Spanned o es) marks v h)))

  -- A sum of the rows is cleared away.
  clear_mix : (marks : List Bool) (hs : List (List F)) (xs : List F) → Pivots o 0 marks hs → length xs ≡ length hs → count marks ≡ length xs
      → AllByRecursion (Zero o) (clear o marks hs (mix o (length marks) hs xs))
  clear_mix marks hs xs h e c = subst (λ w. AllByRecursion (Zero o) (plus o v (map neg w))) (sym same) (Mixing.all_away l v)
    where
      v : List F
      v = mix o (length marks) hs xs

      same : mix o (length (mix o (length marks) hs xs)) hs (pick marks (mix o (length marks) hs xs)) ≡ mix o (length marks) hs xs
      same =
          ap (λ n. mix o n hs (pick marks (mix o (length marks) hs xs))) (Mixing.length_mix l (length marks) hs xs)
          ∙ ap (λ w. mix o (length marks) hs w) (Picks.pick_mix l 0 marks hs xs h e (omega arith))

  -- Images of what is spanned are spanned by the images.
  all_image : (T : F → F) → Evaluation.Linear l T → (es v : List F) → AllByRecursion (Spanned o es) v → AllByRecursion (Spanned o (map T es)) (map T v)
  all_image T L es [] h = tt
  all_image T L es (x ∷ v) h =
      ((h.0.0, h.0.1 ∙ sym (length-map es T), h.0.2, ap T h.0.3 ∙ sym (Evaluation.comb_map l T L h.0.0 es h.0.2)), all_image T L es v h.1)

  -- Elements that become zero become what is spanned.
  none_image : (T : F → F) (P : F → Type 0) → ((x : F) → P x → T x ≡ zero) → (es v : List F) → AllByRecursion P v → AllByRecursion (Spanned o es) (map T v)
  none_image T P z es [] h = tt
  none_image T P z es (x ∷ v) h = (subst (Spanned o es) (sym (z x h.0)) (Spans.spanned_zero l es), none_image T P z es v h.1)

  -- Of a difference that splits, what is left after clearing, under a linear map that takes the row hints to zero, is spanned by the
  -- images of what spans the full part.
  pub left_over : (T : F → F) → Evaluation.Linear l T → (n : ℕ) (marks : List Bool) (g : Given F) (e : List F) (p : Parts F) (es : List F)
      → length e ≡ n → Reduced o n marks g.columns → ((x : F) → Spanned o g.rows x → T x ≡ zero) → Splits o g e p → AllByRecursion (Spanned o es) p.full
      → AllByRecursion (Spanned o (map T es)) (map T (clear o marks g.columns e))
  left_over T L n marks g e p es len red kills P h =
      subst (AllByRecursion (Spanned o (map T es))) (sym are)
      (all_sum (map T es) (map T (cleared p.full)) _ (all_image T L es (cleared p.full) (clear_spanned marks g.columns es p.full fixed h))
      (all_sum (map T es) (map T (cleared p.row)) (map T (cleared p.column))
      (none_image T (Spanned o g.rows) kills (map T es) (cleared p.row) (clear_spanned marks g.columns g.rows p.row fixed P.rows))
      (none_image T (Zero o) (λ x z. ap T z ∙ kills zero (Spans.spanned_zero l g.rows)) (map T es) (cleared p.column) gone)))
    where
      cleared : List F → List F
      cleared v = clear o marks g.columns v

      fixed : AllByRecursion (AllByRecursion (Fixed o)) g.columns
      fixed = ClearedRow.fixed_list l g.columns n red.rows

      column_is : p.column ≡ mix o (length marks) g.columns P.columns.0
      column_is = P.columns.2 ∙ ap (λ i. mix o i g.columns P.columns.0) (len ∙ sym red.size)

      gone : AllByRecursion (Zero o) (clear o marks g.columns p.column)
      gone =
          subst (λ w. AllByRecursion (Zero o) (clear o marks g.columns w)) (sym column_is)
          (clear_mix marks g.columns P.columns.0 red.pivots P.columns.1 (omega (arith, red.full, P.columns.1)))

      length_column : length p.column ≡ length e
      length_column = ap length column_is ∙ Mixing.length_mix l (length marks) g.columns P.columns.0 ∙ red.size ∙ sym len

      are : map T (clear o marks g.columns e)
          ≡ plus o (map T (clear o marks g.columns p.full)) (plus o (map T (clear o marks g.columns p.row)) (map T (clear o marks g.columns p.column)))
      are =
          ap (λ w. map T (clear o marks g.columns w)) P.sum
          ∙ ap (map T) (clear_plus marks g.columns p.full (plus o p.row p.column) (P.full_size ∙ sym (Rows.length_plus l p.row p.column ∙ omega (arith, P.row_size, length_column)))
          ∙ ap (plus o (clear o marks g.columns p.full)) (clear_plus marks g.columns p.row p.column (P.row_size ∙ sym length_column)))
          ∙ map_plus T L (clear o marks g.columns p.full) (plus o (clear o marks g.columns p.row) (clear o marks g.columns p.column))
          ∙ ap (plus o (map T (clear o marks g.columns p.full))) (map_plus T L (clear o marks g.columns p.row) (clear o marks g.columns p.column))
