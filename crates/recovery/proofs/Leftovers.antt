-- What a splitting leaves of a difference: once the column hints are cleared, and the row hints taken to zero, few elements span it.
--
--   joint q σ f          q0 + (q1 × σ) × f
--   Null q p             the pair q vanishes at the spot p
--   rest_of a v          the opposite of the value of q1 × σ at v
--   at_point             the rest of what the word has beyond f is the value of the joint polynomial, where the pair vanishes
--   at_sites             so the values of the joint polynomial are spanned by as few elements as the full part weighs
use Rattle.std.proofs.Common.{◌≡◌, ℕ, Bool, List, [], ◌∷◌, map, length, sym, refl, ap, ◌∙◌, subst, arith}
use Rattle.std.proofs.lemmas.List.{length-map}
use Rattle.std.specs.List.{AllByRecursion}
use Rattle.fields.specs.Field.{Ops, Laws, Fixed, plus}
use Rattle.fields.specs.Basics
use Rattle.fields.specs.Rows
use Rattle.skew.specs.Values.{eval}
use Rattle.skew.specs.Pairs.{Spot, Two}
use Rattle.skew.proofs.Evaluation
use Rattle.skew.proofs.Everywhere.{all_left, all_right}
use Rattle.skew.proofs.Multiplication
use Rattle.skew.proofs.Multiplication.{times}
use Rattle.ranks.specs.Ranks.{Spanned, IsRank, Weighs}
use Rattle.ranks.specs.Reduction.{Reduced}
use Rattle.ranks.specs.RowSteps.{clear}
use Rattle.ranks.proofs.Killing
use Rattle.ranks.proofs.Bases
use Rattle.ranks.proofs.ClearedRow
use Rattle.ranks.proofs.Separating
use Rattle.ranks.proofs.Separating.{together}
use Rattle.hints.specs.Splittings.{Parts, Splits, Splitting, full_part}
use Rattle.hints.proofs.Clears
use Rattle.recovery.proofs.Sites.{Site, givens, difference, differences, omit, left_locators, left_symbols, ReducedSite, AllReduced, left_code, points_at, all_points}
use Rattle.recovery.proofs.Placewise
use Rattle.recovery.proofs.Clearing
use Rattle.recovery.proofs.Clearing.{length_omit}
use Rattle.recovery.proofs.Omitting
use Rattle.recovery.proofs.Omitting.{all_omit, omit_map}

module _ {F : Type 0} {o : Ops F} (l : Laws o) where
  open o use {zero, add as ◌+◌, neg}

  infixl 65 ◌+◌
  -- There are as many symbols as locators in what the word has beyond a codeword.
  pub length_difference : (f : List F) (s : Site F) → length s.symbols ≡ length s.locators → length (difference o f s) ≡ length s.locators
  length_difference f s e =
      Rows.length_plus l s.symbols (map neg (map (eval o s.parameter f) s.locators))
      ∙ omega (arith, e, length-map (map (eval o s.parameter f) s.locators) neg, length-map s.locators (eval o s.parameter f))

  abbrev pub joint : Two F → List F → List F → List F
  joint q σ f = plus o q.q0 (times o (times o q.q1 σ) f)

  abbrev pub Null : Two F → Spot F → Type 0
  Null q p = eval o p.parameter q.q0 p.locator + eval o p.parameter q.q1 p.second ≡ zero

  module _ (q : Two F) (σ f : List F) where
    abbrev rest_of : F → F → F
    rest_of a v = neg (eval o a (times o q.q1 σ) v)

    -- It is linear.
    rest_linear : (a : F) → Evaluation.Linear l (rest_of a)
    rest_linear a = (
      (λ x y. ap neg (Evaluation.eval_add l a (times o q.q1 σ) x y) ∙ Basics.neg_sum l _ _),
      (λ d x p. ap neg (Evaluation.eval_scale l a (times o q.q1 σ) d x p) ∙ sym (Basics.mul_neg l d _)),
    )

    -- What the row hints span goes to zero where σ vanishes at them.
    rest_rows : (a : F) (rows : List F) → AllByRecursion (λ u. eval o a σ u ≡ zero) rows → (x : F) → Spanned o rows x → rest_of a x ≡ zero
    rest_rows a rows h x s =
        ap neg (Multiplication.product_applies l a q.q1 σ x ∙ ap (eval o a q.q1) (Killing.span_killed l σ a rows x (pairs rows h) s) ∙ Evaluation.eval_zero l a q.q1) ∙ Basics.neg_zero l
      where
        pairs : (us : List F) → AllByRecursion (λ u. eval o a σ u ≡ zero) us → AllByRecursion (Killing.Kills l σ) (Killing.paired l a us)
        pairs [] k = tt
        pairs (u ∷ us) k = (k.0, pairs us k.1)

    -- At a spot where the pair vanishes.
    at_point : (a b y : F) → eval o a q.q0 b + eval o a q.q1 (eval o a σ y) ≡ zero → rest_of a (y + neg (eval o a f b)) ≡ eval o a (joint q σ f) b
    at_point a b y z =
        (rest_linear a).0 y (neg (eval o a f b))
        ∙ ap (λ w. rest_of a y + w) (Placewise.linear_neg l (rest_of a) (rest_linear a) (eval o a f b) ∙ Basics.neg_neg l _)
        ∙ ap (λ w. neg w + eval o a (times o q.q1 σ) (eval o a f b)) (Multiplication.product_applies l a q.q1 σ y)
        ∙ ap (λ w. w + eval o a (times o q.q1 σ) (eval o a f b)) (sym (Basics.neg_unique l (eval o a q.q1 (eval o a σ y)) (eval o a q.q0 b) (Basics.add_comm l _ _ ∙ z)))
        ∙ sym (Evaluation.eval_plus l a q.q0 (times o (times o q.q1 σ) f) b ∙ ap (λ w. eval o a q.q0 b + w) (Multiplication.product_applies l a (times o q.q1 σ) f b))

    -- At all spots of a block.
    at_points : (a : F) (es bs ys : List F) → length bs ≡ length ys → AllByRecursion (Null q) (points_at o a σ bs ys)
        → AllByRecursion (Spanned o es) (map (rest_of a) (plus o ys (map neg (map (eval o a f) bs)))) → AllByRecursion (λ b. Spanned o es (eval o a (joint q σ f) b)) bs
    at_points a es [] ys e z h = tt
    at_points a es (b ∷ bs) [] e z h = absurd (omega arith)
    at_points a es (b ∷ bs) (y ∷ ys) e z h = (subst (Spanned o es) (at_point a b y z.0) h.0, at_points a es bs ys (omega arith) z.1 h.1)

    -- In one block.
    at_site : (m : List Bool) (s : Site F) (p : Parts F) (r : ℕ) → ReducedSite o m s → AllByRecursion (λ u. eval o s.parameter σ u ≡ zero) s.given.rows
        → Splits o s.given (difference o f s) p → IsRank o p.full r → AllByRecursion (Null q) (points_at o s.parameter σ (left_locators o m s) (left_symbols o m s))
        → (es : List F) × (length es ≡ r) × AllByRecursion (λ b. Spanned o es (eval o s.parameter (joint q σ f) b)) (left_locators o m s)
    at_site m s p r red kills P R z =
        (map T E.0, length-map E.0 T ∙ E.1, at_points s.parameter (map T E.0) (left_locators o m s) (left_symbols o m s) lengths z all)
      where
        T : F → F
        T = rest_of s.parameter

        E : (es : List F) × (length es ≡ r) × AllByRecursion (Spanned o es) p.full
        E = Bases.rank_spans l p.full r R

        at : F → F
        at = eval o s.parameter f

        hs : List (List F)
        hs = s.given.columns

        n : ℕ
        n = length s.locators

        fixed : AllByRecursion (AllByRecursion (Fixed o)) s.given.columns
        fixed = ClearedRow.fixed_list l hs n red.form.rows

        length_values : (v : List F) → length (map neg (map (eval o s.parameter f) v)) ≡ length v
        length_values v = length-map (map at v) neg ∙ length-map v at

        cleared : clear o m s.given.columns (difference o f s)
            ≡ plus o (clear o m s.given.columns s.symbols) (map neg (map (eval o s.parameter f) (clear o m s.given.columns s.locators)))
        cleared =
            Clears.clear_plus l m hs s.symbols (map neg (map at s.locators)) (red.size ∙ sym (length_values s.locators))
            ∙ ap (plus o (clear o m hs s.symbols)) (Clearing.clear_map l neg (Placewise.neg_linear l) m hs (map at s.locators) fixed
            ∙ ap (map neg) (Clearing.clear_map l at (Evaluation.eval_linear l s.parameter f) m hs s.locators fixed))

        cut_down : omit m (clear o m s.given.columns (difference o f s)) ≡ plus o (left_symbols o m s) (map neg (map (eval o s.parameter f) (left_locators o m s)))
        cut_down =
            ap (omit m) cleared
            ∙ Omitting.omit_plus l m (clear o m hs s.symbols) (map neg (map at (clear o m hs s.locators)))
            (ClearedRow.length_clear l m hs s.symbols ∙ red.size ∙ sym (length_values (clear o m hs s.locators) ∙ ClearedRow.length_clear l m hs s.locators))
            ∙ ap (plus o (left_symbols o m s)) (omit_map neg m (map at (clear o m hs s.locators)) ∙ ap (map neg) (omit_map at m (clear o m hs s.locators)))

        lengths : length (left_locators o m s) ≡ length (left_symbols o m s)
        lengths =
            omega (
              arith,
              length_omit m (clear o m hs s.locators) (ClearedRow.length_clear l m hs s.locators ∙ sym red.form.size),
              length_omit m (clear o m hs s.symbols) (ClearedRow.length_clear l m hs s.symbols ∙ red.size ∙ sym red.form.size),
            )

        reduced : Reduced o (length (difference o f s)) m s.given.columns
        reduced = subst (λ i. Reduced o i m s.given.columns) (sym (length_difference f s red.size)) red.form

        all : AllByRecursion (Spanned o (map (rest_of s.parameter) E.0)) (map (rest_of s.parameter) (plus o (left_symbols o m s) (map neg (map (eval o s.parameter f) (left_locators o m s)))))
        all =
            subst (AllByRecursion (Spanned o (map T E.0))) (omit_map T m (clear o m hs (difference o f s)) ∙ ap (map T) cut_down)
            (all_omit (Spanned o (map T E.0)) m (map T (clear o m hs (difference o f s)))
            (Clears.left_over l T (rest_linear s.parameter) (length (difference o f s)) m s.given (difference o f s) p E.0 refl reduced (rest_rows s.parameter s.given.rows kills) P E.2))

    -- In all blocks.
    pub at_sites : (marks : List (List Bool)) (sites : List (Site F)) (ps : List (Parts F)) (t : ℕ) → AllReduced o marks sites
        → AllByRecursion (λ s. AllByRecursion (λ u. eval o s.parameter σ u ≡ zero) s.given.rows) sites → Splitting o (givens sites) (differences o f sites) ps → Weighs o (full_part ps) t
        → AllByRecursion (Null q) (all_points o σ marks sites)
        → (spans : List (List F)) × (together spans ≡ t) × Separating.Within l (joint q σ f) (left_code o marks sites) spans
    at_sites [] [] [] t red kills P R z = ([], sym R, tt)
    at_sites [] [] (p ∷ ps) t red kills P R z = absurd P
    at_sites [] (s ∷ sites) ps t red kills P R z = absurd red
    at_sites (m ∷ marks) [] ps t red kills P R z = absurd red
    at_sites (m ∷ marks) (s ∷ sites) [] t red kills P R z = absurd P
    at_sites (m ∷ marks) (s ∷ sites) (p ∷ ps) t red kills P R z =
        let first = points_at o s.parameter σ (left_locators o m s) (left_symbols o m s) in
        let here = at_site m s p R.0 red.0 kills.0 P.0 R.1 (all_left (Null q) first (all_points o σ marks sites) z) in
        let there = at_sites marks sites ps R.2 red.1 kills.1 P.1 R.3 (all_right (Null q) first (all_points o σ marks sites) z) in
        (here.0 ∷ there.0, omega (arith, here.1, there.1, R.4), (here.2, there.2))
