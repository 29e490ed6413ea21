-- Column hints taken away by their pivots: what is left of the locators is independent, so that what is left of a code is lawful.
--
--   clear_map              clearing and a linear map may change places
--   Gathered               how a combination of what is left comes from the locators
--   weave marks cs us      one list with us at the marked places and cs at the others
--   left_lawful            the blocks that are left are lawful, with a place less for each column hint
use Rattle.std.proofs.Common.{◌≡◌, suc, ◌+◌ as ◌+ℕ◌, Bool, true, false, List, [], ◌∷◌, map, length, sym, refl, ap, ◌∙◌, arith}
use Rattle.std.proofs.lemmas.List.{length-map}
use Rattle.std.specs.List.{AllByRecursion}
use Rattle.fields.specs.Field.{Ops, Laws, Zero, Fixed, plus, comb}
use Rattle.fields.specs.Basics
use Rattle.fields.specs.Twists
use Rattle.fields.specs.Basics.{ring}
use Rattle.fields.specs.Rows
use Rattle.skew.specs.Roots.{locator_count, Independent, Apart, Lawful}
use Rattle.skew.proofs.Evaluation
use Rattle.ranks.specs.Ranks.{pick}
use Rattle.ranks.specs.Reduction.{count, heads, tails, mix}
use Rattle.ranks.specs.RowSteps.{clear}
use Rattle.ranks.proofs.Spans
use Rattle.ranks.proofs.Picks
use Rattle.ranks.proofs.Mixing
use Rattle.ranks.proofs.ClearedRow
use Rattle.hints.specs.Splittings.{column_count}
use Rattle.hints.proofs.Clears
use Rattle.recovery.proofs.Sites.{Site, code, givens, omit, AllReduced, left_code}
use Rattle.recovery.proofs.Placewise

-- As many are left as are not marked.
pub length_omit : {A : Type 0} (marks : List Bool) (v : List A) → length v ≡ length marks → length (omit marks v) +ℕ count marks ≡ length marks
length_omit [] v e = omega arith
length_omit (m ∷ marks) [] e = absurd (omega arith)
length_omit (true ∷ marks) (x ∷ v) e = omega (arith, length_omit marks v (omega arith))
length_omit (false ∷ marks) (x ∷ v) e = omega (arith, length_omit marks v (omega arith))

module _ {F : Type 0} {o : Ops F} (l : Laws o) where
  open o use {zero, add as ◌+◌, mul as ◌*◌, neg}

  infixl 65 ◌+◌
  infixl 70 ◌*◌
  -- Clearing commutes with a linear map.
  pub clear_map : (T : F → F) → Evaluation.Linear l T → (marks : List Bool) (hs : List (List F)) (v : List F) → AllByRecursion (AllByRecursion (Fixed o)) hs → clear o marks hs (map T v) ≡ map T (clear o marks hs v)
  clear_map T L marks hs v k =
      ap (λ n. plus o (map T v) (map neg (mix o n hs (pick marks (map T v))))) (length-map v T)
      ∙ ap (λ w. plus o (map T v) (map neg (mix o (length v) hs w))) (Picks.pick_map T marks v)
      ∙ ap (λ w. plus o (map T v) (map neg w)) (Placewise.mix_map l T L (length v) hs (pick marks v) k)
      ∙ ap (λ w. plus o (map T v) w) (Placewise.map_neg_map l T L (mix o (length v) hs (pick marks v)))
      ∙ sym (Clears.map_plus l T L v (map neg (mix o (length v) hs (pick marks v))))

  -- A combination of what is left of v, where ps are taken off times their rows, is one of v at the same places less one of ps.
  Gathered : List Bool → List (List F) → List F → List F → List F → Type 0
  Gathered marks hs v cs ps =
      (w : List F) × AllByRecursion (Fixed o) w × (comb o cs (omit marks (plus o v (map neg (mix o (length v) hs ps)))) ≡ comb o cs (omit marks v) + neg (comb o w ps))

  -- Where nothing is left both are zero.
  no_sum : (cs ps : List F) → comb o cs [] ≡ comb o cs [] + neg (comb o [] ps)
  no_sum cs ps = Spans.comb_nil l cs ∙ sym (ap (λ w. w + neg zero) (Spans.comb_nil l cs) ∙ Basics.add_neg l zero)

  -- It is so for all lists.
  gathered : (marks : List Bool) (hs : List (List F)) (v cs ps : List F) → AllByRecursion (AllByRecursion (Fixed o)) hs → AllByRecursion (Fixed o) cs → Gathered marks hs v cs ps
  unfolding Gathered
  gathered [] hs v cs ps k fix = ([], tt, no_sum cs ps)
  gathered (m ∷ marks) hs [] cs ps k fix = ([], tt, no_sum cs ps)
  gathered (true ∷ marks) hs (x ∷ v) cs ps k fix = gathered marks (tails o hs) v cs ps (Mixing.fixed_tails l hs k) fix
  gathered (false ∷ marks) hs (x ∷ v) [] ps k fix = ([], tt, sym (Basics.add_neg l zero))
  gathered (false ∷ marks) hs (x ∷ v) (c ∷ cs) ps k fix =
      let g = gathered marks (tails o hs) v cs ps (Mixing.fixed_tails l hs k) fix.1 in (
        plus o (map (o.mul c) (heads o hs)) g.0,
        Rows.fixed_plus l (map (o.mul c) (heads o hs)) g.0 (Rows.fixed_scaled l c (heads o hs) fix.0 (Mixing.fixed_heads l hs k)) g.1,
        ap (λ w. c * (x + neg (comb o (heads o hs) ps)) + w) g.2 ∙ regroup (comb o (heads o hs) ps) (comb o cs (omit marks v)) (comb o g.0 ps)
            ∙ ap (λ w. c * x + comb o cs (omit marks v) + neg w) (sym (Rows.comb_plus l (map (o.mul c) (heads o hs)) g.0 ps ∙ ap (λ w. w + comb o g.0 ps) (Rows.comb_scale l c (heads o hs) ps))),
      )
    where
      regroup : (p q r : F) → c * (x + neg p) + (q + neg r) ≡ c * x + q + neg (c * p + r)
      regroup p q r = simp (ring, l)

  -- Coefficients for the places that are left and for the pivots, as one list.
  abbrev weave : List Bool → List F → List F → List F
  weave [] cs us = []
  weave (true ∷ marks) cs [] = zero ∷ weave marks cs []
  weave (true ∷ marks) cs (u ∷ us) = u ∷ weave marks cs us
  weave (false ∷ marks) [] us = zero ∷ weave marks [] us
  weave (false ∷ marks) (c ∷ cs) us = c ∷ weave marks cs us

  -- It combines what is left by the one, and what is picked by the other.
  comb_weave : (marks : List Bool) (cs us v : List F) → length v ≡ length marks → comb o (weave marks cs us) v ≡ comb o cs (omit marks v) + comb o us (pick marks v)
  comb_weave [] cs us v e = sym (ap (λ w. w + comb o us []) (Spans.comb_nil l cs) ∙ ap (λ w. zero + w) (Spans.comb_nil l us) ∙ Basics.add_zero l zero)
  comb_weave (m ∷ marks) cs us [] e = absurd (omega arith)
  comb_weave (true ∷ marks) cs [] (x ∷ v) e = ap (λ w. zero * x + w) (comb_weave marks cs [] v (omega arith)) ∙ nought (comb o cs (omit marks v)) (comb o [] (pick marks v))
    where
      nought : (p q : F) → zero * x + (p + q) ≡ p + q
      nought p q = simp (ring, l)
  comb_weave (true ∷ marks) cs (u ∷ us) (x ∷ v) e = ap (λ w. u * x + w) (comb_weave marks cs us v (omega arith)) ∙ Basics.add_left_comm l _ _ _
  comb_weave (false ∷ marks) [] us (x ∷ v) e = ap (λ w. zero * x + w) (comb_weave marks [] us v (omega arith)) ∙ nought (comb o us (pick marks v))
    where
      nought : (q : F) → zero * x + (zero + q) ≡ zero + q
      nought q = simp (ring, l)
  comb_weave (false ∷ marks) (c ∷ cs) us (x ∷ v) e = ap (λ w. c * x + w) (comb_weave marks cs us v (omega arith)) ∙ sym (Basics.add_assoc l _ _ _)

  -- It is as long as the marks.
  length_weave : (marks : List Bool) (cs us : List F) → length (weave marks cs us) ≡ length marks
  length_weave [] cs us = refl
  length_weave (true ∷ marks) cs [] = ap suc (length_weave marks cs [])
  length_weave (true ∷ marks) cs (u ∷ us) = ap suc (length_weave marks cs us)
  length_weave (false ∷ marks) [] us = ap suc (length_weave marks [] us)
  length_weave (false ∷ marks) (c ∷ cs) us = ap suc (length_weave marks cs us)

  -- It is fixed where both lists are.
  fixed_weave : (marks : List Bool) (cs us : List F) → AllByRecursion (Fixed o) cs → AllByRecursion (Fixed o) us → AllByRecursion (Fixed o) (weave marks cs us)
  fixed_weave [] cs us h k = tt
  fixed_weave (true ∷ marks) cs [] h k = (Twists.fixed_zero l, fixed_weave marks cs [] h k)
  fixed_weave (true ∷ marks) cs (u ∷ us) h k = (k.0, fixed_weave marks cs us h k.1)
  fixed_weave (false ∷ marks) [] us h k = (Twists.fixed_zero l, fixed_weave marks [] us h k)
  fixed_weave (false ∷ marks) (c ∷ cs) us h k = (h.0, fixed_weave marks cs us h.1 k)

  -- Where it is zero, so are the coefficients of what is left.
  zero_weave : (marks : List Bool) (cs us : List F) → length cs +ℕ count marks ≡ length marks → AllByRecursion (Zero o) (weave marks cs us) → AllByRecursion (Zero o) cs
  zero_weave [] [] us e h = tt
  zero_weave [] (c ∷ cs) us e h = absurd (omega arith)
  zero_weave (true ∷ marks) cs [] e h = zero_weave marks cs [] (omega arith) h.1
  zero_weave (true ∷ marks) cs (u ∷ us) e h = zero_weave marks cs us (omega arith) h.1
  zero_weave (false ∷ marks) [] us e h = tt
  zero_weave (false ∷ marks) (c ∷ cs) us e h = (h.0, zero_weave marks cs us (omega arith) h.1)

  -- What is left of independent elements is independent.
  left_independent : (marks : List Bool) (hs : List (List F)) (bs : List F) → length marks ≡ length bs → AllByRecursion (AllByRecursion (Fixed o)) hs → Independent o bs → Independent o (omit marks (clear o marks hs bs))
  unfolding Gathered
  left_independent marks hs bs len k ind cs m fix e =
      zero_weave marks cs (map neg g.0) (omega (arith, m, length_omit marks (clear o marks hs bs) (ClearedRow.length_clear l marks hs bs ∙ sym len)))
      (ind (weave marks cs (map neg g.0)) (length_weave marks cs (map neg g.0) ∙ len) (fixed_weave marks cs (map neg g.0) fix (ClearedRow.fixed_negs l g.0 g.1)) sum)
    where
      g : Gathered marks hs bs cs (pick marks bs)
      g = gathered marks hs bs cs (pick marks bs) k fix

      sum : comb o (weave marks cs (map neg g.0)) bs ≡ zero
      sum = comb_weave marks cs (map neg g.0) bs (sym len) ∙ ap (λ w. comb o cs (omit marks bs) + w) (Placewise.comb_neg l g.0 (pick marks bs)) ∙ sym g.2 ∙ e

  -- The parameters are the same.
  left_apart : (a : F) (marks : List (List Bool)) (sites : List (Site F)) → AllByRecursion (Apart o a) (code sites) → AllByRecursion (Apart o a) (left_code o marks sites)
  left_apart a [] sites h = tt
  left_apart a (m ∷ marks) [] h = tt
  left_apart a (m ∷ marks) (s ∷ sites) h = (h.0, left_apart a marks sites h.1)

  -- The blocks that are left are lawful, with a place less for each column hint.
  pub left_lawful : (marks : List (List Bool)) (sites : List (Site F)) → Lawful o (code sites) → AllReduced o marks sites
      → Lawful o (left_code o marks sites) × (locator_count (left_code o marks sites) +ℕ column_count (givens sites) ≡ locator_count (code sites))
  left_lawful [] [] lawful red = (tt, omega arith)
  left_lawful [] (s ∷ sites) lawful red = absurd red
  left_lawful (m ∷ marks) [] lawful red = absurd red
  left_lawful (m ∷ marks) (s ∷ sites) lawful red =
      let r = left_lawful marks sites lawful.3 red.1 in
      let f = red.0.form in
      let hs = s.given.columns in (
        (lawful.0, left_independent m hs s.locators f.size (ClearedRow.fixed_list l hs (length s.locators) f.rows) lawful.1, left_apart s.parameter marks sites lawful.2, r.0),
        omega (arith, r.1, f.size, f.full, length_omit m (clear o m hs s.locators) (ClearedRow.length_clear l m hs s.locators ∙ sym f.size)),
      )
