-- The exchange lemma, bases, and ranks.
--
--   exchange         no more elements are independent than there are elements that span them
--   Basis xs         independent ones among xs that span all of them
use Rattle.std.proofs.Common.{◌≡◌, ℕ, suc, ◌≤◌, Bool, true, false, ◌≢◌, List, [], ◌∷◌, length, sym, refl, ap, ◌∙◌, subst, arith}
use Rattle.std.proofs.Math.Decide
use Rattle.std.proofs.lemmas.List.{length-map}
use Rattle.std.specs.List.{AllByRecursion}
use Rattle.fields.specs.Field.{Ops, Laws, Zero, comb}
use Rattle.fields.specs.Twists
use Rattle.fields.specs.Inverses
use Rattle.fields.specs.Basics
use Rattle.fields.specs.Basics.{ring}
use Rattle.skew.specs.Roots.{block, Independent, Lawful}
use Rattle.skew.specs.Products.{coef}
use Rattle.skew.proofs.Everywhere.{all_append}
use Rattle.skew.proofs.Coefficients
use Rattle.skew.proofs.RootCount
use Rattle.ranks.specs.Ranks.{pick, Spanned, IsRank}
use Rattle.ranks.proofs.Killing
use Rattle.ranks.proofs.SpanTests
use Rattle.ranks.proofs.Spans

module _ {F : Type 0} {o : Ops F} (l : Laws o) where
  open o use {zero, one, add as ◌+◌, mul as ◌*◌, neg, inv}

  infixl 65 ◌+◌
  infixl 70 ◌*◌
  -- A polynomial that vanishes at es vanishes at elements that they span.
  killed : (p es xs : List F) → AllByRecursion (Killing.Kills l p) (Killing.paired l one es) → AllByRecursion (Spanned o es) xs → AllByRecursion (Killing.Kills l p) (Killing.paired l one xs)
  killed p es [] h s = tt
  killed p es (x ∷ xs) h s = (Killing.span_killed l p one es x h s.0, killed p es xs h s.1)

  -- The exchange lemma: no more elements are independent than there are elements that span them. A polynomial of degree
  -- `length es` vanishes at es, so at xs, and is not zero: the root count.
  pub exchange : (xs es : List F) → Independent o xs → AllByRecursion (Spanned o es) xs → length xs ≤ length es
  exchange xs es ind s =
      elim (Decide.dec_le (length xs) (length es)) [
        | yes m ↦ m
        | no m ↦ absurd (Inverses.one_zero l (sym a.2 ∙ Coefficients.coef_of l a.0 (null (omega arith)) (length (Killing.paired l one es))))
      ]
    where
      a : (p : List F) × (length p ≡ suc (length (Killing.paired l one es))) × (coef o p (length (Killing.paired l one es)) ≡ one) × AllByRecursion (Killing.Kills l p) (Killing.paired l one es)
      a = Killing.killer l (Killing.paired l one es)

      lawful : Lawful o (block one xs ∷ [])
      lawful = (Inverses.one_zero l, ind, tt, tt)

      null : suc (length es) ≤ length xs → AllByRecursion (Zero o) a.0
      null m =
          RootCount.roots_few l (block one xs ∷ []) a.0 lawful (omega (arith, a.1, length-map {B = F × F} es (λ e. (one, e))))
          (all_append (Killing.Kills l a.0) (Killing.paired l one xs) [] (killed a.0 es xs a.3 s) tt)

  -- No elements are independent.
  pub ind_nil : Independent o []
  ind_nil [] len fix e = tt
  ind_nil (c ∷ cs) len fix e = absurd (omega arith)

  -- An element that independent ones do not span is independent of them.
  pub ind_more : (x : F) (ys : List F) → Independent o ys → ¬ Spanned o ys x → Independent o (x ∷ ys)
  ind_more x ys ind n [] len fix e = absurd (omega arith)
  ind_more x ys ind n (c ∷ cs) len fix e =
      elim (l.same c zero) [
        | yes z ↦ (z, ind cs (omega arith) fix.1 (sym (ap (λ w. w * x + comb o cs ys) z ∙ nought (comb o cs ys)) ∙ e))
        | no m ↦ absurd (n (span m))
      ]
    where
      nought : (w : F) → zero * x + w ≡ w
      nought w = simp (ring, l)

      turned : (v : F) → c ≢ zero → c * x + v ≡ zero → x ≡ neg (inv c) * v
      turned v m q =
          sym (Inverses.inv_mul_cancel l c x m) ∙ ap (λ w. inv c * w) (Basics.equal_of_sub l (c * x) (neg v) (ap (λ w. c * x + w) (Basics.neg_neg l v) ∙ q)) ∙ simp (ring, l)

      span : c ≢ zero → Spanned o ys x
      span m =
          subst (Spanned o ys) (sym (turned (comb o cs ys) m e))
          (Spans.spanned_scale l ys (neg (inv c)) (comb o cs ys) (Twists.fixed_neg l _ (Twists.fixed_inv l c m fix.0)) (cs, omega arith, fix.1, refl))

  abbrev Basis : List F → Type 0
  Basis xs = (marks : List Bool) × Independent o (pick marks xs) × AllByRecursion (Spanned o (pick marks xs)) xs

  -- One element more: it is spanned, or is marked too.
  basis_more : (x : F) (xs : List F) (b : Basis xs) → Dec (Spanned o (pick b.0 xs) x) → Basis (x ∷ xs)
  basis_more x xs b (yes s) = (false ∷ b.0, b.1, (s, b.2))
  basis_more x xs b (no n) =
      (true ∷ b.0, ind_more x (pick b.0 xs) b.1 n, (Spans.spanned_first l x (pick b.0 xs), Spans.all_more l x (pick b.0 xs) xs b.2))

  -- There is a basis among the elements.
  basis : (xs : List F) → Basis xs
  basis [] = ([], ind_nil, tt)
  basis (x ∷ xs) = let b = basis xs in basis_more x xs b (SpanTests.span_told l (pick b.0 xs) b.1 x)

  -- Each list has a rank.
  pub rank_exists : (xs : List F) → (r : ℕ) × IsRank o xs r
  rank_exists xs =
      let b = basis xs in
      (length (pick b.0 xs), ((b.0, b.1, refl), (λ marks ind. exchange (pick marks xs) (pick b.0 xs) ind (Spans.all_pick l (Spanned o (pick b.0 xs)) marks xs b.2))))

  -- And only one.
  pub rank_unique : (xs : List F) (r s : ℕ) → IsRank o xs r → IsRank o xs s → r ≡ s
  rank_unique xs r s p q = omega (arith, p.0.2, q.0.2, p.1 q.0.0 q.0.1, q.1 p.0.0 p.0.1)

  -- A list of rank r is spanned by r elements.
  pub rank_spans : (xs : List F) (r : ℕ) → IsRank o xs r → (es : List F) × (length es ≡ r) × AllByRecursion (Spanned o es) xs
  rank_spans xs r h =
      let b = basis xs in
      (pick b.0 xs, rank_unique xs _ r ((b.0, b.1, refl), (λ marks ind. exchange (pick marks xs) (pick b.0 xs) ind (Spans.all_pick l (Spanned o (pick b.0 xs)) marks xs b.2))) h, b.2)

  -- Independent elements that span the list, and that the list spans, are as many as its rank.
  pub rank_by : (xs es : List F) → Independent o es → AllByRecursion (Spanned o es) xs → AllByRecursion (Spanned o xs) es → IsRank o xs (length es)
  rank_by xs es ind s t =
      let r = rank_exists xs in
      let E = rank_spans xs r.0 r.1 in
      let ys = pick r.1.0.0 xs in
      let up : length es ≤ r.0 = omega (arith, exchange es E.0 ind (Spans.spanned_all l E.0 xs es E.2 t), E.1) in
      let down : r.0 ≤ length es = omega (arith, exchange ys es r.1.0.1 (Spans.all_pick l (Spanned o es) r.1.0.0 xs s), r.1.0.2) in
      let same : r.0 ≡ length es = omega arith in
      subst (IsRank o xs) same r.1
