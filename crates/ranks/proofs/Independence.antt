-- Independent elements and one more behind them.
--
--   ind_last    one that they do not span keeps them independent
--   not_free    one that they span does not
use Rattle.std.proofs.Common.{◌≡◌, suc, List, [], ◌∷◌, ◌++◌, map, length, sym, refl, ap, ◌∙◌, arith, length-append}
use Rattle.std.proofs.lemmas.List.{length-map}
use Rattle.std.specs.List.{AllByRecursion}
use Rattle.fields.specs.Field.{Ops, Zero, Fixed, comb}
use Rattle.fields.specs.Field as field
use Rattle.fields.specs.Basics
use Rattle.fields.specs.Twists
use Rattle.fields.specs.Inverses
use Rattle.fields.specs.Basics.{ring}
use Rattle.skew.specs.Roots.{Independent}
use Rattle.skew.proofs.Everywhere.{all_append, all_right}
use Rattle.ranks.specs.Ranks.{Spanned}
use Rattle.ranks.proofs.Bases

module _ {F : Type 0} {o : Ops F} (l : field.Laws o) where
  open o use {zero, one, add as ◌+◌, mul as ◌*◌, neg}

  infixl 65 ◌+◌
  infixl 70 ◌*◌
  -- An element that independent ones do not span, put after them.
  pub ind_last : (ys : List F) (x : F) → Independent o ys → ¬ Spanned o ys x → Independent o (ys ++ x ∷ [])
  ind_last ys x ind n cs len fix e =
      let s = apart cs ys (omega (arith, len, length-append ys (x ∷ []))) fix in
      let q = Bases.ind_more l x ys ind n (s.0 ∷ s.1) (ap suc s.2) (s.3, s.4) (sym s.6 ∙ e) in
      s.5 (q.0, q.1)
    where
      swap : (a b c : F) → a + (b + c) ≡ b + (a + c)
      swap a b c = Basics.add_left_comm l a b c

      -- The last coefficient and the others.
      apart : (ds zs : List F) → length ds ≡ suc (length zs) → AllByRecursion (Fixed o) ds
          → (c : F) × (es : List F) × (length es ≡ length zs) × Fixed o c × AllByRecursion (Fixed o) es × (AllByRecursion (Zero o) (c ∷ es) → AllByRecursion (Zero o) ds) × (comb o ds (zs ++ x ∷ []) ≡ c * x + comb o es zs)
      apart [] zs k f = absurd (omega arith)
      apart (d ∷ []) [] k f = (d, [], refl, f.0, tt, (λ z. (z.0, tt)), refl)
      apart (d ∷ b ∷ ds) [] k f = absurd (omega arith)
      apart (d ∷ ds) (z ∷ zs) k f =
          let r = apart ds zs (omega arith) f.1 in
          (r.0, d ∷ r.1, ap suc r.2, r.3, (f.0, r.4), (λ h. (h.1.0, r.5 (h.0, h.1.1))), ap (λ w. d * z + w) r.6 ∙ swap (d * z) (r.0 * x) (comb o r.1 zs))

  -- A list with an element that the ones before it span is not independent.
  pub not_free : (ys : List F) (x : F) (zs : List F) → Spanned o ys x → ¬ Independent o (ys ++ x ∷ zs)
  not_free ys x zs s ind =
      Inverses.one_zero l (sym (Basics.neg_neg l one) ∙ ap neg (all_right (Zero o) s.0 (neg one ∷ map (λ _. zero) zs) z).0 ∙ Basics.neg_zero l)
    where
      nones : (ws : List F) → AllByRecursion (Fixed o) (map (λ _. zero) ws)
      nones [] = tt
      nones (w ∷ ws) = (Twists.fixed_zero l, nones ws)

      nothing : (ws : List F) → comb o (map (λ _. zero) ws) ws ≡ zero
      nothing [] = refl
      nothing (w ∷ ws) = ap (λ v. zero * w + v) (nothing ws) ∙ simp (ring, l)

      joined : (cs ds : List F) → length cs ≡ length ds → (es : List F) (fs : List F) → comb o (cs ++ es) (ds ++ fs) ≡ comb o cs ds + comb o es fs
      joined [] [] e es fs = sym (Basics.zero_add l _)
      joined [] (b ∷ ds) e es fs = absurd (omega arith)
      joined (c ∷ cs) [] e es fs = absurd (omega arith)
      joined (c ∷ cs) (b ∷ ds) e es fs = ap (λ w. c * b + w) (joined cs ds (omega arith) es fs) ∙ sym (Basics.add_assoc l (c * b) _ _)

      cancel : (v : F) → v + (neg one * v + zero) ≡ zero
      cancel v = simp (ring, l)

      z : AllByRecursion (Zero o) (s.0 ++ neg one ∷ map (λ _. zero) zs)
      z =
          ind (s.0 ++ neg one ∷ map (λ _. zero) zs)
          (length-append s.0 (neg one ∷ map (λ _. zero) zs) ∙ omega (arith, s.1, length-append ys (x ∷ zs), length-map zs (λ _. zero)))
          (all_append (Fixed o) s.0 (neg one ∷ map (λ _. zero) zs) s.2 (Twists.fixed_neg l one (Twists.fixed_one l), nones zs))
          (joined s.0 ys s.1 (neg one ∷ map (λ _. zero) zs) (x ∷ zs) ∙ ap (λ w. comb o s.0 ys + (neg one * x + w)) (nothing zs) ∙ ap (λ w. w + (neg one * x + zero)) (sym s.3) ∙ cancel x)
