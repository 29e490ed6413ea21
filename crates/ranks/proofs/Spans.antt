-- What elements span: sums, fixed multiples and combinations of what is spanned, and elements more.
use Rattle.std.proofs.Common.{◌≡◌, suc, Bool, true, false, List, [], ◌∷◌, map, sym, refl, ap, ◌∙◌, subst, arith}
use Rattle.std.proofs.lemmas.List.{length-map}
use Rattle.std.specs.List.{AllByRecursion}
use Rattle.fields.specs.Field.{Ops, Laws, Fixed, plus, comb}
use Rattle.fields.specs.Twists
use Rattle.fields.specs.Basics.{ring}
use Rattle.fields.specs.Rows
use Rattle.skew.proofs.IndependentLocators
use Rattle.ranks.specs.Ranks.{pick, Spanned}

module _ {F : Type 0} {o : Ops F} (l : Laws o) where
  open o use {zero, one, add as ◌+◌, mul as ◌*◌}

  infixl 65 ◌+◌
  infixl 70 ◌*◌
  -- A combination of no elements.
  pub comb_nil : (cs : List F) → comb o cs [] ≡ zero
  comb_nil [] = refl
  comb_nil (c ∷ cs) = refl

  -- Zero is spanned.
  pub spanned_zero : (es : List F) → Spanned o es zero
  spanned_zero es = (map (λ _. zero) es, length-map es (λ _. zero), IndependentLocators.fixed_zeros l es, sym (IndependentLocators.comb_zeros l es es))

  -- A sum of what is spanned is spanned.
  pub spanned_add : (es : List F) (u v : F) → Spanned o es u → Spanned o es v → Spanned o es (u + v)
  spanned_add es u v s t = (
    plus o s.0 t.0,
    Rows.length_plus l s.0 t.0 ∙ omega (arith, s.1, t.1),
    Rows.fixed_plus l s.0 t.0 s.2 t.2,
    sym (Rows.comb_plus l s.0 t.0 es ∙ ap (λ w. w + comb o t.0 es) (sym s.3) ∙ ap (λ w. u + w) (sym t.3)),
  )

  -- What is spanned, times a fixed element.
  pub spanned_scale : (es : List F) (d v : F) → Fixed o d → Spanned o es v → Spanned o es (d * v)
  spanned_scale es d v p s =
      (map (o.mul d) s.0, length-map s.0 (o.mul d) ∙ s.1, Rows.fixed_scaled l d s.0 p s.2, sym (Rows.comb_scale l d s.0 es ∙ ap (λ w. d * w) (sym s.3)))

  -- A combination of what is spanned.
  pub spanned_comb : (es cs us : List F) → AllByRecursion (Fixed o) cs → AllByRecursion (Spanned o es) us → Spanned o es (comb o cs us)
  spanned_comb es [] us h k = spanned_zero es
  spanned_comb es (c ∷ cs) [] h k = spanned_zero es
  spanned_comb es (c ∷ cs) (u ∷ us) h k = spanned_add es (c * u) (comb o cs us) (spanned_scale es c u h.0 k.0) (spanned_comb es cs us h.1 k.1)

  -- What is spanned by elements that are spanned.
  pub spanned_trans : (es us : List F) (v : F) → AllByRecursion (Spanned o es) us → Spanned o us v → Spanned o es v
  spanned_trans es us v h s = subst (Spanned o es) (sym s.3) (spanned_comb es s.0 us s.2 h)

  -- The same of each of a list.
  pub spanned_all : (es us vs : List F) → AllByRecursion (Spanned o es) us → AllByRecursion (Spanned o us) vs → AllByRecursion (Spanned o es) vs
  spanned_all es us [] h k = tt
  spanned_all es us (v ∷ vs) h k = (spanned_trans es us v h k.0, spanned_all es us vs h k.1)

  -- One element more spans no less.
  pub spanned_more : (e : F) (es : List F) (v : F) → Spanned o es v → Spanned o (e ∷ es) v
  spanned_more e es v s = (zero ∷ s.0, ap suc s.1, (Twists.fixed_zero l, s.2), s.3 ∙ sym (nought (comb o s.0 es)))
    where
      nought : (w : F) → zero * e + w ≡ w
      nought w = simp (ring, l)

  -- The same of each of a list.
  pub all_more : (e : F) (es vs : List F) → AllByRecursion (Spanned o es) vs → AllByRecursion (Spanned o (e ∷ es)) vs
  all_more e es [] h = tt
  all_more e es (v ∷ vs) h = (spanned_more e es v h.0, all_more e es vs h.1)

  -- The first element is spanned.
  pub spanned_first : (e : F) (es : List F) → Spanned o (e ∷ es) e
  spanned_first e es =
      (one ∷ map (λ _. zero) es, ap suc (length-map es (λ _. zero)), (Twists.fixed_one l, IndependentLocators.fixed_zeros l es), sym (ap (λ w. one * e + w) (IndependentLocators.comb_zeros l es es) ∙ only e))
    where
      only : (w : F) → one * w + zero ≡ w
      only w = simp (ring, l)

  -- What holds of each element holds of those that are marked.
  pub all_pick : {A : Type 0} (P : A → Type 0) (marks : List Bool) (xs : List A) → AllByRecursion P xs → AllByRecursion P (pick marks xs)
  all_pick P [] xs h = tt
  all_pick P (m ∷ marks) [] h = tt
  all_pick P (true ∷ marks) (x ∷ xs) h = (h.0, all_pick P marks xs h.1)
  all_pick P (false ∷ marks) (x ∷ xs) h = all_pick P marks xs h.1
