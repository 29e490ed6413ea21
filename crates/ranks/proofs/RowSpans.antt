-- What rows span over the fixed elements.
--
--   AmongRows o n hs u    u is a sum of the rows hs, of n places each, times fixed elements
use Rattle.std.proofs.Common.{◌≡◌, ℕ, suc, List, [], ◌∷◌, map, length, sym, refl, ap, ◌∙◌, subst, arith}
use Rattle.std.proofs.lemmas.List.{length-map}
use Rattle.std.specs.List.{AllByRecursion}
use Rattle.fields.specs.Field.{Ops, Laws, Zero, Fixed, plus, scale}
use Rattle.fields.specs.Twists
use Rattle.fields.specs.Basics.{ring}
use Rattle.fields.specs.Rows
use Rattle.skew.proofs.Sums.{cons_path}
use Rattle.ranks.specs.Reduction.{mix, Row, AmongRows}
use Rattle.ranks.proofs.Mixing

module _ {F : Type 0} {o : Ops F} (l : Laws o) where
  open o use {zero, one, add as ◌+◌, mul as ◌*◌}

  infixl 65 ◌+◌
  infixl 70 ◌*◌
  -- Zeros are fixed.
  fixed_none : {A : Type 0} (hs : List A) → AllByRecursion (Fixed o) (map (λ _. zero) hs)
  fixed_none [] = tt
  fixed_none (h ∷ hs) = (Twists.fixed_zero l, fixed_none hs)

  -- A sum of rows that other rows span is a sum of those, and with fixed coefficients where it had such.
  pub mix_again : (n : ℕ) (hs ks : List (List F)) (xs : List F) → length xs ≡ length hs → AllByRecursion (Row o n) hs → AllByRecursion (AmongRows o n ks) hs
      → (ys : List F) × (length ys ≡ length ks) × (AllByRecursion (Fixed o) xs → AllByRecursion (Fixed o) ys) × (mix o n hs xs ≡ mix o n ks ys)
  mix_again n [] ks xs e fit s = (map (λ _. zero) ks, length-map ks (λ _. zero), (λ _. fixed_none ks), sym (Mixing.mix_nothing l n ks ks xs))
  mix_again n (h ∷ hs) ks [] e fit s = absurd (omega arith)
  mix_again n (h ∷ hs) ks (x ∷ xs) e fit s =
      let r = mix_again n hs ks xs (omega arith) fit.1 s.1 in (
        plus o (map (o.mul x) s.0.0) r.0,
        Rows.length_plus l (map (o.mul x) s.0.0) r.0 ∙ omega (arith, length-map s.0.0 (o.mul x), s.0.1, r.1),
        (λ k. Rows.fixed_plus l (map (o.mul x) s.0.0) r.0 (Rows.fixed_scaled l x s.0.0 k.0 s.0.2) (r.2 k.1)),
        Mixing.mix_cons l n h hs x xs fit.0.0 ∙ ap (λ w. plus o (map (o.mul x) w) (mix o n hs xs)) s.0.3 ∙ ap (λ w. plus o w (mix o n hs xs)) (sym (Mixing.mix_by l x n ks s.0.0))
            ∙ ap (plus o (mix o n ks (map (o.mul x) s.0.0))) r.3 ∙ sym (Mixing.mix_plus l n ks (map (o.mul x) s.0.0) r.0),
      )

  -- What rows span.
  module _ (n : ℕ) where
    -- Sums.
    pub among_add : (hs : List (List F)) (u v : List F) → AmongRows o n hs u → AmongRows o n hs v → AmongRows o n hs (plus o u v)
    among_add hs u v s t = (
      plus o s.0 t.0,
      Rows.length_plus l s.0 t.0 ∙ omega (arith, s.1, t.1),
      Rows.fixed_plus l s.0 t.0 s.2 t.2,
      ap (λ w. plus o w v) s.3 ∙ ap (plus o (mix o n hs s.0)) t.3 ∙ sym (Mixing.mix_plus l n hs s.0 t.0),
    )

    -- Fixed multiples.
    pub among_scale : (hs : List (List F)) (c : F) (u : List F) → Fixed o c → AmongRows o n hs u → AmongRows o n hs (scale o c u)
    among_scale hs c u p s =
        (map (o.mul c) s.0, length-map s.0 (o.mul c) ∙ s.1, Rows.fixed_scaled l c s.0 p s.2, ap (scale o c) s.3 ∙ sym (Mixing.mix_by l c n hs s.0))

    -- A row with nothing of another.
    pub plus_none : (h v : List F) → length h ≡ length v → plus o (scale o zero h) v ≡ v
    plus_none [] v e = refl
    plus_none (x ∷ h) [] e = absurd (omega arith)
    plus_none (x ∷ h) (y ∷ v) e = cons_path (nought y) (plus_none h v (omega arith))
      where
        nought : (w : F) → zero * x + w ≡ w
        nought w = simp (ring, l)

    -- One times a row, and zeros.
    plus_only : (h v : List F) → length h ≡ length v → AllByRecursion (Zero o) v → plus o (scale o one h) v ≡ h
    plus_only [] [] e z = refl
    plus_only [] (y ∷ v) e z = absurd (omega arith)
    plus_only (x ∷ h) [] e z = absurd (omega arith)
    plus_only (x ∷ h) (y ∷ v) e z = cons_path (ap (λ w. one * x + w) z.0 ∙ simp (ring, l)) (plus_only h v (omega arith) z.1)

    -- A row more spans no less.
    pub among_more : (h : List F) (hs : List (List F)) (u : List F) → length h ≡ n → AmongRows o n hs u → AmongRows o n (h ∷ hs) u
    among_more h hs u e s = (
      zero ∷ s.0,
      ap suc s.1,
      (Twists.fixed_zero l, s.2),
      s.3 ∙ sym (Mixing.mix_cons l n h hs zero s.0 e ∙ plus_none h (mix o n hs s.0) (e ∙ sym (Mixing.length_mix l n hs s.0))),
    )

    -- The same of each of a list.
    pub all_among_more : (h : List F) (hs us : List (List F)) → length h ≡ n → AllByRecursion (AmongRows o n hs) us → AllByRecursion (AmongRows o n (h ∷ hs)) us
    all_among_more h hs [] e s = tt
    all_among_more h hs (u ∷ us) e s = (among_more h hs u e s.0, all_among_more h hs us e s.1)

    -- The first row is spanned.
    pub among_first : (h : List F) (hs : List (List F)) → length h ≡ n → AmongRows o n (h ∷ hs) h
    among_first h hs e = (
      one ∷ map (λ _. zero) hs,
      ap suc (length-map hs (λ _. zero)),
      (Twists.fixed_one l, fixed_none hs),
      sym (Mixing.mix_cons l n h hs one (map (λ _. zero) hs) e ∙ plus_only h (mix o n hs (map (λ _. zero) hs)) (e ∙ sym (Mixing.length_mix l n hs (map (λ _. zero) hs)))
          (subst (AllByRecursion (Zero o)) (sym (Mixing.mix_nothing l n hs hs [])) (Mixing.mix_none l n []))),
    )

    -- So are all.
    pub among_own : (hs : List (List F)) → AllByRecursion (Row o n) hs → AllByRecursion (AmongRows o n hs) hs
    among_own [] k = tt
    among_own (h ∷ hs) k = (among_first h hs k.0.0, all_among_more h hs hs k.0.0 (among_own hs k.1))

    -- What is spanned by rows that are spanned.
    pub among_trans : (hs ks : List (List F)) (u : List F) → AllByRecursion (Row o n) ks → AllByRecursion (AmongRows o n hs) ks → AmongRows o n ks u → AmongRows o n hs u
    among_trans hs ks u k s t =
        let r = mix_again n ks hs t.0 t.1 k s in
        (r.0, r.1, r.2 t.2, t.3 ∙ r.3)

    -- The same of each of a list.
    pub all_among_trans : (hs ks us : List (List F)) → AllByRecursion (Row o n) ks → AllByRecursion (AmongRows o n hs) ks → AllByRecursion (AmongRows o n ks) us → AllByRecursion (AmongRows o n hs) us
    all_among_trans hs ks [] k s t = tt
    all_among_trans hs ks (u ∷ us) k s t = (among_trans hs ks u k s t.0, all_among_trans hs ks us k s t.1)
