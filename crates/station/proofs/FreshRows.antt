-- A row that free rows do not span is free of them: what holds of elements, of rows.
use Rattle.std.proofs.Common.{◌≡◌, ℕ, ◌≢◌, List, [], ◌∷◌, length, sym, refl, ap, ◌∙◌, subst, arith}
use Rattle.std.specs.List.{AllByRecursion}
use Rattle.fields.specs.Field.{Ops, Laws, Zero, plus, scale}
use Rattle.fields.specs.Inverses
use Rattle.fields.specs.Basics
use Rattle.fields.specs.Twists
use Rattle.fields.specs.Basics.{ring}
use Rattle.skew.proofs.Sums.{cons_path}
use Rattle.ranks.specs.Reduction.{mix, AmongRows}
use Rattle.ranks.proofs.Mixing
use Rattle.ranks.proofs.RowSpans
use Rattle.hints.specs.Splittings.{FreeRows}

module _ {F : Type 0} {o : Ops F} (l : Laws o) where
  open o use {zero, add as ◌+◌, mul as ◌*◌, neg, inv}

  infixl 65 ◌+◌
  infixl 70 ◌*◌
  -- An element by what it adds to zero with.
  turned : (c x v : F) → c ≢ zero → c * x + v ≡ zero → x ≡ neg (inv c) * v
  turned c x v n e =
      sym (Inverses.inv_mul_cancel l c x n) ∙ ap (λ w. inv c * w) (Basics.equal_of_sub l (c * x) (neg v) (ap (λ w. c * x + w) (Basics.neg_neg l v) ∙ e)) ∙ simp (ring, l)

  -- The same place by place.
  row_turned : (c : F) (h v : List F) → length h ≡ length v → c ≢ zero → AllByRecursion (Zero o) (plus o (scale o c h) v) → h ≡ scale o (neg (inv c)) v
  row_turned c [] [] e n z = refl
  row_turned c [] (y ∷ v) e n z = absurd (omega arith)
  row_turned c (x ∷ h) [] e n z = absurd (omega arith)
  row_turned c (x ∷ h) (y ∷ v) e n z = cons_path (turned c x y n z.0) (row_turned c h v (omega arith) n z.1)

  -- No rows are free.
  pub free_none : (n : ℕ) → FreeRows o n []
  free_none n [] len fix z = tt
  free_none n (c ∷ cs) len fix z = absurd (omega arith)

  -- One row more.
  pub free_more : (n : ℕ) (h : List F) (hs : List (List F)) → length h ≡ n → FreeRows o n hs → ¬ AmongRows o n hs h → FreeRows o n (h ∷ hs)
  free_more n h hs e free new [] len fix z = absurd (omega arith)
  free_more n h hs e free new (c ∷ cs) len fix z =
      elim (l.same c zero) [
        | yes q ↦ (q, free cs (omega arith) fix.1 (subst (AllByRecursion (Zero o)) (less q) sum))
        | no k ↦ absurd (new (spanned k))
      ]
    where
      same : length h ≡ length (mix o n hs cs)
      same = e ∙ sym (Mixing.length_mix l n hs cs)

      sum : AllByRecursion (Zero o) (plus o (scale o c h) (mix o n hs cs))
      sum = subst (AllByRecursion (Zero o)) (Mixing.mix_cons l n h hs c cs e) z

      less : c ≡ zero → plus o (scale o c h) (mix o n hs cs) ≡ mix o n hs cs
      less q = ap (λ w. plus o (scale o w h) (mix o n hs cs)) q ∙ RowSpans.plus_none l n h (mix o n hs cs) same

      spanned : c ≢ zero → AmongRows o n hs h
      spanned k =
          subst (AmongRows o n hs) (sym (row_turned c h (mix o n hs cs) same k sum))
          (RowSpans.among_scale l n hs (neg (inv c)) (mix o n hs cs) (Twists.fixed_neg l _ (Twists.fixed_inv l c k fix.0)) (cs, omega arith, fix.1, refl))
