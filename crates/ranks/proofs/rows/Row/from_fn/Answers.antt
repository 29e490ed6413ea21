use denote.Param.Members.{Mut, Called}
use Rattle.std.proofs.Common.{◌≡◌, ℕ, suc, ◌+◌, ◌<◌, ◌≤◌, List, get_or, sym, refl, ◌∙◌, subst, inl, inr, arith}
use Rattle.std.specs.Array.{IsFromFnResultFrom}
use Rattle.std.proofs.lemmas.Bool.{cases_lt}
use Rattle.std.proofs.lemmas.Fn.{serves_by}
use Rattle.ranks.proofs.rows.Row.from_fn.Goals as goal

-- What each call of a function that calls leave alone gave.
called_at : {F B : Type 0} (g : Mut F (ℕ × Unit {0}) B) → ((f : F) (i : ℕ) (y : B) (q : F) → Called g f (i, tt) y q → q ≡ f) → (f : F) (ys : List B) (d : B) (i n : ℕ)
    → IsFromFnResultFrom g f ys i n → (k : ℕ) → i ≤ k → k < i + n → Called g f (k, tt) (get_or ys k d) f
called_at g stays f ys d i ℕ.zero h k le lt = absurd (omega arith)
called_at g stays f ys d i (suc n) h k le lt = elim (cases_lt i k) [
  | inl more ↦ called_at g stays f ys d (i + 1) n (subst (λ q. IsFromFnResultFrom g q ys (i + 1) n) kept h.4) k (omega arith) (omega arith)
  | inr less ↦ let same : i ≡ k = omega arith in subst (λ j. Called g f (j, tt) (get_or ys j d) f) same (subst (λ y. Called g f (i, tt) y f) (sym (h.2.1 d)) (subst (Called g f (i, tt) h.1) kept h.3))
]
  where
    kept : h.0 ≡ f
    kept = stays f i h.1 h.0 h.3

pub from_fn-requires : goal.from_fn-requires
from_fn-requires g c = (
  omega arith,
  serves_by _ (λ _ q. q ≡ c.args.f) (λ xs q x v j r. g.met.F.Fn.1.step_stays q _ _ v r.1 ∙ j) _ _ 0 c.args.f refl
      (λ xs t q x u y st j. subst (λ f. goal.F-pre g f x) (sym j) (c.requires x (omega (arith, st.0, st.1)))),
)

pub returns : goal.returns
returns g c = (
  c.from_fn.ensures.items.long,
  λ i lt. (g.met.F.FnMut.1.post_iff _ _ _).1 (_, called_at _ (λ f i y q. g.met.F.Fn.1.step_stays f _ y q) c.args.f c.from_fn.result 0 0 8 c.from_fn.ensures.items.each i (omega arith) (omega arith)),
)
