-- A rule over all codes below n, one, two or three at a time, proved by one test that antt computes.
use Rattle.std.specs.Prelude.{◌≡◌, ℕ, zero, suc, ◌<◌, Bool, true, false, T, ◌⊎◌}
pub use Rattle.std.proofs.Math.Bool.{◌&&◌ as both}
use Rattle.std.proofs.Common.{subst, sym, inl, inr, not-suc-le-zero, arith}

pub both_left : (a b : Bool) → T (both a b) → T a
both_left true b t = tt
both_left false b t = t

pub both_right : (a b : Bool) → T (both a b) → T b
both_right true b t = t
both_right false b t = absurd t

-- The test passes at each number below n.
abbrev pub below : (ℕ → Bool) → ℕ → Bool
below f zero = true
below f (suc n) = both (f n) (below f n)

split : (a n : ℕ) → a < suc n → (a ≡ n) ⊎ (a < n)
split a n h = grind arith

pub at : (f : ℕ → Bool) (n : ℕ) → T (below f n) → (a : ℕ) → a < n → T (f a)
at f zero t a h = absurd (not-suc-le-zero h)
at f (suc n) t a h =
    elim (split a n h) [
      | inl e ↦ subst (λ (m : ℕ). T (f m)) (sym e) (both_left (f n) (below f n) t)
      | inr l ↦ at f n (both_right (f n) (below f n) t) a l
    ]

abbrev pub below2 : (ℕ → ℕ → Bool) → ℕ → Bool
below2 f n = below (λ a. below (f a) n) n

pub at2 : (f : ℕ → ℕ → Bool) (n : ℕ) → T (below2 f n) → (a b : ℕ) → a < n → b < n → T (f a b)
at2 f n t a b ha hb = at (f a) n (at (λ a. below (f a) n) n t a ha) b hb

abbrev pub below3 : (ℕ → ℕ → ℕ → Bool) → ℕ → Bool
below3 f n = below (λ a. below2 (f a) n) n

pub at3 : (f : ℕ → ℕ → ℕ → Bool) (n : ℕ) → T (below3 f n) → (a b c : ℕ) → a < n → b < n → c < n → T (f a b c)
at3 f n t a b c ha hb hc = at2 (f a) n (at (λ a. below2 (f a) n) n t a ha) b c hb hc

-- A rule for codes other than 0: 0 counts as passed.
abbrev pub unless0 : ℕ → Bool → Bool
unless0 zero b = true
unless0 (suc a) b = b

pub from0 : (a : ℕ) (b : Bool) → 0 < a → T (unless0 a b) → T b
from0 zero b h t = absurd (not-suc-le-zero h)
from0 (suc a) b h t = t
