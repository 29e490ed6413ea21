-- Products of polynomials modulo q: they are commutative and associative, and one is their one.
--
--   Reduced q f    f is proper at the base and the degree of q: a polynomial modulo q
--   zeros q        the zero among them, and `one q` the one: 1, 0, .., 0
--
-- `times q f g` is g, as a polynomial in "multiply by z", applied to f. Two such polynomials can change places (`times_swap`),
-- and applied to the one they give themselves (`times_one_left`): so the product is commutative and associative.
use Rattle.std.specs.Prelude.{◌≡◌, ℕ, zero, suc, ◌+◌, ◌-◌, ◌*◌, ◌%◌, ◌<◌, List, [], ◌∷◌, ◌++◌, replicate, refl}
use Rattle.std.proofs.Math.Path.{sym, ap}
use Rattle.std.proofs.Common.{ap₂, ◌∙◌, subst, append-nil, add-zero, zero-add, suc-add, mul-zero, zero-mul, mul-one, mul_comm, mul_assoc, add-mul, mod-eq_of_lt, add-suc, le_of_lt}
use Rattle.std.proofs.Math.Nat.{zero-mod}
use Rattle.fields.specs.Residues.{plus, scale, moved, top, Modulus, degree, raise, times}
use Rattle.fields.specs.Coefficients
use Rattle.fields.specs.ProperLists
use Rattle.fields.specs.ProperLists.{Proper, more, none}
use Rattle.fields.specs.Coefficients.{moved_zeros}

-- Moved up, f has one zero less above it.
moved_padded : (c : ℕ) (f : List ℕ) (n : ℕ) → moved c (f ++ replicate (suc n) 0) ≡ c ∷ f ++ replicate n 0
moved_padded c [] n = ap (λ k. c ∷ k) (moved_zeros n)
moved_padded c (x ∷ f) n = ap (λ k. c ∷ k) (moved_padded x f n)

-- Of zeros, zero leaves at the top.
top_zeros : (n : ℕ) → top 0 (replicate n 0) ≡ 0
top_zeros zero = refl
top_zeros (suc n) = top_zeros n

-- Of a list with a zero above it, zero leaves at the top.
top_padded : (c : ℕ) (f : List ℕ) (n : ℕ) → top c (f ++ replicate (suc n) 0) ≡ 0
top_padded c [] n = top_zeros n
top_padded c (x ∷ f) n = top_padded x f n

module _ (q : Modulus) where
  abbrev p : ℕ
  p = q.base

  abbrev pub Reduced : List ℕ → Type 0
  Reduced f = Proper p (degree q) f

  abbrev pub zeros : List ℕ
  zeros = replicate (degree q) 0

  abbrev pub one : List ℕ
  one = moved 1 zeros

  -- Multiplication with z keeps products with a constant.
  pub raise_scale : (c : ℕ) (f : List ℕ) → raise q (scale p c f) ≡ scale p c (raise q f)
  raise_scale c f =
      ap₂ (plus p) (ap (λ n. moved n (scale p c f)) (sym none_left) ∙ Coefficients.moved_scale p c 0 f)
      (ap (λ n. scale p (n * (p - 1)) q.low) (ap (λ n. top n (scale p c f)) (sym none_left) ∙ Coefficients.top_scale p c 0 f)
      ∙ Coefficients.scale_mod p (c * top 0 f) (p - 1) q.low
      ∙ ap (λ n. scale p n q.low) (mul_assoc c (top 0 f) (p - 1))
      ∙ sym (Coefficients.scale_scale p c (top 0 f * (p - 1)) q.low))
      ∙ sym (Coefficients.scale_plus p c (moved 0 f) (scale p (top 0 f * (p - 1)) q.low))
    where
      none_left : (c * 0) % p ≡ 0
      none_left = ap (λ n. n % p) (mul-zero c) ∙ zero-mod p

  -- Multiplication with z keeps sums.
  pub raise_plus : {f g : List ℕ} → Reduced f → Reduced g → raise q (plus p f g) ≡ plus p (raise q f) (raise q g)
  raise_plus {f} {g} r s =
      ap₂ (plus p) (ap (λ n. moved n (plus p f g)) (sym (zero-mod p)) ∙ Coefficients.moved_plus p 0 0 f g)
      (ap (λ n. scale p (n * (p - 1)) q.low) (ap (λ n. top n (plus p f g)) (sym (zero-mod p)) ∙ Coefficients.top_plus p r s 0 0)
      ∙ Coefficients.scale_mod p (top 0 f + top 0 g) (p - 1) q.low
      ∙ ap (λ n. scale p n q.low) (add-mul (top 0 f) (top 0 g) (p - 1))
      ∙ Coefficients.scale_sum p (top 0 f * (p - 1)) (top 0 g * (p - 1)) q.low)
      ∙ Coefficients.plus_swap p (moved 0 f) (moved 0 g) (scale p (top 0 f * (p - 1)) q.low) (scale p (top 0 g * (p - 1)) q.low)

  -- A constant can be taken out of the left factor.
  pub times_scale_left : (c : ℕ) (f g : List ℕ) → times q (scale p c f) g ≡ scale p c (times q f g)
  times_scale_left c f [] = sym (Coefficients.scale_zeros p c (degree q))
  times_scale_left c f (y ∷ g) =
      ap₂ (plus p) (Coefficients.scale_scale p y c f ∙ ap (λ n. scale p n f) (mul_comm y c) ∙ sym (Coefficients.scale_scale p c y f))
      (ap (raise q) (times_scale_left c f g) ∙ raise_scale c (times q f g))
      ∙ sym (Coefficients.scale_plus p c (scale p y f) (raise q (times q f g)))

  module _ (pos : 0 < p) where
    -- The zero is reduced.
    pub zeros_reduced : Reduced zeros
    zeros_reduced = ProperLists.zeros_proper p pos (degree q)

    -- z times f is reduced.
    pub raise_reduced : {f : List ℕ} → Reduced f → Reduced (raise q f)
    raise_reduced {f} r = ProperLists.plus_proper p pos (ProperLists.moved_proper p pos pos r) (ProperLists.scale_any p pos (top 0 f * (p - 1)) q.low)

    -- A product is reduced.
    pub times_reduced : {f : List ℕ} → Reduced f → (g : List ℕ) → Reduced (times q f g)
    times_reduced r [] = zeros_reduced
    times_reduced r (y ∷ g) = ProperLists.plus_proper p pos (ProperLists.scale_proper p pos y r) (raise_reduced (times_reduced r g))

    -- z times zero is zero.
    pub raise_zeros : raise q zeros ≡ zeros
    raise_zeros = ap (raise q) (sym (Coefficients.scale_zeros p 0 (degree q))) ∙ raise_scale 0 zeros ∙ Coefficients.scale_zero p (raise_reduced zeros_reduced)

    -- Zero times g is zero.
    pub times_zeros_left : (g : List ℕ) → times q zeros g ≡ zeros
    times_zeros_left [] = refl
    times_zeros_left (y ∷ g) =
        ap₂ (plus p) (Coefficients.scale_zeros p y (degree q)) (ap (raise q) (times_zeros_left g) ∙ raise_zeros) ∙ Coefficients.plus_zeros p zeros_reduced

    -- A sum times g is the sum of the products.
    pub times_plus_left : {f h : List ℕ} → Reduced f → Reduced h → (g : List ℕ) → times q (plus p f h) g ≡ plus p (times q f g) (times q h g)
    times_plus_left r s [] = sym (Coefficients.plus_zeros p zeros_reduced)
    times_plus_left {f} {h} r s (y ∷ g) =
        ap₂ (plus p) (Coefficients.scale_plus p y f h) (ap (raise q) (times_plus_left r s g) ∙ raise_plus (times_reduced r g) (times_reduced s g))
        ∙ Coefficients.plus_swap p (scale p y f) (scale p y h) (raise q (times q f g)) (raise q (times q h g))

    -- z can be taken out of the left factor.
    pub times_raise_left : {f : List ℕ} → Reduced f → (g : List ℕ) → times q (raise q f) g ≡ raise q (times q f g)
    times_raise_left r [] = sym raise_zeros
    times_raise_left {f} r (y ∷ g) =
        ap₂ (plus p) (sym (raise_scale y f)) (ap (raise q) (times_raise_left r g))
        ∙ sym (raise_plus (ProperLists.scale_proper p pos y r) (raise_reduced (times_reduced r g)))

    -- The factors f and g after a first factor can change places.
    times_swap : {a : List ℕ} → Reduced a → (f g : List ℕ) → times q (times q a f) g ≡ times q (times q a g) f
    times_swap r [] g = times_zeros_left g
    times_swap {a} r (x ∷ f) g =
        times_plus_left (ProperLists.scale_proper p pos x r) (raise_reduced (times_reduced r f)) g
        ∙ ap₂ (plus p) (times_scale_left x a g) (times_raise_left (times_reduced r f) g ∙ ap (raise q) (times_swap r f g))

  module _ (large : 1 < p) where
    abbrev pos : 0 < p
    pos = le_of_lt large

    -- The one is reduced.
    pub one_reduced : Reduced one
    one_reduced = ProperLists.moved_proper p pos large (zeros_reduced pos)

    -- One times a shorter list g is g, with zeros above it.
    times_padded : {k : ℕ} {g : List ℕ} (n : ℕ) → k + n ≡ degree q → Proper p k g → times q one g ≡ g ++ replicate n 0
    times_padded n e none = ap (λ k. replicate k 0) (sym e ∙ zero-add n)
    times_padded n e (more {d = k} {x = y} {f = g} h r) =
        ap₂ (plus p) first (ap (raise q) (times_padded (suc n) e' r) ∙ rest) ∙ sym (Coefficients.moved_plus p y 0 zeros padded)
        ∙ ap₂ moved (ap (λ m. m % p) (add-zero y) ∙ mod-eq_of_lt h) (Coefficients.plus_comm p zeros padded ∙ Coefficients.plus_zeros p reduced) ∙ moved_padded y g n
      where
        e' : k + suc n ≡ degree q
        e' = add-suc k n ∙ sym (suc-add k n) ∙ e

        padded : List ℕ
        padded = g ++ replicate (suc n) 0

        reduced : Reduced padded
        reduced = subst (λ d. Proper p d padded) e' (ProperLists.padded_proper p pos (suc n) r)

        first : scale p y one ≡ moved y zeros
        first = sym (Coefficients.moved_scale p y 1 zeros) ∙ ap₂ moved (ap (λ m. m % p) (mul-one y) ∙ mod-eq_of_lt h) (Coefficients.scale_zeros p y (degree q))

        rest : raise q padded ≡ moved 0 padded
        rest =
            ap (λ c. plus p (moved 0 padded) (scale p c q.low)) (ap (λ c. c * (p - 1)) (top_padded 0 g n) ∙ zero-mul (p - 1))
            ∙ ap (plus p (moved 0 padded)) none_left
            ∙ Coefficients.plus_zeros p (ProperLists.moved_proper p pos pos reduced)
          where
            none_left : scale p 0 q.low ≡ zeros
            none_left = sym (Coefficients.scale_scale p 0 0 q.low) ∙ Coefficients.scale_zero p (ProperLists.scale_any p pos 0 q.low)

    -- One times g is g.
    pub times_one_left : {g : List ℕ} → Reduced g → times q one g ≡ g
    times_one_left {g} r = times_padded 0 (add-zero (degree q)) r ∙ append-nil g

    -- The product is commutative.
    pub times_comm : {f g : List ℕ} → Reduced f → Reduced g → times q f g ≡ times q g f
    times_comm {f} {g} r s =
        ap (λ h. times q h g) (sym (times_one_left r)) ∙ times_swap pos one_reduced f g ∙ ap (λ h. times q h f) (times_one_left s)

    -- f times zero is zero.
    pub times_zeros : {f : List ℕ} → Reduced f → times q f zeros ≡ zeros
    times_zeros {f} r = times_comm r (zeros_reduced pos) ∙ times_zeros_left pos f

    -- The product is associative.
    pub times_assoc : {f g : List ℕ} → Reduced f → Reduced g → (h : List ℕ) → times q (times q f g) h ≡ times q f (times q g h)
    times_assoc {f} {g} r s h =
        ap (λ k. times q k h) (times_comm r s) ∙ times_swap pos s f h ∙ times_comm (times_reduced pos s h) r

    -- f times a sum is the sum of the products.
    pub times_plus : {f g h : List ℕ} → Reduced f → Reduced g → Reduced h → times q f (plus p g h) ≡ plus p (times q f g) (times q f h)
    times_plus {f} {g} {h} r s t =
        times_comm r (ProperLists.plus_proper p pos s t) ∙ times_plus_left pos s t f ∙ ap₂ (plus p) (times_comm s r) (times_comm t r)
