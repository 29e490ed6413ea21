-- Polynomials over the integers modulo p, coefficient by coefficient: sums, products with a constant, z times a polynomial,
-- and the code of a polynomial.
--
--   plus p f g, scale p c f     the sum of f and g, and c times f
--   moved c f, top c f          f moved up, with c below it, and the coefficient that leaves at the top
use Rattle.std.specs.Prelude.{◌≡◌, ℕ, zero, suc, ◌+◌, ◌-◌, ◌*◌, ◌/◌, ◌%◌, ◌^◌, ◌<◌, List, [], ◌∷◌, replicate, refl}
use Rattle.std.proofs.Math.Path.{sym, ap}
use Rattle.std.proofs.Common.{ap₂, ◌∙◌, subst, add-zero, add_comm, add_assoc, mul-zero, zero-mul, one-mul, mul_comm, mul_assoc, mul-add, add-mul, mod-eq_of_lt, div-add-mod', div-lt_iff_lt-mul, pow-suc, add-sub_of_le, lit<}
use Rattle.std.proofs.Math.Nat.{zero-mod, zero-div, mod-add-mod, add-mod-mod, add-mod, mul-mod_right, mul-add-mod_self_right, div-eq_of_lt, pow-zero}
use Rattle.std.proofs.Math.Arith.{digits_lt, digits_div, digits_mod, lt-one}
use Rattle.fields.specs.Residues.{coefficients, code, plus, scale, moved, top}
use Rattle.fields.specs.ProperLists.{Proper, more, none}

-- Zeros moved up are zeros.
pub moved_zeros : (n : ℕ) → moved 0 (replicate n 0) ≡ replicate n 0
moved_zeros zero = refl
moved_zeros (suc n) = ap (λ k. 0 ∷ k) (moved_zeros n)

module _ (p : ℕ) where
  -- A factor may be taken modulo p before the product is.
  factor_mod : (c a : ℕ) → (c * (a % p)) % p ≡ (c * a) % p
  factor_mod c a =
      sym (mul-add-mod_self_right (c * (a / p)) p (c * (a % p)))
      ∙ ap (λ n. n % p) (ap (λ n. n + c * (a % p)) (mul_assoc c (a / p) p) ∙ sym (mul-add c (a / p * p) (a % p)) ∙ ap (λ n. c * n) (div-add-mod' a p))

  -- The sum is commutative.
  pub plus_comm : (f g : List ℕ) → plus p f g ≡ plus p g f
  plus_comm [] [] = refl
  plus_comm [] (y ∷ g) = refl
  plus_comm (x ∷ f) [] = refl
  plus_comm (x ∷ f) (y ∷ g) = ap₂ (λ n h. (n % p) ∷ h) (add_comm x y) (plus_comm f g)

  -- The sum is associative.
  pub plus_assoc : (f g h : List ℕ) → plus p (plus p f g) h ≡ plus p f (plus p g h)
  plus_assoc [] g h = refl
  plus_assoc (x ∷ f) [] h = refl
  plus_assoc (x ∷ f) (y ∷ g) [] = refl
  plus_assoc (x ∷ f) (y ∷ g) (z ∷ h) =
      ap₂ (λ n k. n ∷ k) (mod-add-mod (x + y) p z ∙ ap (λ n. n % p) (add_assoc x y z) ∙ sym (add-mod-mod x (y + z) p)) (plus_assoc f g h)

  -- (f + g) + (h + k) = (f + h) + (g + k)
  pub plus_swap : (f g h k : List ℕ) → plus p (plus p f g) (plus p h k) ≡ plus p (plus p f h) (plus p g k)
  plus_swap f g h k =
      plus_assoc f g (plus p h k)
      ∙ ap (plus p f) (sym (plus_assoc g h k) ∙ ap (λ z. plus p z k) (plus_comm g h) ∙ plus_assoc h g k)
      ∙ sym (plus_assoc f h (plus p g k))

  -- Adding zeros changes nothing.
  pub plus_zeros : {d : ℕ} {f : List ℕ} → Proper p d f → plus p f (replicate d 0) ≡ f
  plus_zeros none = refl
  plus_zeros (more {x} h r) = ap₂ (λ n k. n ∷ k) (ap (λ n. n % p) (add-zero x) ∙ mod-eq_of_lt h) (plus_zeros r)

  -- A constant times a sum is the sum of the products.
  pub scale_plus : (c : ℕ) (f g : List ℕ) → scale p c (plus p f g) ≡ plus p (scale p c f) (scale p c g)
  scale_plus c [] g = refl
  scale_plus c (x ∷ f) [] = refl
  scale_plus c (x ∷ f) (y ∷ g) =
      ap₂ (λ n k. n ∷ k) (factor_mod c (x + y) ∙ ap (λ n. n % p) (mul-add c x y) ∙ add-mod (c * x) (c * y) p) (scale_plus c f g)

  -- A sum of constants times f is the sum of the products.
  pub scale_sum : (c e : ℕ) (f : List ℕ) → scale p (c + e) f ≡ plus p (scale p c f) (scale p e f)
  scale_sum c e [] = refl
  scale_sum c e (x ∷ f) = ap₂ (λ n k. n ∷ k) (ap (λ n. n % p) (add-mul c e x) ∙ add-mod (c * x) (e * x) p) (scale_sum c e f)

  -- Two constants in turn are their product.
  pub scale_scale : (c e : ℕ) (f : List ℕ) → scale p c (scale p e f) ≡ scale p (c * e) f
  scale_scale c e [] = refl
  scale_scale c e (x ∷ f) = ap₂ (λ n k. n ∷ k) (factor_mod c (e * x) ∙ ap (λ n. n % p) (sym (mul_assoc c e x))) (scale_scale c e f)

  -- A factor of the constant may be taken modulo p.
  pub scale_mod : (c e : ℕ) (f : List ℕ) → scale p ((c % p) * e) f ≡ scale p (c * e) f
  scale_mod c e [] = refl
  scale_mod c e (x ∷ f) = ap₂ (λ n k. n ∷ k) (last (c % p) ∙ factor_mod (e * x) c ∙ sym (last c)) (scale_mod c e f)
    where
      last : (n : ℕ) → (n * e * x) % p ≡ (e * x * n) % p
      last n = ap (λ m. m % p) (mul_assoc n e x ∙ mul_comm n (e * x))

  -- Zero times f is zeros.
  pub scale_zero : {d : ℕ} {f : List ℕ} → Proper p d f → scale p 0 f ≡ replicate d 0
  scale_zero none = refl
  scale_zero (more {x} h r) = ap₂ (λ n k. n ∷ k) (ap (λ n. n % p) (zero-mul x) ∙ zero-mod p) (scale_zero r)

  -- A constant times zeros is zeros.
  pub scale_zeros : (c d : ℕ) → scale p c (replicate d 0) ≡ replicate d 0
  scale_zeros c zero = refl
  scale_zeros c (suc d) = ap₂ (λ n k. n ∷ k) (ap (λ n. n % p) (mul-zero c) ∙ zero-mod p) (scale_zeros c d)

  -- One times f is f.
  pub scale_one : {d : ℕ} {f : List ℕ} → Proper p d f → scale p 1 f ≡ f
  scale_one none = refl
  scale_one (more {x} h r) = ap₂ (λ n k. n ∷ k) (ap (λ n. n % p) (one-mul x) ∙ mod-eq_of_lt h) (scale_one r)

  -- f and p - 1 times f make zeros.
  pub plus_opposite : 0 < p → {d : ℕ} {f : List ℕ} → Proper p d f → plus p f (scale p (p - 1) f) ≡ replicate d 0
  plus_opposite pos none = refl
  plus_opposite pos (more {x} h r) = ap₂ (λ n k. n ∷ k) none_left (plus_opposite pos r)
    where
      all : x + (p - 1) * x ≡ p * x
      all = ap (λ n. n + (p - 1) * x) (sym (one-mul x)) ∙ sym (add-mul 1 (p - 1) x) ∙ ap (λ n. n * x) (add-sub_of_le pos)

      none_left : (x + (p - 1) * x % p) % p ≡ 0
      none_left = add-mod-mod x ((p - 1) * x) p ∙ ap (λ n. n % p) all ∙ mul-mod_right p x

  -- Moving up keeps sums.
  pub moved_plus : (c e : ℕ) (f g : List ℕ) → moved ((c + e) % p) (plus p f g) ≡ plus p (moved c f) (moved e g)
  moved_plus c e [] g = refl
  moved_plus c e (x ∷ f) [] = refl
  moved_plus c e (x ∷ f) (y ∷ g) = ap (λ k. ((c + e) % p) ∷ k) (moved_plus x y f g)

  -- The coefficient that leaves at the top of a sum is the sum of those that leave.
  pub top_plus : {d : ℕ} {f g : List ℕ} → Proper p d f → Proper p d g → (c e : ℕ) → top ((c + e) % p) (plus p f g) ≡ (top c f + top e g) % p
  top_plus none none c e = refl
  top_plus (more {x} h r) (more {x = y} k s) c e = top_plus r s x y

  -- Moving up keeps products with a constant.
  pub moved_scale : (c e : ℕ) (f : List ℕ) → moved ((c * e) % p) (scale p c f) ≡ scale p c (moved e f)
  moved_scale c e [] = refl
  moved_scale c e (x ∷ f) = ap (λ k. ((c * e) % p) ∷ k) (moved_scale c x f)

  -- The coefficient that leaves at the top of c f is c times the one that leaves at the top of f.
  pub top_scale : (c e : ℕ) (f : List ℕ) → top ((c * e) % p) (scale p c f) ≡ (c * top e f) % p
  top_scale c e [] = refl
  top_scale c e (x ∷ f) = top_scale c x f

  -- The code of d coefficients is below p ^ d.
  pub code_below : {d : ℕ} {f : List ℕ} → Proper p d f → code p f < p ^ d
  code_below none = subst (λ n. 0 < n) (sym (pow-zero p)) (lit< tt)
  code_below (more {d} {x} {f} h r) = subst (λ n. code p f * p + x < n) (sym (pow-suc p d)) (digits_lt (code_below r) h)

  -- The coefficients of a code are those that it was made of.
  pub coefficients_code : {d : ℕ} {f : List ℕ} → Proper p d f → coefficients p d (code p f) ≡ f
  coefficients_code none = refl
  coefficients_code (more {d} {x} {f} h r) =
      ap₂ (λ n k. n ∷ k) (digits_mod (code p f) h) (ap (coefficients p d) (digits_div (code p f) h) ∙ coefficients_code r)

  -- A number below p ^ d is the code of its d coefficients.
  pub code_coefficients : 0 < p → (d a : ℕ) → a < p ^ d → code p (coefficients p d a) ≡ a
  code_coefficients pos zero a h = sym (lt-one (subst (λ n. a < n) (pow-zero p) h))
  code_coefficients pos (suc d) a h =
      ap (λ n. n * p + a % p) (code_coefficients pos d (a / p) ((div-lt_iff_lt-mul pos).1 (subst (λ n. a < n) (pow-suc p d) h))) ∙ div-add-mod' a p

  -- The coefficients of 0 are zeros.
  pub coefficients_zero : (d : ℕ) → coefficients p d 0 ≡ replicate d 0
  coefficients_zero zero = refl
  coefficients_zero (suc d) = ap₂ (λ n k. n ∷ k) (zero-mod p) (ap (coefficients p d) (zero-div p) ∙ coefficients_zero d)

  -- The coefficients of 1 are 1 and zeros.
  pub coefficients_one : 1 < p → (d : ℕ) → coefficients p d 1 ≡ moved 1 (replicate d 0)
  coefficients_one large zero = refl
  coefficients_one large (suc d) =
      ap₂ (λ n k. n ∷ k) (mod-eq_of_lt large) (ap (coefficients p d) (div-eq_of_lt large) ∙ coefficients_zero d ∙ sym (moved_zeros d))

  -- Zeros code 0.
  pub code_zeros : (d : ℕ) → code p (replicate d 0) ≡ 0
  code_zeros zero = refl
  code_zeros (suc d) = ap (λ n. n * p + 0) (code_zeros d) ∙ ap (λ n. n + 0) (zero-mul p)
