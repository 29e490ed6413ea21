-- The loops of `value` and `values`, over plain numbers.
--
--   Valuing m f a b i t x    after i coefficients: the total t, and the value of the others at x, make the value of f at b
use Rattle.std.proofs.Common.{◌≡◌, ℕ, ◌+◌, ◌-◌, ◌<◌, ◌≤◌, List, [], ◌∷◌, length, get_or, take, drop, ap, ◌∙◌, arith}
use Rattle.std.proofs.lemmas.List.{drop_more, drop_all, take_rest}
use Rattle.fields.specs.Meaning.{Meaning, Laws, clip}
use Rattle.fields.specs.Elements.{Elem, elem, elems, ops}
use Rattle.fields.specs.Basics
use Rattle.fields.proofs.Carrier
use Rattle.skew.specs.Values.{eval, value_code, eval_code}
use Rattle.skew.proofs.Values.{eval_value}

-- After i coefficients: the total and the value of what is left make the whole value.
pub record Valuing (m : Meaning) (f : List ℕ) (a b : ℕ) (i total x : ℕ) : Type 0 where
  pub counts : clip m total ≡ total
  pub whole : (ops m).add (elem m total) (eval (ops m) (elem m a) (elems m (drop i f)) (elem m x)) ≡ eval (ops m) (elem m a) (elems m f) (elem m b)

module _ {m : Meaning} (l : Laws m) where
  -- Before the first coefficient.
  pub starts : (f : List ℕ) (a b : ℕ) → Valuing m f a b 0 0 b
  starts f a b = record {
    counts = Carrier.counts l 0 (Carrier.zero_code l);
    whole = ap (λ w. (ops m).add w (eval (ops m) (elem m a) (elems m f) (elem m b))) (Carrier.zero_is m) ∙ Basics.zero_add (Carrier.ops_laws l) _;
  }

  -- One coefficient more.
  pub goes_on : {f : List ℕ} {a b i t x p t' y x' : ℕ} → i < length f → Valuing m f a b i t x
      → p ≡ m.product (clip m (get_or f i 0)) (clip m x) → t' ≡ m.sum (clip m t) (clip m p) → y ≡ m.twist (clip m x) → x' ≡ m.product (clip m y) (clip m a)
      → Valuing m f a b (i + 1) t' x'
  goes_on {f} {a} {b} {i} {t} {x} {p} {t'} {y} {x'} h v ep et ey ex =
      let e1 = Carrier.multiplies m (get_or f i 0) x ep in
      let e2 = Carrier.sums m t p et in
      let e3 = Carrier.twists m x ey in
      let e4 = Carrier.multiplies m y a ex in
      let d : elems m (drop i f) ≡ elem m (get_or f i 0) ∷ elems m (drop (i + 1) f) = ap (elems m) (drop_more f i 0 h) in
      let r = Basics.add_assoc (Carrier.ops_laws l) (elem m t) ((ops m).mul (elem m (get_or f i 0)) (elem m x)) (eval (ops m) (elem m a) (elems m (drop (i + 1) f)) (elem m x')) in
      record { counts = Carrier.sum_counts l t p et; whole = cc }

  -- After the last one the total is the value.
  pub ends : {f : List ℕ} {a b i t x : ℕ} → length f ≤ i → Valuing m f a b i t x → t ≡ eval_code m f a b
  ends {f} {a} {b} {i} {t} {x} h v =
      let d : elems m (drop i f) ≡ [] = ap (elems m) (drop_all i f h) in
      let z = Basics.add_zero (Carrier.ops_laws l) (elem m t) in
      let e : elem m t ≡ eval (ops m) (elem m a) (elems m f) (elem m b) = cc in
      Carrier.code_elem m t v.counts ∙ ap (λ (y : Elem m). y.code) e

  -- And so the sum of the definition.
  pub ends_sum : {f : List ℕ} {a b i t x : ℕ} → length f ≤ i → Valuing m f a b i t x → t ≡ value_code m f a b
  ends_sum {f} {a} {b} h v = ends h v ∙ ap (λ (y : Elem m). y.code) (eval_value (Carrier.ops_laws l) (elem m a) (elems m f) (elem m b))

  -- The same where a call has the value of the coefficients from n on.
  pub ends_with : {f : List ℕ} {a b i n t x r s : ℕ} → n ≤ i → i ≤ n → Valuing m f a b i t x → r ≡ eval_code m (take (length f - n) (drop n f)) a x → s ≡ m.sum (clip m t) (clip m r) → s ≡ value_code m f a b
  ends_with {f} {a} {b} {i} {n} {t} {x} {r} {s} h k v er es =
      let same : n ≡ i = omega arith in
      let rest : take (length f - n) (drop n f) ≡ drop i f = take_rest f n ∙ ap (λ z. drop z f) same in
      let e1 = Carrier.sums m t r es in
      let e2 : elem m r ≡ eval (ops m) (elem m a) (elems m (drop i f)) (elem m x) = Carrier.named _ er ∙ ap (λ z. eval (ops m) (elem m a) (elems m z) (elem m x)) rest in
      let w = v.whole in
      let e : elem m s ≡ eval (ops m) (elem m a) (elems m f) (elem m b) = cc in
      Carrier.answers _ (Carrier.sum_counts l t r es) (e ∙ eval_value (Carrier.ops_laws l) (elem m a) (elems m f) (elem m b))
