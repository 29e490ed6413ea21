-- The loops of `add` and `product`, over plain numbers.
--
--   Adding        after i coefficients of p: x is c twisted i times
--   Multiplying   after j coefficients of g: the sum is the product of f with those, as far as it reaches
use Rattle.std.proofs.Common.{◌≡◌, ℕ, ◌+◌, ◌-◌, ◌<◌, ◌≤◌, min, ◌≢◌, List, [], length, get_or, take, set, sym, refl, ap, ◌∙◌, subst, inl, inr, add-one, arith, length-set, get_or-set_other, get_or-set_same}
use Rattle.std.proofs.Math.Decide.{ℕ_discrete}
use Rattle.std.proofs.lemmas.List.{length-map}
use Rattle.std.proofs.Math.ListN.{get_or-eq_default}
use Rattle.std.proofs.lemmas.List.{get_or-take, get_or_past, length-take, take_all}
use Rattle.std.proofs.lemmas.Bool.{cases_lt}
use Rattle.fields.specs.Field as field
use Rattle.fields.specs.Meaning.{Meaning, Laws, clip}
use Rattle.fields.specs.Elements.{Elem, elem, elems, ops}
use Rattle.fields.specs.Basics.{ring}
use Rattle.fields.proofs.Carrier
use Rattle.skew.specs.Values.{twisted}
use Rattle.skew.specs.Products.{coef, coefficient}
use Rattle.skew.specs.Polynomials.{Codes, Multiplied, Added}
use Rattle.skew.specs.Few.{Resized}
use Rattle.skew.proofs.Multiplication
use Rattle.skew.proofs.Multiplication.{times}
use Rattle.skew.proofs.Division
use Rattle.skew.proofs.Resizing
use Rattle.skew.proofs.Resizing.{zeros_null}

pub record Adding (m : Meaning) (p : List ℕ) (j c : ℕ) (r : List ℕ) (i x : ℕ) (s : List ℕ) : Type 0 where
  pub twists : elem m x ≡ twisted (ops m) i (elem m c)
  pub size : length s ≡ length r
  pub below : (l : ℕ) → l < j → get_or s l 0 ≡ get_or r l 0
  pub done : (l : ℕ) → l < i → l + j < length r → elem m (get_or s (l + j) 0) ≡ (ops m).add (elem m (get_or r (l + j) 0)) ((ops m).mul (coef (ops m) (elems m p) l) (twisted (ops m) l (elem m c)))
  pub left : (l : ℕ) → i ≤ l → get_or s (l + j) 0 ≡ get_or r (l + j) 0
  pub proper : Codes m r → Codes m s

pub record Multiplying (m : Meaning) (f g : List ℕ) (j : ℕ) (sum : List ℕ) : Type 0 where
  pub size : length sum ≡ length f + length g - 1
  pub proper : Codes m sum
  pub is : (l : ℕ) → l < length sum → coef (ops m) (elems m sum) l ≡ coefficient (ops m) (elems m f) (elems m (take j g)) l

module _ {m : Meaning} (l : Laws m) where
  -- The laws of the elements.
  abbrev laws : field.Laws (ops m)
  laws = Carrier.ops_laws l

  -- A list stays in codes with another code at a place.
  codes_set : (f : List ℕ) (i : ℕ) {x : ℕ} → clip m x ≡ x → Codes m f → Codes m (set f i x)
  codes_set f i {x} c h = Resizing.codes_by l (set f i x) go
    where
      go : (k : ℕ) → clip m (get_or (set f i x) k 0) ≡ get_or (set f i x) k 0
      go k = elim (cases_lt k (length f)) [
        | inl q ↦ elim (ℕ_discrete k i) [
          | yes e ↦ (let n : get_or (set f i x) k 0 ≡ x = ap (λ z. get_or (set f i x) z 0) e ∙ get_or-set_same f i x 0 (omega arith) in ap (clip m) n ∙ c ∙ sym n)
          | no ne ↦ (let n = get_or-set_other f i k x 0 ne in ap (clip m) n ∙ Resizing.counted_by l f h k ∙ sym n)
        ]
        | inr q ↦ (let n : get_or (set f i x) k 0 ≡ 0 = get_or_past (set f i x) k 0 (omega (arith, length-set f i x)) in ap (clip m) n ∙ Carrier.zero_counts l ∙ sym n)
      ]

  -- Before the first coefficient of p.
  pub add_starts : (p : List ℕ) (j c : ℕ) (r : List ℕ) → Adding m p j c r 0 c r
  add_starts p j c r = record { twists = refl; size = refl; below = λ k h. refl; done = λ k h. absurd (omega arith); left = λ k h. refl; proper = λ h. h }

  -- One coefficient more.
  pub add_goes_on : {p r s s' : List ℕ} {j c i x a t b h x' : ℕ} → Adding m p j c r i x s
      → a ≡ get_or p i 0 → t ≡ m.product (clip m a) (clip m x) → b ≡ get_or s (i + j) 0 → h ≡ m.sum (clip m b) (clip m t)
      → s' ≡ set s (i + j) h → x' ≡ m.twist (clip m x) → Adding m p j c r (i + 1) x' s'
  add_goes_on {p} {r} {s} {s'} {j} {c} {i} {x} {a} {t} {b} {h} {x'} u ea et eb eh es ex = record {
    twists = rw add-one (Carrier.twists m x ex ∙ ap (ops m).twist u.twists);
    size = ap length es ∙ length-set s (i + j) h ∙ u.size;
    below = λ k g. other k (λ q. omega arith) ∙ u.below k g;
    done = done;
    left = λ k g. other (k + j) (λ q. omega arith) ∙ u.left k (omega arith);
    proper = λ g. subst (Codes m) (sym es) (codes_set s (i + j) (Carrier.sum_counts l b t eh) (u.proper g));
  }
    where
      other : (k : ℕ) → k ≢ i + j → get_or s' k 0 ≡ get_or s k 0
      other k ne = ap (λ z. get_or z k 0) es ∙ get_or-set_other s (i + j) k h 0 ne

      here : i + j < length s → elem m (get_or s' (i + j) 0) ≡ (ops m).add (elem m (get_or r (i + j) 0)) ((ops m).mul (coef (ops m) (elems m p) i) (twisted (ops m) i (elem m c)))
      here g =
          let e0 : get_or s' (i + j) 0 ≡ h = ap (λ z. get_or z (i + j) 0) es ∙ get_or-set_same s (i + j) h 0 g in
          let e1 = Carrier.sums m b t eh in
          let e2 = Carrier.multiplies m a x et in
          let e3 = Carrier.elem_at m p i in
          let e4 = u.twists in
          let e5 = u.left i (omega arith) in
          cc

      done : (k : ℕ) → k < i + 1 → k + j < length r → elem m (get_or s' (k + j) 0) ≡ (ops m).add (elem m (get_or r (k + j) 0)) ((ops m).mul (coef (ops m) (elems m p) k) (twisted (ops m) k (elem m c)))
      done k g q = elim (cases_lt k i) [
        | inl w ↦ ap (elem m) (other (k + j) (λ z. omega arith)) ∙ u.done k w q
        | inr w ↦ (let e : i ≡ k = omega arith in
            subst (λ k. elem m (get_or s' (k + j) 0) ≡ (ops m).add (elem m (get_or r (k + j) 0)) ((ops m).mul (coef (ops m) (elems m p) k) (twisted (ops m) k (elem m c)))) e (here (omega (arith, u.size))))
      ]

  -- After the last one: p is zero past its end.
  pub add_ends : {p r s : List ℕ} {j c i x n : ℕ} → n ≡ min (length p) (length r - j) → n ≤ i → Adding m p j c r i x s → Added m p j c r s
  add_ends {p} {r} {s} {j} {c} {i} {x} {n} en h u = record { size = u.size; below = u.below; above = above; proper = u.proper }
    where
      nought : (y w : Elem m) → (ops m).add y ((ops m).mul (ops m).zero w) ≡ y
      nought y w = simp (ring, laws)

      above : (k : ℕ) → k + j < length r → elem m (get_or s (k + j) 0) ≡ (ops m).add (elem m (get_or r (k + j) 0)) ((ops m).mul (coef (ops m) (elems m p) k) (twisted (ops m) k (elem m c)))
      above k g = elim (cases_lt k i) [
        | inl q ↦ u.done k q g
        | inr q ↦ ap (elem m) (u.left k q)
            ∙ sym (ap (λ w. (ops m).add (elem m (get_or r (k + j) 0)) ((ops m).mul w (twisted (ops m) k (elem m c)))) (get_or-eq_default (elems m p) (ops m).zero (omega (arith, length-map p (elem m))))
            ∙ nought (elem m (get_or r (k + j) 0)) (twisted (ops m) k (elem m c)))
      ]

  -- Before the first coefficient of g all is zero.
  pub multiply_starts : {f g e sum : List ℕ} {n : ℕ} → length f + length g ≤ 49 → n ≡ length f + length g - 1 → e ≡ [] → Resized 48 e n sum → Multiplying m f g 0 sum
  multiply_starts {f} {g} {e} {sum} {n} room en ee z = record {
    size = omega (arith, z.size);
    proper = Resizing.codes_by l sum (λ i. ap (clip m) (zeros_null ee z i) ∙ Carrier.zero_counts l ∙ sym (zeros_null ee z i));
    is = λ k h. sym (Carrier.elem_at m sum k) ∙ ap (elem m) (zeros_null ee z k) ∙ Carrier.zero_is m ∙ sym (Division.coefficient_null laws (elems m f) [] (λ i. refl) k);
  }

  -- One coefficient more.
  pub multiply_goes_on : {f g sum sum' : List ℕ} {n j c : ℕ} → n ≡ length g → j < n → Multiplying m f g j sum → c ≡ get_or g j 0 → Added m f j c sum sum' → Multiplying m f g (j + 1) sum'
  multiply_goes_on {f} {g} {sum} {sum'} {n} {j} {c} en lt a ec d = record { size = d.size ∙ a.size; proper = d.proper a.proper; is = is }
    where
      coef_at : (k i : ℕ) → i < k → coef (ops m) (elems m (take k g)) i ≡ elem m (get_or g i 0)
      coef_at k i h = sym (Carrier.elem_at m (take k g) i) ∙ ap (elem m) (get_or-take k g i 0 h)

      coef_past : (k i : ℕ) → k ≤ i → coef (ops m) (elems m (take k g)) i ≡ (ops m).zero
      coef_past k i h = get_or-eq_default (elems m (take k g)) (ops m).zero (omega (arith, length-map (take k g) (elem m), length-take k g))

      other : (i : ℕ) → i ≢ j → coef (ops m) (elems m (take (j + 1) g)) i ≡ coef (ops m) (elems m (take j g)) i
      other i ne = elim (cases_lt i j) [
        | inl h ↦ coef_at (j + 1) i (omega arith) ∙ sym (coef_at j i h)
        | inr h ↦ coef_past (j + 1) i (omega (arith, ne)) ∙ sym (coef_past j i h)
      ]

      is : (k : ℕ) → k < length sum' → coef (ops m) (elems m sum') k ≡ coefficient (ops m) (elems m f) (elems m (take (j + 1) g)) k
      is k h = elim (cases_lt k j) [
        | inl q ↦ sym (Carrier.elem_at m sum' k) ∙ ap (elem m) (d.below k q) ∙ Carrier.elem_at m sum k ∙ a.is k (omega (arith, d.size))
            ∙ sym (Division.coefficient_same laws (elems m f) (elems m (take j g)) (elems m (take (j + 1) g)) j other k q)
        | inr q ↦ (let e : k - j + j ≡ k = omega arith in
            ap (coef (ops m) (elems m sum')) (sym e) ∙ sym (Carrier.elem_at m sum' (k - j + j)) ∙ d.above (k - j) (omega (arith, d.size))
            ∙ ap (λ z. (ops m).add (elem m (get_or sum z 0)) ((ops m).mul (coef (ops m) (elems m f) (k - j)) (twisted (ops m) (k - j) (elem m c)))) e
            ∙ ap (λ w. (ops m).add w ((ops m).mul (coef (ops m) (elems m f) (k - j)) (twisted (ops m) (k - j) (elem m c)))) (Carrier.elem_at m sum k ∙ a.is k (omega (arith, d.size)))
            ∙ sym (Division.coefficient_more laws (elems m f) (elems m (take j g)) (elems m (take (j + 1) g)) j (elem m c) (coef_past j j (omega arith))
            (coef_at (j + 1) j (omega arith) ∙ ap (elem m) (sym ec)) other k q))
      ]

  -- After the last one the sum is the product.
  pub multiply_ends : {f g sum : List ℕ} {n j : ℕ} → length f + length g ≤ 49 → n ≡ length g → n ≤ j → Multiplying m f g j sum → Multiplied m f g sum
  multiply_ends {f} {g} {sum} {n} {j} room en le a = record {
    room = room;
    proper = a.proper;
    size = omega (arith, a.size);
    product = Multiplication.same_product laws (elems m f) (elems m g) (elems m sum) same;
  }
    where
      same : (k : ℕ) → coef (ops m) (elems m sum) k ≡ coef (ops m) (times (ops m) (elems m f) (elems m g)) k
      same k = elim (cases_lt k (length sum)) [
        | inl h ↦ a.is k h ∙ ap (λ z. coefficient (ops m) (elems m f) (elems m z) k) (take_all j g (omega arith)) ∙ sym (Multiplication.coef_product laws (elems m f) (elems m g) k)
        | inr h ↦ get_or-eq_default (elems m sum) (ops m).zero (omega (arith, length-map sum (elem m)))
            ∙ sym (get_or-eq_default (times (ops m) (elems m f) (elems m g)) (ops m).zero
            (omega (arith, a.size, Multiplication.length_product laws (elems m f) (elems m g), length-map f (elem m), length-map g (elem m))))
      ]
