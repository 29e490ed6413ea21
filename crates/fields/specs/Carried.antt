-- The codes of a lawful kind, and elements, as far as the laws of kinds rest on them.
--
--   carried m    the operations of a kind on its elements, as `ops` of `Elements` has them, under a name of their own: what shows that
--                a kind keeps its laws does not rest on what contracts cite. Laws of an impl may cite nothing but its own specs;
--                with one definition, which was tried, a wrong `ops` leaves them unread, where now a proof refuses it.
use Rattle.std.specs.Prelude.{◌≡◌, ℕ, ◌<◌, cond, ◌≢◌, List, [], ◌∷◌, map, nat_lt}
use Rattle.std.proofs.Math.Path.{refl, sym, ap}
use Rattle.std.proofs.Common.{◌∙◌, subst, inl, inr, arith}
use mathlib.Core.HLevel.{Σ_prop_path}
use Rattle.std.proofs.Math.Nat.{ℕ_set}
use Rattle.std.proofs.Math.Decide.{ℕ_discrete}
use Rattle.std.proofs.lemmas.Bool.{cond_both, cond-true, ltb-true, lt-ltb, cases_lt}
use Rattle.std.specs.List.{AllByRecursion}
use Rattle.fields.specs.Field.{Ops, comb}
use Rattle.fields.specs.Field as field
use Rattle.fields.specs.Meaning.{Meaning, Laws, Code, clip, combined}
use Rattle.fields.specs.Elements.{Element, element, Elem, elem, elems, codes, reciprocal_of}

-- A code is the code of its element.
pub code_elem : (m : Meaning) (a : ℕ) → clip m a ≡ a → a ≡ (elem m a).code
unfolding element
code_elem m a h = sym h

module _ {n : ℕ} where
  pub same_code : (x y : Element n) → x.code ≡ y.code → x ≡ y
  same_code x y e = ap of_pair (Σ_prop_path (λ a. ℕ_set (cond (nat_lt a n) a 0) a) {u = (x.code, x.counts)} {v = (y.code, y.counts)} e)
    where
      of_pair : ((a : ℕ) × (cond (nat_lt a n) a 0 ≡ a)) → Element n
      of_pair p = record { code = p.0; counts = p.1 }

  pub elem_code : (x : Element n) → element n x.code ≡ x
  unfolding element
  elem_code x = same_code (element n x.code) x x.counts

  -- A number that is the code of x: its element is x.
  pub named : {r : ℕ} (x : Element n) → r ≡ x.code → element n r ≡ x
  named x e = ap (element n) e ∙ elem_code x

  -- A code with this element.
  pub answers : {r : ℕ} (x : Element n) → cond (nat_lt r n) r 0 ≡ r → element n r ≡ x → r ≡ x.code
  unfolding element
  answers {r} x h e = sym h ∙ ap (λ (y : Element n). y.code) e

  pub elems_codes : (xs : List (Element n)) → map (element n) (codes xs) ≡ xs
  elems_codes [] = refl
  elems_codes (x ∷ xs) = ap (λ y. y ∷ map (element n) (codes xs)) (elem_code x) ∙ ap (λ ys. x ∷ ys) (elems_codes xs)

module _ (m : Meaning) where
  unfoldable pub carried : Ops (Elem m)
  carried = record {
    zero = elem m 0;
    one = elem m 1;
    add = λ x y. elem m (m.sum x.code y.code);
    mul = λ x y. elem m (m.product x.code y.code);
    neg = λ x. elem m (m.opposite x.code);
    inv = λ x. elem m (reciprocal_of m x.code);
    twist = λ x. elem m (m.twist x.code);
    untwist = λ x. elem m (m.untwist x.code);
  }

  pub zero_is : elem m 0 ≡ carried.zero
  unfolding carried
  zero_is = refl

  pub one_is : elem m 1 ≡ carried.one
  unfolding carried
  one_is = refl

  -- A sum and a product of what numbers count as, told in elements.
  pub adds : (a b : ℕ) → elem m (m.sum (clip m a) (clip m b)) ≡ carried.add (elem m a) (elem m b)
  unfolding element carried
  adds a b = refl

  pub multiplies : (a b : ℕ) → elem m (m.product (clip m a) (clip m b)) ≡ carried.mul (elem m a) (elem m b)
  unfolding element carried
  multiplies a b = refl

  pub clips : {r : ℕ} (a : ℕ) → r ≡ clip m a → (elem m r ≡ elem m a) × (clip m r ≡ r)
  unfolding element
  clips a e = (ap (elem m) e ∙ same_code (elem m (clip m a)) (elem m a) (elem m a).counts, ap (clip m) e ∙ (elem m a).counts ∙ sym e)

module _ {m : Meaning} (l : Laws m) where
  pub zero_code : Code m 0
  zero_code = omega (arith, l.size_low)

  pub clip_code : (a : ℕ) → Code m (clip m a)
  clip_code a = cond_both (nat_lt a m.size) a 0 (λ x. x < m.size) (λ e. ltb-true a m.size e) (λ e. zero_code)

  pub counts : (a : ℕ) → Code m a → clip m a ≡ a
  counts a h = cond-true (nat_lt a m.size) a 0 (lt-ltb a m.size h)

  pub is_code : (x : Elem m) → Code m x.code
  is_code x = subst (λ a. Code m a) x.counts (clip_code x.code)

  -- What a kind answers is a code.
  pub sum_counts : {r : ℕ} (a b : ℕ) → r ≡ m.sum (clip m a) (clip m b) → clip m r ≡ r
  sum_counts {r} a b e = counts r (subst (λ x. Code m x) (sym e) (l.sum_code (clip m a) (clip m b) (clip_code a) (clip_code b)))

  pub product_counts : {r : ℕ} (a b : ℕ) → r ≡ m.product (clip m a) (clip m b) → clip m r ≡ r
  product_counts {r} a b e = counts r (subst (λ x. Code m x) (sym e) (l.product_code (clip m a) (clip m b) (clip_code a) (clip_code b)))

  pub opposite_counts : {r : ℕ} (a : ℕ) → r ≡ m.opposite (clip m a) → clip m r ≡ r
  opposite_counts {r} a e = counts r (subst (λ x. Code m x) (sym e) (l.opposite_code (clip m a) (clip_code a)))

  pub twist_counts : {r : ℕ} (a : ℕ) → r ≡ m.twist (clip m a) → clip m r ≡ r
  twist_counts {r} a e = counts r (subst (λ x. Code m x) (sym e) (l.twist_code (clip m a) (clip_code a)))

  pub untwist_counts : {r : ℕ} (a : ℕ) → r ≡ m.untwist (clip m a) → clip m r ≡ r
  untwist_counts {r} a e = counts r (subst (λ x. Code m x) (sym e) (l.untwist_code (clip m a) (clip_code a)))

  pub same_elem : (a b : ℕ) → Code m a → Code m b → elem m a ≡ elem m b → a ≡ b
  same_elem a b ha hb e = code_elem m a (counts a ha) ∙ ap (λ (x : Elem m). x.code) e ∙ sym (code_elem m b (counts b hb))

  pub zero_counts : clip m 0 ≡ 0
  zero_counts = counts 0 zero_code

  pub one_counts : clip m 1 ≡ 1
  one_counts = counts 1 (omega (arith, l.size_low))

  pub reciprocal_code : (a : ℕ) → Code m a → Code m (reciprocal_of m a)
  reciprocal_code a h = cond_both (nat_lt 0 a) (m.inverse a) 0 (λ x. x < m.size) (λ e. l.inverse_code a h) (λ e. zero_code)

  pub reciprocal_counts : {r : ℕ} (a : ℕ) → r ≡ reciprocal_of m (clip m a) → clip m r ≡ r
  reciprocal_counts {r} a e = counts r (subst (λ x. Code m x) (sym e) (reciprocal_code (clip m a) (clip_code a)))

  -- Sums and products of codes, told in elements; and codes are equal where their elements are.
  pub sum_elem : (a b : ℕ) → Code m a → Code m b → elem m (m.sum a b) ≡ (carried m).add (elem m a) (elem m b)
  sum_elem a b ha hb = ap (elem m) (sym (ap (λ x. m.sum x (clip m b)) (counts a ha) ∙ ap (m.sum a) (counts b hb))) ∙ adds m a b

  pub product_elem : (a b : ℕ) → Code m a → Code m b → elem m (m.product a b) ≡ (carried m).mul (elem m a) (elem m b)
  product_elem a b ha hb = ap (elem m) (sym (ap (λ x. m.product x (clip m b)) (counts a ha) ∙ ap (m.product a) (counts b hb))) ∙ multiplies m a b

  -- The elements are a field with an automorphism.
  pub carried_laws : field.Laws (carried m)
  unfolding element carried
  carried_laws = record {
    same = λ x y. elim (ℕ_discrete x.code y.code) [ yes e ↦ yes (same_code x y e) | no n ↦ no (λ e. n (ap (λ (z : Elem m). z.code) e)) ];
    add_comm = λ x y. up (l.sum_comm x.code y.code (is_code x) (is_code y));
    add_assoc = λ x y z.
        ap (λ w. elem m (m.sum w z.code)) (counts _ (S x y)) ∙ up (l.sum_assoc x.code y.code z.code (is_code x) (is_code y) (is_code z)) ∙ sym (ap (λ w. elem m (m.sum x.code w)) (counts _ (S y z)));
    add_zero = λ x. ap (λ w. elem m (m.sum x.code w)) zero_counts ∙ up (l.sum_zero x.code (is_code x)) ∙ elem_code x;
    add_neg = λ x. ap (λ w. elem m (m.sum x.code w)) (counts _ (l.opposite_code x.code (is_code x))) ∙ up (l.sum_opposite x.code (is_code x));
    mul_comm = λ x y. up (l.product_comm x.code y.code (is_code x) (is_code y));
    mul_assoc = λ x y z.
        ap (λ w. elem m (m.product w z.code)) (counts _ (P x y)) ∙ up (l.product_assoc x.code y.code z.code (is_code x) (is_code y) (is_code z)) ∙ sym (ap (λ w. elem m (m.product x.code w)) (counts _ (P y z)));
    mul_one = λ x. ap (λ w. elem m (m.product x.code w)) one_counts ∙ up (l.product_one x.code (is_code x)) ∙ elem_code x;
    one_zero = λ e. omega (arith, ap (λ (x : Elem m). x.code) e, zero_counts, one_counts);
    mul_inv = λ x n.
        ap (λ w. elem m (m.product x.code w)) (counts _ (reciprocal_code x.code (is_code x)) ∙ cond-true (nat_lt 0 x.code) _ _ (lt-ltb 0 x.code (above x n))) ∙ up (l.product_inverse x.code (is_code x) (above x n));
    mul_add = λ x y z.
        ap (λ w. elem m (m.product x.code w)) (counts _ (S y z)) ∙ up (l.product_sum x.code y.code z.code (is_code x) (is_code y) (is_code z))
        ∙ sym (ap (λ w. elem m (m.sum w (clip m (m.product x.code z.code)))) (counts _ (P x y)) ∙ ap (λ w. elem m (m.sum (m.product x.code y.code) w)) (counts _ (P x z)));
    twist_add = λ x y.
        ap (λ w. elem m (m.twist w)) (counts _ (S x y)) ∙ up (l.twist_sum x.code y.code (is_code x) (is_code y))
        ∙ sym (ap (λ w. elem m (m.sum w (clip m (m.twist y.code)))) (counts _ (W x)) ∙ ap (λ w. elem m (m.sum (m.twist x.code) w)) (counts _ (W y)));
    twist_mul = λ x y.
        ap (λ w. elem m (m.twist w)) (counts _ (P x y)) ∙ up (l.twist_product x.code y.code (is_code x) (is_code y))
        ∙ sym (ap (λ w. elem m (m.product w (clip m (m.twist y.code)))) (counts _ (W x)) ∙ ap (λ w. elem m (m.product (m.twist x.code) w)) (counts _ (W y)));
    twist_untwist = λ x. ap (λ w. elem m (m.twist w)) (counts _ (l.untwist_code x.code (is_code x))) ∙ up (l.twist_untwist x.code (is_code x)) ∙ elem_code x;
    untwist_twist = λ x. ap (λ w. elem m (m.untwist w)) (counts _ (W x)) ∙ up (l.untwist_twist x.code (is_code x)) ∙ elem_code x;
  }
    where
      up : {a b : ℕ} → a ≡ b → elem m a ≡ elem m b
      up e = ap (elem m) e

      S : (x y : Elem m) → Code m (m.sum x.code y.code)
      S x y = l.sum_code x.code y.code (is_code x) (is_code y)

      P : (x y : Elem m) → Code m (m.product x.code y.code)
      P x y = l.product_code x.code y.code (is_code x) (is_code y)

      W : (x : Elem m) → Code m (m.twist x.code)
      W x = l.twist_code x.code (is_code x)

      above : (x : Elem m) → x ≢ elem m 0 → 0 < x.code
      above x n = elim (cases_lt 0 x.code) [ inl h ↦ h | inr h ↦ absurd (n (same_code x (elem m 0) (let z : x.code ≡ 0 = omega arith in z ∙ sym zero_counts))) ]

  -- A combination of codes is a code, and its element the combination of their elements.
  pub combined_code : (ds bs : List ℕ) → AllByRecursion (Code m) ds → AllByRecursion (Code m) bs → Code m (combined m ds bs)
  combined_code [] bs p q = zero_code
  combined_code (d ∷ ds) [] p q = zero_code
  combined_code (d ∷ ds) (b ∷ bs) p q = l.sum_code _ _ (l.product_code d b p.0 q.0) (combined_code ds bs p.1 q.1)

  pub combined_elem : (ds bs : List ℕ) → AllByRecursion (Code m) ds → AllByRecursion (Code m) bs → elem m (combined m ds bs) ≡ comb (carried m) (elems m ds) (elems m bs)
  combined_elem [] bs p q = zero_is m
  combined_elem (d ∷ ds) [] p q = zero_is m
  combined_elem (d ∷ ds) (b ∷ bs) p q =
      sum_elem (m.product d b) (combined m ds bs) (l.product_code d b p.0 q.0) (combined_code ds bs p.1 q.1)
      ∙ ap (λ x. (carried m).add x (elem m (combined m ds bs))) (product_elem d b p.0 q.0)
      ∙ ap ((carried m).add ((carried m).mul (elem m d) (elem m b))) (combined_elem ds bs p.1 q.1)
