-- The loop of `left_quotient`, over plain numbers.
--
--   Subtracted     s is r less p × (c times the j-th power), as far as r reaches
--   Dividing       with j coefficients to go: out has zeros there, and the rest is the dividend less divisor × out, zero from d + j on
use Rattle.std.proofs.Common.{◌≡◌, ℕ, suc, ◌+◌, ◌-◌, ◌<◌, ◌≤◌, ◌≢◌, List, [], length, get_or, set, sym, ap, ◌∙◌, inl, inr, arith, length-set, get_or-set_other, get_or-set_same}
use Rattle.std.proofs.Math.Decide.{ℕ_discrete}
use Rattle.std.proofs.lemmas.List.{length-map}
use Rattle.std.proofs.lemmas.Bool.{cases_lt}
use Rattle.fields.specs.Field as field
use Rattle.fields.specs.Meaning.{Meaning, Laws, clip}
use Rattle.fields.specs.Elements.{Elem, elem, elems, ops}
use Rattle.fields.specs.Inverses
use Rattle.fields.specs.Basics
use Rattle.fields.specs.Basics.{ring}
use Rattle.fields.proofs.Carrier
use Rattle.skew.specs.Values.{twisted}
use Rattle.skew.specs.Products.{coef, coefficient}
use Rattle.skew.specs.Polynomials.{Codes, Added}
use Rattle.skew.specs.Few.{Resized}
use Rattle.skew.specs.Quotients.{Divided, Leads, Untwisted}
use Rattle.skew.proofs.Coefficients
use Rattle.skew.proofs.Division
use Rattle.skew.proofs.Resizing
use Rattle.skew.proofs.Resizing.{zeros_null}

pub record Subtracted (m : Meaning) (p : List ℕ) (j c : ℕ) (r s : List ℕ) : Type 0 where
  pub size : length s ≡ length r
  pub below : (l : ℕ) → l < j → get_or s l 0 ≡ get_or r l 0
  pub above : (l : ℕ) → l + j < length r → elem m (get_or s (l + j) 0) ≡ (ops m).add (elem m (get_or r (l + j) 0)) ((ops m).neg ((ops m).mul (coef (ops m) (elems m p) l) (twisted (ops m) l (elem m c))))

pub record Dividing (m : Meaning) (n p : List ℕ) (d k j : ℕ) (rest out : List ℕ) : Type 0 where
  pub size_rest : length rest ≡ d + k
  pub size_out : length out ≡ k
  pub within : j ≤ k
  pub proper : Codes m out
  pub low : (i : ℕ) → i < j → coef (ops m) (elems m out) i ≡ (ops m).zero
  pub sum : (l : ℕ) → l < d + k → coef (ops m) (elems m rest) l ≡ (ops m).add (coef (ops m) (elems m n) l) ((ops m).neg (coefficient (ops m) (elems m p) (elems m out) l))
  pub done : (l : ℕ) → d + j ≤ l → l < d + k → coef (ops m) (elems m rest) l ≡ (ops m).zero

module _ {m : Meaning} (l : Laws m) where
  -- The laws of the elements.
  abbrev laws : field.Laws (ops m)
  laws = Carrier.ops_laws l

  -- What is added with the opposite of c is taken off with c.
  pub subtracted : {p r s : List ℕ} {j c n : ℕ} → n ≡ m.opposite (clip m c) → Added m p j n r s → Subtracted m p j c r s
  subtracted {p} {r} {s} {j} {c} {n} en a = record {
    size = a.size;
    below = a.below;
    above = λ k h. a.above k h ∙ ap (λ w. (ops m).add (elem m (get_or r (k + j) 0)) ((ops m).mul (coef (ops m) (elems m p) k) w)) (ap (twisted (ops m) k) (Carrier.negates m c en) ∙ Coefficients.twisted_neg laws k (elem m c)) ∙ ap ((ops m).add _) (outside (coef (ops m) (elems m p) k) (twisted (ops m) k (elem m c)));
  }
    where
      outside : (x y : Elem m) → (ops m).mul x ((ops m).neg y) ≡ (ops m).neg ((ops m).mul x y)
      outside x y = simp (ring, laws)

  -- Before the first turn out is zero, and the rest is the dividend.
  pub divide_starts : {n p rest e out : List ℕ} {d k : ℕ} → d + k ≤ 48 → Resized 48 n (d + k) rest → e ≡ [] → Resized 48 e k out → Dividing m n p d k k rest out
  divide_starts {n} {p} {rest} {e} {out} {d} {k} room a ee z = record {
    size_rest = omega (arith, a.size);
    size_out = omega (arith, z.size);
    within = omega arith;
    proper = Resizing.codes_by l out (λ i. ap (clip m) (zeros_null ee z i) ∙ Carrier.zero_counts l ∙ sym (zeros_null ee z i));
    low = λ i h. null i;
    sum = λ i h. sym (Carrier.elem_at m rest i) ∙ ap (elem m) (a.same i (omega (arith, a.size))) ∙ Carrier.elem_at m n i
        ∙ sym (ap (λ w. (ops m).add (coef (ops m) (elems m n) i) ((ops m).neg w)) (Division.coefficient_null laws (elems m p) (elems m out) null i) ∙ nought (coef (ops m) (elems m n) i));
    done = λ i h q. absurd (omega arith);
  }
    where
      null : (i : ℕ) → coef (ops m) (elems m out) i ≡ (ops m).zero
      null i = sym (Carrier.elem_at m out i) ∙ ap (elem m) (zeros_null ee z i) ∙ Carrier.zero_is m

      nought : (y : Elem m) → (ops m).add y ((ops m).neg (ops m).zero) ≡ y
      nought y = simp (ring, laws)

  -- The top of the rest, over the leading coefficient and untwisted, is one coefficient more.
  pub divide_goes_on : (i j : ℕ) {n p rest rest' out out' : List ℕ} {d k inverse high ratio c : ℕ} → i ≡ suc j → Leads m p d inverse
      → Dividing m n p d k i rest out → high ≡ get_or rest (d + j) 0 → ratio ≡ m.product (clip m high) (clip m inverse) → Untwisted m d ratio c
      → Subtracted m p j c rest rest' → out' ≡ set out j c → Dividing m n p d k j rest' out'
  divide_goes_on i j {n} {p} {rest} {rest'} {out} {out'} {d} {k} {inverse} {high} {ratio} {c} ei lead v eh er u s eo = record {
    size_rest = s.size ∙ v.size_rest;
    size_out = ap length eo ∙ length-set out j c ∙ v.size_out;
    within = omega (arith, v.within);
    proper = Resizing.codes_by l out' counted;
    low = λ q h. other q (λ z. omega arith) ∙ v.low q (omega arith);
    sum = sum;
    done = done;
  }
    where
      new : get_or out' j 0 ≡ c
      new = ap (λ z. get_or z j 0) eo ∙ get_or-set_same out j c 0 (omega (arith, v.size_out, v.within))

      old : (q : ℕ) → q ≢ j → get_or out' q 0 ≡ get_or out q 0
      old q ne = ap (λ z. get_or z q 0) eo ∙ get_or-set_other out j q c 0 ne

      other : (q : ℕ) → q ≢ j → coef (ops m) (elems m out') q ≡ coef (ops m) (elems m out) q
      other q ne = sym (Carrier.elem_at m out' q) ∙ ap (elem m) (old q ne) ∙ Carrier.elem_at m out q

      at_j : coef (ops m) (elems m out') j ≡ elem m c
      at_j = sym (Carrier.elem_at m out' j) ∙ ap (elem m) new

      -- each number of out is a code
      out_counts : (q : ℕ) → clip m (get_or out q 0) ≡ get_or out q 0
      out_counts q = Resizing.counted_by l out v.proper q

      counted : (q : ℕ) → clip m (get_or out' q 0) ≡ get_or out' q 0
      counted q = elim (ℕ_discrete q j) [
        | yes e ↦ ap (λ z. clip m (get_or out' z 0)) e ∙ ap (clip m) new ∙ u.counts ∙ sym (ap (λ z. get_or out' z 0) e ∙ new)
        | no ne ↦ ap (clip m) (old q ne) ∙ out_counts q ∙ sym (old q ne)
      ]

      -- the rest at place q + j
      above : (q : ℕ) → q + j < d + k → coef (ops m) (elems m rest') (q + j) ≡ (ops m).add (coef (ops m) (elems m rest) (q + j)) ((ops m).neg ((ops m).mul (coef (ops m) (elems m p) q) (twisted (ops m) q (elem m c))))
      above q h =
          sym (Carrier.elem_at m rest' (q + j)) ∙ s.above q (omega (arith, v.size_rest))
          ∙ ap (λ w. (ops m).add w ((ops m).neg ((ops m).mul (coef (ops m) (elems m p) q) (twisted (ops m) q (elem m c))))) (Carrier.elem_at m rest (q + j))

      gather : (x y t : Elem m) → (ops m).add ((ops m).add x ((ops m).neg y)) ((ops m).neg t) ≡ (ops m).add x ((ops m).neg ((ops m).add y t))
      gather x y t = simp (ring, laws)

      sum : (q : ℕ) → q < d + k → coef (ops m) (elems m rest') q ≡ (ops m).add (coef (ops m) (elems m n) q) ((ops m).neg (coefficient (ops m) (elems m p) (elems m out') q))
      sum q h = elim (cases_lt q j) [
        | inl g ↦ sym (Carrier.elem_at m rest' q) ∙ ap (elem m) (s.below q g) ∙ Carrier.elem_at m rest q ∙ v.sum q h
            ∙ ap (λ w. (ops m).add (coef (ops m) (elems m n) q) ((ops m).neg w)) (sym (Division.coefficient_same laws (elems m p) (elems m out) (elems m out') j other q g))
        | inr g ↦ (let e : q - j + j ≡ q = omega arith in
            ap (coef (ops m) (elems m rest')) (sym e) ∙ above (q - j) (omega arith)
            ∙ ap (λ z. (ops m).add (coef (ops m) (elems m rest) z) ((ops m).neg ((ops m).mul (coef (ops m) (elems m p) (q - j)) (twisted (ops m) (q - j) (elem m c))))) e
            ∙ ap (λ w. (ops m).add w ((ops m).neg ((ops m).mul (coef (ops m) (elems m p) (q - j)) (twisted (ops m) (q - j) (elem m c))))) (v.sum q h)
            ∙ gather (coef (ops m) (elems m n) q) (coefficient (ops m) (elems m p) (elems m out) q) ((ops m).mul (coef (ops m) (elems m p) (q - j)) (twisted (ops m) (q - j) (elem m c)))
            ∙ ap (λ w. (ops m).add (coef (ops m) (elems m n) q) ((ops m).neg w))
            (sym (Division.coefficient_more laws (elems m p) (elems m out) (elems m out') j (elem m c) (v.low j (omega arith)) at_j other q g)))
      ]

      undo : (x y : Elem m) → y ≢ (ops m).zero → (ops m).mul y ((ops m).mul x ((ops m).inv y)) ≡ x
      undo x y ne = Inverses.div_past_one laws y x ne

      -- the top of the rest is taken off
      top : coef (ops m) (elems m rest') (d + j) ≡ (ops m).zero
      top =
          above d (omega (arith, v.within)) ∙ ap (λ w. (ops m).add (coef (ops m) (elems m rest) (d + j)) ((ops m).neg w))
          (ap ((ops m).mul (coef (ops m) (elems m p) d)) (u.is ∙ Carrier.multiplies m high inverse er ∙ ap (λ w. (ops m).mul w (elem m inverse)) (ap (elem m) eh ∙ Carrier.elem_at m rest (d + j)) ∙ ap ((ops m).mul (coef (ops m) (elems m rest) (d + j))) lead.inverse)
          ∙ undo (coef (ops m) (elems m rest) (d + j)) (coef (ops m) (elems m p) d) lead.degree.0)
          ∙ Basics.add_neg laws (coef (ops m) (elems m rest) (d + j))

      both_zero : (w : Elem m) → (ops m).add (ops m).zero ((ops m).neg ((ops m).mul (ops m).zero w)) ≡ (ops m).zero
      both_zero w = simp (ring, laws)

      done : (q : ℕ) → d + j ≤ q → q < d + k → coef (ops m) (elems m rest') q ≡ (ops m).zero
      done q h g = elim (cases_lt (d + j) q) [
        | inl w ↦ (let e : q - j + j ≡ q = omega arith in
            ap (coef (ops m) (elems m rest')) (sym e) ∙ above (q - j) (omega arith)
            ∙ ap (λ z. (ops m).add (coef (ops m) (elems m rest) z) ((ops m).neg ((ops m).mul (coef (ops m) (elems m p) (q - j)) (twisted (ops m) (q - j) (elem m c))))) e
            ∙ ap (λ z. (ops m).add z ((ops m).neg ((ops m).mul (coef (ops m) (elems m p) (q - j)) (twisted (ops m) (q - j) (elem m c))))) (v.done q (omega arith) g)
            ∙ ap (λ z. (ops m).add (ops m).zero ((ops m).neg ((ops m).mul z (twisted (ops m) (q - j) (elem m c))))) (lead.degree.1 (q - j) (omega arith)) ∙ both_zero (twisted (ops m) (q - j) (elem m c)))
        | inr w ↦ (let e : q ≡ d + j = omega arith in ap (coef (ops m) (elems m rest')) e ∙ top)
      ]

  -- After the last turn the rest is zero at all k places.
  pub divide_ends : {n p rest out : List ℕ} {d k inverse : ℕ} (j : ℕ) → j ≤ 0 → d + k ≤ 48 → Leads m p d inverse → Dividing m n p d k j rest out → Divided m n p k out
  divide_ends {n} {p} {rest} {out} {d} {k} j z room lead v = record {
    d = d;
    degree = lead.degree;
    room = room;
    proper = v.proper;
    quotient = record { size = lo; agrees = agrees; only = λ f lf e. Division.quotient_only laws d k (elems m p) f (elems m out) lead.degree lf lo (λ q h g. sym (e q h g) ∙ agrees q h g) };
  }
    where
      lo : length (elems m out) ≡ k
      lo = length-map out (elem m) ∙ v.size_out

      agrees : (q : ℕ) → d ≤ q → q < d + k → coef (ops m) (elems m n) q ≡ coefficient (ops m) (elems m p) (elems m out) q
      agrees q h g = Basics.equal_of_sub laws (coef (ops m) (elems m n) q) (coefficient (ops m) (elems m p) (elems m out) q) (sym (v.sum q g) ∙ v.done q (omega arith) g)
