-- The loops of `cross`, `gain` and `raise`, which change the first n of the cells that stand before, over plain numbers.
--
--   Combining    the sum of two multiples, after i coefficients
--   Raising      x - c times what stands there, after i coefficients; `below` is the twisted coefficient below the i-th
use Rattle.std.proofs.Common.{◌≡◌, ℕ, suc, ◌+◌, ◌<◌, ◌≤◌, max, List, [], ◌∷◌, ◌++◌, map, length, get_or, take, set, sym, refl, ap, ◌∙◌, add-one, arith}
use Rattle.std.proofs.lemmas.List.{length-map}
use Rattle.std.proofs.Math.ListN.{get_or-eq_default}
use Rattle.std.proofs.lemmas.List.{take_all, length-take, get_or-take}
use Rattle.fields.specs.Field.{plus, scale}
use Rattle.fields.specs.Field as field
use Rattle.fields.specs.Basics
use Rattle.fields.specs.Rows
use Rattle.fields.specs.Meaning.{Meaning, Laws, clip}
use Rattle.fields.specs.Elements.{Elem, elem, elems, codes, ops}
use Rattle.fields.proofs.Carrier
use Rattle.skew.specs.Products.{coef}
use Rattle.skew.specs.Polynomials.{combined, raised}
use Rattle.skew.proofs.Coefficients
use Rattle.skew.proofs.Multiplication.{shift}
use Rattle.skew.proofs.Filling.{Filling, same_cell, unfilled, next_code, fill, filled}

module _ {F : Type 0} {o : field.Ops F} (l : field.Laws o) where
  -- A coefficient of a sum of multiples, and how many there are.
  pub coef_combined : (c d : F) (f g : List F) (i : ℕ) → coef o (plus o (scale o c f) (scale o d g)) i ≡ o.add (o.mul c (coef o f i)) (o.mul d (coef o g i))
  coef_combined c d f g i =
      Coefficients.coef_plus l (scale o c f) (scale o d g) i ∙ ap (λ w. o.add w (coef o (scale o d g) i)) (Coefficients.coef_scale l c f i) ∙ ap (o.add _) (Coefficients.coef_scale l d g i)

  -- How many coefficients a sum of multiples has.
  pub length_combined : (c d : F) (f g : List F) → length (plus o (scale o c f) (scale o d g)) ≡ max (length f) (length g)
  length_combined c d f g = Rows.length_plus l (scale o c f) (scale o d g) ∙ omega (arith, length-map f (o.mul c), length-map g (o.mul d))

  -- A coefficient of (x - c) × g.
  pub coef_raised : (c : F) (g : List F) (i : ℕ) → coef o (plus o (scale o c g) (shift o g)) i ≡ o.add (o.mul c (coef o g i)) (coef o (shift o g) i)
  coef_raised c g i = Coefficients.coef_plus l (scale o c g) (shift o g) i ∙ ap (λ w. o.add w (coef o (shift o g) i)) (Coefficients.coef_scale l c g i)

pub record Combining (cap : ℕ) (m : Meaning) (c d n : ℕ) (before g : List ℕ) (i len : ℕ) (cells : List ℕ) : Type 0 where
  pub filling : Filling cap (combined m c (take n before) d g) before i cells
  pub kept : len ≡ n

pub record Raising (cap : ℕ) (m : Meaning) (c n : ℕ) (before : List ℕ) (i below len : ℕ) (cells : List ℕ) : Type 0 where
  pub filling : Filling cap (raised m c (take n before)) before i cells
  pub kept : len ≡ n
  pub counts : clip m below ≡ below
  pub is : elem m below ≡ coef (ops m) (shift (ops m) (elems m (take n before))) i

module _ {m : Meaning} (l : Laws m) where
  -- The laws of the elements.
  laws : field.Laws (ops m)
  laws = Carrier.ops_laws l

  -- The same, by the numbers of codes.
  pub length_is : (c d : ℕ) (f g : List ℕ) → length (combined m c f d g) ≡ max (length f) (length g)
  length_is c d f g = length_combined laws (elem m c) (elem m d) (elems m f) (elems m g) ∙ omega (arith, length-map f (elem m), length-map g (elem m))

  -- Before the first coefficient of a sum of multiples.
  pub combine_starts : {cap c d n : ℕ} {before g : List ℕ} → length before ≡ cap → Combining cap m c d n before g 0 n before
  combine_starts h = record { filling = unfilled h; kept = refl }

  -- What `cross` puts at a place, and `gain`.
  pub crossed : (c d a b : ℕ) {p q y : ℕ} → p ≡ m.product (clip m c) (clip m a) → q ≡ m.product (clip m d) (clip m b) → y ≡ m.sum (clip m p) (clip m q)
      → (clip m y ≡ y) × (elem m y ≡ (ops m).add ((ops m).mul (elem m c) (elem m a)) ((ops m).mul (elem m d) (elem m b)))
  crossed c d a b {p} {q} {y} ep eq ey =
      let e1 = Carrier.multiplies m c a ep in
      let e2 = Carrier.multiplies m d b eq in
      let e3 = Carrier.sums m p q ey in
      (Carrier.sum_counts l p q ey, cc)

  pub gained : (d a b : ℕ) {q y : ℕ} → q ≡ m.product (clip m d) (clip m b) → y ≡ m.sum (clip m a) (clip m q)
      → (clip m y ≡ y) × (elem m y ≡ (ops m).add ((ops m).mul (elem m 1) (elem m a)) ((ops m).mul (elem m d) (elem m b)))
  gained d a b {q} {y} eq ey =
      let e2 = Carrier.multiplies m d b eq in
      let e3 = Carrier.sums m a q ey in
      let one = Carrier.one_is m in
      let e1 = Basics.one_mul laws (elem m a) in
      (Carrier.sum_counts l a q ey, cc)

  -- One coefficient more.
  pub combine_goes_on : {cap c d i n k len a b y : ℕ} {before g cells : List ℕ} → k ≡ max (length (take n before)) (length g)
      → i < k → i < cap → Combining cap m c d n before g i len cells → a ≡ get_or (take len cells) i 0 → b ≡ get_or g i 0
      → (clip m y ≡ y) × (elem m y ≡ (ops m).add ((ops m).mul (elem m c) (elem m a)) ((ops m).mul (elem m d) (elem m b))) → Combining cap m c d n before g (i + 1) len (set cells i y)
  combine_goes_on {cap} {c} {d} {i} {n} {k} {len} {a} {b} {y} {before} {g} {cells} ek h few held ea eb ey =
      let e0 : a ≡ get_or (take n before) i 0 = ea ∙ ap (λ z. get_or (take z cells) i 0) held.kept ∙ same_cell n before cells i (held.filling.old i (omega arith)) in
      let e3 = ey.1 in
      let fa = Carrier.elem_at m (take n before) i in
      let gb = Carrier.elem_at m g i in
      let w = coef_combined laws (elem m c) (elem m d) (elems m (take n before)) (elems m g) i in
      let e : elem m y ≡ coef (ops m) (combined m c (take n before) d g) i = cc in
      record {
        filling = fill (ops m).zero (omega (arith, length_is c d (take n before) g)) few held.filling (Carrier.answers _ ey.0 e);
        kept = held.kept;
      }

  -- After the last one.
  pub combine_ends : {cap c d i n k len : ℕ} {before g cells : List ℕ} → k ≡ max (length (take n before)) (length g) → k ≤ i → i ≤ k
      → Combining cap m c d n before g i len cells → take k cells ≡ codes (combined m c (take n before) d g)
  combine_ends {cap} {c} {d} {i} {n} {k} {len} {before} {g} {cells} ek h h' held =
      let e : k ≡ i = omega arith in
      ap (λ z. take z cells) e ∙ filled (omega (arith, length_is c d (take n before) g)) held.filling

  -- How many coefficients (x - c) × g has.
  pub length_raised : (c : ℕ) (g : List ℕ) → length (raised m c g) ≡ suc (length g)
  length_raised c g =
      Rows.length_plus laws (scale (ops m) ((ops m).neg (elem m c)) (elems m g)) (shift (ops m) (elems m g))
      ∙ omega (arith, length-map (elems m g) ((ops m).mul ((ops m).neg (elem m c))), length-map (elems m g) (ops m).twist, length-map g (elem m))

  -- Before the first coefficient of (x - c) × g.
  pub raise_starts : {cap c n : ℕ} {before : List ℕ} → length before ≡ cap → Raising cap m c n before 0 0 n before
  raise_starts h = record { filling = unfilled h; kept = refl; counts = Carrier.zero_counts l; is = Carrier.zero_is m }

  -- One coefficient more.
  pub raise_goes_on : {cap c d i n len p y below below' : ℕ} {before cells : List ℕ} → n ≤ cap → length before ≡ cap → d ≡ m.opposite (clip m c) → i < n → Raising cap m c n before i below len cells
      → p ≡ m.product (clip m d) (clip m (get_or cells i 0)) → y ≡ m.sum (clip m p) (clip m below)
      → below' ≡ m.twist (clip m (get_or cells i 0)) → Raising cap m c n before (i + 1) below' len (set cells i y)
  raise_goes_on {cap} {c} {d} {i} {n} {len} {p} {y} {below} {below'} {before} {cells} few size ed h r ep ey eb =
      let g = take n before in
      let x = get_or cells i 0 in
      let ex : x ≡ get_or g i 0 = r.filling.old i (omega arith) ∙ sym (get_or-take n before i 0 h) in
      let e0 = Carrier.negates m c ed in
      let e1 = Carrier.multiplies m d x ep in
      let e2 = Carrier.sums m p below ey in
      let e3 = Carrier.twists m x eb in
      let gx = Carrier.elem_at m g i in
      let k = coef_raised laws ((ops m).neg (elem m c)) (elems m g) i in
      let t = Coefficients.coef_twist laws (elems m g) i in
      let b = r.is in
      let e : elem m y ≡ coef (ops m) (raised m c g) i = cc in
      let s : elem m below' ≡ coef (ops m) (map (ops m).twist (elems m g)) i = cc in
      record {
        filling = fill (ops m).zero (omega (arith, length_raised c g, length-take n before)) (omega arith) r.filling (Carrier.answers _ (Carrier.sum_counts l p below ey) e);
        kept = r.kept;
        counts = Carrier.twist_counts l x eb;
        is = rw add-one s;
      }

  -- The last one is the twisted highest coefficient of g.
  pub raise_ends : {cap c i n len below : ℕ} {before cells out : List ℕ} → n ≤ cap → length before ≡ cap → n ≤ i → i ≤ n → Raising cap m c n before i below len cells
      → out ≡ take cap (take len cells ++ below ∷ []) → out ≡ take cap (codes (raised m c (take n before)))
  raise_ends {cap} {c} {i} {n} {len} {below} {before} {cells} {out} few size h h' r eo =
      let o = ops m in
      let g = take n before in
      let k = coef_raised laws (o.neg (elem m c)) (elems m g) i in
      let z : coef o (elems m g) i ≡ o.zero = get_or-eq_default (elems m g) o.zero (omega (arith, length-map g (elem m), length-take n before)) in
      let q = Basics.mul_zero laws (o.neg (elem m c)) in
      let w = Basics.zero_add laws (coef o (shift o (elems m g)) i) in
      let b = r.is in
      let e : elem m below ≡ coef o (raised m c g) i = cc in
      let j : len ≡ i = omega (arith, r.kept) in
      let size' = length-map (raised m c g) (λ (x : Elem m). x.code) in
      eo ∙ ap (λ v. take cap (take v cells ++ below ∷ [])) j ∙ ap (λ v. take cap (v ++ below ∷ [])) r.filling.new
      ∙ ap (take cap) (next_code o.zero (raised m c g) i (omega (arith, length_raised c g, length-take n before)) (Carrier.answers _ r.counts e)
      ∙ take_all (i + 1) (codes (raised m c g)) (omega (arith, length_raised c g, size', length-take n before)))
