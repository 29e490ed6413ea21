-- What the coefficients of a polynomial meet at a point, made once for each point of a code.
--
--   Stepping m a b i x out    out holds the first i of them, and x comes next
use Rattle.std.proofs.Common.{◌≡◌, ℕ, suc, ◌+◌, ◌-◌, ◌<◌, ◌≤◌, List, [], ◌∷◌, ◌++◌, length, take, sym, refl, ap, ◌∙◌, subst, append_assoc, append-nil, arith}
use Rattle.std.proofs.lemmas.List.{length-map, take_all, length_push, map_push}
use Rattle.fields.specs.Field.{Ops, comb}
use Rattle.fields.specs.Meaning.{Meaning, Laws, clip}
use Rattle.fields.specs.Elements.{Elem, elem, elems, ops}
use Rattle.fields.proofs.Carrier
use Rattle.skew.specs.declared.points.Point.{Point}
use Rattle.skew.specs.Values.{value_code, eval, step}
use Rattle.skew.proofs.Evaluation
use Rattle.recovery.specs.Preparation.{stepped}

-- The value of a polynomial with no more coefficients than were made is the sum of their products.
pub comb_stepped : {F : Type 0} (o : Ops F) (a : F) (f : List F) (b : F) (n : ℕ) → length f ≤ n → comb o f (stepped o a b n) ≡ eval o a f b
comb_stepped o a [] b n h = refl
comb_stepped o a (c ∷ f) b ℕ.zero h = absurd (omega arith)
comb_stepped o a (c ∷ f) b (suc n) h = ap (o.add (o.mul c b)) (comb_stepped o a f (step o a b) n (omega arith))

-- So it is of codes.
pub sum_by_powers : {m : Meaning} (l : Laws m) (f s : List ℕ) (p : Point) {x : ℕ} → length f ≤ 24 → elems m s ≡ stepped (ops m) (elem m p.parameter) (elem m p.locator) 24
    → x ≡ (comb (ops m) (elems m f) (elems m s)).code → x ≡ value_code m f p.parameter p.locator
sum_by_powers {m} l f s p few es ex =
    ex ∙ ap (λ t. (comb (ops m) (elems m f) t).code) es
    ∙ ap (λ (t : Elem m). t.code)
    (subst (λ v. comb (ops m) (elems m f) (stepped (ops m) (elem m p.parameter) (elem m p.locator) 24) ≡ v (elem m p.parameter) (elems m f) (elem m p.locator)) (Evaluation.both_values (Carrier.ops_laws l))
    (comb_stepped (ops m) (elem m p.parameter) (elems m f) (elem m p.locator) 24 (omega (arith, few, length-map f (elem m)))))

pub record Stepping (m : Meaning) (a b i x : ℕ) (out : List ℕ) : Type 0 where
  pub size : length out ≡ i
  pub is : elems m out ++ stepped (ops m) (elem m a) (elem m x) (24 - i) ≡ stepped (ops m) (elem m a) (elem m b) 24

module _ (m : Meaning) where
  -- Nothing is made yet.
  pub stepping_starts : (a b : ℕ) {out : List ℕ} → out ≡ [] → Stepping m a b 0 b out
  stepping_starts a b e = record { size = ap length e; is = ap (λ o. elems m o ++ stepped (ops m) (elem m a) (elem m b) 24) e }

  -- One more.
  pub stepping_goes_on : (a b : ℕ) {i x y x' : ℕ} {out out' : List ℕ} → i < 24 → out' ≡ take 24 (out ++ x ∷ []) → y ≡ m.twist (clip m x) → x' ≡ m.product (clip m y) (clip m a)
      → Stepping m a b i x out → Stepping m a b (i + 1) x' out'
  stepping_goes_on a b {i} {x} {y} {x'} {out} {out'} h eo ey ex s = record {
    size = ap length pushed ∙ length_push out x ∙ ap (λ n. n + 1) s.size;
    is =
        ap (λ o. elems m o ++ stepped (ops m) (elem m a) (elem m x') (24 - (i + 1))) pushed
        ∙ ap (λ o. o ++ stepped (ops m) (elem m a) (elem m x') (24 - (i + 1))) (map_push (elem m) out x)
        ∙ append_assoc (elems m out) (elem m x ∷ []) (stepped (ops m) (elem m a) (elem m x') (24 - (i + 1)))
        ∙ ap (λ t. elems m out ++ elem m x ∷ stepped (ops m) (elem m a) t (24 - (i + 1))) next
        ∙ ap (λ n. elems m out ++ stepped (ops m) (elem m a) (elem m x) n) one_less
        ∙ s.is;
  }
    where
      pushed : out' ≡ out ++ x ∷ []
      pushed = eo ∙ take_all 24 (out ++ x ∷ []) (omega (arith, length_push out x, s.size, h))

      next : elem m x' ≡ step (ops m) (elem m a) (elem m x)
      next = Carrier.multiplies m y a ex ∙ ap (λ t. (ops m).mul t (elem m a)) (Carrier.twists m x ey)

      one_less : suc (24 - (i + 1)) ≡ 24 - i
      one_less = omega (arith, h)

  -- All.
  pub stepping_ends : (a b : ℕ) {i x : ℕ} {out : List ℕ} → 24 ≤ i → Stepping m a b i x out → elems m out ≡ stepped (ops m) (elem m a) (elem m b) 24
  stepping_ends a b {i} {x} {out} h s =
      sym (append-nil (elems m out)) ∙ ap (λ n. elems m out ++ stepped (ops m) (elem m a) (elem m x) n) none ∙ s.is
    where
      none : 0 ≡ 24 - i
      none = omega (arith, h)
