-- One step of the two pairs keeps what they promise, over any field with an automorphism.
--
--   carried_first, carried_second    pair A, or pair B, is the pivot: it is multiplied by x - c, and taken off the other
use Rattle.std.proofs.Common.{◌≡◌, ℕ, suc, ◌+◌ as ◌+ℕ◌, ◌-◌, ◌<◌, ◌≤◌, ◌≢◌, ◌⊎◌, List, [], ◌∷◌, ◌++◌, refl, inl, inr, arith, length-append}
use Rattle.fields.specs.Field.{Ops, Laws}
use Rattle.fields.specs.Inverses
use Rattle.skew.specs.Values.{step}
use Rattle.skew.specs.Products.{coef, Below}
use Rattle.skew.specs.Pairs.{Spot, Two, worth, Carried}
use Rattle.skew.proofs.PairDegrees
use Rattle.skew.proofs.PairValues
use Rattle.skew.proofs.PairDegrees.{cross, lift}

module _ {F : Type 0} {o : Ops F} (l : Laws o) where
  open o use {zero, one, mul as ◌*◌}

  infixl 70 ◌*◌
  module _ (k : ℕ) (ps : List (Spot F)) (p : Spot F) (A B : Two F) (a b : ℕ) (h : Carried o k ps A B a b) where
    -- Both vanish at the new spot already.
    pub carried_same : worth o A p ≡ zero → worth o B p ≡ zero → Carried o k (ps ++ p ∷ []) A B a b
    carried_same x y = record {
      a_vanishes = PairValues.onto l A ps p h.a_vanishes x;
      b_vanishes = PairValues.onto l B ps p h.b_vanishes y;
      A0 = h.A0;
      A1 = h.A1;
      B1 = h.B1;
      B0 = h.B0;
      few = omega (arith, h.few, length-append ps (p ∷ []));
    }

    -- Pair A is the pivot.
    pub carried_first : (c : F) → c * worth o A p ≡ step o p.parameter (worth o A p) → worth o A p ≢ zero → (worth o B p ≡ zero) ⊎ (a < b +ℕ k)
        → Carried o k (ps ++ p ∷ []) (lift o c A) (cross o (worth o A p) B (worth o B p) A) (suc a) b
    carried_first c e n side = record {
      a_vanishes = PairValues.onto l (lift o c A) ps p (PairValues.lifted_old l c A ps h.a_vanishes) (PairValues.lifted_new l c A p e);
      b_vanishes = PairValues.onto l (cross o (worth o A p) B (worth o B p) A) ps p (PairValues.crossed_old l (worth o A p) (worth o B p) B A ps h.b_vanishes h.a_vanishes) (PairValues.crossed_new l B A p);
      A0 = PairDegrees.top_lifted l c a A.q0 h.A0;
      A1 = λ i g. PairDegrees.below_lifted l c (suc a - k) (suc (suc a) - k) A.q1 (omega arith) (λ j f. h.A1 j (omega arith)) i (omega arith);
      B1 = PairDegrees.top_crossed l (worth o A p) (worth o B p) b B.q1 A.q1 n h.B1 (low side);
      B0 = λ i g. PairDegrees.null_crossed l (worth o A p) (worth o B p) B.q0 A.q0 i (h.B0 i g) (high i g side);
      few = omega (arith, h.few, length-append ps (p ∷ []));
    }
      where
        low : (worth o B p ≡ zero) ⊎ (a < b +ℕ k) → (worth o B p ≡ zero) ⊎ Below o b A.q1
        low (inl z) = inl z
        low (inr g) = inr (λ i f. h.A1 i (omega arith))

        high : (i : ℕ) → b +ℕ k ≤ i → (worth o B p ≡ zero) ⊎ (a < b +ℕ k) → (worth o B p ≡ zero) ⊎ (coef o A.q0 i ≡ zero)
        high i g (inl z) = inl z
        high i g (inr f) = inr (h.A0.1 i (omega arith))

    -- Pair B is the pivot.
    pub carried_second : (c : F) → c * worth o B p ≡ step o p.parameter (worth o B p) → worth o B p ≢ zero → (worth o A p ≡ zero) ⊎ (b +ℕ k ≤ a)
        → Carried o k (ps ++ p ∷ []) (cross o (worth o B p) A (worth o A p) B) (lift o c B) a (suc b)
    carried_second c e n side = record {
      a_vanishes = PairValues.onto l (cross o (worth o B p) A (worth o A p) B) ps p (PairValues.crossed_old l (worth o B p) (worth o A p) A B ps h.a_vanishes h.b_vanishes) (PairValues.crossed_new l A B p);
      b_vanishes = PairValues.onto l (lift o c B) ps p (PairValues.lifted_old l c B ps h.b_vanishes) (PairValues.lifted_new l c B p e);
      A0 = PairDegrees.top_crossed l (worth o B p) (worth o A p) a A.q0 B.q0 n h.A0 (low side);
      A1 = λ i g. PairDegrees.null_crossed l (worth o B p) (worth o A p) A.q1 B.q1 i (h.A1 i g) (high i g side);
      B1 = PairDegrees.top_lifted l c b B.q1 h.B1;
      B0 = λ i g. PairDegrees.below_lifted l c (b +ℕ k) (suc b +ℕ k) B.q0 (omega arith) h.B0 i g;
      few = omega (arith, h.few, length-append ps (p ∷ []));
    }
      where
        low : (worth o A p ≡ zero) ⊎ (b +ℕ k ≤ a) → (worth o A p ≡ zero) ⊎ Below o a B.q0
        low (inl z) = inl z
        low (inr g) = inr (λ i f. h.B0 i (omega arith))

        high : (i : ℕ) → a < i +ℕ k → (worth o A p ≡ zero) ⊎ (b +ℕ k ≤ a) → (worth o A p ≡ zero) ⊎ (coef o B.q1 i ≡ zero)
        high i g (inl z) = inl z
        high i g (inr f) = inr (h.B1.1 i (omega arith))

  -- The pairs (1, 0) and (0, 1).
  pub carried_start : (k : ℕ) → Carried o k [] (record { q0 = one ∷ []; q1 = [] }) (record { q0 = []; q1 = one ∷ [] }) 0 0
  carried_start k = record {
    a_vanishes = tt;
    b_vanishes = tt;
    A0 = (Inverses.one_zero l, single);
    A1 = λ i e. refl;
    B1 = (Inverses.one_zero l, single);
    B0 = λ i e. refl;
    few = omega arith;
  }
    where
      single : (i : ℕ) → suc 0 ≤ i → coef o (one ∷ []) i ≡ zero
      single ℕ.zero e = absurd (omega arith)
      single (suc i) e = refl
