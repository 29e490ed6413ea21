-- Reading a message: a word is a codeword exactly where its interpolant has no coefficient from k on.
--
--   SearchTells f k r    the answer r of a search behind the first k numbers of f for one that is not 0
use Rattle.std.proofs.Common.{◌≡◌, ℕ, suc, ◌+◌, ◌<◌, ◌≤◌, ◌≢◌, ◌⊎◌, ◌-◌, Bool, true, false, List, [], ◌∷◌, length, get_or, drop, sym, refl, ap, ◌∙◌, subst, ap₂, inl, inr, arith}
use Rattle.std.proofs.lemmas.List.{length-map}
use Rattle.std.proofs.lemmas.List.{get_or_past, get_or-drop, length-drop}
use Rattle.std.specs.Bool.{MatchBool}
use Rattle.std.specs.List.{HoldsAt, AllWithin}
use Rattle.std.proofs.lemmas.Bool.{cases_lt}
use Rattle.fields.specs.Field.{Ops}
use Rattle.fields.specs.Field as field
use Rattle.fields.specs.Meaning.{Meaning, Laws, clip}
use Rattle.fields.specs.Elements.{Elem, elem, elems, codes, ops}
use Rattle.fields.proofs.Carrier
use Rattle.skew.specs.Products.{coef}
use Rattle.skew.specs.Polynomials.{Codes}
use Rattle.skew.specs.Few.{Resized}
use Rattle.skew.specs.Interpolation.{values, Stuck, Interpolated}
use Rattle.skew.proofs.Values.{eval_value}
use Rattle.skew.proofs.Evaluation
use Rattle.skew.proofs.Sums
use Rattle.codes.specs.declared.shape.Code.{Code}
use Rattle.codes.specs.Holdings.{stops}
use Rattle.codes.specs.Codes.{pts, LawfulCode, Message, Codeword, Read, Unread}

module _ {F : Type 0} {o : Ops F} (l : field.Laws o) where
  -- The values at points depend on coefficients alone.
  values_same : (f g : List F) → ((i : ℕ) → coef o f i ≡ coef o g i) → (ts : List (F × F)) → values o f ts ≡ values o g ts
  values_same f g h [] = refl
  values_same f g h (t ∷ ts) =
      ap₂ (λ x xs. x ∷ xs) (sym (eval_value l t.0 f t.1) ∙ Evaluation.eval_same l t.0 f g t.1 h ∙ eval_value l t.0 g t.1) (values_same f g h ts)

-- What such a search tells, by cases.
abbrev pub SearchTells : List ℕ → ℕ → Bool → Type 0
SearchTells f k r = MatchBool r ((i : ℕ) × (i < length (drop k f)) × HoldsAt (λ c. c ≢ 0) (drop k f) i) (AllWithin (λ c. c ≡ 0) (drop k f) 0 (length (drop k f)))

-- One that is found stands at place k or later.
pub found_behind : (f : List ℕ) (k : ℕ) {r : Bool} → r ≡ true → SearchTells f k r → (i : ℕ) × (k ≤ i) × (get_or f i 0 ≢ 0)
found_behind f k {r} e s =
    let h = subst (SearchTells f k) e s in
    (k + h.0, omega arith, subst (λ c. c ≢ 0) (get_or-drop k f h.0 0) (h.2 0))

-- Where none is found all are 0.
pub none_behind : (f : List ℕ) (k : ℕ) {r : Bool} → r ≡ false → SearchTells f k r → (j : ℕ) → k ≤ j → get_or f j 0 ≡ 0
none_behind f k {r} e s j h = elim (cases_lt j (length f)) [
  | inl b ↦ (let t = subst (SearchTells f k) e s in
      let i : k + (j - k) ≡ j = omega arith in
      ap (λ n. get_or f n 0) (sym i) ∙ sym (get_or-drop k f (j - k) 0) ∙ t (j - k) 0 (omega arith) (omega (arith, b, length-drop k f)))
  | inr b ↦ get_or_past f j 0 b
]

module _ {m : Meaning} (l : Laws m) where
  -- The coefficient of an element list is the element of the number there.
  coef_elem : (f : List ℕ) (i : ℕ) → coef (ops m) (elems m f) i ≡ elem m (get_or f i 0)
  coef_elem f i = sym (Carrier.elem_at m f i)

  -- Numbers that are codes, place by place, are codes.
  pub codes_by_place : (f : List ℕ) → ((i : ℕ) → i < length f → clip m (get_or f i 0) ≡ get_or f i 0) → Codes m f
  codes_by_place [] h = refl
  codes_by_place (x ∷ f) h = ap₂ (λ y ys. y ∷ ys) (sym (Carrier.code_elem m x (h 0 (omega arith)))) (codes_by_place f (λ i k. h (suc i) (omega arith)))

  place_code : (f : List ℕ) → Codes m f → (i : ℕ) → i < length f → clip m (get_or f i 0) ≡ get_or f i 0
  place_code [] e i h = absurd (omega arith)
  place_code (x ∷ f) e ℕ.zero h = let e0 : (elem m x).code ≡ x = cc in subst (λ y. clip m y ≡ y) e0 (elem m x).counts
  place_code (x ∷ f) e (suc i) h = let es : codes (elems m f) ≡ f = cc in place_code f es i (omega arith)

  -- An element that is zero has the code 0.
  zero_there : (f : List ℕ) → Codes m f → (i : ℕ) → elem m (get_or f i 0) ≡ (ops m).zero → get_or f i 0 ≡ 0
  zero_there f p i e =
      elim (cases_lt i (length f)) [
        | inl h ↦ Carrier.same_elem l (get_or f i 0) 0 (within i h) (Carrier.zero_code l) (e ∙ sym (Carrier.zero_is m))
        | inr h ↦ get_or_past f i 0 h
      ]
    where
      within : (i : ℕ) → i < length f → get_or f i 0 < m.size
      within i h = subst (λ n. n < m.size) (place_code f p i h) (Carrier.clip_code l (get_or f i 0))

  -- Where no polynomial goes through the points, the word is too long or short, or the points are not lawful.
  pub no_values : (c : Code) (w : List ℕ) → length (stops c.course) ≤ 24
      → (24 < length (stops c.course)) ⊎ ((length w ≢ length (stops c.course)) ⊎ Stuck m (stops c.course) w) → Unread m c w
  no_values c w few (inl h) = absurd (omega arith)
  no_values c w few (inr (inl n)) = inl n
  no_values c w few (inr (inr u)) = inr (λ law word. u.unlawful law.blocks law.grouped law.lawful)

  module _ (c : Code) (w f : List ℕ) (has : Interpolated m (stops c.course) w f) where
    -- Where a message of w exists its coefficients are those of the interpolant.
    only_coefs : LawfulCode m c → (g : List (Elem m)) → Message m c w g → (i : ℕ) → coef (ops m) g i ≡ elem m (get_or f i 0)
    only_coefs law g e i = has.only law.blocks law.grouped law.lawful g (omega (arith, e.0, law.most)) e.1 i ∙ coef_elem f i

    -- A coefficient from k on that is not 0 shows that there is none.
    pub no_message : {i x : ℕ} → c.dimension ≤ i → x ≡ get_or f i 0 → x ≢ 0 → LawfulCode m c → ¬ Codeword m c w
    no_message {i} h e n law word =
        n (e ∙ zero_there f has.proper i (sym (only_coefs law word.0 word.1 i) ∙ get_or_past word.0 i (ops m).zero (omega (arith, word.1.0))))

    -- Where all of them are 0, the first k coefficients are the message.
    module _ (r : List ℕ) (cut : Resized 48 f c.dimension r) (few : length (stops c.course) ≤ 24) (clear : (j : ℕ) → c.dimension ≤ j → j < length (stops c.course) → get_or f j 0 ≡ 0) where
      same_at : c.dimension ≤ length (stops c.course) → (i : ℕ) → get_or r i 0 ≡ get_or f i 0
      same_at most i =
          elim (cases_lt i (length r)) [
            | inl h ↦ cut.same i h
            | inr h ↦ get_or_past r i 0 h ∙ sym (past i (omega (arith, cut.size)))
          ]
        where
          past : (i : ℕ) → c.dimension ≤ i → get_or f i 0 ≡ 0
          past i h = elim (cases_lt i (length (stops c.course))) [ inl b ↦ clear i h b | inr b ↦ get_or_past f i 0 (omega (arith, has.size)) ]

      same_coefs : c.dimension ≤ length (stops c.course) → (i : ℕ) → coef (ops m) (elems m r) i ≡ coef (ops m) (elems m f) i
      same_coefs most i = coef_elem r i ∙ ap (elem m) (same_at most i) ∙ sym (coef_elem f i)

      sized : c.dimension ≤ length (stops c.course) → length (elems m r) ≡ c.dimension
      sized most = length-map r (elem m) ∙ omega (arith, cut.size)

      pub read : Read m c w r
      read = record {
        proper = codes_by_place r (λ i h. ap (clip m) (cut.same i h) ∙ there i ∙ sym (cut.same i h));
        given = (sized c.most, values_same (Carrier.ops_laws l) (elems m r) (elems m f) (same_coefs c.most) (pts m c) ∙ has.has);
        only = λ law g e. Sums.same_coefs (Carrier.ops_laws l) g (elems m r) (e.0 ∙ sym (sized law.most)) (λ i. only_coefs law g e i ∙ sym (coef_elem f i) ∙ sym (same_coefs law.most i));
      }
        where
          there : (i : ℕ) → clip m (get_or f i 0) ≡ get_or f i 0
          there i = elim (cases_lt i (length f)) [ inl h ↦ place_code f has.proper i h | inr h ↦ ap (clip m) (get_or_past f i 0 h) ∙ Carrier.zero_counts l ∙ sym (get_or_past f i 0 h) ]
