-- Lists of fixed capacity: what `push` and `put` do to the cells, lists that are filled from the front, and cells that are
-- filled anew from the first on.
--
--   Filling cap X before i cells    the first i cells have the first i codes of X, and the others are as before
use Rattle.std.proofs.Common.{◌≡◌, ℕ, suc, ◌+◌, ◌<◌, ◌≤◌, List, [], ◌∷◌, ◌++◌, length, get_or, take, set, sym, refl, ap, ◌∙◌, inl, inr, arith, length-set, get_or-set_other, append_assoc, append-nil}
use Rattle.std.proofs.lemmas.List.{length-map}
use Rattle.std.proofs.lemmas.List.{take_more, take_more_set, take_all, length-take, length-take-le, get_or-map, get_or-take, get_or_past}
use Rattle.std.proofs.lemmas.Bool.{cases_lt}
use Rattle.fields.specs.Elements.{Element, codes}
use Rattle.skew.specs.declared.few.Few.{Few}
use Rattle.skew.specs.Few.{held}

-- To cut twice is to cut once.
pub take_cut : {A : Type 0} (n : ℕ) (xs ys : List A) → take n (take n xs ++ ys) ≡ take n (xs ++ ys)
take_cut ℕ.zero xs ys = refl
take_cut (suc n) [] ys = refl
take_cut (suc n) (x ∷ xs) ys = ap (λ zs. x ∷ zs) (take_cut n xs ys)

module _ {A : Type 0} (cap : ℕ) where
  -- The first i of a list that fits, and one more.
  pub copied : (f : List A) (d : A) {out out' : List A} {i : ℕ} {x : A} → length f ≤ cap → i < length f → out ≡ take i f → x ≡ get_or f i d → out' ≡ take cap (out ++ x ∷ []) → out' ≡ take (i + 1) f
  copied f d {out} {out'} {i} {x} few h e ex eo =
      eo ∙ ap (λ z. take cap (z ++ x ∷ [])) e ∙ ap (λ y. take cap (take i f ++ y ∷ [])) ex ∙ ap (take cap) (sym (take_more f i d h))
      ∙ take_all cap (take (i + 1) f) (omega (arith, length-take (i + 1) f))

  -- Behind what stands there already: nothing yet, and one of the new ones more.
  pub appended_none : (before : List A) → length before ≤ cap → before ≡ take cap (before ++ [])
  appended_none before few = sym (ap (take cap) (append-nil before) ∙ take_all cap before few)

  pub appended_more : (before new : List A) (d : A) {out out' : List A} {i : ℕ} {x : A} → i < length new → out ≡ take cap (before ++ take i new) → x ≡ get_or new i d → out' ≡ take cap (out ++ x ∷ [])
      → out' ≡ take cap (before ++ take (i + 1) new)
  appended_more before new d {out} {out'} {i} {x} h e ex eo =
      eo ∙ ap (λ z. take cap (z ++ x ∷ [])) e ∙ take_cut cap (before ++ take i new) (x ∷ []) ∙ ap (take cap) (append_assoc before (take i new) (x ∷ []))
      ∙ ap (λ y. take cap (before ++ (take i new ++ y ∷ []))) ex ∙ ap (λ z. take cap (before ++ z)) (sym (take_more new i d h))

-- What `put` does to the cells, and past the end.
pub put_is : {A : Type 0} (n : ℕ) (cells : List A) (i : ℕ) (x : A) → i < n → take n (set cells i x) ≡ set (take n cells) i x
put_is ℕ.zero cells i x h = absurd (omega arith)
put_is (suc n) [] i x h = refl
put_is (suc n) (c ∷ cells) ℕ.zero x h = refl
put_is (suc n) (c ∷ cells) (suc i) x h = ap (λ zs. c ∷ zs) (put_is n cells i x (omega arith))

-- Past the end nothing is put.
pub put_past : {A : Type 0} (xs : List A) (i : ℕ) (x : A) → length xs ≤ i → xs ≡ set xs i x
put_past [] i x h = refl
put_past (c ∷ xs) ℕ.zero x h = absurd (omega arith)
put_past (c ∷ xs) (suc i) x h = ap (λ zs. c ∷ zs) (put_past xs i x (omega arith))

-- No list holds more than its capacity.
pub short : {A : Type 0} {N : ℕ} (p : Few A N) → length (held p) ≤ N
short p = omega (arith, length-take p.len p.cells, p.fits)

-- A list holds as many as it says.
pub long : {A : Type 0} {N : ℕ} (p : Few A N) → length (held p) ≡ p.len
long p = length-take-le p.len p.cells (omega (arith, p.fits, p.whole))

-- A coefficient is the same where its cell is.
pub same_cell : (n : ℕ) (before cells : List ℕ) (i : ℕ) → get_or cells i 0 ≡ get_or before i 0 → get_or (take n cells) i 0 ≡ get_or (take n before) i 0
same_cell n before cells i e = elim (cases_lt i n) [
  | inl h ↦ get_or-take n cells i 0 h ∙ e ∙ sym (get_or-take n before i 0 h)
  | inr h ↦ get_or_past (take n cells) i 0 (omega (arith, length-take n cells)) ∙ sym (get_or_past (take n before) i 0 (omega (arith, length-take n before)))
]

pub record Filling (cap : ℕ) {n : ℕ} (X : List (Element n)) (before : List ℕ) (i : ℕ) (cells : List ℕ) : Type 0 where
  pub size : length cells ≡ cap
  pub new : take i cells ≡ take i (codes X)
  pub old : (l : ℕ) → i ≤ l → get_or cells l 0 ≡ get_or before l 0

module _ {n : ℕ} where
  -- No cell yet.
  pub unfilled : {cap : ℕ} {X : List (Element n)} {before : List ℕ} → length before ≡ cap → Filling cap X before 0 before
  unfilled h = record { size = h; new = refl; old = λ l k. refl }

  -- The codes of X, and one more.
  pub next_code : (d : Element n) (X : List (Element n)) (i : ℕ) {y : ℕ} → i < length X → y ≡ (get_or X i d).code → take i (codes X) ++ y ∷ [] ≡ take (i + 1) (codes X)
  next_code d X i h e =
      let c : get_or (codes X) i 0 ≡ (get_or X i d).code = get_or-map (λ (x : Element n). x.code) X i d 0 h in
      ap (λ z. take i (codes X) ++ z ∷ []) (e ∙ sym c) ∙ sym (take_more (codes X) i 0 (omega (arith, length-map X (λ (x : Element n). x.code))))

  -- One cell more.
  pub fill : {cap : ℕ} (d : Element n) {X : List (Element n)} {before cells : List ℕ} {i y : ℕ} → i < length X → i < cap → Filling cap X before i cells → y ≡ (get_or X i d).code
      → Filling cap X before (i + 1) (set cells i y)
  fill {cap} d {X} {before} {cells} {i} {y} h k f e = record {
    size = length-set cells i y ∙ f.size;
    new = take_more_set cells i y (omega (arith, f.size)) ∙ ap (λ z. z ++ y ∷ []) f.new ∙ next_code d X i h e;
    old = λ l g. get_or-set_other cells i l y 0 (λ q. omega (arith, q)) ∙ f.old l (omega arith);
  }

  -- All of them.
  pub filled : {cap : ℕ} {X : List (Element n)} {before cells : List ℕ} {i : ℕ} → length X ≤ i → Filling cap X before i cells → take i cells ≡ codes X
  filled {cap} {X} {before} {cells} {i} h f = f.new ∙ take_all i (codes X) (omega (arith, length-map X (λ (x : Element n). x.code)))

  -- What fits is not cut.
  pub uncut : (cap : ℕ) (X : List (Element n)) → length X ≤ cap → take cap (codes X) ≡ codes X
  uncut cap X h = take_all cap (codes X) (omega (arith, length-map X (λ (x : Element n). x.code)))
