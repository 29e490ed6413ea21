-- The loops that collect the places that are left once the column hints are taken away, as far as there is room for 24.
--
--   Leaving m a k marks us vs start p out      the places before place p of one block that are left are behind start
--   Gathering m ns bs k ps ys i at out         the places of the blocks before block i that are left are in out
use Rattle.std.proofs.Common.{◌≡◌, ℕ, suc, ◌+◌, ◌-◌, ◌<◌, ◌≤◌, Bool, true, false, List, [], ◌∷◌, ◌++◌, length, get_or, take, drop, sym, refl, ap, ◌∙◌, ap₂, arith}
use Rattle.std.proofs.lemmas.List.{drop_more, drop_all, drop-drop, take_all, get_or-take, length-drop, length-take-le}
use Rattle.fields.specs.Meaning.{Meaning}
use Rattle.fields.specs.Elements.{Elem, elem, elems, ops}
use Rattle.fields.proofs.Carrier
use Rattle.skew.specs.declared.points.Point.{Point}
use Rattle.skew.specs.declared.points.Site.{Site}
use Rattle.skew.specs.Values.{eval, eval_code}
use Rattle.skew.specs.Products.{coef}
use Rattle.skew.specs.Pairs.{Spot, spot, spots}
use Rattle.ranks.specs.Ranks.{total}
use Rattle.ranks.specs.Reduction.{marks_of}
use Rattle.ranks.specs.declared.rows.Form.{Form}
use Rattle.hints.specs.declared.block.BlockHints.{BlockHints}
use Rattle.hints.specs.Holdings.{no_block}
use Rattle.recovery.specs.Steps.{no_point, locators_of, parameter_of, left_spots, cleared_row, block_spots, all_spots}
use Rattle.recovery.proofs.Walking.{one_more, some_more, no_more, Forms, total_here}

-- To take the first n twice.
take_own : {A : Type 0} (n : ℕ) (xs : List A) → take n (take n xs) ≡ take n xs
take_own ℕ.zero xs = refl
take_own (suc n) [] = refl
take_own (suc n) (x ∷ xs) = ap (λ ys. x ∷ ys) (take_own n xs)

pub record Leaving (m : Meaning) (a : Elem m) (k : List (Elem m)) (marks : List Bool) (us vs : List (Elem m)) (start : List Site) (p : ℕ) (out : List Site) : Type 0 where
  pub is : take 24 (spots m out ++ left_spots m a k (drop p marks) (drop p us) (drop p vs)) ≡ take 24 (spots m start ++ left_spots m a k marks us vs)

-- What stands at a place.
spots_here : (m : Meaning) (a : Elem m) (k : List (Elem m)) (marks : List Bool) (us vs : List (Elem m)) {p : ℕ} → p < length marks → p < length us → p < length vs
    → left_spots m a k (drop p marks) (drop p us) (drop p vs)
    ≡ left_spots m a k (get_or marks p false ∷ drop (p + 1) marks) (coef (ops m) us p ∷ drop (p + 1) us) (coef (ops m) vs p ∷ drop (p + 1) vs)
spots_here m a k marks us vs {p} hm hu hv =
    ap (λ w. left_spots m a k w (drop p us) (drop p vs)) (drop_more marks p false hm)
    ∙ ap (λ w. left_spots m a k (get_or marks p false ∷ drop (p + 1) marks) w (drop p vs)) (drop_more us p (ops m).zero hu)
    ∙ ap (λ w. left_spots m a k (get_or marks p false ∷ drop (p + 1) marks) (coef (ops m) us p ∷ drop (p + 1) us) w) (drop_more vs p (ops m).zero hv)

module _ (m : Meaning) {a : Elem m} {k : List (Elem m)} {marks : List Bool} {us vs : List (Elem m)} {start : List Site} where
  module _ {p : ℕ} (hm : p < length marks) (hu : p < length us) (hv : p < length vs) where
    -- A pivot is passed over.
    pub leaving_skips : {out : List Site} → get_or marks p false ≡ true → Leaving m a k marks us vs start p out → Leaving m a k marks us vs start (p + 1) out
    leaving_skips {out} e s = record {
      is =
          ap (λ w. take 24 (spots m out ++ w))
          (sym (spots_here m a k marks us vs hm hu hv ∙ ap (λ b. left_spots m a k (b ∷ drop (p + 1) marks) (coef (ops m) us p ∷ drop (p + 1) us) (coef (ops m) vs p ∷ drop (p + 1) vs)) e))
          ∙ s.is;
    }

    -- Each other place is left.
    pub leaving_goes_on : {out out' : List Site} (x : Site) → get_or marks p false ≡ false → spot m x ≡ record { parameter = a; locator = coef (ops m) us p; second = eval (ops m) a k (coef (ops m) vs p) }
        → out' ≡ take 24 (out ++ x ∷ []) → Leaving m a k marks us vs start p out → Leaving m a k marks us vs start (p + 1) out'
    leaving_goes_on {out} {out'} x e ex eo s = record {
      is =
          let rest : List (Spot (Elem m)) = left_spots m a k (drop (p + 1) marks) (drop (p + 1) us) (drop (p + 1) vs) in
          one_more (spot m) out x rest eo ∙ ap (λ w. take 24 (spots m out ++ w ∷ rest)) ex
          ∙ ap (λ w. take 24 (spots m out ++ w))
          (sym (spots_here m a k marks us vs hm hu hv ∙ ap (λ b. left_spots m a k (b ∷ drop (p + 1) marks) (coef (ops m) us p ∷ drop (p + 1) us) (coef (ops m) vs p ∷ drop (p + 1) vs)) e))
          ∙ s.is;
    }

  -- All places.
  pub leaving_ends : {p : ℕ} {out : List Site} → length us ≤ p → length out ≤ 24 → Leaving m a k marks us vs start p out → spots m out ≡ take 24 (spots m start ++ left_spots m a k marks us vs)
  leaving_ends {p} {out} h few s =
      sym (no_more (spot m) out few) ∙ ap (λ w. take 24 (spots m out ++ left_spots m a k (drop p marks) w (drop p vs))) (sym (drop_all p us h)) ∙ s.is

-- The first point of some.
first_own : (m : Meaning) (n : ℕ) (qs : List Point) → 1 ≤ n → parameter_of m (take n qs) ≡ parameter_of m qs
first_own m ℕ.zero qs h = absurd (omega arith)
first_own m (suc n) [] h = refl
first_own m (suc n) (q ∷ qs) h = refl

-- A block's own points and symbols are all that count.
block_own : (m : Meaning) (k : List (Elem m)) (b : BlockHints) (n : ℕ) (qs : List Point) (zs : List ℕ) → 1 ≤ n → block_spots m b.columns n k (take n qs) (take n zs) ≡ block_spots m b.columns n k qs zs
block_own m k b n qs zs h =
    let row : List (Elem m) → List (Elem m) = λ v. take n (cleared_row m b.columns v) in
    let marks = (marks_of b.columns) in
    ap (λ w. left_spots m w k marks (row (elems m (locators_of (take n (take n qs))))) (row (elems m (take n (take n zs))))) (first_own m n qs h)
    ∙ ap (λ w. left_spots m (parameter_of m qs) k marks (row (elems m (locators_of w))) (row (elems m (take n (take n zs))))) (take_own n qs)
    ∙ ap (λ w. left_spots m (parameter_of m qs) k marks (row (elems m (locators_of (take n qs)))) (row (elems m w))) (take_own n zs)

-- A site of the program at a place of the block.
pub site_here : (m : Meaning) (ps : List Point) (k us vs : List ℕ) (n : ℕ) {p s : ℕ} → p < n → s ≡ eval_code m k (get_or ps 0 no_point).parameter (get_or vs p 0)
    → spot m (record { parameter = (get_or ps 0 no_point).parameter; locator = get_or us p 0; second = s })
    ≡ record { parameter = parameter_of m ps; locator = coef (ops m) (take n (elems m us)) p; second = eval (ops m) (parameter_of m ps) (elems m k) (coef (ops m) (take n (elems m vs)) p) }
site_here m ps k us vs n {p} {s} h e =
    let cell : (ws : List ℕ) → elem m (get_or ws p 0) ≡ coef (ops m) (take n (elems m ws)) p = λ ws. Carrier.elem_at m ws p ∙ sym (get_or-take n (elems m ws) p (ops m).zero h) in
    ap₂ (λ (u v : Elem m). record { parameter = parameter_of m ps; locator = u; second = v }) (cell us)
    (Carrier.named (eval (ops m) (parameter_of m ps) (elems m k) (elem m (get_or vs p 0))) e ∙ ap (eval (ops m) (parameter_of m ps) (elems m k)) (cell vs))

-- The places of one block, by the rows that were cleared.
pub block_spots_here : (m : Meaning) (f : Form) (k : List (Elem m)) (ps : List Point) (ys : List ℕ) (us vs : List (Elem m)) → length ys ≡ length ps
    → us ≡ cleared_row m f (elems m (locators_of ps)) → vs ≡ cleared_row m f (elems m ys)
    → left_spots m (parameter_of m ps) k (marks_of f) (take (length ps) us) (take (length ps) vs) ≡ block_spots m f (length ps) k ps ys
block_spots_here m f k ps ys us vs e eu ev =
    let n = length ps in
    ap (λ w. left_spots m (parameter_of m ps) k (marks_of f) (take n w) (take n vs)) (eu ∙ ap (λ w. cleared_row m f (elems m (locators_of w))) (sym (take_all n ps (omega arith))))
    ∙ ap (λ w. left_spots m (parameter_of m ps) k (marks_of f) (take n (cleared_row m f (elems m (locators_of (take n ps))))) (take n w)) (ev ∙ ap (λ w. cleared_row m f (elems m w)) (sym (take_all n ys (omega (arith, e)))))

-- The part of the points and of the word that a block has.
pub own_part : (m : Meaning) (b : BlockHints) (k : List (Elem m)) (at n : ℕ) {slice ps : List Point} (ys : List ℕ) (out out' : List Site) → slice ≡ ps → at + n ≤ length ps
    → spots m out' ≡ take 24 (spots m out ++ block_spots m b.columns (length (take (at + n - at) (drop at slice))) k (take (at + n - at) (drop at slice)) (take (at + n - at) (drop at ys)))
    → spots m out' ≡ take 24 (spots m out ++ block_spots m b.columns n k (take n (drop at ps)) (take n (drop at ys)))
own_part m b k at n {slice} {ps} ys out out' e within eo =
    let part : at + n - at ≡ n = omega arith in
    eo ∙ ap (λ q. take 24 (spots m out ++ block_spots m b.columns (length (take (at + n - at) (drop at q))) k (take (at + n - at) (drop at q)) (take (at + n - at) (drop at ys)))) e
    ∙ ap (λ j. take 24 (spots m out ++ block_spots m b.columns (length (take j (drop at ps))) k (take j (drop at ps)) (take j (drop at ys)))) part
    ∙ ap (λ j. take 24 (spots m out ++ block_spots m b.columns j k (take n (drop at ps)) (take n (drop at ys)))) (length-take-le n (drop at ps) (omega (arith, length-drop at ps)))

pub record Gathering (m : Meaning) (ns : List ℕ) (bs : List BlockHints) (k : List (Elem m)) (ps : List Point) (ys : List ℕ) (i at : ℕ) (out : List Site) : Type 0 where
  pub ends : at + total (drop i ns) ≡ total ns
  pub is : Forms m (λ b. b.columns) ns bs → take 24 (spots m out ++ all_spots m (drop i ns) (drop i bs) k (drop at ps) (drop at ys)) ≡ take 24 (all_spots m ns bs k ps ys)

module _ (m : Meaning) {ns : List ℕ} {bs : List BlockHints} {k : List (Elem m)} {ps : List Point} {ys : List ℕ} where
  -- No block yet.
  pub gathering_starts : {out : List Site} → out ≡ [] → Gathering m ns bs k ps ys 0 0 out
  gathering_starts e = record { ends = omega arith; is = λ _. ap (λ w. take 24 (spots m w ++ all_spots m ns bs k ps ys)) e }

  -- One block more.
  pub gathering_goes_on : {i at n : ℕ} {out out' : List Site} → i < length ns → i < length bs → n ≡ get_or ns i 0 → 1 ≤ n
      → (Forms m (λ b. b.columns) ns bs → spots m out' ≡ take 24 (spots m out ++ block_spots m (get_or bs i no_block).columns n k (take n (drop at ps)) (take n (drop at ys))))
      → Gathering m ns bs k ps ys i at out → Gathering m ns bs k ps ys (i + 1) (at + n) out'
  gathering_goes_on {i} {at} {n} {out} {out'} h hb en some eo s = record {
    ends = ap (λ j. at + j + total (drop (i + 1) ns)) en ∙ total_here ns i at h s.ends;
    is = λ f.
        let mine : List (Spot (Elem m)) = block_spots m (get_or bs i no_block).columns n k (drop at ps) (drop at ys) in
        let rest : List (Spot (Elem m)) = all_spots m (drop (i + 1) ns) (drop (i + 1) bs) k (drop (at + n) ps) (drop (at + n) ys) in
        some_more (spot m) out out' mine rest (eo f ∙ ap (λ w. take 24 (spots m out ++ w)) (block_own m k (get_or bs i no_block) n (drop at ps) (drop at ys) some))
        ∙ sym (ap (λ w. take 24 (spots m out ++ all_spots m w (drop i bs) k (drop at ps) (drop at ys))) (drop_more ns i 0 h)
        ∙ ap (λ w. take 24 (spots m out ++ all_spots m (get_or ns i 0 ∷ drop (i + 1) ns) w k (drop at ps) (drop at ys))) (drop_more bs i no_block hb)
        ∙ ap (λ j. take 24 (spots m out ++ (block_spots m (get_or bs i no_block).columns j k (drop at ps) (drop at ys) ++ all_spots m (drop (i + 1) ns) (drop (i + 1) bs) k (drop j (drop at ps)) (drop j (drop at ys))))) (sym en)
        ∙ ap (λ w. take 24 (spots m out ++ (mine ++ all_spots m (drop (i + 1) ns) (drop (i + 1) bs) k w (drop n (drop at ys))))) (drop-drop n at ps)
        ∙ ap (λ w. take 24 (spots m out ++ (mine ++ all_spots m (drop (i + 1) ns) (drop (i + 1) bs) k (drop (at + n) ps) w))) (drop-drop n at ys))
        ∙ s.is f;
  }

  -- All blocks.
  pub gathering_ends : {i at : ℕ} {out : List Site} → length ns ≤ i → length out ≤ 24 → Gathering m ns bs k ps ys i at out
      → Forms m (λ b. b.columns) ns bs → spots m out ≡ take 24 (all_spots m ns bs k ps ys)
  gathering_ends {i} {at} {out} h few s f =
      sym (no_more (spot m) out few) ∙ ap (λ w. take 24 (spots m out ++ all_spots m w (drop i bs) k (drop at ps) (drop at ys))) (sym (drop_all i ns h)) ∙ s.is f
