-- The sheet of a code that was read from a sheet: its parameters and locators come back.
--
--   Listing c i at ps    for every sheet of which c is the code, ps are its first i parameters, and block i begins at point `at`
use Rattle.std.proofs.Common.{◌≡◌, ℕ, suc, ◌+◌, ◌<◌, ◌≤◌, min, List, [], ◌∷◌, ◌++◌, map, length, get_or, take, drop, sum, sym, refl, ap, ◌∙◌, ap₂, append_assoc, arith, length-append}
use Rattle.std.proofs.lemmas.List.{length-map}
use Rattle.std.specs.List.{AllByRecursion}
use Rattle.std.proofs.lemmas.List.{take_all, length-take, length-drop, get_or-map, get_or_append_left, get_or-append-add, map-append, take-append-drop}
use Rattle.skew.specs.declared.points.Point.{Point}
use Rattle.codes.specs.declared.shape.Code.{Code}
use Rattle.codes.specs.Holdings.{held, stops}
use Rattle.ranks.specs.Ranks.{total}
use Rattle.sheets.specs.Sheets.{Text, Length, spelled}
use Rattle.codes.specs.Fitness.{pointed, route}
use Rattle.codes.specs.Writing.{Described}
use Rattle.skew.proofs.Filling.{take_cut}
use Rattle.skew.proofs.Filling.{copied}
use Rattle.codes.proofs.Gathering.{total_split, total_more}
use Rattle.codes.proofs.Fitness.{sum_total, route_size}

-- Each length is 1 at least.
least : (ls : List ℕ) → AllByRecursion Length ls → (i : ℕ) → i < length ls → 1 ≤ get_or ls i 0
least [] a i h = absurd (omega arith)
least (n ∷ ls) a ℕ.zero h = a.0.0
least (n ∷ ls) a (suc i) h = least ls a.1 i (omega arith)

-- The first point of a block has the parameter of the block.
route_parameter : (ls ps xs : List ℕ) (d : Point) (i : ℕ) → length ps ≡ length ls → total ls ≤ length xs → AllByRecursion Length ls → i < length ls
    → (get_or (route ls ps xs) (total (take i ls)) d).parameter ≡ get_or ps i 0
route_parameter [] ps xs d i e s a h = absurd (omega arith)
route_parameter (n ∷ ls) [] xs d i e s a h = absurd (omega arith)
route_parameter (n ∷ ls) (p ∷ ps) xs d ℕ.zero e s a h =
    let l : length (take n xs) ≡ n = length-take n xs ∙ omega arith in
    ap (λ q. q.parameter) (get_or_append_left (map (pointed p) (take n xs)) (route ls ps (drop n xs)) d 0 (omega (arith, length-map (take n xs) (pointed p), a.0.0))
    ∙ get_or-map (pointed p) (take n xs) 0 0 d (omega (arith, a.0.0)))
route_parameter (n ∷ ls) (p ∷ ps) xs d (suc i) e s a h =
    let l : length (map (pointed p) (take n xs)) ≡ n = length-map (take n xs) (pointed p) ∙ length-take n xs ∙ omega arith in
    ap (λ q. q.parameter) (ap (λ k. get_or (map (pointed p) (take n xs) ++ route ls ps (drop n xs)) (k + total (take i ls)) d) (sym l)
    ∙ get_or-append-add (map (pointed p) (take n xs)) (route ls ps (drop n xs)) (total (take i ls)) d)
    ∙ route_parameter ls ps (drop n xs) d i (omega arith) (omega (arith, length-drop n xs)) a.1 (omega arith)

-- The locators of a route.
route_locators : (ls ps xs : List ℕ) → length ps ≡ length ls → total ls ≡ length xs → map (λ p. p.locator) (route ls ps xs) ≡ xs
route_locators [] ps [] e s = refl
route_locators [] ps (x ∷ xs) e s = absurd (omega arith)
route_locators (n ∷ ls) [] xs e s = absurd (omega arith)
route_locators (n ∷ ls) (p ∷ ps) xs e s =
    map-append (λ q. q.locator) (map (pointed p) (take n xs)) (route ls ps (drop n xs))
    ∙ ap₂ ◌++◌ (plain (take n xs)) (route_locators ls ps (drop n xs) (omega arith) (sym (length-drop n xs ∙ omega arith))) ∙ take-append-drop n xs
  where
    plain : (ys : List ℕ) → map (λ q. q.locator) (map (pointed p) ys) ≡ ys
    plain [] = refl
    plain (y ∷ ys) = ap (λ z. y ∷ z) (plain ys)

module _ (c : Code) (t : Text) (d : Described c t) where
  pub many : length t.parameters ≡ length t.blocks
  many = d.whole.as_many_parameters

  pub size : total t.blocks ≡ length t.locators
  size = sym (d.whole.as_many_locators ∙ sum_total t.blocks)

  few : total t.blocks ≤ 24
  few = omega (arith, sum_total t.blocks, d.whole.opens.lengths.total)

  -- There are as many points as the lengths say.
  pub count : length (stops c.course) ≡ total t.blocks
  count = ap length d.points ∙ route_size t.blocks t.parameters t.locators many (omega (arith, size))

  pub locators_back : take 24 (map (λ (p : Point). p.locator) (stops c.course)) ≡ t.locators
  locators_back =
      ap (λ ps. take 24 (map (λ (p : Point). p.locator) ps)) d.points ∙ ap (take 24) (route_locators t.blocks t.parameters t.locators many size)
      ∙ take_all 24 t.locators (omega (arith, size, few))

  -- Block i begins within the points, with its parameter.
  pub begins : (i : ℕ) → i < length t.blocks → total (take i t.blocks) < length (stops c.course)
  begins i h = omega (arith, count, total_split (suc i) t.blocks, total_next i h, least t.blocks d.whole.opens.lengths.each i h)
    where
      total_next : (i : ℕ) → i < length t.blocks → total (take i t.blocks) + get_or t.blocks i 0 ≡ total (take (suc i) t.blocks)
      total_next i h = total_more i t.blocks h ∙ ap (λ k. total (take k t.blocks)) (let k : i + 1 ≡ suc i = omega arith in k)

  pub parameter_there : (p : Point) (i : ℕ) → i < length t.blocks → (get_or (stops c.course) (total (take i t.blocks)) p).parameter ≡ get_or t.parameters i 0
  parameter_there p i h =
      ap (λ ps. (get_or ps (total (take i t.blocks)) p).parameter) d.points
      ∙ route_parameter t.blocks t.parameters t.locators p i many (omega (arith, size)) d.whole.opens.lengths.each h

pub record Listing (c : Code) (i at : ℕ) (ps : List ℕ) : Type 0 where
  pub first : (t : Text) → Described c t → ps ≡ take i t.parameters
  pub begin : (t : Text) → Described c t → at ≡ total (take i t.blocks)

module _ (c : Code) where
  -- Nothing yet.
  pub listing_none : {ps : List ℕ} → ps ≡ [] → Listing c 0 0 ps
  listing_none e = record { first = λ t d. e; begin = λ t d. refl }

  -- One block more.
  pub listing_more : {i at x at' : ℕ} {ps ps' : List ℕ} → i < length (held c.lengths) → Listing c i at ps
      → (at < length (stops c.course) → x ≡ (get_or (stops c.course) at (record { parameter = 0; locator = 0 })).parameter) → ps' ≡ take 24 (ps ++ x ∷ [])
      → at' ≡ min (at + get_or (held c.lengths) i 0) 18446744073709551615 → Listing c (i + 1) at' ps'
  listing_more {i} {at} {x} {at'} {ps} {ps'} h w ex eo ea = record {
    first = λ t d.
        let k : i < length t.blocks = omega (arith, ap length d.lengths) in
        copied 24 t.parameters 0 (omega (arith, many c t d, d.whole.opens.blocks.1)) (omega (arith, many c t d)) (w.first t d)
        (ex (omega (arith, w.begin t d, begins c t d i k)) ∙ ap (λ n. (get_or (stops c.course) n (record { parameter = 0; locator = 0 })).parameter) (w.begin t d)
        ∙ parameter_there c t d (record { parameter = 0; locator = 0 }) i k)
        eo;
    begin = λ t d.
        let k : i < length t.blocks = omega (arith, ap length d.lengths) in
        let n : get_or (held c.lengths) i 0 ≡ get_or t.blocks i 0 = ap (λ ls. get_or ls i 0) d.lengths in
        let m = total_more i t.blocks k in
        let s = total_split (i + 1) t.blocks in
        ea ∙ omega (arith, w.begin t d, few c t d);
  }

  -- All of them.
  pub listing_all : {i at : ℕ} {ps : List ℕ} → length (held c.lengths) ≤ i → Listing c i at ps → (t : Text) → Described c t → ps ≡ t.parameters
  listing_all {i} h w t d = w.first t d ∙ take_all i t.parameters (omega (arith, many c t d, ap length d.lengths))

-- Six parts, one behind the other, as far as they fit.
joined : {w0 w1 w2 w3 w4 w5 w6 : List ℕ} (x1 x2 x3 x4 x5 x6 : List ℕ) → w0 ≡ [] → w1 ≡ take 64 (w0 ++ x1) → w2 ≡ take 64 (w1 ++ x2) → w3 ≡ take 64 (w2 ++ x3)
    → w4 ≡ take 64 (w3 ++ x4) → w5 ≡ take 64 (w4 ++ x5) → w6 ≡ take 64 (w5 ++ x6) → w6 ≡ take 64 (((((x1 ++ x2) ++ x3) ++ x4) ++ x5) ++ x6)
joined x1 x2 x3 x4 x5 x6 e0 e1 e2 e3 e4 e5 e6 =
    let f1 = e1 ∙ ap (λ z. take 64 (z ++ x1)) e0 in
    let f2 = e2 ∙ ap (λ z. take 64 (z ++ x2)) f1 ∙ take_cut 64 x1 x2 in
    let f3 = e3 ∙ ap (λ z. take 64 (z ++ x3)) f2 ∙ take_cut 64 (x1 ++ x2) x3 in
    let f4 = e4 ∙ ap (λ z. take 64 (z ++ x4)) f3 ∙ take_cut 64 ((x1 ++ x2) ++ x3) x4 in
    let f5 = e5 ∙ ap (λ z. take 64 (z ++ x5)) f4 ∙ take_cut 64 (((x1 ++ x2) ++ x3) ++ x4) x5 in
    e6 ∙ ap (λ z. take 64 (z ++ x6)) f5 ∙ take_cut 64 ((((x1 ++ x2) ++ x3) ++ x4) ++ x5) x6

-- What is written is the sheet.
pub sheet_spelled : (c : Code) (number k l n : ℕ) {w0 w1 w2 w3 w4 w5 w6 : List ℕ} (ls ps xs : List ℕ) → w0 ≡ [] → w1 ≡ take 64 (w0 ++ number ∷ k ∷ l ∷ []) → w2 ≡ take 64 (w1 ++ ls)
    → w3 ≡ take 64 (w2 ++ l ∷ []) → w4 ≡ take 64 (w3 ++ ps) → w5 ≡ take 64 (w4 ++ n ∷ []) → w6 ≡ take 64 (w5 ++ xs)
    → ls ≡ held c.lengths → ((t : Text) → Described c t → ps ≡ t.parameters) → xs ≡ take 24 (map (λ (p : Point). p.locator) (stops c.course))
    → (c.dimension ≤ 255 → k ≡ c.dimension) → (length (held c.lengths) ≤ 255 → l ≡ length (held c.lengths)) → (length xs ≤ 255 → n ≡ length xs)
    → (t : Text) → Described c t → w6 ≡ spelled number t
sheet_spelled c number k l n ls ps xs e0 e1 e2 e3 e4 e5 e6 el ep ex ek eb en t d =
    let xl : xs ≡ t.locators = ex ∙ locators_back c t d in
    let ll : ls ≡ t.blocks = el ∙ d.lengths in
    let pl : ps ≡ t.parameters = ep t d in
    let kk : k ≡ t.dimension = ek (omega (arith, d.dimension, d.whole.opens.most, d.whole.opens.lengths.total)) ∙ d.dimension in
    let bb : l ≡ length t.blocks = eb (omega (arith, ap length d.lengths, d.whole.opens.blocks.1)) ∙ ap length d.lengths in
    let nn : n ≡ sum t.blocks = en (omega (arith, ap length xl, size c t d, few c t d)) ∙ ap length xl ∙ d.whole.as_many_locators in
    let short : length (spelled number t) ≤ 64 =
    omega (
      arith,
      length-append (number ∷ t.dimension ∷ length t.blocks ∷ t.blocks ++ length t.blocks ∷ t.parameters) (sum t.blocks ∷ t.locators),
      length-append t.blocks (length t.blocks ∷ t.parameters),
      many c t d,
      size c t d,
      few c t d,
      d.whole.opens.blocks.1,
    ) in
    joined (number ∷ k ∷ l ∷ []) ls (l ∷ []) ps (n ∷ []) xs e0 e1 e2 e3 e4 e5 e6
    ∙ ap (take 64) (append_assoc (((number ∷ k ∷ l ∷ ls) ++ l ∷ []) ++ ps) (n ∷ []) xs ∙ ap (λ z. z ++ n ∷ xs) (append_assoc (number ∷ k ∷ l ∷ ls) (l ∷ []) ps) ∙ parts kk bb ll pl nn xl)
    ∙ take_all 64 (spelled number t) short
  where
    parts : k ≡ t.dimension → l ≡ length t.blocks → ls ≡ t.blocks → ps ≡ t.parameters → n ≡ sum t.blocks → xs ≡ t.locators
        → ((number ∷ k ∷ l ∷ ls) ++ l ∷ ps) ++ n ∷ xs ≡ spelled number t
    parts p1 p2 p3 p4 p5 p6 = cc
