-- The points of the dual code, gathered one by one, and what the theorems on duals say of it.
use Rattle.std.proofs.Common.{◌≡◌, ℕ, suc, ◌+◌, ◌-◌, ◌<◌, ◌≤◌, ◌⊎◌, ◌↔◌, List, [], ◌∷◌, ◌++◌, map, length, get_or, take, drop, sym, refl, ap, ◌∙◌, subst, ap₂, inl, inr, arith, length-append}
use Rattle.std.proofs.lemmas.List.{length-map}
use Rattle.std.proofs.lemmas.List.{take_all, take_more, map-append, length-take, get_or-map, length-drop}
use Rattle.fields.specs.Field.{Ops, mirror, comb}
use Rattle.fields.specs.Meaning.{Meaning, Laws, clip}
use Rattle.fields.specs.Mirror.{across}
use Rattle.fields.specs.Elements.{Elem, elem, elems, ops}
use Rattle.fields.proofs.Carrier
use Rattle.skew.specs.declared.points.Point.{Point}
use Rattle.skew.specs.Roots.{Block, block, points, Lawful}
use Rattle.skew.specs.Roots as roots
use Rattle.skew.specs.Annihilators.{place, places}
use Rattle.skew.specs.Interpolation.{Unlawful}
use Rattle.codes.specs.declared.shape.Code.{Code}
use Rattle.codes.specs.Holdings.{held, stops}
use Rattle.codes.specs.Codes.{pts, block_size, LawfulCode}
use Rattle.codes.specs.Duals.{Codeword, dual_points, dual_blocks, DualLocators}
use Rattle.codes.specs.DualAnswers.{Located}
use Rattle.ranks.specs.Ranks.{total}
use Rattle.sheets.specs.Sheets.{Text, spelled}
use Rattle.codes.specs.Fitness.{pointed, route}
use Rattle.codes.specs.Writing.{Described}
use Rattle.codes.specs.Dualizing.{turned_points, dual_text, Dualized, DualSheet, Undual}
use Rattle.skew.proofs.Filling.{copied}
use Rattle.codes.proofs.SheetWriting.{many, size, count}

module _ {F : Type 0} (o : Ops F) where
  -- As many dual points as points, and what stands at each place.
  dual_length : (ts : List (F × F)) (al : List F) → length al ≡ length ts → length (dual_points o ts al) ≡ length ts
  dual_length [] al e = refl
  dual_length (t ∷ ts) [] e = absurd (omega arith)
  dual_length (t ∷ ts) (x ∷ al) e = ap suc (dual_length ts al (omega arith))

  dual_at : (ts : List (F × F)) (al : List F) (d : F × F) (z : F) (i : ℕ) → length al ≡ length ts → i < length ts → get_or (dual_points o ts al) i d ≡ (o.untwist (get_or ts i d).0, get_or al i z)
  dual_at [] al d z i e h = absurd (omega arith)
  dual_at (t ∷ ts) [] d z i e h = absurd (omega arith)
  dual_at (t ∷ ts) (x ∷ al) d z ℕ.zero e h = refl
  dual_at (t ∷ ts) (x ∷ al) d z (suc i) e h = dual_at ts al d z i (omega arith) (omega arith)

module _ (m : Meaning) (ps : List Point) (ds : List ℕ) (same : length ds ≡ length ps) where
  abbrev pub whole : List (Elem m × Elem m)
  whole = dual_points (ops m) (places m ps) (elems m ds)

  same_elems : length (elems m ds) ≡ length (places m ps)
  same_elems = length-map ds (elem m) ∙ same ∙ sym (length-map ps (place m))

  -- One point more.
  pub turned_more : (out out' : List Point) {i a b : ℕ} (d : Point) → length ps ≤ 24 → i < length ps → places m out ≡ take i whole
      → a ≡ m.untwist (clip m (get_or ps i d).parameter) → b ≡ get_or ds i 0 → out' ≡ take 24 (out ++ record { parameter = a; locator = b } ∷ []) → places m out' ≡ take (i + 1) whole
  turned_more out out' {i} {a} {b} d few h e ea eb eo =
      let n : length whole ≡ length ps = dual_length (ops m) (places m ps) (elems m ds) same_elems ∙ length-map ps (place m) in
      let o-length : length out ≡ i = sym (length-map out (place m)) ∙ ap length e ∙ length-take i whole ∙ omega arith in
      let new : place m (record { parameter = a; locator = b }) ≡ get_or whole i (place m d) =
      ap₂ (λ x y. (x, y)) (Carrier.untwists m (get_or ps i d).parameter ea ∙ ap (λ t. (ops m).untwist t.0) (sym (get_or-map (place m) ps i d (place m d) h)))
      (ap (elem m) eb ∙ Carrier.elem_at m ds i)
      ∙ sym (dual_at (ops m) (places m ps) (elems m ds) (place m d) (ops m).zero i same_elems (omega (arith, length-map ps (place m)))) in
      ap (places m) (eo ∙ take_all 24 (out ++ record { parameter = a; locator = b } ∷ []) (omega (arith, length_push' out a b)))
      ∙ map-append (place m) out (record { parameter = a; locator = b } ∷ []) ∙ ap₂ (λ u v. u ++ v ∷ []) e new ∙ sym (take_more whole i (place m d) (omega arith))
    where
      length_push' : (xs : List Point) (a b : ℕ) → length (xs ++ record { parameter = a; locator = b } ∷ []) ≡ length xs + 1
      length_push' xs a b = length-append xs (record { parameter = a; locator = b } ∷ [])

  pub turned_ends : (out : List Point) {i : ℕ} → length ps ≤ i → places m out ≡ take i whole → places m out ≡ whole
  turned_ends out {i} h e = e ∙ take_all i whole (omega (arith, dual_length (ops m) (places m ps) (elems m ds) same_elems, length-map ps (place m)))

pub turned_length : (m : Meaning) (ps : List Point) (ds : List ℕ) → length ds ≡ length ps → length (turned_points m ps ds) ≡ length ps
turned_length m [] ds e = refl
turned_length m (p ∷ ps) [] e = absurd (omega arith)
turned_length m (p ∷ ps) (d ∷ ds) e = ap suc (turned_length m ps ds (omega arith))

turned_at : (m : Meaning) (ps : List Point) (ds : List ℕ) (p : Point) (i : ℕ) → length ds ≡ length ps → i < length ps
    → get_or (turned_points m ps ds) i p ≡ record { parameter = m.untwist (clip m (get_or ps i p).parameter); locator = get_or ds i 0 }
turned_at m [] ds p i e h = absurd (omega arith)
turned_at m (q ∷ ps) [] p i e h = absurd (omega arith)
turned_at m (q ∷ ps) (d ∷ ds) p ℕ.zero e h = refl
turned_at m (q ∷ ps) (d ∷ ds) p (suc i) e h = turned_at m ps ds p i (omega arith) (omega arith)

-- One of them more, and all.
pub exact_more : (m : Meaning) (ps : List Point) (ds : List ℕ) {out out' : List Point} {i a b : ℕ} (p : Point) → length ds ≡ length ps → length ps ≤ 24 → i < length ps → out ≡ take i (turned_points m ps ds)
    → a ≡ m.untwist (clip m (get_or ps i p).parameter) → b ≡ get_or ds i 0 → out' ≡ take 24 (out ++ record { parameter = a; locator = b } ∷ []) → out' ≡ take (i + 1) (turned_points m ps ds)
exact_more m ps ds {i = i} p same few h e ea eb eo =
    copied 24 (turned_points m ps ds) p (omega (arith, turned_length m ps ds same)) (omega (arith, turned_length m ps ds same)) e
    (ap₂ (λ x y. record { parameter = x; locator = y }) ea eb ∙ sym (turned_at m ps ds p i same h)) eo

pub exact_all : (m : Meaning) (ps : List Point) (ds : List ℕ) {out : List Point} {i : ℕ} → length ds ≡ length ps → length ps ≤ i → out ≡ take i (turned_points m ps ds) → out ≡ turned_points m ps ds
exact_all m ps ds {i = i} same h e = e ∙ take_all i (turned_points m ps ds) (omega (arith, turned_length m ps ds same))

-- A route turned is the route of the untwisted parameters with the dual locators.
turned_some : (m : Meaning) (a : ℕ) (xs ds : List ℕ) → length ds ≡ length xs → turned_points m (map (pointed a) xs) ds ≡ map (pointed (m.untwist (clip m a))) ds
turned_some m a [] [] e = refl
turned_some m a [] (d ∷ ds) e = absurd (omega arith)
turned_some m a (x ∷ xs) [] e = absurd (omega arith)
turned_some m a (x ∷ xs) (d ∷ ds) e = ap (λ z. pointed (m.untwist (clip m a)) d ∷ z) (turned_some m a xs ds (omega arith))

turned_append : (m : Meaning) (ps qs : List Point) (ds : List ℕ) → length ps ≤ length ds
    → turned_points m (ps ++ qs) ds ≡ turned_points m ps (take (length ps) ds) ++ turned_points m qs (drop (length ps) ds)
turned_append m [] qs ds h = refl
turned_append m (p ∷ ps) qs [] h = absurd (omega arith)
turned_append m (p ∷ ps) qs (d ∷ ds) h = ap (λ z. record { parameter = m.untwist (clip m p.parameter); locator = d } ∷ z) (turned_append m ps qs ds (omega arith))

turned_route : (m : Meaning) (ls ps xs ds : List ℕ) → length ps ≡ length ls → total ls ≡ length xs → length ds ≡ length xs
    → turned_points m (route ls ps xs) ds ≡ route ls (map (λ a. m.untwist (clip m a)) ps) ds
turned_route m [] ps xs ds e s z = refl
turned_route m (n ∷ ls) [] xs ds e s z = refl
turned_route m (n ∷ ls) (a ∷ ps) xs ds e s z =
    let k : length (map (pointed a) (take n xs)) ≡ n = length-map (take n xs) (pointed a) ∙ length-take n xs ∙ omega arith in
    turned_append m (map (pointed a) (take n xs)) (route ls ps (drop n xs)) ds (omega arith)
    ∙ ap₂ ◌++◌ (ap (λ i. turned_points m (map (pointed a) (take n xs)) (take i ds)) k ∙ turned_some m a (take n xs) (take n ds) (length-take n ds ∙ sym (length-take n xs ∙ omega arith)))
    (ap (λ i. turned_points m (route ls ps (drop n xs)) (drop i ds)) k
    ∙ turned_route m ls ps (drop n xs) (drop n ds) (omega arith) (sym (length-drop n xs ∙ omega arith)) (length-drop n ds ∙ sym (length-drop n xs ∙ omega arith)))

-- The dual blocks have the lengths of the blocks.
dual_sizes : {F : Type 0} (o : Ops F) (blocks : List (Block F)) (al : List F) → length al ≡ roots.locator_count blocks → map block_size (dual_blocks o blocks al) ≡ map block_size blocks
dual_sizes o [] al e = refl
dual_sizes o (block a bs ∷ rest) al e =
    ap₂ (λ k ks. k ∷ ks) (length-take (length bs) al ∙ omega arith) (dual_sizes o rest (drop (length bs) al) (length-drop (length bs) al ∙ omega arith))

-- As many points as places.
points_length : {F : Type 0} (blocks : List (Block F)) → length (points blocks) ≡ roots.locator_count blocks
points_length [] = refl
points_length (block a bs ∷ rest) = length-append (map (λ b. (a, b)) bs) (points rest) ∙ ap₂ ◌+◌ (length-map bs (λ b. (a, b))) (points_length rest)

module _ {m : Meaning} (l : Laws m) (c d : Code) (ds : List ℕ) where
  -- The dual code, from its points.
  pub dualized : c.dimension < length (stops c.course) → d.dimension ≡ length (stops c.course) - c.dimension → held d.lengths ≡ held c.lengths
      → Located m (stops c.course) ds → places m (stops d.course) ≡ dual_points (ops m) (pts m c) (elems m ds) → stops d.course ≡ turned_points m (stops c.course) ds → Dualized m c d
  dualized small ed el loc ep ex = record {
    some = small;
    exact = (ds, loc.proper, loc.size, ex, right);
    dimension = omega arith;
    lengths = el;
    locators = λ law. (elems m ds, right law, ep);
    lawful = λ law.
        let L = loc.duality.lawful law.blocks (elems m ds) law.lawful (there law) in
        record {
          blocks = dual_blocks (ops m) law.blocks (elems m ds);
          grouped = L.0 ∙ ap (λ ts. dual_points (ops m) ts (elems m ds)) law.grouped ∙ sym ep;
          sizes = dual_sizes (ops m) law.blocks (elems m ds) (omega (arith, (right law).size, ap length law.grouped, points_length law.blocks)) ∙ law.sizes ∙ sym el;
          lawful = subst (λ o. Lawful o (dual_blocks (ops m) law.blocks (elems m ds))) (sym (Carrier.mirror_is m)) L.1;
          some = omega arith;
          most = omega (arith, law.some, sym (length-map (stops d.course) (place m)) ∙ ap length ep ∙ dual_length (ops m) (pts m c) (elems m ds) (right law).size, length-map (stops c.course) (place m));
        };
    orthogonal = λ law w n.
        let L = loc.duality.lawful law.blocks (elems m ds) law.lawful (there law) in
        let count : length (pts m c) ≡ length (stops c.course) = length-map (stops c.course) (place m) in
        let all : roots.locator_count law.blocks ≡ length (stops c.course) = sym (points_length law.blocks) ∙ ap length law.grouped ∙ count in
        subst (λ ts. Codeword (mirror (ops m)) ts d.dimension w ↔ ((v : List (Elem m)) → Codeword (ops m) (pts m c) c.dimension v → comb (ops m) v w ≡ (ops m).zero))
        (L.0 ∙ ap (λ ts. dual_points (ops m) ts (elems m ds)) law.grouped ∙ sym ep)
        (subst (λ ts. Codeword (mirror (ops m)) (points (dual_blocks (ops m) law.blocks (elems m ds))) d.dimension w ↔ ((v : List (Elem m)) → Codeword (ops m) ts c.dimension v → comb (ops m) v w ≡ (ops m).zero))
        law.grouped (loc.duality.orthogonal law.blocks (elems m ds) c.dimension d.dimension w law.lawful (there law) (omega arith) (n ∙ sym all)));
  }
    where
      right : (law : LawfulCode m c) → DualLocators (ops m) (pts m c) (elems m ds)
      right law = loc.dual law.blocks law.grouped law.lawful

      there : (law : LawfulCode m c) → DualLocators (ops m) (points law.blocks) (elems m ds)
      there law = subst (λ ts. DualLocators (ops m) ts (elems m ds)) (sym law.grouped) (loc.dual law.blocks law.grouped law.lawful)

-- The sheet of the dual code.
pub dual_sheet : (m : Meaning) (c d : Code) {number : ℕ} {bs : List ℕ} → Dualized m c d → number ≡ across m.number → ((t : Text) → Described d t → bs ≡ spelled number t) → c.dimension < length (stops c.course)
    → DualSheet m c bs
dual_sheet m c d {number} {bs} z en w small = record {
  duals = z.exact.0;
  locators = z.exact.4;
  proper = z.exact.1;
  sheet = λ t q.
      let ds = z.exact.0 in
      let n : length (stops c.course) ≡ length t.locators = count c t q ∙ size c t q in
      let k : d.dimension ≡ length t.locators - t.dimension = omega (arith, z.dimension, q.dimension) in
      w (dual_text m t (length t.locators - t.dimension) ds) (record {
        whole = record {
          opens = record {
            blocks = q.whole.opens.blocks;
            lengths = q.whole.opens.lengths;
            least = omega (arith, q.dimension);
            most = omega (arith, q.whole.as_many_locators);
          };
          as_many_parameters = length-map t.parameters (λ a. m.untwist (clip m a)) ∙ q.whole.as_many_parameters;
          as_many_locators = z.exact.2 ∙ n ∙ q.whole.as_many_locators;
        };
        dimension = k;
        lengths = z.lengths ∙ q.lengths;
        points = z.exact.3 ∙ ap (λ ps. turned_points m ps ds) q.points ∙ turned_route m t.blocks t.parameters t.locators ds (many c t q) (size c t q) (z.exact.2 ∙ n);
      })
      ∙ ap (λ i. spelled i (dual_text m t (length t.locators - t.dimension) ds)) en;
}

-- Where there are no dual locators the code is not lawful.
pub undual : (m : Meaning) (c : Code) → length (stops c.course) ≤ 24 → (length (stops c.course) ≡ 0) ⊎ ((24 < length (stops c.course)) ⊎ Unlawful m (stops c.course)) → Undual m c
undual m c few (inl e) = inr (λ law. omega (arith, law.some, law.most))
undual m c few (inr (inl h)) = absurd (omega arith)
undual m c few (inr (inr u)) = inr (λ law. u law.blocks law.grouped law.lawful)
