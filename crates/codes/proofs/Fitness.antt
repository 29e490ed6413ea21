-- A sheet whose numbers, parameters and locators are judged makes a lawful code; each judgement that fails is its refusal.
use Rattle.std.proofs.Common.{◌≡◌, ℕ, suc, ◌+◌, ◌<◌, ◌≤◌, ◌≢◌, List, [], ◌∷◌, ◌++◌, map, length, get_or, take, drop, fold, sum, sym, refl, ap, ◌∙◌, subst, ap₂, inl, inr, arith, length-append}
use Rattle.std.proofs.lemmas.List.{length-map}
use Rattle.std.proofs.lemmas.Bool.{cases_lt}
use Rattle.std.specs.List.{AllByRecursion}
use Rattle.std.proofs.lemmas.List.{map-append, length-take, length-drop}
use Rattle.fields.specs.Meaning.{Meaning, Laws}
use Rattle.fields.specs.Elements.{Elem, elem, elems, ops}
use Rattle.fields.proofs.Carrier
use Rattle.skew.specs.Roots.{points, Independent, Conjugate, Apart, Lawful}
use Rattle.skew.specs.Annihilators.{place, places}
use Rattle.sheets.specs.declared.faults.Fault.{Fault}
use Rattle.sheets.specs.declared.faults.Reason.TheVariants.{NoCode}
use Rattle.sheets.specs.declared.faults.Reason.TheVariants as reason
use Rattle.sheets.specs.declared.sections.Section.{Section}
use Rattle.sheets.specs.declared.sections.Section.TheVariants.{Lengths, Parameters, Locators}
use Rattle.skew.specs.declared.few.Few.{Few}
use Rattle.skew.specs.declared.points.Point.{Point}
use Rattle.codes.specs.declared.shape.Code.{Code}
use Rattle.sheets.specs.declared.sheets.Sheet.{Sheet}
use Rattle.codes.specs.Holdings.{held, stops}
use Rattle.sheets.specs.Sections.{part_of, offset_of, Part, view, lengths, parameters, locators}
use Rattle.sheets.specs.Sheets.{Length, Whole}
use Rattle.sheets.specs.Readings.{text_of, Laid}
use Rattle.ranks.specs.Ranks.{total, cut}
use Rattle.codes.specs.Codes.{block_size}
use Rattle.codes.proofs.Rightness.{not_unfit}
use Rattle.codes.specs.Fitness.{at_code, Outside, First, AllNot, Related, ApartUntil, grouped, pointed, route, Gathered, Breaks, Unfit, no_parameter, no_locator, related, dependent, Made}

-- The sum of lengths, from either end.
folded_total : (z : ℕ) (ns : List ℕ) → fold (λ a x. a + x) z ns ≡ z + total ns
folded_total z [] = omega arith
folded_total z (n ∷ ns) = folded_total (z + n) ns ∙ omega arith

pub sum_total : (ns : List ℕ) → sum ns ≡ total ns
sum_total ns = folded_total 0 ns ∙ omega arith

-- Where a section stands.
part_offset : Part → ℕ
part_offset (lengths xs at) = at
part_offset (parameters xs at) = at
part_offset (locators xs at) = at

offset_view : (s : Section) → offset_of s ≡ part_offset (view s)
unfolding part_offset
offset_view (Lengths p at) = refl
offset_view (Parameters p at) = refl
offset_view (Locators p at) = refl

pub parameters_offset : (s : Sheet) → Laid s → offset_of s.parameters ≡ 4 + length (part_of s.lengths)
unfolding part_offset
parameters_offset s l = offset_view s.parameters ∙ ap part_offset l.parameters_at

pub locators_offset : (s : Sheet) → Laid s → offset_of s.locators ≡ 5 + length (part_of s.lengths) + length (part_of s.parameters)
unfolding part_offset
locators_offset s l = offset_view s.locators ∙ ap part_offset l.locators_at

module _ (m : Meaning) (s : Sheet) (laid : Laid s) where
  -- The refusals.
  pub unfit_parameter : {xs : List ℕ} {i o : ℕ} {e : Fault} → xs ≡ part_of s.parameters → First (Outside m 1) xs i → o ≡ offset_of s.parameters → e ≡ at_code NoCode (o + i) → Unfit m (text_of s) e
  unfit_parameter {xs} {i} {o} ex f eo ee =
      subst (Unfit m (text_of s)) (sym (ee ∙ ap (λ n. at_code NoCode (n + i)) (eo ∙ parameters_offset s laid))) (no_parameter i (subst (λ ys. First (Outside m 1) ys i) ex f))

  pub unfit_locator : {ps xs : List ℕ} {i o : ℕ} {e : Fault} → ps ≡ part_of s.parameters → AllNot (Outside m 1) ps → xs ≡ part_of s.locators → First (Outside m 0) xs i → o ≡ offset_of s.locators
      → e ≡ at_code NoCode (o + i) → Unfit m (text_of s) e
  unfit_locator {ps} {xs} {i} {o} ep a ex f eo ee =
      subst (Unfit m (text_of s)) (sym (ee ∙ ap (λ n. at_code NoCode (n + i)) (eo ∙ locators_offset s laid)))
      (no_locator i (subst (AllNot (Outside m 1)) ep a) (subst (λ ys. First (Outside m 0) ys i) ex f))

  pub unfit_related : {ps xs : List ℕ} {j o : ℕ} {e : Fault} → ps ≡ part_of s.parameters → AllNot (Outside m 1) ps → xs ≡ part_of s.locators → AllNot (Outside m 0) xs
      → (j < length ps) × ApartUntil m ps j × Related m ps j → o ≡ offset_of s.parameters → e ≡ at_code reason.Conjugate (o + j) → Unfit m (text_of s) e
  unfit_related {ps} {xs} {j} {o} ep a ex b r eo ee =
      let r' = subst (λ qs. (j < length qs) × ApartUntil m qs j × Related m qs j) ep r in
      subst (Unfit m (text_of s)) (sym (ee ∙ ap (λ n. at_code reason.Conjugate (n + j)) (eo ∙ parameters_offset s laid)))
      (related j (subst (AllNot (Outside m 1)) ep a) (subst (AllNot (Outside m 0)) ex b) r'.0 r'.1 r'.2)

  pub unfit_dependent : {ls ps xs : List ℕ} {o : ℕ} {e : Fault} → ls ≡ part_of s.lengths → ps ≡ part_of s.parameters → AllNot (Outside m 1) ps → xs ≡ part_of s.locators → AllNot (Outside m 0) xs
      → ApartUntil m ps (length ps) → Breaks m ls xs o e → o ≡ offset_of s.locators → Unfit m (text_of s) e
  unfit_dependent {ls} {ps} {xs} {o} {e} el ep a ex b ap' br eo =
      dependent
      (record { parameters = subst (AllNot (Outside m 1)) ep a; locators = subst (AllNot (Outside m 0)) ex b; apart = subst (λ qs. ApartUntil m qs (length qs)) ep ap' })
      (subst (λ n. Breaks m (part_of s.lengths) (part_of s.locators) n e) (eo ∙ locators_offset s laid) (subst (λ zs. Breaks m zs (part_of s.locators) o e) el (subst (λ ys. Breaks m ls ys o e) ex br)))

module _ {m : Meaning} (l : Laws m) where
  -- A parameter that is a code other than 0 is not zero.
  nonzero : (a : ℕ) → ¬ Outside m 1 a → elem m a ≢ (ops m).zero
  nonzero a n e =
      let k : a < m.size = elim (cases_lt a m.size) [ inl h ↦ h | inr h ↦ absurd (n (inr h)) ] in
      let z : a ≡ 0 = Carrier.same_elem l a 0 k (Carrier.zero_code l) (e ∙ sym (Carrier.zero_is m)) in
      n (inl (omega arith))

  -- Parameters that are apart from a.
  all_apart : (a : Elem m) (ps : List ℕ) (bs : List (List ℕ)) → ((j : ℕ) → j < length ps → ¬ Conjugate (ops m) a (elem m (get_or ps j 0))) → AllByRecursion (Apart (ops m) a) (grouped m ps bs)
  all_apart a [] bs h = tt
  all_apart a (p ∷ ps) [] h = tt
  all_apart a (p ∷ ps) (b ∷ bs) h = (h 0 (omega arith), all_apart a ps bs (λ j k. h (suc j) (omega arith)))

  -- Blocks of judged parameters and independent locators are lawful.
  lawful_grouped : (ps : List ℕ) (bs : List (List ℕ)) → AllNot (Outside m 1) ps
      → ((i j : ℕ) → i < j → j < length ps → ¬ Conjugate (ops m) (elem m (get_or ps i 0)) (elem m (get_or ps j 0)))
      → ((d : List ℕ) (i : ℕ) → i < length bs → Independent (ops m) (elems m (get_or bs i d))) → Lawful (ops m) (grouped m ps bs)
  lawful_grouped [] bs a h f = tt
  lawful_grouped (p ∷ ps) [] a h f = tt
  lawful_grouped (p ∷ ps) (b ∷ bs) a h f = (
    nonzero p (a 0 (omega arith)),
    f [] 0 (omega arith),
    all_apart (elem m p) ps bs (λ j k. h 0 (suc j) (omega arith) (omega arith)),
    lawful_grouped ps bs (λ j k. a (suc j) (omega arith)) (λ i j k k'. h (suc i) (suc j) (omega arith) (omega arith)) (λ d i k. f d (suc i) (omega arith)),
  )

-- The points of a route are those of its blocks.
places_one : (m : Meaning) (a : ℕ) (xs : List ℕ) → map (place m) (map (pointed a) xs) ≡ map (λ b. (elem m a, b)) (elems m xs)
places_one m a [] = refl
places_one m a (x ∷ xs) = ap (λ z. (elem m a, elem m x) ∷ z) (places_one m a xs)

places_route : (m : Meaning) (ls ps xs : List ℕ) → places m (route ls ps xs) ≡ points (grouped m ps (cut ls xs))
places_route m [] [] xs = refl
places_route m [] (a ∷ ps) xs = refl
places_route m (n ∷ ls) [] xs = refl
places_route m (n ∷ ls) (a ∷ ps) xs =
    map-append (place m) (map (pointed a) (take n xs)) (route ls ps (drop n xs)) ∙ ap₂ ◌++◌ (places_one m a (take n xs)) (places_route m ls ps (drop n xs))

-- Its blocks have the lengths that they should.
sizes_grouped : (m : Meaning) (ls ps xs : List ℕ) → length ps ≡ length ls → total ls ≤ length xs → map block_size (grouped m ps (cut ls xs)) ≡ ls
sizes_grouped m [] [] xs e h = refl
sizes_grouped m [] (a ∷ ps) xs e h = refl
sizes_grouped m (n ∷ ls) [] xs e h = absurd (omega arith)
sizes_grouped m (n ∷ ls) (a ∷ ps) xs e h =
    ap₂ (λ k ks. k ∷ ks) (length-map (take n xs) (elem m) ∙ length-take n xs ∙ omega arith) (sizes_grouped m ls ps (drop n xs) (omega arith) (omega (arith, length-drop n xs)))

cut_length : (ls xs : List ℕ) → length (cut ls xs) ≡ length ls
cut_length [] xs = refl
cut_length (n ∷ ls) xs = ap suc (cut_length ls (drop n xs))

pub route_size : (ls ps xs : List ℕ) → length ps ≡ length ls → total ls ≤ length xs → length (route ls ps xs) ≡ total ls
route_size [] ps xs e h = refl
route_size (n ∷ ls) [] xs e h = absurd (omega arith)
route_size (n ∷ ls) (a ∷ ps) xs e h =
    let r = route_size ls ps (drop n xs) (omega arith) (omega (arith, length-drop n xs)) in
    omega (arith, length-append (map (pointed a) (take n xs)) (route ls ps (drop n xs)), length-map (take n xs) (pointed a), length-take n xs)

-- A judged sheet makes a lawful code.
pub made : {m : Meaning} (l : Laws m) (s : Sheet) (c : Code) → Whole (text_of s).dimension (text_of s).blocks (text_of s).parameters (text_of s).locators
    → {ls ps xs : List ℕ} → ls ≡ part_of s.lengths → ps ≡ part_of s.parameters → xs ≡ part_of s.locators
    → AllNot (Outside m 1) ps → AllNot (Outside m 0) xs → ApartUntil m ps (length ps) → Gathered m ls ps xs (stops c.course) → held c.lengths ≡ ls → c.dimension ≡ s.dimension
    → Made m (text_of s) c
made {m} l s c w {ls} {ps} {xs} el ep ex a b apart g ei ed =
    let many : length ps ≡ length ls = ap length ep ∙ w.as_many_parameters ∙ sym (ap length el) in
    let size : length xs ≡ total ls = ap length ex ∙ w.as_many_locators ∙ sum_total (part_of s.lengths) ∙ sym (ap total el) in
    let most : s.dimension ≤ total ls = omega (arith, w.opens.most, sum_total (part_of s.lengths), ap total el) in
    record {
      dimension = ed;
      lengths = ei ∙ el;
      points = g.all ∙ ap₂ (λ u v. route u v xs) el ep ∙ ap (route (part_of s.lengths) (part_of s.parameters)) ex;
      lawful = record {
        blocks = grouped m ps (cut ls xs);
        grouped = sym (ap (places m) g.all ∙ places_route m ls ps xs);
        sizes = sizes_grouped m ls ps xs many (omega arith) ∙ sym ei;
        lawful = lawful_grouped l ps (cut ls xs) a (λ i j h k r. apart j k (i, h, r)) (λ d i h. g.free d i (omega (arith, cut_length ls xs)));
        some = omega (arith, ed, w.opens.least);
        most = omega (arith, ed, ap length g.all, route_size ls ps xs many (omega arith));
      };
      fit =
          not_unfit (text_of s) (subst (AllNot (Outside m 1)) ep a) (subst (AllNot (Outside m 0)) ex b) (subst (λ qs. ApartUntil m qs (length qs)) ep apart)
          (subst (λ ys. Gathered m (part_of s.lengths) (part_of s.parameters) ys (stops c.course)) ex
          (subst (λ qs. Gathered m (part_of s.lengths) qs xs (stops c.course)) ep (subst (λ ns. Gathered m ns ps xs (stops c.course)) el g)));
    }

-- Each length keeps its limits.
length_at : (ls : List ℕ) → AllByRecursion Length ls → (i : ℕ) → i < length ls → (1 ≤ get_or ls i 0) × (get_or ls i 0 ≤ 8)
length_at [] a i h = absurd (omega arith)
length_at (n ∷ ls) a ℕ.zero h = a.0
length_at (n ∷ ls) a (suc i) h = length_at ls a.1 i (omega arith)

-- The code of a sheet keeps the limits of a sheet.
pub within : {m : Meaning} (s : Sheet) (q : Few Point 24) (h : Few ℕ 24) → Whole (text_of s).dimension (text_of s).blocks (text_of s).parameters (text_of s).locators
    → {ls ps xs : List ℕ} → ls ≡ part_of s.lengths → ps ≡ part_of s.parameters → xs ≡ part_of s.locators → Gathered m ls ps xs (stops q) → held h ≡ ls
    → (1 ≤ s.dimension) × (s.dimension ≤ length (stops q)) × (length (held h) ≤ 12) × ((i : ℕ) → i < length (held h) → (1 ≤ get_or (held h) i 0) × (get_or (held h) i 0 ≤ 8)) × (total (held h) ≡ length (stops q))
within s q h w {ls} {ps} {xs} el ep ex g eh =
    let hl : held h ≡ part_of s.lengths = eh ∙ el in
    let many : length ps ≡ length ls = ap length ep ∙ w.as_many_parameters ∙ sym (ap length el) in
    let size : length xs ≡ total ls = ap length ex ∙ w.as_many_locators ∙ sum_total (part_of s.lengths) ∙ sym (ap total el) in
    let n : length (stops q) ≡ total ls = ap length g.all ∙ route_size ls ps xs many (omega arith) in (
      w.opens.least,
      omega (arith, w.opens.most, sum_total (part_of s.lengths), ap total el),
      omega (arith, ap length hl, w.opens.blocks.1),
      (λ i k. let r = length_at (part_of s.lengths) w.opens.lengths.each i (omega (arith, ap length hl)) in subst (λ zs. (1 ≤ get_or zs i 0) × (get_or zs i 0 ≤ 8)) (sym hl) r),
      ap total eh ∙ sym n,
    )
