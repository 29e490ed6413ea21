-- The loops that count ranks and test independence by digits.
--
--   Spanning m xs f          the rows of f span the same as the digits of xs
--   Counting m xs f n        so, and f has n rows
--   Free m xs f              so, and xs are independent
use Rattle.std.proofs.Common.{◌≡◌, ℕ, suc, ◌+◌ as ◌+ℕ◌, ◌<◌, ◌≤◌, Bool, true, false, List, [], ◌∷◌, ◌++◌, map, length, get_or, take, drop, sym, refl, ap, ◌∙◌, subst, arith, take-append-drop, drop-cons}
use Rattle.std.proofs.lemmas.List.{take_more, take_all, map-append, length_push}
use Rattle.std.specs.List.{AllByRecursion}
use Rattle.fields.specs.Field as field
use Rattle.fields.specs.Meaning.{Meaning, Laws, digit_row}
use Rattle.fields.specs.Elements.{Elem, elem, elems, ops}
use Rattle.fields.proofs.Carrier
use Rattle.skew.specs.Roots.{Independent}
use Rattle.skew.proofs.Everywhere.{all_append, all_left, all_right}
use Rattle.skew.proofs.Sums.{cons_path}
use Rattle.ranks.specs.Ranks.{Spanned, IsRank, Depends}
use Rattle.ranks.specs.Reduction.{Row, AmongRows, marks_of, rows_of, InForm, Inserted, eight}
use Rattle.ranks.specs.declared.rows.Form.{Form}
use Rattle.ranks.proofs.RowSpans
use Rattle.ranks.proofs.DigitSpans
use Rattle.ranks.proofs.Independence
use Rattle.ranks.proofs.PaddedDigits

module _ {m : Meaning} (l : Laws m) where
  -- The laws of the elements.
  abbrev laws : field.Laws (ops m)
  laws = Carrier.ops_laws l

  -- The digits of symbols.
  abbrev pub all_eight : List ℕ → List (List (Elem m))
  all_eight xs = map (eight m) (elems m xs)

  -- The rows of the form span what the digits of the symbols span.
  pub record Spanning (xs : List ℕ) (f : Form) : Type 0 where
    pub form : InForm m f
    pub gives : AllByRecursion (AmongRows (ops m) 8 (rows_of m f)) (all_eight xs)
    pub given : AllByRecursion (AmongRows (ops m) 8 (all_eight xs)) (rows_of m f)

  -- They are rows.
  rows_all : (xs : List ℕ) → AllByRecursion (Row (ops m) 8) (all_eight xs)
  rows_all [] = tt
  rows_all (x ∷ xs) = ((PaddedDigits.numerals l).fixed (elem m x), rows_all xs)

  -- The digits of one symbol more.
  all_eight_more : (xs : List ℕ) (a : ℕ) → all_eight (xs ++ a ∷ []) ≡ all_eight xs ++ eight m (elem m a) ∷ []
  all_eight_more [] a = refl
  all_eight_more (x ∷ xs) a = cons_path refl (all_eight_more xs a)

  module _ {xs : List ℕ} {f : Form} (a : ℕ) (s : Spanning xs f) where
    -- The digits with one symbol more.
    abbrev more : List (List (Elem m))
    more = all_eight xs ++ eight m (elem m a) ∷ []

    -- Each of them is among their sums.
    own : AllByRecursion (AmongRows (ops m) 8 more) more
    own = RowSpans.among_own laws 8 more (all_append (Row (ops m) 8) (all_eight xs) (eight m (elem m a) ∷ []) (rows_all xs) ((PaddedDigits.numerals l).fixed (elem m a), tt))

    -- So are those of the earlier symbols.
    olds : AllByRecursion (AmongRows (ops m) 8 more) (all_eight xs)
    olds = all_left (AmongRows (ops m) 8 more) (all_eight xs) (eight m (elem m a) ∷ []) own

    -- A symbol more, whatever the insertion answers.
    pub spanning_goes_on : (g : Form) (r : Bool) → Inserted m f (eight m (elem m a)) r g → Spanning (xs ++ a ∷ []) g
    spanning_goes_on g false i =
        let form : Form → Type 0 = λ h. Spanning (xs ++ a ∷ []) h in
        subst form (sym i.0) (record {
          form = s.form;
          gives = subst (AllByRecursion (AmongRows (ops m) 8 (rows_of m f))) (sym (all_eight_more xs a)) (all_append (AmongRows (ops m) 8 (rows_of m f)) (all_eight xs) (eight m (elem m a) ∷ []) s.gives (i.1, tt));
          given = subst (λ w. AllByRecursion (AmongRows (ops m) 8 w) (rows_of m f)) (sym (all_eight_more xs a)) (RowSpans.all_among_trans laws 8 more (all_eight xs) (rows_of m f) (rows_all xs) olds s.given);
        })
    spanning_goes_on g true i = record {
      form = i.form;
      gives = subst (AllByRecursion (AmongRows (ops m) 8 (rows_of m g))) (sym (all_eight_more xs a))
          (all_append (AmongRows (ops m) 8 (rows_of m g)) (all_eight xs) (eight m (elem m a) ∷ []) (RowSpans.all_among_trans laws 8 (rows_of m g) (rows_of m f) (all_eight xs) s.form.reduced.rows i.back.1 s.gives) (i.back.0, tt));
      given = subst (λ w. AllByRecursion (AmongRows (ops m) 8 w) (rows_of m g)) (sym (all_eight_more xs a))
          (RowSpans.all_among_trans laws 8 more (eight m (elem m a) ∷ rows_of m f) (rows_of m g) ((PaddedDigits.numerals l).fixed (elem m a), s.form.reduced.rows)
          ((all_right (AmongRows (ops m) 8 more) (all_eight xs) (eight m (elem m a) ∷ []) own).0, RowSpans.all_among_trans laws 8 more (all_eight xs) (rows_of m f) (rows_all xs) olds s.given) i.from);
    }

    -- A row that was spanned belongs to a symbol that was.
    spanned_then : AmongRows (ops m) 8 (rows_of m f) (eight m (elem m a)) → Spanned (ops m) (elems m xs) (elem m a)
    spanned_then k = DigitSpans.spans_down laws 8 (eight m) (PaddedDigits.numerals l) (elems m xs) (elem m a) (RowSpans.among_trans laws 8 (all_eight xs) (rows_of m f) (eight m (elem m a)) s.form.reduced.rows s.given k)

    -- And back.
    spanned_back : Spanned (ops m) (elems m xs) (elem m a) → AmongRows (ops m) 8 (rows_of m f) (eight m (elem m a))
    spanned_back k = RowSpans.among_trans laws 8 (rows_of m f) (all_eight xs) (eight m (elem m a)) (rows_all xs) s.gives (DigitSpans.spans_up laws 8 (eight m) (PaddedDigits.numerals l) (elems m xs) (elem m a) k)

  -- What is kept while ranks are counted.
  pub record Counting (xs : List ℕ) (f : Form) (n : ℕ) : Type 0 where
    pub spanning : Spanning xs f
    pub rows : n ≡ length (rows_of m f)
    pub few : n ≤ length xs

  -- What `insert` promises, told of the symbol.
  insert_says : {xs : List ℕ} {f : Form} (g : Form) (r : Bool) (ds : List ℕ) (a : ℕ) → Spanning xs f → ds ≡ digit_row m a
      → (InForm m f → Row (ops m) 8 (elems m ds) → Inserted m f (elems m ds) r g) → Inserted m f (eight m (elem m a)) r g
  insert_says {xs} {f} g r ds a s e i =
      let same = PaddedDigits.eight_answers l a e in
      subst (λ w. Inserted m f w r g) same (i s.form (subst (Row (ops m) 8) (sym same) ((PaddedDigits.numerals l).fixed (elem m a))))

  -- One symbol more.
  pub counting_more : (ys : List ℕ) {i n : ℕ} {f : Form} (g : Form) (r : Bool) (ds : List ℕ) → i < length ys → Counting (take i ys) f n → ds ≡ digit_row m (get_or ys i 0)
      → (InForm m f → Row (ops m) 8 (elems m ds) → Inserted m f (elems m ds) r g)
      → (r ≡ true → Counting (take (i +ℕ 1) ys) g (n +ℕ 1)) × (r ≡ false → Counting (take (i +ℕ 1) ys) g n)
  counting_more ys {i} {n} {f} g r ds lt k e ins = go r (insert_says g r ds (get_or ys i 0) k.spanning e ins)
    where
      next : {j : ℕ} → Counting (take i ys ++ get_or ys i 0 ∷ []) g j → Counting (take (i +ℕ 1) ys) g j
      next {j} = subst (λ w. Counting w g j) (sym (take_more ys i 0 lt))

      long : length (take i ys ++ get_or ys i 0 ∷ []) ≡ length (take i ys) +ℕ 1
      long = length_push (take i ys) (get_or ys i 0)

      never : {P : Type 0} → ◌≡◌ {A = Bool} true false → P
      never u = let z : ◌≡◌ {A = ℕ} 0 1 = cc in absurd (omega arith)

      go : (b : Bool) → Inserted m f (eight m (elem m (get_or ys i 0))) b g → (b ≡ true → Counting (take (i +ℕ 1) ys) g (n +ℕ 1)) × (b ≡ false → Counting (take (i +ℕ 1) ys) g n)
      go true v = (
        (λ _. next (record { spanning = spanning_goes_on (get_or ys i 0) k.spanning g true v; rows = omega (arith, k.rows, v.more); few = omega (arith, k.few, long) })),
        (λ u. never u),
      )
      go false v = (
        (λ u. never (sym u)),
        (λ _. next (record { spanning = spanning_goes_on (get_or ys i 0) k.spanning g false v; rows = k.rows ∙ ap (λ h. length (rows_of m h)) (sym v.0); few = omega (arith, k.few, long) })),
      )

  -- After the last symbol.
  pub counting_ends : (ys : List ℕ) {i n : ℕ} {f : Form} → length ys ≤ i → Counting (take i ys) f n → IsRank (ops m) (elems m ys) n
  counting_ends ys {i} {n} {f} le k =
      let c : Counting ys f n = subst (λ w. Counting w f n) (take_all i ys le) k in
      subst (IsRank (ops m) (elems m ys)) (sym c.rows)
      (DigitSpans.rank_as laws 8 (eight m) (PaddedDigits.numerals l) (elems m ys) (marks_of f) (rows_of m f) c.spanning.form.reduced c.spanning.gives c.spanning.given)

  -- What is kept while no locator depends on the earlier ones.
  pub record Free (xs : List ℕ) (f : Form) : Type 0 where
    pub spanning : Spanning xs f
    pub free : Independent (ops m) (elems m xs)

  -- A locator more that was put in.
  pub free_goes_on : (ys : List ℕ) {i : ℕ} {f : Form} (g : Form) (r : Bool) (ds : List ℕ) → i < length ys → Free (take i ys) f → ds ≡ digit_row m (get_or ys i 0)
      → (InForm m f → Row (ops m) 8 (elems m ds) → Inserted m f (elems m ds) r g) → r ≡ true → Free (take (i +ℕ 1) ys) g
  free_goes_on ys {i} {f} g r ds lt k e ins u =
      let v : Inserted m f (eight m (elem m (get_or ys i 0))) true g = subst (λ b. Inserted m f (eight m (elem m (get_or ys i 0))) b g) u (insert_says g r ds (get_or ys i 0) k.spanning e ins) in
      subst (λ w. Free w g) (sym (take_more ys i 0 lt)) (record {
        spanning = spanning_goes_on (get_or ys i 0) k.spanning g true v;
        free = subst (Independent (ops m)) (sym (map-append (elem m) (take i ys) (get_or ys i 0 ∷ [])))
            (Independence.ind_last laws (elems m (take i ys)) (elem m (get_or ys i 0)) k.free (λ s. v.new (spanned_back (get_or ys i 0) k.spanning s)));
      })

  -- A locator that was not.
  pub free_stops : (ys : List ℕ) {i : ℕ} {f : Form} (g : Form) (r : Bool) (ds : List ℕ) → i < length ys → Free (take i ys) f → ds ≡ digit_row m (get_or ys i 0)
      → (InForm m f → Row (ops m) 8 (elems m ds) → Inserted m f (elems m ds) r g) → r ≡ false → Depends m ys i
  free_stops ys {i} {f} g r ds lt k e ins u =
      let v : Inserted m f (eight m (elem m (get_or ys i 0))) false g = subst (λ b. Inserted m f (eight m (elem m (get_or ys i 0))) b g) u (insert_says g r ds (get_or ys i 0) k.spanning e ins) in
      let s = spanned_then (get_or ys i 0) k.spanning v.1 in
      record {
        within = lt;
        before = k.free;
        here = s;
        whole = subst (λ w. ¬ Independent (ops m) w) (sym parts) (Independence.not_free laws (elems m (take i ys)) (elem m (get_or ys i 0)) (elems m (drop (suc i) ys)) s);
      }
    where
      parts : elems m ys ≡ elems m (take i ys) ++ elem m (get_or ys i 0) ∷ elems m (drop (suc i) ys)
      parts =
          ap (elems m) (sym (take-append-drop i ys) ∙ ap (λ w. take i ys ++ w) (drop-cons ys i 0 lt)) ∙ map-append (elem m) (take i ys) (get_or ys i 0 ∷ drop (suc i) ys)
