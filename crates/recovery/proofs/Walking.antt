-- The loops that collect the row hints as points and the places that are left as sites, as far as there is room for 24.
--
--   Pointing m f a start p out         the hints before place p of one block are behind start
--   Collecting m ns bs ps i at out     the hints of the blocks before block i are in out
--   Leaving m f a k us vs start p out  the places before place p of one block that are left are behind start
--   Gathering m ns bs k ps ys i at out the places of the blocks before block i that are left are in out
use Rattle.std.proofs.Common.{◌≡◌, ℕ, ◌+◌, ◌<◌, ◌≤◌, List, [], ◌∷◌, ◌++◌, map, length, get_or, take, drop, Some, None, sym, ap, ◌∙◌, append_assoc, append-nil, arith}
use Rattle.std.proofs.lemmas.List.{length-map}
use Rattle.std.proofs.lemmas.List.{drop_more, drop_all, drop-drop, take_all, take-map, map-append}
use Rattle.fields.specs.Meaning.{Meaning}
use Rattle.fields.specs.Elements.{Elem, elem}
use Rattle.skew.specs.declared.points.Point.{Point}
use Rattle.skew.specs.Annihilators.{place, places}
use Rattle.skew.proofs.Filling.{take_cut}
use Rattle.ranks.specs.Ranks.{total}
use Rattle.ranks.specs.Reduction.{row, in_use, rows_of, InForm}
use Rattle.ranks.specs.declared.rows.Form.{Form}
use Rattle.ranks.specs.declared.rows.Row.{Row}
use Rattle.codes.specs.declared.shape.Code.{Code}
use Rattle.codes.specs.Holdings.{held, stops}
use Rattle.hints.specs.declared.block.BlockHints.{BlockHints}
use Rattle.hints.specs.Holdings.{no_block}
use Rattle.hints.specs.Shown.{from_digits}
use Rattle.hints.proofs.CodePlaces.{places_in}
use Rattle.recovery.specs.Steps.{no_point, hint_points, all_hint_points}

module _ {A B : Type 0} (g : A → B) where
  -- One more in front of what follows.
  pub one_more : (xs : List A) {xs' : List A} (x : A) (ys : List B) → xs' ≡ take 24 (xs ++ x ∷ []) → take 24 (map g xs' ++ ys) ≡ take 24 (map g xs ++ g x ∷ ys)
  one_more xs x ys e =
      ap (λ zs. take 24 (map g zs ++ ys)) e ∙ ap (λ zs. take 24 (zs ++ ys)) (sym (take-map g 24 (xs ++ x ∷ []))) ∙ take_cut 24 (map g (xs ++ x ∷ [])) ys
      ∙ ap (λ zs. take 24 (zs ++ ys)) (map-append g xs (x ∷ [])) ∙ ap (take 24) (append_assoc (map g xs) (g x ∷ []) ys)

  -- Some more.
  pub some_more : (xs xs' : List A) (zs ys : List B) → map g xs' ≡ take 24 (map g xs ++ zs) → take 24 (map g xs' ++ ys) ≡ take 24 (map g xs ++ (zs ++ ys))
  some_more xs xs' zs ys e = ap (λ ws. take 24 (ws ++ ys)) e ∙ take_cut 24 (map g xs ++ zs) ys ∙ ap (take 24) (append_assoc (map g xs) zs ys)

  -- No more.
  pub no_more : (xs : List A) → length xs ≤ 24 → take 24 (map g xs ++ []) ≡ map g xs
  no_more xs h = ap (take 24) (append-nil (map g xs)) ∙ take_all 24 (map g xs) (omega (arith, length-map xs g))

pub record Pointing (m : Meaning) (f : Form) (a : ℕ) (start : List Point) (p : ℕ) (out : List Point) : Type 0 where
  pub is : InForm m f → take 24 (places m out ++ hint_points m (elem m a) (map (row m) (in_use (drop p f.rows)))) ≡ take 24 (places m start ++ hint_points m (elem m a) (rows_of m f))

module _ (m : Meaning) {f : Form} {a : ℕ} {start : List Point} where
  -- A place without a row.
  pub pointing_skips : {p : ℕ} {out : List Point} → p < 8 → get_or f.rows p None ≡ None → Pointing m f a start p out → Pointing m f a start (p + 1) out
  pointing_skips {p} {out} h e s = record {
    is = λ k.
        ap (λ w. take 24 (places m out ++ hint_points m (elem m a) (map (row m) (in_use w)))) (sym (drop_more f.rows p None (omega (arith, k.room)) ∙ ap (λ x. x ∷ drop (p + 1) f.rows) e))
        ∙ s.is k;
  }

  -- A place with a row.
  pub pointing_goes_on : {p : ℕ} (u : ℕ) {out out' : List Point} (r : Row) → p < 8 → get_or f.rows p None ≡ Some r → elem m u ≡ from_digits m (row m r)
      → out' ≡ take 24 (out ++ record { parameter = a; locator = u } ∷ []) → Pointing m f a start p out → Pointing m f a start (p + 1) out'
  pointing_goes_on {p} u {out} {out'} r h e eu eo s = record {
    is = λ k.
        let rest : List (List (Elem m)) = map (row m) (in_use (drop (p + 1) f.rows)) in
        one_more (place m) out (record { parameter = a; locator = u }) (hint_points m (elem m a) rest) eo
        ∙ ap (λ w. take 24 (places m out ++ (elem m a, w) ∷ hint_points m (elem m a) rest)) eu
        ∙ ap (λ w. take 24 (places m out ++ hint_points m (elem m a) (map (row m) (in_use w)))) (sym (drop_more f.rows p None (omega (arith, k.room)) ∙ ap (λ x. x ∷ drop (p + 1) f.rows) e))
        ∙ s.is k;
  }

  -- All places.
  pub pointing_ends : {p : ℕ} {out : List Point} → 8 ≤ p → length out ≤ 24 → Pointing m f a start p out
      → InForm m f → places m out ≡ take 24 (places m start ++ hint_points m (elem m a) (rows_of m f))
  pointing_ends {p} {out} h few s k =
      sym (no_more (place m) out few) ∙ ap (λ w. take 24 (places m out ++ hint_points m (elem m a) (map (row m) (in_use w)))) (sym (drop_all p f.rows (omega (arith, k.room)))) ∙ s.is k

-- The row hints of the first blocks are reduced.
abbrev pub Forms : Meaning → (BlockHints → Form) → List ℕ → List BlockHints → Type 0
Forms m sort ns bs = (i : ℕ) → i < length ns → InForm m (sort (get_or bs i no_block))

pub record Collecting (m : Meaning) (ns : List ℕ) (bs : List BlockHints) (ps : List Point) (i at : ℕ) (out : List Point) : Type 0 where
  pub ends : at + total (drop i ns) ≡ total ns
  pub is : Forms m (λ b. b.rows) ns bs → take 24 (places m out ++ all_hint_points m (drop i ns) (drop i bs) (drop at ps)) ≡ take 24 (all_hint_points m ns bs ps)

-- The sum of the lengths from a block on.
pub total_here : (ns : List ℕ) (i at : ℕ) → i < length ns → at + total (drop i ns) ≡ total ns → at + get_or ns i 0 + total (drop (i + 1) ns) ≡ total ns
total_here ns i at h e = omega (arith, ap total (drop_more ns i 0 h), e)

-- The block begins within the code, and ends there.
pub block_within : (c : Code) {i at : ℕ} → i < length (held c.lengths) → at + total (drop i (held c.lengths)) ≡ total (held c.lengths)
    → (at < length (stops c.course)) × (at + get_or (held c.lengths) i 0 ≤ length (stops c.course))
block_within c {i} {at} h e =
    let t = total_here (held c.lengths) i at h e in
    let n = (c.each i h).0 in
    (omega (arith, t, n, places_in c), omega (arith, t, places_in c))

module _ (m : Meaning) {ns : List ℕ} {bs : List BlockHints} {ps : List Point} where
  -- No block yet.
  pub collecting_starts : {out : List Point} → out ≡ [] → Collecting m ns bs ps 0 0 out
  collecting_starts e = record { ends = omega arith; is = λ _. ap (λ w. take 24 (places m w ++ all_hint_points m ns bs ps)) e }

  -- One block more.
  pub collecting_goes_on : {i at n a : ℕ} {out out' : List Point} (d : Point) → i < length ns → i < length bs → at < length ps → n ≡ get_or ns i 0 → a ≡ (get_or ps at d).parameter
      → (InForm m (get_or bs i no_block).rows → places m out' ≡ take 24 (places m out ++ hint_points m (elem m a) (rows_of m (get_or bs i no_block).rows)))
      → Collecting m ns bs ps i at out → Collecting m ns bs ps (i + 1) (at + n) out'
  collecting_goes_on {i} {at} {n} {a} {out} {out'} d h hb hp en ea eo s = record {
    ends = ap (λ j. at + j + total (drop (i + 1) ns)) en ∙ total_here ns i at h s.ends;
    is = λ k.
        let rest : List (Elem m × Elem m) = all_hint_points m (drop (i + 1) ns) (drop (i + 1) bs) (drop (at + n) ps) in
        some_more (place m) out out' (hint_points m (elem m a) (rows_of m (get_or bs i no_block).rows)) rest (eo (k i h))
        ∙ sym (ap (λ w. take 24 (places m out ++ all_hint_points m w (drop i bs) (drop at ps))) (drop_more ns i 0 h)
        ∙ ap (λ w. take 24 (places m out ++ all_hint_points m (get_or ns i 0 ∷ drop (i + 1) ns) w (drop at ps))) (drop_more bs i no_block hb)
        ∙ ap (λ w. take 24 (places m out ++ (hint_points m (elem m w.parameter) (rows_of m (get_or bs i no_block).rows) ++ all_hint_points m (drop (i + 1) ns) (drop (i + 1) bs) (drop (get_or ns i 0) (drop at ps)))))
        (ap (λ w. get_or w 0 no_point) (drop_more ps at d hp))
        ∙ ap (λ w. take 24 (places m out ++ (hint_points m (elem m w) (rows_of m (get_or bs i no_block).rows) ++ all_hint_points m (drop (i + 1) ns) (drop (i + 1) bs) (drop (get_or ns i 0) (drop at ps))))) (sym ea)
        ∙ ap (λ w. take 24 (places m out ++ (hint_points m (elem m a) (rows_of m (get_or bs i no_block).rows) ++ all_hint_points m (drop (i + 1) ns) (drop (i + 1) bs) w)))
        (ap (λ j. drop j (drop at ps)) (sym en) ∙ drop-drop n at ps))
        ∙ s.is k;
  }

  -- All blocks.
  pub collecting_ends : {i at : ℕ} {out : List Point} → length ns ≤ i → length out ≤ 24 → Collecting m ns bs ps i at out
      → Forms m (λ b. b.rows) ns bs → places m out ≡ take 24 (all_hint_points m ns bs ps)
  collecting_ends {i} {at} {out} h few s k =
      sym (no_more (place m) out few) ∙ ap (λ w. take 24 (places m out ++ all_hint_points m w (drop i bs) (drop at ps))) (sym (drop_all i ns h)) ∙ s.is k
