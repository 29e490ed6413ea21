-- What decode gives where a codeword is known to be in reach, with as few full errors as any splitting has.
--
--   Fit m ns gs          there are hints for each block, and the column hints of one of n symbols are rows of n fixed coefficients
--   Fewest m c gs w v n  no splitting of the difference of w and v has fewer full errors than n
use Rattle.std.proofs.Common.{◌≡◌, ℕ, suc, ◌+◌, ◌<◌, ◌≤◌, List, [], ◌∷◌, map, length, get_or, replicate, Ok, sym, refl, ap, ◌∙◌, subst, arith}
use Rattle.std.proofs.lemmas.List.{length-map}
use Rattle.std.specs.List.{AllByRecursion}
use Rattle.fields.specs.Field.{plus}
use Rattle.fields.specs.Meaning.{Meaning, Laws}
use Rattle.fields.specs.Elements.{Elem, elem, elems, codes, ops}
use Rattle.fields.proofs.Carrier
use Rattle.skew.specs.Polynomials.{Codes}
use Rattle.sheets.specs.Sheets.{Text}
use Rattle.ranks.specs.Ranks.{Weighs}
use Rattle.ranks.specs.Reduction.{Row}
use Rattle.codes.specs.declared.shape.Code.{Code}
use Rattle.codes.specs.Holdings.{held as numbers}
use Rattle.codes.specs.Fitness.{route, Made}
use Rattle.hints.specs.Splittings.{Given, Parts, Splitting, full_part, row_count, column_count}
use Rattle.hints.specs.Holdings.{no_hints}
use Rattle.hints.specs.Outcomes.{parts_of}
use Rattle.recovery.specs.declared.outcome.Recovery.{Recovery}
use Rattle.recovery.specs.Reach.{InReach, apart}
use Rattle.recovery.proofs.BareBlocks.{none, nothing_given}
use Rattle.recovery.proofs.Unhinted.{difference_is}
use Rattle.recovery.proofs.Uniqueness.{one_in_reach}
use Rattle.station.specs.Calls.{decode, Reply, done, wrote, weighs, counted, handed}
use Rattle.station.specs.Tables.{Accepts}
use Rattle.station.specs.Positions.{held, solved, Tallied, Position, at}
use Rattle.station.specs.Refusals.{rows_of}
use Rattle.station.specs.Rules.{Solves, Acts}
use Rattle.station.proofs.Reported.{always}
use Rattle.figures.specs.Figures.{Decodes, Gives, GivesFull}
use Rattle.figures.proofs.Answering.{not_refused}
use Rattle.figures.proofs.Reaching.{weigh_the_same}

module _ (m : Meaning) where
  abbrev pub Fit : List ℕ → List (Given (Elem m)) → Type 0
  Fit [] [] = Unit {0}
  Fit [] (g ∷ gs) = ⊥
  Fit (n ∷ ns) [] = ⊥
  Fit (n ∷ ns) (g ∷ gs) = AllByRecursion (Row (ops m) n) g.columns × Fit ns gs

  abbrev Fewest : Code → List (Given (Elem m)) → List ℕ → List ℕ → ℕ → Type 0
  Fewest c gs w v n = (ps : List (Parts (Elem m))) (k : ℕ) → Splitting (ops m) gs (apart m c (elems m w) (elems m v)) ps → Weighs (ops m) (full_part ps) k → n ≤ k

  -- There are as many as blocks.
  as_many : (ns : List ℕ) (gs : List (Given (Elem m))) → Fit ns gs → length gs ≡ length ns
  as_many [] [] fit = refl
  as_many [] (g ∷ gs) fit = absurd fit
  as_many (n ∷ ns) [] fit = absurd fit
  as_many (n ∷ ns) (g ∷ gs) fit = ap suc (as_many ns gs fit.1)

  -- The column hints at each place are such rows.
  fit_at : (ns : List ℕ) (gs : List (Given (Elem m))) → Fit ns gs → (i : ℕ) → i < length ns → AllByRecursion (Row (ops m) (get_or ns i 0)) (get_or gs i (no_hints m)).columns
  fit_at [] gs fit i h = absurd (omega (arith, h))
  fit_at (n ∷ ns) [] fit i h = absurd fit
  fit_at (n ∷ ns) (g ∷ gs) fit ℕ.zero h = fit.0
  fit_at (n ∷ ns) (g ∷ gs) fit (suc i) h = fit_at ns gs fit.1 i (omega (arith, h))

  -- A decode that is not refused is done, and leads to a station that is solved.
  decodes : (c : Code) (w : List ℕ) (gs : List (Given (Elem m))) (t : Tallied) (x : Reply) (q : Position m) → Acts m decode (held c w gs) t x q
      → (x ≡ done) × (r : Recovery) × Solves m c gs w r × (q.standing ≡ solved c gs r)
  decodes c w gs t done q h = (refl, h.0, h.1, ap (λ (p : Position m). p.standing) h.2)
  decodes c w gs t (wrote ys) q h = absurd h.0
  decodes c w gs t (weighs n) q h = absurd h.0
  decodes c w gs t (counted i j) q h = absurd h.0
  decodes c w gs t (handed xs f a b) q h = absurd h.0

module _ {m : Meaning} (l : Laws m) {t : Text} {c : Code} (made : Made m t c) {gs : List (Given (Elem m))} (w v : List ℕ) (long : length w ≡ length (route t.blocks t.parameters t.locators))
    (fit : Fit m t.blocks gs) (proper : Codes m v) where
  -- No other codeword than one in reach is recovered.
  same_codeword : InReach m c gs (elems m w) (elems m v) → (r : Recovery) → Solves m c gs w r → elems m (numbers r.codeword) ≡ elems m v
  same_codeword reach r R =
      one_in_reach l c gs (elems m w) made.lawful (length-map w (elem m) ∙ long ∙ sym (ap length made.points)) (as_many m t.blocks gs fit ∙ sym (ap length made.lengths))
      (subst (λ ns. (i : ℕ) → i < length ns → AllByRecursion (Row (ops m) (get_or ns i 0)) (get_or gs i (no_hints m)).columns) (sym made.lengths) (fit_at m t.blocks gs fit))
      (elems m (numbers r.codeword)) (elems m v) R.reach reach

  module _ (n : ℕ) (reach : InReach m c gs (elems m w) (elems m v)) (errors : reach.errors ≡ n) where
    -- It is recovered with its errors where no splitting has fewer.
    same_errors : Fewest m c gs w v n → (r : Recovery) → Solves m c gs w r → r.errors ≡ n
    same_errors fewest r R =
        let same = same_codeword reach r R in
        let parts = parts_of m (numbers c.lengths) r.parts in
        let most = fewest parts r.errors (subst (λ u. Splitting (ops m) gs (apart m c (elems m w) u) parts) same R.splitting) R.weight in
        let least = R.least reach.parts reach.errors (subst (λ u. Splitting (ops m) gs (apart m c (elems m w) u) reach.parts) (sym same) reach.splitting) reach.weight in
        omega (arith, errors, most, least)

    -- Its codeword is this one.
    codeword_is : (r : Recovery) → Solves m c gs w r → numbers r.codeword ≡ v
    codeword_is r R = sym R.codes.1 ∙ ap codes (same_codeword reach r R) ∙ proper

    -- Decode gives what holds of all that solves.
    decodes_so : {So : Recovery → Type 0} → ((r : Recovery) → Solves m c gs w r → So r) → Decodes m c gs w So
    decodes_so so t room = (
      accepted,
      λ a q h.
          let (x, is, acts) = not_refused (at m (held c w gs) t) q decode a accepted h in
          let (replied, r, R, stands) = decodes m c w gs t x q acts in
          (is ∙ ap Ok replied, (r, stands, so r R)),
    )
      where
        accepted : Accepts (rows_of m (at m (held c w gs) t) decode)
        accepted = (always refl, ((λ e row. omega (arith, row.0, room)), ((λ e row. row.0 (elems m v) reach), tt)))

    -- So it gives this codeword where it has no error.
    pub given : n ≡ 0 → Gives m c gs w v n
    given no_errors = decodes_so (λ r R. (codeword_is r R, same_errors (λ ps k s weight. omega (arith, no_errors)) r R))

    module _ (j : ℕ) (bare : gs ≡ replicate j none) where
      -- Without hints all splittings weigh the same.
      fewest_unhinted : Fewest m c gs w v n
      fewest_unhinted ps k s weight = omega (
        arith,
        errors,
        weigh_the_same (Carrier.ops_laws l) j (apart m c (elems m w) (elems m v)) ps reach.parts k reach.errors (subst (λ hs. Splitting (ops m) hs (apart m c (elems m w) (elems m v)) ps) bare s)
            (subst (λ hs. Splitting (ops m) hs (apart m c (elems m w) (elems m v)) reach.parts) bare reach.splitting) weight reach.weight,
      )

      -- There is no hint.
      no_hint : row_count gs + column_count gs ≡ 0
      no_hint = omega (arith, ap row_count bare, ap column_count bare, (nothing_given (Elem m) j).0, (nothing_given (Elem m) j).1)

      -- And the full part is the difference.
      full_is : (r : Recovery) → Solves m c gs w r → numbers r.parts.full ≡ codes (plus (ops m) (elems m w) (map (ops m).neg (elems m v)))
      full_is r R =
          sym R.codes.2
          ∙ ap codes (difference_is l c gs (elems m w) (elems m (numbers r.codeword)) r.parts (as_many m t.blocks gs fit ∙ sym (ap length made.lengths)) no_hint
          (length-map w (elem m) ∙ long ∙ sym (ap length made.points)) (length-map (numbers r.codeword) (elem m) ∙ R.sizes.0) R.sizes.1 R.splitting
          ∙ ap (λ u. plus (ops m) (elems m w) (map (ops m).neg u)) (same_codeword reach r R))

      -- So it gives it with that full part.
      pub given_unhinted : {full : List ℕ} → codes (plus (ops m) (elems m w) (map (ops m).neg (elems m v))) ≡ full → GivesFull m c gs w v n full
      given_unhinted is = decodes_so (λ r R. (codeword_is r R, same_errors fewest_unhinted r R, full_is r R ∙ is))
