-- Blocks without hints, as recovery with hints has them: no place is marked, and nothing is left out.
--
--   none                 no hints in a block
--   unmarked ns          no marks, in blocks of these lengths
--   bare blocks ns w     blocks with symbols and without hints
use Rattle.std.proofs.Common.{◌≡◌, ℕ, suc, ◌+◌ as ◌+ℕ◌, Bool, false, List, [], ◌∷◌, ◌++◌, map, length, get_or, take, drop, replicate, sym, refl, ap, ◌∙◌, ap₂, arith, take-append-drop}
use Rattle.std.proofs.lemmas.List.{length-replicate, length-drop, length-take-le}
use Rattle.std.specs.List.{AllByRecursion}
use Rattle.fields.specs.Field.{Ops, Laws, plus}
use Rattle.fields.specs.Basics.{ring}
use Rattle.skew.specs.Values.{eval}
use Rattle.skew.specs.Roots.{Block, block, points}
use Rattle.skew.proofs.Sums.{cons_path}
use Rattle.ranks.specs.Ranks.{total, cut}
use Rattle.ranks.specs.Reduction.{mix, Pivots}
use Rattle.ranks.specs.RowSteps.{clear}
use Rattle.codes.specs.Codes.{block_size}
use Rattle.hints.specs.Splittings.{Given, row_count, column_count}
use Rattle.hints.proofs.FreeRows.{count_none}
use Rattle.recovery.specs.Preparation.{word_spots}
use Rattle.recovery.proofs.Sites.{Site, omit, AllReduced, points_at, all_points}
use Rattle.recovery.proofs.Siting.{sited}

abbrev pub none : {F : Type 0} → Given F
none = record { rows = []; columns = [] }

abbrev pub unmarked : List ℕ → List (List Bool)
unmarked ns = map (λ n. replicate n false) ns

abbrev pub bare : {F : Type 0} → List (Block F) → List ℕ → List F → List (Site F)
bare blocks ns w = sited blocks (cut ns w) (replicate (length ns) none)

-- There are no hints.
pub nothing_given : (F : Type 0) (n : ℕ) → (row_count {F = F} (replicate n none) ≡ 0) × (column_count {F = F} (replicate n none) ≡ 0)
nothing_given F ℕ.zero = (refl, refl)
nothing_given F (suc n) = let rest = nothing_given F n in (omega (arith, rest.0), omega (arith, rest.1))

-- Hints of which there are none.
none_is : {F : Type 0} (rs : List F) (cs : List (List F)) → length rs ≡ 0 → length cs ≡ 0 → record { rows = rs; columns = cs } ≡ none
none_is [] [] e h = refl
none_is [] (x ∷ cs) e h = absurd (omega arith)
none_is (r ∷ rs) cs e h = absurd (omega arith)

-- So it is in every block.
pub all_none : {F : Type 0} (n : ℕ) (gs : List (Given F)) → length gs ≡ n → row_count gs +ℕ column_count gs ≡ 0 → gs ≡ replicate n none
all_none ℕ.zero [] e h = refl
all_none ℕ.zero (g ∷ gs) e h = absurd (omega arith)
all_none (suc n) [] e h = absurd (omega arith)
all_none (suc n) (g ∷ gs) e h = cons_path (none_is g.rows g.columns (omega arith) (omega arith)) (all_none n gs (omega arith) (omega arith))

-- Without marks nothing is left out.
omit_none : {A : Type 0} (n : ℕ) (xs : List A) → length xs ≡ n → omit (replicate n false) xs ≡ xs
omit_none ℕ.zero [] e = refl
omit_none ℕ.zero (x ∷ xs) e = absurd (omega arith)
omit_none (suc n) [] e = absurd (omega arith)
omit_none (suc n) (x ∷ xs) e = ap (λ ys. x ∷ ys) (omit_none n xs (omega arith))

module _ {F : Type 0} {o : Ops F} (l : Laws o) where
  open o use {zero, one, add as ◌+◌, neg}

  infixl 65 ◌+◌
  -- Without column hints nothing is taken away.
  unmixed : (v xs : List F) → plus o v (map neg (mix o (length v) [] xs)) ≡ v
  unmixed [] xs = refl
  unmixed (y ∷ v) xs = cons_path less (unmixed v xs)
    where
      less : y + neg zero ≡ y
      less = simp (ring, l)

  -- What is left of a row of n symbols is the row.
  left_none : (n : ℕ) (v : List F) → length v ≡ n → omit (replicate n false) (clear o (replicate n false) [] v) ≡ v
  left_none n v e = ap (omit (replicate n false)) (unmixed v _) ∙ omit_none n v e

  -- No pivots.
  pivots_none : (n j : ℕ) → Pivots o j (replicate n false) []
  pivots_none ℕ.zero j = tt
  pivots_none (suc n) j = pivots_none n j

  -- The spots of a block and of what follows.
  spots_block : (a : F) (bs ys : List F) (pts : List (F × F)) (w : List F) → length ys ≡ length bs
      → points_at o a (one ∷ []) bs ys ++ word_spots pts w ≡ word_spots (map (λ b. (a, b)) bs ++ pts) (ys ++ w)
  spots_block a [] [] pts w e = refl
  spots_block a [] (y ∷ ys) pts w e = absurd (omega arith)
  spots_block a (b ∷ bs) [] pts w e = absurd (omega arith)
  spots_block a (b ∷ bs) (y ∷ ys) pts w e =
      cons_path (ap (λ z. record { parameter = a; locator = b; second = z }) once) (spots_block a bs ys pts w (omega arith))
    where
      once : eval o a (one ∷ []) y ≡ y
      once = simp (ring, l)

  -- The spots of all blocks.
  pub spots_bare : (blocks : List (Block F)) (ns : List ℕ) (w : List F) → map block_size blocks ≡ ns → length w ≡ total ns
      → all_points o (one ∷ []) (unmarked ns) (bare blocks ns w) ≡ word_spots (points blocks) w
  spots_bare [] [] w e h = refl
  spots_bare [] (n ∷ ns) w e h = absurd (omega (arith, ap length e))
  spots_bare (b ∷ blocks) [] w e h = absurd (omega (arith, ap length e))
  spots_bare (block a bs ∷ blocks) (n ∷ ns) w e h =
      let size : length bs ≡ n = ap (λ js. get_or js 0 0) e in
      let long : length (take n w) ≡ n = length-take-le n w (omega arith) in
      ap₂ (λ us vs. points_at o a (one ∷ []) us vs ++ all_points o (one ∷ []) (unmarked ns) (bare blocks ns (drop n w))) (left_none n bs size) (left_none n (take n w) long)
      ∙ ap (λ ss. points_at o a (one ∷ []) bs (take n w) ++ ss) (spots_bare blocks ns (drop n w) (ap (drop 1) e) (omega (arith, length-drop n w)))
      ∙ spots_block a bs (take n w) (points blocks) (drop n w) (long ∙ sym size)
      ∙ ap (word_spots (points (block a bs ∷ blocks))) (take-append-drop n w)

  -- No column hints are reduced.
  pub reduced_bare : (blocks : List (Block F)) (ns : List ℕ) (w : List F) → map block_size blocks ≡ ns → length w ≡ total ns → AllReduced o (unmarked ns) (bare blocks ns w)
  reduced_bare [] [] w e h = tt
  reduced_bare [] (n ∷ ns) w e h = absurd (omega (arith, ap length e))
  reduced_bare (b ∷ blocks) [] w e h = absurd (omega (arith, ap length e))
  reduced_bare (block a bs ∷ blocks) (n ∷ ns) w e h =
      let size : length bs ≡ n = ap (λ js. get_or js 0 0) e in (
        record {
          form = record { size = length-replicate n false ∙ sym size; full = count_none n; pivots = pivots_none n 0; rows = tt };
          size = length-take-le n w (omega arith) ∙ sym size;
        },
        reduced_bare blocks ns (drop n w) (ap (drop 1) e) (omega (arith, length-drop n w)),
      )

  -- There is no row hint to take to zero.
  pub zeros_bare : (blocks : List (Block F)) (ns : List ℕ) (w : List F) → AllByRecursion (λ s. AllByRecursion (λ u. eval o s.parameter (one ∷ []) u ≡ zero) s.given.rows) (bare blocks ns w)
  zeros_bare [] ns w = tt
  zeros_bare (block a bs ∷ blocks) [] w = tt
  zeros_bare (block a bs ∷ blocks) (n ∷ ns) w = (tt, zeros_bare blocks ns (drop n w))
