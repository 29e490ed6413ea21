-- The program's code, word and hints as blocks with symbols and hints.
--
--   sited blocks ws gs       each block with its symbols and its hints
--   all_shown m ns bs        the hints as the program holds them, block by block
--   all_marks ns bs          the places of the pivots of the column hints
use Rattle.std.proofs.Common.{◌≡◌, ℕ, suc, ◌≤◌, Bool, List, [], ◌∷◌, ◌++◌, map, length, get_or, take, drop, sym, refl, ap, ◌∙◌, arith}
use Rattle.std.proofs.lemmas.List.{length-map}
use Rattle.std.proofs.lemmas.List.{length-drop}
use Rattle.fields.specs.Field.{Ops, plus}
use Rattle.fields.specs.Meaning.{Meaning}
use Rattle.fields.specs.Elements.{Elem, elems}
use Rattle.skew.specs.declared.points.Point.{Point}
use Rattle.skew.specs.Values.{eval}
use Rattle.skew.specs.Roots.{Block, block, points}
use Rattle.skew.specs.Annihilators.{places}
use Rattle.skew.proofs.Sums.{cons_path}
use Rattle.ranks.specs.Ranks.{total, cut}
use Rattle.ranks.specs.Reduction.{marks_of}
use Rattle.codes.specs.Codes.{block_size}
use Rattle.hints.specs.Splittings.{Given}
use Rattle.hints.specs.declared.block.BlockHints.{BlockHints}
use Rattle.hints.specs.Shown.{shown}
use Rattle.recovery.specs.Steps.{locators_of, parameter_of}
use Rattle.recovery.proofs.Sites.{Site, code, givens, differences}

abbrev pub sited : {F : Type 0} → List (Block F) → List (List F) → List (Given F) → List (Site F)
sited [] ws gs = []
sited (block a bs ∷ blocks) [] gs = []
sited (block a bs ∷ blocks) (w ∷ ws) [] = []
sited (block a bs ∷ blocks) (w ∷ ws) (g ∷ gs) = record { parameter = a; locators = bs; symbols = w; given = g } ∷ sited blocks ws gs

abbrev pub all_shown : (m : Meaning) → List ℕ → List BlockHints → List (Given (Elem m))
all_shown m [] bs = []
all_shown m (n ∷ ns) [] = []
all_shown m (n ∷ ns) (b ∷ bs) = shown m n b ∷ all_shown m ns bs

abbrev pub all_marks : List ℕ → List BlockHints → List (List Bool)
all_marks [] bs = []
all_marks (n ∷ ns) [] = []
all_marks (n ∷ ns) (b ∷ bs) = take n (marks_of b.columns) ∷ all_marks ns bs

-- As many as there are blocks.
pub length_shown : (m : Meaning) (ns : List ℕ) (bs : List BlockHints) → length ns ≤ length bs → length (all_shown m ns bs) ≡ length ns
length_shown m [] bs h = refl
length_shown m (n ∷ ns) [] h = absurd (omega arith)
length_shown m (n ∷ ns) (b ∷ bs) h = ap suc (length_shown m ns bs (omega arith))

-- Words cut into blocks.
pub length_cut : {A : Type 0} (ns : List ℕ) (w : List A) → length (cut ns w) ≡ length ns
length_cut [] w = refl
length_cut (n ∷ ns) w = ap suc (length_cut ns (drop n w))

module _ {F : Type 0} where
  -- The blocks of the code are those that it was made of.
  pub code_sited : (blocks : List (Block F)) (ws : List (List F)) (gs : List (Given F)) → length ws ≡ length blocks → length gs ≡ length blocks → code (sited blocks ws gs) ≡ blocks
  code_sited [] ws gs e h = refl
  code_sited (block a bs ∷ blocks) [] gs e h = absurd (omega arith)
  code_sited (block a bs ∷ blocks) (w ∷ ws) [] e h = absurd (omega arith)
  code_sited (block a bs ∷ blocks) (w ∷ ws) (g ∷ gs) e h = cons_path refl (code_sited blocks ws gs (omega arith) (omega arith))

  -- So are the hints.
  pub givens_sited : (blocks : List (Block F)) (ws : List (List F)) (gs : List (Given F)) → length ws ≡ length blocks → length gs ≡ length blocks → givens (sited blocks ws gs) ≡ gs
  givens_sited [] ws [] e h = refl
  givens_sited [] ws (g ∷ gs) e h = absurd (omega arith)
  givens_sited (block a bs ∷ blocks) [] gs e h = absurd (omega arith)
  givens_sited (block a bs ∷ blocks) (w ∷ ws) [] e h = absurd (omega arith)
  givens_sited (block a bs ∷ blocks) (w ∷ ws) (g ∷ gs) e h = cons_path refl (givens_sited blocks ws gs (omega arith) (omega arith))

module _ {F : Type 0} (o : Ops F) where
  -- A sum with a row in two pieces: the first piece.
  take_plus : (w xs ys : List F) → length xs ≤ length w → take (length xs) (plus o w (xs ++ ys)) ≡ plus o (take (length xs) w) xs
  take_plus w [] ys h = refl
  take_plus [] (x ∷ xs) ys h = absurd (omega arith)
  take_plus (y ∷ w) (x ∷ xs) ys h = cons_path refl (take_plus w xs ys (omega arith))

  -- And the second.
  drop_plus : (w xs ys : List F) → length xs ≤ length w → drop (length xs) (plus o w (xs ++ ys)) ≡ plus o (drop (length xs) w) ys
  drop_plus w [] ys h = refl
  drop_plus [] (x ∷ xs) ys h = absurd (omega arith)
  drop_plus (y ∷ w) (x ∷ xs) ys h = drop_plus w xs ys (omega arith)

  -- The values of f at points, with the opposite sign.
  abbrev pub minus_values : List F → List (F × F) → List F
  minus_values f pts = map o.neg (map (λ t. eval o t.0 f t.1) pts)

  -- Those of a block come first.
  values_block : (f : List F) (a : F) (bs : List F) (rest : List (F × F)) → minus_values f (map (λ b. (a, b)) bs ++ rest) ≡ map o.neg (map (eval o a f) bs) ++ minus_values f rest
  values_block f a [] rest = refl
  values_block f a (b ∷ bs) rest = cons_path refl (values_block f a bs rest)

  -- The differences, block by block, are the difference of the words.
  pub differences_sited : (f : List F) (blocks : List (Block F)) (ns : List ℕ) (w : List F) (gs : List (Given F)) → map block_size blocks ≡ ns → total ns ≤ length w → length gs ≡ length blocks
      → differences o f (sited blocks (cut ns w) gs) ≡ cut ns (plus o w (minus_values f (points blocks)))
  differences_sited f [] [] w gs e k h = refl
  differences_sited f [] (n ∷ ns) w gs e k h = absurd (nil_cons e)
    where
      nil_cons : [] ≡ n ∷ ns → ⊥
      nil_cons q = zero_suc (ap length q)
        where
          zero_suc : length {A = ℕ} [] ≡ length (n ∷ ns) → ⊥
          zero_suc r = omega (arith, r)
  differences_sited f (b ∷ blocks) [] w gs e k h = absurd (omega (arith, ap length e))
  differences_sited f (block a bs ∷ blocks) (n ∷ ns) w [] e k h = absurd (omega arith)
  differences_sited f (block a bs ∷ blocks) (n ∷ ns) w (g ∷ gs) e k h =
      cons_path (ap (λ j. plus o (take j w) X) (sym size) ∙ sym (take_plus w X rest long) ∙ ap (λ j. take j (plus o w (X ++ rest))) size ∙ ap (λ v. take n (plus o w v)) (sym whole))
      (differences_sited f blocks ns (drop n w) gs (ap (drop 1) e) (omega (arith, k, length-drop n w)) (omega arith)
      ∙ ap (cut ns) (ap (λ j. plus o (drop j w) rest) (sym size) ∙ sym (drop_plus w X rest long) ∙ ap (λ j. drop j (plus o w (X ++ rest))) size ∙ ap (λ v. drop n (plus o w v)) (sym whole)))
    where
      X : List F
      X = map o.neg (map (eval o a f) bs)

      rest : List F
      rest = minus_values f (points blocks)

      first : length bs ≡ n
      first = ap (λ js. get_or js 0 0) e

      size : length (map o.neg (map (eval o a f) bs)) ≡ n
      size = length-map (map (eval o a f) bs) o.neg ∙ length-map bs (eval o a f) ∙ first

      long : length (map o.neg (map (eval o a f) bs)) ≤ length w
      long = omega (arith, size, k)

      whole : minus_values f (points (block a bs ∷ blocks)) ≡ map o.neg (map (eval o a f) bs) ++ minus_values f (points blocks)
      whole = values_block f a bs (points blocks)

module _ (m : Meaning) where
  -- The points of the first block: its locators, and the points of the others.
  pub first_block : (a : Elem m) (bs : List (Elem m)) (rest : List (Block (Elem m))) (ps : List Point) → places m ps ≡ points (block a bs ∷ rest)
      → (elems m (locators_of (take (length bs) ps)) ≡ bs) × (places m (drop (length bs) ps) ≡ points rest)
  first_block a [] rest ps e = (refl, e)
  first_block a (b ∷ bs) rest [] e = absurd (omega (arith, ap length e))
  first_block a (b ∷ bs) rest (p ∷ ps) e =
      let r = first_block a bs rest ps (ap (drop 1) e) in
      (cons_path (ap (λ (t : Elem m × Elem m). t.1) (ap (λ ts. get_or ts 0 (a, b)) e)) r.0, r.1)

  -- Its parameter.
  pub first_parameter : (a : Elem m) (bs : List (Elem m)) (rest : List (Block (Elem m))) (ps : List Point) → 1 ≤ length bs → places m ps ≡ points (block a bs ∷ rest) → parameter_of m ps ≡ a
  first_parameter a [] rest ps h e = absurd (omega arith)
  first_parameter a (b ∷ bs) rest [] h e = absurd (omega (arith, ap length e))
  first_parameter a (b ∷ bs) rest (p ∷ ps) h e = ap (λ (t : Elem m × Elem m). t.0) (ap (λ ts. get_or ts 0 (a, b)) e)
