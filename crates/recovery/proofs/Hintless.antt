-- Recovery without hints, as recovery with hints has it: no place is marked, and the polynomial that takes the row hints to zero is one.
--
--   one_kills            one takes no row hints to zero
--   finds_bare           each message within the budget is the quotient
use Rattle.std.proofs.Common.{◌≡◌, ℕ, ◌+◌ as ◌+ℕ◌, ◌*◌ as ◌*ℕ◌, ◌≤◌, List, [], ◌∷◌, map, length, replicate, sym, ap, ◌∙◌, subst, arith}
use Rattle.std.proofs.lemmas.List.{length-map, length-replicate, get_or_past}
use Rattle.fields.specs.Field.{Ops, Laws}
use Rattle.fields.specs.Inverses
use Rattle.skew.specs.Quotients.{Quotient}
use Rattle.skew.specs.Roots.{Block, points, locator_count, Lawful}
use Rattle.skew.specs.Pairs.{Two, Carried}
use Rattle.ranks.specs.Ranks.{total, cut, Weighs}
use Rattle.codes.specs.Codes.{block_size}
use Rattle.hints.specs.Splittings.{Parts, Splitting, full_part, row_count, column_count}
use Rattle.recovery.specs.Preparation.{word_spots}
use Rattle.recovery.proofs.Sites.{Site, code, givens, differences, all_points, Annihilates}
use Rattle.recovery.proofs.Finding
use Rattle.recovery.proofs.Siting
use Rattle.recovery.proofs.BareBlocks
use Rattle.recovery.proofs.ProductsWithOne
use Rattle.recovery.proofs.BareBlocks.{bare, none, nothing_given, unmarked}

module _ {F : Type 0} {o : Ops F} (l : Laws o) where
  open o use {zero, one, neg}

  -- One annihilates no row hints.
  one_kills : (blocks : List (Block F)) (ns : List ℕ) (w : List F) → Annihilates o (one ∷ []) (bare blocks ns w)
  one_kills blocks ns w = ((λ i e. get_or_past (one ∷ []) i zero (omega arith)), (λ z. Inverses.one_zero l z.0), BareBlocks.zeros_bare l blocks ns w)

  -- A message within the budget is the quotient that the second pair leaves.
  pub finds_bare : (k : ℕ) (blocks : List (Block F)) (ns : List ℕ) (w : List F) (A B : Two F) (a b d : ℕ) (q : List F)
      → map block_size blocks ≡ ns → length w ≡ total ns → Lawful o blocks → Carried o k (word_spots (points blocks) w) A B a b → Quotient o (map neg B.q0) B.q1 d k q
      → (f : List F) → length f ≡ k → (parts : List (Parts F)) (t : ℕ) → Splitting o (replicate (length ns) none) (differences o f (bare blocks ns w)) parts → Weighs o (full_part parts) t
      → 2 *ℕ t +ℕ k ≤ locator_count blocks → f ≡ q
  finds_bare k blocks ns w A B a b d q e h lawful carried quotient f len parts t splitting weight budget =
      Finding.finds l k (unmarked ns) sites (one ∷ []) B.q1 q A B a b d (subst (Lawful o) (sym code_is) lawful) (BareBlocks.reduced_bare l blocks ns w e h) (one_kills blocks ns w)
      (subst (λ j. Carried o j (all_points o (one ∷ []) (unmarked ns) sites) A B a b) counts (subst (λ ss. Carried o k ss A B a b) (sym (BareBlocks.spots_bare l blocks ns w e h)) carried))
      (ProductsWithOne.product_once l B.q1) quotient f len parts t
      (subst (λ gs. Splitting o gs (differences o f sites) parts) (sym givens_are) splitting) weight (omega (arith, budget, no_rows, no_columns, ap locator_count code_is))
    where
      sites : List (Site F)
      sites = bare blocks ns w

      many : length ns ≡ length blocks
      many = ap length (sym e) ∙ length-map blocks block_size

      cuts : length (cut ns w) ≡ length blocks
      cuts = Siting.length_cut ns w ∙ many

      gives : length (replicate (length ns) (none {F = F})) ≡ length blocks
      gives = length-replicate (length ns) none ∙ many

      code_is : code (bare blocks ns w) ≡ blocks
      code_is = Siting.code_sited blocks (cut ns w) (replicate (length ns) none) cuts gives

      givens_are : givens (bare blocks ns w) ≡ replicate (length ns) none
      givens_are = Siting.givens_sited blocks (cut ns w) (replicate (length ns) none) cuts gives

      no_rows : row_count (givens (bare blocks ns w)) ≡ 0
      no_rows = ap row_count givens_are ∙ (nothing_given F (length ns)).0

      no_columns : column_count (givens (bare blocks ns w)) ≡ 0
      no_columns = ap column_count givens_are ∙ (nothing_given F (length ns)).1

      counts : k ≡ k +ℕ row_count (givens (bare blocks ns w))
      counts = omega (arith, no_rows)
