-- The hints that are held before any is taken.
--
--   none_counted    no hints are counted in blocks without hints
--   none_held       empty forms hold them
use Rattle.std.proofs.Common.{◌≡◌, ℕ, suc, ◌≤◌, List, [], length, get_or, replicate, sym, refl, ap, ◌∙◌, subst, arith}
use Rattle.std.proofs.lemmas.List.{length-replicate, get_or-replicate}
use Rattle.std.specs.List.{AllByRecursion}
use Rattle.fields.specs.Meaning.{Meaning}
use Rattle.fields.specs.Elements.{ops}
use Rattle.ranks.specs.Ranks.{total}
use Rattle.ranks.specs.Reduction.{AmongRows, rows_of, InForm}
use Rattle.ranks.specs.declared.rows.Form.{Form}
use Rattle.hints.specs.Splittings.{row_count, column_count}
use Rattle.hints.specs.Holdings.{FormHolds, BlockHolds, no_block, no_hints, Holds}
use Rattle.hints.specs.declared.holder.Hints.{Hints}

-- There are no hints in blocks without hints.
none_counted : (m : Meaning) (n : ℕ) → (row_count (replicate n (no_hints m)) ≡ 0) × (column_count (replicate n (no_hints m)) ≡ 0)
none_counted m ℕ.zero = (refl, refl)
none_counted m (suc n) = let rest = none_counted m n in (omega (arith, rest.0), omega (arith, rest.1))

-- Empty forms hold no hints.
pub none_held : {f : Form} (h : Hints) → ((m : Meaning) → InForm m f × (rows_of m f ≡ [])) → h.blocks ≡ replicate 12 (record { rows = f; columns = f }) → h.rows ≡ 0 → h.columns ≡ 0
    → (m : Meaning) (ns : List ℕ) (k : ℕ) → length ns ≤ 12 → k ≤ total ns → Holds m ns k h (replicate (length ns) (no_hints m))
none_held {f} h empty eb er ec m ns k few most =
    let none = none_counted m (length ns) in
    record {
      size = length-replicate (length ns) (no_hints m);
      blocks = λ i p.
          subst (λ b. BlockHolds m (get_or ns i 0) b (get_or (replicate (length ns) (no_hints m)) i (no_hints m))) (sym (ap (λ bs. get_or bs i no_block) eb ∙ get_or-replicate 12 i (record { rows = f; columns = f }) no_block (omega arith)))
          (subst (BlockHolds m (get_or ns i 0) (record { rows = f; columns = f })) (sym (get_or-replicate (length ns) i (no_hints m) (no_hints m) p)) (record { rows = holds; columns = holds; fit = tt }));
      rows = er ∙ sym none.0;
      columns = ec ∙ sym none.1;
      budget = omega (arith, most, none.0, none.1);
    }
  where
    holds : FormHolds m f []
    holds = record { form = (empty m).0; size = ap length (empty m).1; from = subst (AllByRecursion (AmongRows (ops m) 8 [])) (sym (empty m).1) tt; back = tt }
