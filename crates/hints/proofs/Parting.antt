-- The parts of a difference, block after block.
--
--   Parted m ns gs d i at p     p has the parts of the first i blocks, which end at the place `at`: lightest parts of the other blocks behind them
--                               make lightest parts of all
--   PartedAt m ns gs d i rest p so it is where what stands behind the first i blocks is `rest`
use Rattle.std.proofs.Common.{◌≡◌, ℕ, suc, ◌+◌, ◌<◌, ◌≤◌, List, [], ◌∷◌, ◌++◌, length, get_or, take, drop, sym, refl, ap, ◌∙◌, subst, add_assoc, add-one, arith, length-drop, drop-cons}
use Rattle.std.proofs.lemmas.List.{length-map, append-nil, append_assoc, take-map, drop_all, drop-drop, drop-map, length-take-le}
use Rattle.std.specs.List.{AllByRecursion}
use Rattle.fields.specs.Field as field
use Rattle.fields.specs.Meaning.{Meaning, Laws}
use Rattle.fields.specs.Elements.{Elem, elem, elems, ops}
use Rattle.fields.proofs.Carrier
use Rattle.skew.specs.Polynomials.{Codes}
use Rattle.ranks.specs.Ranks.{total, cut}
use Rattle.ranks.proofs.Mixing
use Rattle.codes.specs.Holdings.{held}
use Rattle.hints.specs.declared.parts.Parts.{Parts as PartsCodes}
use Rattle.hints.specs.declared.holder.Hints.{Hints}
use Rattle.hints.specs.declared.block.BlockHints.{BlockHints}
use Rattle.hints.specs.Splittings.{Given, Parts}
use Rattle.hints.specs.Holdings.{BlockHolds, Holds, no_block, no_hints}
use Rattle.hints.specs.Least.{LeastParts, Lightest}
use Rattle.hints.specs.Outcomes.{parts_from, parts_of, BlockSplit, Divided, LeastAnswer}
use Rattle.hints.proofs.Leasts
use Rattle.hints.proofs.HeldCodes
use Rattle.hints.proofs.HeldCodes.{Held}
use Rattle.hints.proofs.FrontBlock.{front_block}

pub record Parted (m : Meaning) (ns : List ℕ) (gs : List (Given (Elem m))) (d : List ℕ) (i at : ℕ) (p : PartsCodes) : Type 0 where
  pub ends : at + total (drop i ns) ≡ length d
  pub so_far : Parts (Elem m)
  pub full : Held m so_far.full at (held p.full)
  pub row : Held m so_far.row at (held p.row)
  pub column : Held m so_far.column at (held p.column)
  pub rest : (f r c : List (Elem m)) → Lightest (ops m) (drop i gs) (cut (drop i ns) (drop at (elems m d))) (parts_from (drop i ns) f r c)
      → Lightest (ops m) gs (cut ns (elems m d)) (parts_from ns (so_far.full ++ f) (so_far.row ++ r) (so_far.column ++ c))

-- So it is where what stands behind the first i blocks is `rest`.
pub record PartedAt (m : Meaning) (ns : List ℕ) (gs : List (Given (Elem m))) (d : List ℕ) (i : ℕ) (rest : List ℕ) (p : PartsCodes) : Type 0 where
  pub at : ℕ
  pub behind : rest ≡ drop at d
  pub parted : Parted m ns gs d i at p

-- What is at a place, where it holds of all.
pub all_at : (P : ℕ → Type 0) (ns : List ℕ) (i : ℕ) → i < length ns → AllByRecursion P ns → P (get_or ns i 0)
all_at P [] i lt k = absurd (omega arith)
all_at P (n ∷ ns) ℕ.zero lt k = k.0
all_at P (n ∷ ns) (suc i) lt k = all_at P ns i (omega arith) k.1

module _ {m : Meaning} (l : Laws m) where
  -- The laws of the elements.
  abbrev laws : field.Laws (ops m)
  laws = Carrier.ops_laws l

  -- No block yet.
  parted_starts : {ns : List ℕ} {gs : List (Given (Elem m))} {d : List ℕ} {p : PartsCodes} → held p.full ≡ [] → held p.row ≡ [] → held p.column ≡ [] → Divided ns d → Parted m ns gs d 0 0 p
  parted_starts ef er ec v = record {
    ends = omega (arith, v.sum);
    so_far = record { full = []; row = []; column = [] };
    full = record { is = ef; size = refl };
    row = record { is = er; size = refl };
    column = record { is = ec; size = refl };
    rest = λ f r c k. k;
  }

  -- The place where block i ends.
  parted_room : {ns : List ℕ} {gs : List (Given (Elem m))} {d : List ℕ} {i at : ℕ} {p : PartsCodes} → i < length ns → Parted m ns gs d i at p → at + get_or ns i 0 + total (drop (i + 1) ns) ≡ length d
  parted_room {ns} {gs} {d} {i} {at} lt k =
      ap (λ j. at + get_or ns i 0 + total (drop j ns)) (add-one i) ∙ add_assoc at (get_or ns i 0) (total (drop (suc i) ns)) ∙ ap (λ t. at + t) (sym (ap total (drop-cons ns i 0 lt))) ∙ k.ends

  -- One block more, by its parts.
  parted_block : {ns : List ℕ} {gs : List (Given (Elem m))} {d : List ℕ} {i at : ℕ} {p q : PartsCodes} {n : ℕ} {e : List ℕ} → Divided ns d → length gs ≡ length ns → i < length ns → n ≡ get_or ns i 0 → e ≡ take n (drop at d)
      → BlockSplit m e (get_or gs i (no_hints m)) p q → Parted m ns gs d i at p → Parted m ns gs d (i + 1) (at + n) q
  parted_block {ns} {gs} {d} {i} {at} {p} {q} {n} {e} v eg lt en ee s k = record {
    ends = ap (λ j. at + j + total (drop (i + 1) ns)) en ∙ room;
    so_far = record { full = k.so_far.full ++ s.parts.full; row = k.so_far.row ++ s.parts.row; column = k.so_far.column ++ s.parts.column };
    full = HeldCodes.held_more l k.so_far.full s.parts.full k.full full_size fits s.full;
    row = HeldCodes.held_more l k.so_far.row s.parts.row k.row row_size fits s.row;
    column = HeldCodes.held_more l k.so_far.column s.parts.column k.column column_size fits s.column;
    rest = λ f r c h.
        subst (λ ws. Lightest (ops m) gs (cut ns (elems m d)) ws) (sym (joined f r c))
        (k.rest (s.parts.full ++ f) (s.parts.row ++ r) (s.parts.column ++ c) (here f r c h));
  }
    where
      room : at + get_or ns i 0 + total (drop (i + 1) ns) ≡ length d
      room = parted_room lt k

      fits : at + n ≤ 24
      fits = omega (arith, room, en, v.room)

      e_size : length (elems m e) ≡ n
      e_size = length-map e (elem m) ∙ ap length ee ∙ length-take-le n (drop at d) (omega (arith, length-drop at d, room, en))

      full_size : length s.parts.full ≡ n
      full_size = s.least.splits.full_size ∙ e_size

      row_size : length s.parts.row ≡ n
      row_size = s.least.splits.row_size ∙ e_size

      column_size : length s.parts.column ≡ n
      column_size = ap length s.least.splits.columns.2 ∙ Mixing.length_mix laws (length (elems m e)) (get_or gs i (no_hints m)).columns s.least.splits.columns.0 ∙ e_size

      hints_split : drop i gs ≡ get_or gs i (no_hints m) ∷ drop (suc i) gs
      hints_split = drop-cons gs i (no_hints m) (omega arith)

      lengths_split : drop i ns ≡ n ∷ drop (suc i) ns
      lengths_split = drop-cons ns i 0 lt ∙ ap (λ j. j ∷ drop (suc i) ns) (sym en)

      block_is : take n (drop at (elems m d)) ≡ elems m e
      block_is = ap (take n) (drop-map (elem m) at d) ∙ take-map (elem m) n (drop at d) ∙ ap (elems m) (sym ee)

      joined : (f r c : List (Elem m)) → parts_from ns (k.so_far.full ++ s.parts.full ++ f) (k.so_far.row ++ s.parts.row ++ r) (k.so_far.column ++ s.parts.column ++ c)
          ≡ parts_from ns (k.so_far.full ++ (s.parts.full ++ f)) (k.so_far.row ++ (s.parts.row ++ r)) (k.so_far.column ++ (s.parts.column ++ c))
      joined f r c =
          ap (λ w. parts_from ns w (k.so_far.row ++ s.parts.row ++ r) (k.so_far.column ++ s.parts.column ++ c)) (append_assoc k.so_far.full s.parts.full f)
          ∙ ap (λ w. parts_from ns (k.so_far.full ++ (s.parts.full ++ f)) w (k.so_far.column ++ s.parts.column ++ c)) (append_assoc k.so_far.row s.parts.row r)
          ∙ ap (λ w. parts_from ns (k.so_far.full ++ (s.parts.full ++ f)) (k.so_far.row ++ (s.parts.row ++ r)) w) (append_assoc k.so_far.column s.parts.column c)

      here : (f r c : List (Elem m)) → Lightest (ops m) (drop (i + 1) gs) (cut (drop (i + 1) ns) (drop (at + n) (elems m d))) (parts_from (drop (i + 1) ns) f r c)
          → Lightest (ops m) (drop i gs) (cut (drop i ns) (drop at (elems m d))) (parts_from (drop i ns) (s.parts.full ++ f) (s.parts.row ++ r) (s.parts.column ++ c))
      here f r c h =
          subst (λ hs. Lightest (ops m) hs (cut (drop i ns) (drop at (elems m d))) (parts_from (drop i ns) (s.parts.full ++ f) (s.parts.row ++ r) (s.parts.column ++ c))) (sym hints_split)
          (subst (λ ms. Lightest (ops m) (get_or gs i (no_hints m) ∷ drop (suc i) gs) (cut ms (drop at (elems m d))) (parts_from ms (s.parts.full ++ f) (s.parts.row ++ r) (s.parts.column ++ c))) (sym lengths_split)
          (front_block (get_or gs i (no_hints m)) (drop (suc i) gs) n (drop (suc i) ns) (drop at (elems m d)) s.parts f r c full_size row_size column_size
          (subst (λ w. LeastParts (ops m) (get_or gs i (no_hints m)) w s.parts) (sym block_is) s.least)
          (subst (λ w. Lightest (ops m) (drop (suc i) gs) (cut (drop (suc i) ns) w) (parts_from (drop (suc i) ns) f r c)) (sym (drop-drop n at (elems m d)))
          (subst (λ j. Lightest (ops m) (drop j gs) (cut (drop j ns) (drop (at + n) (elems m d))) (parts_from (drop j ns) f r c)) (add-one i) h))))

  -- One block more.
  parted_goes_on : {ns : List ℕ} {k : ℕ} {h : Hints} {gs : List (Given (Elem m))} {d : List ℕ} {i at : ℕ} {p q : PartsCodes} {n : ℕ} {e : List ℕ} → Holds m ns k h gs → Divided ns d → i < length ns → n ≡ get_or ns i 0
      → e ≡ take n (drop at d) → ((g : Given (Elem m)) → BlockHolds m (length e) (get_or h.blocks i no_block) g → BlockSplit m e g p q) → Parted m ns gs d i at p → Parted m ns gs d (i + 1) (at + n) q
  parted_goes_on {ns} {k} {h} {gs} {d} {i} {at} {p} {q} {n} {e} holds v lt en ee split w =
      parted_block v holds.size lt en ee (split (get_or gs i (no_hints m)) (subst (λ j. BlockHolds m j (get_or h.blocks i no_block) (get_or gs i (no_hints m))) (sym long) (holds.blocks i lt))) w
    where
      long : length e ≡ get_or ns i 0
      long = ap length ee ∙ length-take-le n (drop at d) (omega (arith, length-drop at d, parted_room lt w, en)) ∙ en

  -- After the last block.
  pub parted_ends : {ns : List ℕ} {gs : List (Given (Elem m))} {d : List ℕ} {i at : ℕ} {p : PartsCodes} → length gs ≡ length ns → length ns ≤ i → Parted m ns gs d i at p → LeastAnswer m ns gs d p
  parted_ends {ns} {gs} {d} {i} {at} {p} eg le k = record {
    full_codes = F.0;
    row_codes = R.0;
    column_codes = C.0;
    full_size = F.1 ∙ all;
    row_size = R.1 ∙ all;
    column_size = C.1 ∙ all;
    splitting = Leasts.lightest_splits laws gs (cut ns (elems m d)) (parts_of m ns p) lightest;
    least = λ qs t u T Q U. Leasts.lightest_weighs laws gs (cut ns (elems m d)) (parts_of m ns p) qs t u lightest T Q U;
  }
    where
      F : (Codes m (held p.full)) × (length (held p.full) ≡ at) × (elems m (held p.full) ≡ k.so_far.full)
      F = HeldCodes.held_codes l k.full

      R : (Codes m (held p.row)) × (length (held p.row) ≡ at) × (elems m (held p.row) ≡ k.so_far.row)
      R = HeldCodes.held_codes l k.row

      C : (Codes m (held p.column)) × (length (held p.column) ≡ at) × (elems m (held p.column) ≡ k.so_far.column)
      C = HeldCodes.held_codes l k.column

      all : at ≡ length d
      all = omega (arith, k.ends, ap total (drop_all i ns le))

      nothing : Lightest (ops m) (drop i gs) (cut (drop i ns) (drop at (elems m d))) (parts_from (drop i ns) [] [] [])
      nothing =
          subst (λ ms. Lightest (ops m) (drop i gs) (cut ms (drop at (elems m d))) (parts_from ms [] [] [])) (sym (drop_all i ns le))
          (subst (λ hs. Lightest (ops m) hs [] []) (sym (drop_all i gs (omega arith))) tt)

      whole : parts_from ns (k.so_far.full ++ []) (k.so_far.row ++ []) (k.so_far.column ++ []) ≡ parts_of m ns p
      whole =
          ap (λ w. parts_from ns w (k.so_far.row ++ []) (k.so_far.column ++ [])) (append-nil k.so_far.full ∙ sym F.2)
          ∙ ap (λ w. parts_from ns (elems m (held p.full)) w (k.so_far.column ++ [])) (append-nil k.so_far.row ∙ sym R.2)
          ∙ ap (λ w. parts_from ns (elems m (held p.full)) (elems m (held p.row)) w) (append-nil k.so_far.column ∙ sym C.2)

      lightest : Lightest (ops m) gs (cut ns (elems m d)) (parts_of m ns p)
      lightest = subst (Lightest (ops m) gs (cut ns (elems m d))) whole (k.rest [] [] [] nothing)

  -- No block yet, of the whole difference.
  pub parted_at_starts : {ns : List ℕ} {gs : List (Given (Elem m))} {d : List ℕ} {p : PartsCodes} → held p.full ≡ [] → held p.row ≡ [] → held p.column ≡ [] → Divided ns d → PartedAt m ns gs d 0 d p
  parted_at_starts ef er ec v = record { at = 0; behind = refl; parted = parted_starts ef er ec v }

  -- What is left has room for block i.
  pub parted_at_room : {ns : List ℕ} {gs : List (Given (Elem m))} {d : List ℕ} {i : ℕ} {rest : List ℕ} {p : PartsCodes} → i < length ns → PartedAt m ns gs d i rest p → get_or ns i 0 ≤ length rest
  parted_at_room {d = d} lt k = omega (arith, parted_room lt k.parted, ap length k.behind, length-drop k.at d)

  -- One block more, from the front of what is left.
  pub parted_at_goes_on : {ns : List ℕ} {k : ℕ} {h : Hints} {gs : List (Given (Elem m))} {d : List ℕ} {i : ℕ} {rest : List ℕ} {p q : PartsCodes} {n : ℕ} {b : BlockHints} (here after : List ℕ)
      → Holds m ns k h gs → Divided ns d → i < length ns → n ≡ get_or ns i 0 → b ≡ get_or h.blocks i no_block → here ≡ take n rest → after ≡ drop n rest
      → ((g : Given (Elem m)) → BlockHolds m (length here) b g → BlockSplit m here g p q) → PartedAt m ns gs d i rest p → PartedAt m ns gs d (i + 1) after q
  parted_at_goes_on {d = d} {p = p} {q = q} {n = n} here after holds v lt en eb eh ea split w = record {
    at = w.at + n;
    behind = ea ∙ ap (drop n) w.behind ∙ drop-drop n w.at d;
    parted = parted_goes_on holds v lt en (eh ∙ ap (take n) w.behind) (subst (λ b. (g : Given (Elem m)) → BlockHolds m (length here) b g → BlockSplit m here g p q) eb split) w.parted;
  }
