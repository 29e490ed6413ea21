-- What every list of calls keeps: the code is lawful, a word that is held is as long as its code, and its hints are independent in every
-- block.
--
--   Kept m c w gs    so it is of a code, a word and hints
--   Keeps m s         so it is of where a station stands
use Rattle.std.proofs.Common.{◌≡◌, ℕ, suc, ◌+◌, ◌-◌, ◌<◌, List, ◌∷◌, length, get_or, set, Result, Ok, Err, sym, refl, ◌∙◌, subst, arith, length-set, get_or-set_other, get_or-set_same}
use Rattle.std.proofs.Math.Decide
use Rattle.std.proofs.Math.Decide.{ℕ_discrete}
use Rattle.std.proofs.lemmas.List.{length-map, length-replicate, get_or-replicate}
use Rattle.fields.specs.Field as field
use Rattle.fields.specs.Meaning.{Meaning, Laws}
use Rattle.fields.specs.Elements.{Elem, elem, elems, ops}
use Rattle.fields.proofs.Carrier
use Rattle.sheets.specs.declared.faults.Fault.{Fault}
use Rattle.sheets.specs.declared.faults.Reason.{Reason}
use Rattle.sheets.specs.declared.faults.Reason.TheVariants.{NoSymbol}
use Rattle.ranks.specs.Ranks.{Spanned}
use Rattle.ranks.specs.Reduction.{AmongRows}
use Rattle.ranks.proofs.Bases
use Rattle.codes.specs.declared.shape.Code.{Code}
use Rattle.codes.specs.Holdings.{held as numbers}
use Rattle.codes.specs.Codes.{LawfulCode}
use Rattle.codes.specs.Fitness.{First, AllNot}
use Rattle.hints.specs.Splittings.{Given, IndependentHints}
use Rattle.hints.specs.Holdings.{no_hints}
use Rattle.hints.specs.Taking.{There, Unfixed, block_of, with_row, with_column}
use Rattle.hints.proofs.Judging.{all_fixed}
use Rattle.station.specs.Calls.{
  Command,
  set_up,
  load,
  row,
  column,
  decode,
  clear,
  tally,
  read,
  Reply,
  done,
  counted,
  handed,
  at_station,
}
use Rattle.station.specs.Tables.{where_so, Silent, Accepts}
use Rattle.station.specs.Positions.{Standing, bare, ready, held, solved, Tallied, Position, size_of, blocks_of, at, unhinted}
use Rattle.station.specs.Refusals.{NoSymbolIn, input, rows_of}
use Rattle.station.specs.Rules.{Acts, Answered}
use Rattle.station.specs.Histories.{History, no_call, call}
use Rattle.station.specs.Promises.{Waits}
use Rattle.station.proofs.FreshRows.{free_none, free_more}

pub record Kept (m : Meaning) (c : Code) (w : List ℕ) (gs : List (Given (Elem m))) : Type 0 where
  pub lawful : LawfulCode m c
  pub long : length w ≡ size_of c
  pub many : length gs ≡ blocks_of c
  pub free : (i : ℕ) → i < blocks_of c → IndependentHints (ops m) (get_or (numbers c.lengths) i 0) (get_or gs i (no_hints m))

abbrev Keeps : (m : Meaning) → Standing m → Type 0
Keeps m bare = Unit {0}
Keeps m (ready c) = LawfulCode m c
Keeps m (held c w gs) = Kept m c w gs
Keeps m (solved c gs r) = LawfulCode m c

-- Where a row of a table is silent, its condition does not hold.
pub silent : {P : Type 0} {reason : Reason} {place : ℕ} → Silent (where_so P reason place) → ¬ P
silent {P} {reason} {place} h p = h (at_station reason place) (p, refl)

-- What can be told holds where it does not fail to hold.
told : {P : Type 0} → Dec P → ¬ ¬ P → P
told (yes p) n = p
told (no k) n = absurd (n k)

-- An input that no row refuses is as long as it has to be.
exact_length : (x : List ℕ) (n : ℕ) → Silent (input x n) → length x ≡ n
exact_length x n h = told (ℕ_discrete (length x) n) (silent h)

-- A block that no row refuses is there.
block_there : (ns : List ℕ) (b : ℕ) → ¬ ¬ There ns b → There ns b
block_there ns b h = (told (Decide.dec_le 1 b) (λ k. h (λ t. k t.0)), told (Decide.dec_le b (length ns)) (λ k. h (λ t. k t.1)))

-- Where there is no first bad symbol there is none.
none_bad : (P : ℕ → Type 0) (xs : List ℕ) → ((i : ℕ) → ¬ First P xs i) → (n j : ℕ) → j < n → j < length xs → ¬ P (get_or xs j 0)
none_bad P xs h ℕ.zero j below within p = absurd (omega arith)
none_bad P xs h (suc n) j below within p = h j (record { within = within; here = p; before = λ k less q. none_bad P xs h n k (omega arith) (omega arith) q })

-- Symbols that no row refuses are not bad.
no_bad : {P : ℕ → Type 0} {xs : List ℕ} → Silent (NoSymbolIn P xs) → AllNot P xs
no_bad {P} {xs} h j within = none_bad P xs (λ i f. h (at_station NoSymbol i) (record { place = i; first = f; fault = refl })) (suc j) j (omega arith) within

module _ {m : Meaning} (l : Laws m) where
  -- The laws of the elements.
  laws : field.Laws (ops m)
  laws = Carrier.ops_laws l

  -- A word without hints.
  kept_unhinted : {c : Code} {w : List ℕ} → LawfulCode m c → length w ≡ size_of c → Kept m c w (unhinted m c)
  kept_unhinted {c} {w} law long = record {
    lawful = law;
    long = long;
    many = length-replicate (blocks_of c) (no_hints m);
    free = λ i k.
        subst (IndependentHints (ops m) (get_or (numbers c.lengths) i 0)) (sym (get_or-replicate (blocks_of c) i (no_hints m) (no_hints m) k))
        (record { rows = Bases.ind_nil laws; fit = tt; columns = free_none laws (get_or (numbers c.lengths) i 0) });
  }

  module _ {c : Code} {w : List ℕ} {gs : List (Given (Elem m))} (k : Kept m c w gs) where
    -- Other hints in one block.
    kept_set : (i : ℕ) (g : Given (Elem m)) → i < blocks_of c → IndependentHints (ops m) (get_or (numbers c.lengths) i 0) g → Kept m c w (set gs i g)
    kept_set i g within new = record {
      lawful = k.lawful;
      long = k.long;
      many = length-set gs i g ∙ k.many;
      free = λ j below. elim (ℕ_discrete j i) [
        | yes e ↦ subst (λ p. IndependentHints (ops m) (get_or (numbers c.lengths) p 0) (get_or (set gs i g) p (no_hints m))) (sym e)
            (subst (IndependentHints (ops m) (get_or (numbers c.lengths) i 0)) (sym (get_or-set_same gs i g (no_hints m) (omega (arith, k.many)))) new)
        | no n ↦ subst (IndependentHints (ops m) (get_or (numbers c.lengths) j 0)) (sym (get_or-set_other gs i j g (no_hints m) n)) (k.free j below)
      ];
    }

    module _ {b : ℕ} (there : There (numbers c.lengths) b) where
      -- Blocks count from 1.
      low : b - 1 < blocks_of c
      low = omega (arith, there.0, there.1)

      -- What is known of the block.
      block : IndependentHints (ops m) (get_or (numbers c.lengths) (b - 1) 0) (block_of m gs b)
      block = k.free (b - 1) low

      -- One row hint more.
      kept_row : (x : ℕ) → ¬ Spanned (ops m) (block_of m gs b).rows (elem m x) → Kept m c w (with_row m gs b x)
      kept_row x new =
          kept_set (b - 1) (record { rows = elem m x ∷ (block_of m gs b).rows; columns = (block_of m gs b).columns }) low
          (record { rows = Bases.ind_more laws (elem m x) (block_of m gs b).rows block.rows new; fit = block.fit; columns = block.columns })

      -- One column hint more.
      kept_column : (h : List ℕ) → length h ≡ get_or (numbers c.lengths) (b - 1) 0 → AllNot (Unfixed m) h
          → ¬ AmongRows (ops m) (get_or (numbers c.lengths) (b - 1) 0) (block_of m gs b).columns (elems m h) → Kept m c w (with_column m gs b h)
      kept_column h long fixed new =
          kept_set (b - 1) (record { rows = (block_of m gs b).rows; columns = elems m h ∷ (block_of m gs b).columns }) low
          (record {
            rows = block.rows;
            fit = ((length-map h (elem m) ∙ long, all_fixed l h fixed), block.fit);
            columns = free_more laws (get_or (numbers c.lengths) (b - 1) 0) (elems m h) (block_of m gs b).columns (length-map h (elem m) ∙ long) block.columns new;
          })

  -- So it is where a call leads.
  goes : {s : Standing m} {q : Position m} (t : Tallied) → q ≡ at m s t → Keeps m s → Keeps m q.standing
  goes t e k = subst (λ p. Keeps m p.standing) (sym e) k

  -- A call that is not refused.
  acts_keep : (c : Command) (s : Standing m) (t : Tallied) (r : Reply) (q : Position m) → Accepts (rows_of m (at m s t) c) → Acts m c s t r q → Keeps m s → Keeps m q.standing
  acts_keep (set_up x) bare t done q n a k = goes t a.4 a.3.lawful
  acts_keep (load w) (ready c) t done q n a k = goes t a (kept_unhinted k (exact_length w (size_of c) n.1.0))
  acts_keep (row b x) (held c w gs) t done q n a k = goes t a (kept_row k (block_there (numbers c.lengths) b (silent n.1.0)) x (silent n.1.1.1.0))
  acts_keep (column b h) (held c w gs) t done q n a k =
      goes t a (kept_column k (block_there (numbers c.lengths) b (silent n.1.0)) h (exact_length h (get_or (numbers c.lengths) (b - 1) 0) n.1.1.0) (no_bad n.1.1.1.0) (silent n.1.1.1.1.0))
  acts_keep decode (held c w gs) t done q n a k = goes (record { words = t.words + 1; errors = t.errors + a.0.errors }) a.2 k.lawful
  acts_keep clear (held c w gs) t done q n a k = goes t a k.lawful
  acts_keep clear (solved c gs r) t done q n a k = goes t a k
  acts_keep (read i room) (solved c gs r) t (handed xs f x y) q n a k = goes t a.4 k
  acts_keep tally s t (counted words errors) q n a k = goes t a.2 k
  acts_keep c s t r q n a k = goes t a.1 k

  -- Each call.
  answer_keeps : (p q : Position m) (c : Command) (a : Result Reply Fault) → Answered m p c a q → Keeps m p.standing → Keeps m q.standing
  answer_keeps p q c (Ok r) h k = acts_keep c p.standing p.tally r q h.0 h.1 k
  answer_keeps p q c (Err e) h k = subst (λ p. Keeps m p.standing) (sym h.1) k

  -- Every list of calls.
  history_keeps : {p q : Position m} {cs : List Command} {rs : List (Result Reply Fault)} → History m p cs rs q → Keeps m p.standing → Keeps m q.standing
  history_keeps no_call k = k
  history_keeps (call {p = p} {q = q} {c = c} {a = a} h rest) k = history_keeps rest (answer_keeps p q c a h k)

  -- So it is of a word that calls lead to.
  pub waits_kept : {c : Code} {w : List ℕ} {gs : List (Given (Elem m))} {t : Tallied} → Waits m c w gs t → Kept m c w gs
  waits_kept h = history_keeps h.reached.2 tt
