-- The splitting with a full part of least weight.
--
--   Way F                   the places of the pivots of the column hints, and a map that takes from an element what the row hints span
--   Reduces o T rows        T is linear, takes off only what the rows span, and all of it
--   Leads o n w g           the column hints of g are reduced with these pivots, and the map takes off what the row hints span
--   least o w g e           the column part has what e has at the pivots; of the rest the row part is what the map takes off, and the full part
--                           what it leaves
use Rattle.std.proofs.Common.{◌≡◌, ℕ, ◌≤◌, Bool, List, [], ◌∷◌, map, length, sym, refl, ap, ◌∙◌, arith}
use Rattle.std.proofs.lemmas.List.{length-map}
use Rattle.std.specs.List.{AllByRecursion}
use Rattle.fields.specs.Field.{Ops, Laws, Fixed, plus}
use Rattle.fields.specs.Basics.{ring}
use Rattle.skew.proofs.Evaluation
use Rattle.skew.proofs.Sums
use Rattle.skew.proofs.Sums.{cons_path}
use Rattle.ranks.specs.Ranks.{pick, Spanned, IsRank, Weighs}
use Rattle.ranks.specs.Reduction.{mix, Reduced}
use Rattle.ranks.specs.RowSteps.{clear}
use Rattle.ranks.proofs.Bases
use Rattle.ranks.proofs.Spans
use Rattle.ranks.proofs.Picks
use Rattle.ranks.proofs.Mixing
use Rattle.ranks.proofs.ClearedRow
use Rattle.hints.specs.Splittings.{Given, Parts, Splits, Splitting, full_part}
use Rattle.hints.specs.Least.{LeastParts, Lightest}
use Rattle.hints.proofs.Clears

pub record Way (F : Type 0) : Type 0 where
  pub pivots : List Bool
  pub reduce : F → F

pub record Reduces {F : Type 0} (o : Ops F) (T : F → F) (rows : List F) : Type 0 where
  pub adds : (x y : F) → T (o.add x y) ≡ o.add (T x) (T y)
  pub scales : (d x : F) → Fixed o d → T (o.mul d x) ≡ o.mul d (T x)
  pub off : (x : F) → Spanned o rows (o.add x (o.neg (T x)))
  pub kills : (x : F) → Spanned o rows x → T x ≡ o.zero

pub record Leads {F : Type 0} (o : Ops F) (n : ℕ) (w : Way F) (g : Given F) : Type 0 where
  pub reduced : Reduced o n w.pivots g.columns
  pub reduces : Reduces o w.reduce g.rows

module _ {F : Type 0} (o : Ops F) where
  abbrev pub least : Way F → Given F → List F → Parts F
  least w g e =
      let left : List F = clear o w.pivots g.columns e in
      record {
        full = map w.reduce left;
        row = map (λ x. o.add x (o.neg (w.reduce x))) left;
        column = mix o (length e) g.columns (pick w.pivots e);
      }

module _ {F : Type 0} {o : Ops F} (l : Laws o) where
  open o use {add as ◌+◌, neg}

  infixl 65 ◌+◌
  -- What a map leaves and what it takes off make the whole.
  back_together : (T : F → F) (v : List F) → plus o (map T v) (map (λ x. x + neg (T x)) v) ≡ v
  back_together T [] = refl
  back_together T (x ∷ v) = cons_path (gather (T x)) (back_together T v)
    where
      gather : (y : F) → y + (x + neg y) ≡ x
      gather y = simp (ring, l)

  -- What is taken off is spanned.
  all_off : (T : F → F) (rows v : List F) → ((x : F) → Spanned o rows (x + neg (T x))) → AllByRecursion (Spanned o rows) (map (λ x. x + neg (T x)) v)
  all_off T rows [] h = tt
  all_off T rows (x ∷ v) h = (h x, all_off T rows v h)

  -- In a block it is a splitting, and no other has a full part of smaller rank.
  pub least_block : (n : ℕ) (w : Way F) (g : Given F) (e : List F) → length e ≡ n → Leads o n w g → LeastParts o g e (least o w g e)
  least_block n w g e len lead = record {
    splits = record { sum = adds; full_size = full_long; row_size = row_long; rows = all_off w.reduce g.rows left lead.reduces.off; columns = (pick w.pivots e, picked, refl) };
    least = lighter;
  }
    where
      L : Evaluation.Linear l w.reduce
      L = (lead.reduces.adds, lead.reduces.scales)

      taken : List F
      taken = mix o (length e) g.columns (pick w.pivots e)

      left : List F
      left = clear o w.pivots g.columns e

      picked : length (pick w.pivots e) ≡ length g.columns
      picked = Picks.length_pick w.pivots e (len ∙ sym lead.reduced.size) ∙ lead.reduced.full

      left_long : length (clear o w.pivots g.columns e) ≡ length e
      left_long = ClearedRow.length_clear l w.pivots g.columns e

      full_long : length (map w.reduce (clear o w.pivots g.columns e)) ≡ length e
      full_long = length-map left w.reduce ∙ left_long

      row_long : length (map (λ x. x + neg (w.reduce x)) (clear o w.pivots g.columns e)) ≡ length e
      row_long = length-map left (λ x. x + neg (w.reduce x)) ∙ left_long

      adds : e ≡ plus o (map w.reduce left) (plus o (map (λ x. x + neg (w.reduce x)) left) taken)
      adds =
          sym (sym (Sums.plus_assoc l (map w.reduce left) (map (λ x. x + neg (w.reduce x)) left) taken) ∙ ap (λ v. plus o v taken) (back_together w.reduce left)
          ∙ ClearedRow.back_on l e taken (sym (Mixing.length_mix l (length e) g.columns (pick w.pivots e))))

      lighter : (p : Parts F) (r s : ℕ) → Splits o g e p → IsRank o (map w.reduce (clear o w.pivots g.columns e)) r → IsRank o p.full s → r ≤ s
      lighter p r s P R S =
          let E = Bases.rank_spans l p.full s S in
          let all = Clears.left_over l w.reduce L n w.pivots g e p E.0 len lead.reduced lead.reduces.kills P E.2 in
          let few = Bases.exchange l (pick R.0.0 (map w.reduce left)) (map w.reduce E.0) R.0.1 (Spans.all_pick l (Spanned o (map w.reduce E.0)) R.0.0 (map w.reduce left) all) in
          omega (arith, few, R.0.2, E.1, length-map E.0 w.reduce)

  -- Least parts in every block are a splitting.
  pub lightest_splits : (gs : List (Given F)) (es : List (List F)) (ps : List (Parts F)) → Lightest o gs es ps → Splitting o gs es ps
  lightest_splits [] [] [] h = tt
  lightest_splits [] [] (p ∷ ps) h = absurd h
  lightest_splits [] (e ∷ es) ps h = absurd h
  lightest_splits (g ∷ gs) [] ps h = absurd h
  lightest_splits (g ∷ gs) (e ∷ es) [] h = absurd h
  lightest_splits (g ∷ gs) (e ∷ es) (p ∷ ps) h = (h.0.splits, lightest_splits gs es ps h.1)

  -- No other has a full part of less weight.
  pub lightest_weighs : (gs : List (Given F)) (es : List (List F)) (ps qs : List (Parts F)) (t u : ℕ)
      → Lightest o gs es ps → Weighs o (full_part ps) t → Splitting o gs es qs → Weighs o (full_part qs) u → t ≤ u
  lightest_weighs [] [] [] qs t u h T Q U = omega (arith, T)
  lightest_weighs [] [] (p ∷ ps) qs t u h T Q U = absurd h
  lightest_weighs [] (e ∷ es) ps qs t u h T Q U = absurd h
  lightest_weighs (g ∷ gs) [] ps qs t u h T Q U = absurd h
  lightest_weighs (g ∷ gs) (e ∷ es) [] qs t u h T Q U = absurd h
  lightest_weighs (g ∷ gs) (e ∷ es) (p ∷ ps) [] t u h T Q U = absurd Q
  lightest_weighs (g ∷ gs) (e ∷ es) (p ∷ ps) (q ∷ qs) t u h T Q U =
      omega (arith, T.4, U.4, h.0.least q T.0 U.0 Q.0 T.1 U.1, lightest_weighs gs es ps qs T.2 U.2 h.1 T.3 Q.1 U.3)
