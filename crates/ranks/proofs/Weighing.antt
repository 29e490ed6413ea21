-- The weight of a word, block after block; ranks and weights exist and are one.
--
--   Weighing m ns w i rest sum    the first i blocks weigh `sum`, and `rest` stands behind them
use Rattle.std.proofs.Common.{◌≡◌, ℕ, suc, ◌+◌, ◌<◌, ◌≤◌, Bool, true, false, List, [], ◌∷◌, map, length, get_or, take, drop, sym, refl, ap, ◌∙◌, subst, add_assoc, add-one, arith, length-drop, length-take-le, drop-cons}
use Rattle.std.proofs.lemmas.List.{length-map}
use Rattle.std.proofs.lemmas.List.{drop_all}
use Rattle.fields.specs.Field.{Ops, Laws}
use Rattle.fields.specs.Meaning.{Meaning}
use Rattle.fields.specs.Elements.{elem, elems, ops}
use Rattle.ranks.specs.Ranks.{pick, IsRank, Weighs, Ranked, total, cut}
use Rattle.ranks.proofs.Bases

-- No more is picked than there is.
pub pick_few : {A : Type 0} (marks : List Bool) (xs : List A) → length (pick marks xs) ≤ length xs
pick_few [] xs = omega arith
pick_few (b ∷ marks) [] = omega arith
pick_few (true ∷ marks) (x ∷ xs) = omega (arith, pick_few marks xs)
pick_few (false ∷ marks) (x ∷ xs) = omega (arith, pick_few marks xs)

pub record Weighing (m : Meaning) (ns w : List ℕ) (i : ℕ) (rest : List ℕ) (sum : ℕ) : Type 0 where
  pub balance : total ns + length rest ≡ length w + total (drop i ns)
  pub few : sum + length rest ≤ length w
  pub ahead : (u : ℕ) → Weighs (ops m) (map (elems m) (cut (drop i ns) rest)) u → Weighs (ops m) (map (elems m) (cut ns w)) (sum + u)

module _ (m : Meaning) where
  -- The rank of a block is at most its length.
  rank_few : (xs : List ℕ) (r : ℕ) → IsRank (ops m) (elems m xs) r → r ≤ length xs
  rank_few xs r k = omega (arith, k.0.2, pick_few k.0.0 (elems m xs), length-map xs (elem m))

  -- One block more.
  pub weighing_goes_on : (ns : List ℕ) {w : List ℕ} {i : ℕ} {rest : List ℕ} {sum : ℕ} (r : ℕ) (block behind : List ℕ) → i < length ns → get_or ns i 0 ≤ length rest
      → block ≡ take (get_or ns i 0) rest → behind ≡ drop (get_or ns i 0) rest → IsRank (ops m) (elems m block) r
      → Weighing m ns w i rest sum → Weighing m ns w (i + 1) behind (sum + r)
  weighing_goes_on ns {w} {i} {rest} {sum} r block behind lt le eb er k v = record {
    balance = omega (arith, v.balance, ap total split, ap total (sym later), ap length er, length-drop (get_or ns i 0) rest, le);
    few = omega (arith, v.few, rank_few block r k, ap length eb, length-take-le (get_or ns i 0) rest le, ap length er, length-drop (get_or ns i 0) rest);
    ahead = λ u s. subst (Weighs (ops m) (map (elems m) (cut ns w))) (sym (add_assoc sum r u)) (v.ahead (r + u) (subst (λ ps. Weighs (ops m) (map (elems m) ps) (r + u)) (sym cuts)
        (r, subst (λ b. IsRank (ops m) (elems m b) r) eb k, u, subst (λ ls. Weighs (ops m) (map (elems m) (cut ls behind)) u) later s, refl)));
  }
    where
      split : drop i ns ≡ get_or ns i 0 ∷ drop (suc i) ns
      split = drop-cons ns i 0 lt

      later : drop (i + 1) ns ≡ drop (suc i) ns
      later = ap (λ j. drop j ns) (add-one i)

      cuts : cut (drop i ns) rest ≡ take (get_or ns i 0) rest ∷ cut (drop (suc i) ns) behind
      cuts = ap (λ ls. cut ls rest) split ∙ ap (λ y. take (get_or ns i 0) rest ∷ cut (drop (suc i) ns) y) (sym er)

  -- After the last block.
  pub weighing_all : (ns : List ℕ) {w : List ℕ} {i : ℕ} {rest : List ℕ} {sum : ℕ} → length ns ≤ i → Weighing m ns w i rest sum → total ns + length rest ≡ length w
  weighing_all ns {w} {i} le v = v.balance ∙ ap (λ ls. length w + total ls) (drop_all i ns le) ∙ omega arith

  -- The whole word was weighed.
  pub weighing_ends : (ns w : List ℕ) {i : ℕ} {rest : List ℕ} {sum : ℕ} → length ns ≤ i → Weighing m ns w i rest sum → Weighs (ops m) (map (elems m) (cut ns w)) sum
  weighing_ends ns w {i} {rest} {sum} le v =
      subst (Weighs (ops m) (map (elems m) (cut ns w))) (let e : sum + 0 ≡ sum = omega arith in e)
      (v.ahead 0 (subst (λ ls. Weighs (ops m) (map (elems m) (cut ls rest)) 0) (sym (drop_all i ns le)) refl))

module _ {F : Type 0} {o : Ops F} (l : Laws o) where
  -- Each word has a weight.
  weight_exists : (word : List (List F)) → (t : ℕ) × Weighs o word t
  weight_exists [] = (0, refl)
  weight_exists (xs ∷ word) =
      let r = Bases.rank_exists l xs in
      let u = weight_exists word in
      (r.0 + u.0, (r.0, r.1, u.0, u.1, refl))

  -- And only one.
  weight_unique : (word : List (List F)) (t u : ℕ) → Weighs o word t → Weighs o word u → t ≡ u
  weight_unique [] t u v w = v ∙ sym w
  weight_unique (xs ∷ word) t u v w =
      omega (arith, v.4, w.4, Bases.rank_unique l xs v.0 w.0 v.1 w.1, weight_unique word v.2 w.2 v.3 w.3)

  -- So have lists and words.
  pub ranked : Ranked o
  ranked = record { rank = Bases.rank_exists l; one_rank = Bases.rank_unique l; weight = weight_exists; one_weight = weight_unique }
