-- Words that no codeword of A is in reach of. Without hints the difference of a block of one symbol is full part, so that each wrong
-- symbol there counts; that enough are wrong is one test over all messages.
--
--   hinted marks           blocks of one symbol: where one is marked its symbol is given up
--   cost d                 1 for a symbol other than zero, and 0 for zero
--   missed marks ds        how many symbols without mark are not zero
--   less v                 the word 8 12 2 4 less v
--   word_a f               the codeword of the message f
--   wrong_at k marks x y   for the message x y at least k symbols without mark of the difference are not zero
--   far k marks            so it is for each message, by test
use Rattle.std.proofs.Common.{◌≡◌, ℕ, ◌+◌, ◌*◌, ◌<◌, ◌≤◌, Bool, true, false, cond, T, eqb, leb, List, [], ◌∷◌, map, length, sym, ap, ◌∙◌, subst, subst₂, arith, lit<, leb→le}
use Rattle.fields.specs.Field.{Laws, plus}
use Rattle.fields.specs.Residues.{sum, opposite, product, power}
use Rattle.fields.specs.Elements.{Elem, element, elem, elems, ops}
use Rattle.fields.specs.Shipped.{mod13}
use Rattle.fields.proofs.Carrier
use Rattle.fields.specs.Mod13Laws.{mod13_laws}
use Rattle.fields.specs.Range.{below2, at2}
use Rattle.skew.specs.Annihilators.{places}
use Rattle.skew.specs.Interpolation.{values}
use Rattle.ranks.specs.Ranks.{IsRank, Weighs, cut}
use Rattle.codes.specs.declared.shape.Code.{Code}
use Rattle.codes.specs.Fitness.{route, Made}
use Rattle.hints.specs.Splittings.{Given, Parts, Splitting, full_part, row_count, column_count}
use Rattle.recovery.specs.Reach.{InReach}
use Rattle.recovery.proofs.Unhinted.{full_is}
use Rattle.figures.specs.Figures.{text_a, told}
use Rattle.figures.proofs.Reaching.{independent_one}

abbrev pub hinted : List Bool → List (Given (Elem mod13))
hinted marks = map (λ marked. told mod13 [] (cond marked ((1 ∷ []) ∷ []) [])) marks

abbrev cost : Elem mod13 → ℕ
cost d = cond (eqb d.code 0) 0 1

abbrev missed : List Bool → List (Elem mod13) → ℕ
missed [] ds = 0
missed (marked ∷ marks) [] = 0
missed (true ∷ marks) (d ∷ ds) = missed marks ds
missed (false ∷ marks) (d ∷ ds) = cost d + missed marks ds

abbrev less : List (Elem mod13) → List (Elem mod13)
less v = plus (ops mod13) (elems mod13 (8 ∷ 12 ∷ 2 ∷ 4 ∷ [])) (map (ops mod13).neg v)

abbrev word_a : List (Elem mod13) → List (Elem mod13)
word_a f = values (ops mod13) f (places mod13 (route text_a.blocks text_a.parameters text_a.locators))

abbrev wrong_at : ℕ → List Bool → Elem mod13 → Elem mod13 → Bool
wrong_at k marks x y = leb k (missed marks (less (word_a (x ∷ y ∷ []))))

abbrev far : ℕ → List Bool → Bool
far k marks = below2 (λ a b. wrong_at k marks (elem mod13 a) (elem mod13 b)) 13

-- The laws of the integers modulo 13, on elements.
pub laws_13 : Laws (ops mod13)
laws_13 = Carrier.ops_laws mod13_laws

-- What a symbol costs is no more than its rank.
cost_ranked : (d : Elem mod13) (r : ℕ) → IsRank (ops mod13) (d ∷ []) r → cost d ≤ r
unfolding element ops
cost_ranked d r h = elim (laws_13.same d (ops mod13).zero) [
  | yes z ↦ subst (λ x. cost x ≤ r) (sym z) (omega arith)
  | no n ↦ at_most (eqb d.code 0) (h.1 (true ∷ []) (independent_one laws_13 d n))
]
  where
    at_most : (b : Bool) → 1 ≤ r → cond b 0 1 ≤ r
    at_most true k = omega arith
    at_most false k = k

-- So no more symbols without mark are wrong than the weight of the full part.
missed_weighed : (marks : List Bool) (ds : List (Elem mod13)) (ps : List (Parts (Elem mod13))) (t : ℕ)
    → Splitting (ops mod13) (hinted marks) (map (λ d. d ∷ []) ds) ps → Weighs (ops mod13) (full_part ps) t → missed marks ds ≤ t
missed_weighed [] ds ps t s w = omega arith
missed_weighed (marked ∷ marks) [] ps t s w = omega arith
missed_weighed (true ∷ marks) (d ∷ ds) [] t s w = absurd s
missed_weighed (true ∷ marks) (d ∷ ds) (p ∷ ps) t s w = omega (arith, missed_weighed marks ds ps w.2 s.1 w.3, w.4)
missed_weighed (false ∷ marks) (d ∷ ds) [] t s w = absurd s
missed_weighed (false ∷ marks) (d ∷ ds) (p ∷ ps) t s w =
    let q : p.full ≡ d ∷ [] = full_is laws_13 (d ∷ []) p s.0 in
    let k = cost_ranked d w.0 (subst (λ xs. IsRank (ops mod13) xs w.0) q w.1) in
    omega (arith, k, missed_weighed marks ds ps w.2 s.1 w.3, w.4)

-- The test was made at every message of two symbols.
at_message : (k : ℕ) (marks : List Bool) → T (far k marks) → (f : List (Elem mod13)) → length f ≡ 2 → k ≤ missed marks (less (word_a f))
at_message k marks test [] n = absurd (omega arith)
at_message k marks test (x ∷ []) n = absurd (omega arith)
at_message k marks test (x ∷ y ∷ z ∷ f) n = absurd (omega arith)
at_message k marks test (x ∷ y ∷ []) n =
    let tested = at2 (λ a b. wrong_at k marks (elem mod13 a) (elem mod13 b)) 13 test x.code y.code (Carrier.is_code mod13_laws x) (Carrier.is_code mod13_laws y) in
    leb→le k _ (subst₂ (λ u v. T (wrong_at k marks u v)) (Carrier.elem_code x) (Carrier.elem_code y) tested)

-- Where k errors are too many for the budget, no codeword is in reach.
unreached : (k : ℕ) (marks : List Bool) → T (far k marks) → 4 < 2 * k + (row_count (hinted marks) + column_count (hinted marks)) + 2
    → (c : Code) → Made mod13 text_a c → (v : List (Elem mod13)) → ¬ InReach mod13 c (hinted marks) (elems mod13 (8 ∷ 12 ∷ 2 ∷ 4 ∷ [])) v
unreached k marks test much c made v r =
    let f = r.codeword.0 in
    let word : v ≡ word_a f = sym r.codeword.2 ∙ ap (λ ps. values (ops mod13) f (places mod13 ps)) made.points in
    let splitting = subst (λ u. Splitting (ops mod13) (hinted marks) (cut (1 ∷ 1 ∷ 1 ∷ 1 ∷ []) (less u)) r.parts) word
    (subst (λ ns. Splitting (ops mod13) (hinted marks) (cut ns (less v)) r.parts) made.lengths r.splitting) in
    let most = missed_weighed marks (less (word_a f)) r.parts r.errors splitting r.weight in
    let least = at_message k marks test f (r.codeword.1 ∙ made.dimension) in
    omega (arith, most, least, much, r.budget, made.dimension, ap length made.points)

module _ {c : Code} (made : Made mod13 text_a c) where
  -- So none is without hints.
  pub nothing_without_hints : (v : List (Elem mod13)) → ¬ InReach mod13 c (hinted (false ∷ false ∷ false ∷ false ∷ [])) (elems mod13 (8 ∷ 12 ∷ 2 ∷ 4 ∷ [])) v
  unfolding sum opposite product power element ops
  nothing_without_hints = unreached 2 (false ∷ false ∷ false ∷ false ∷ []) tt (lit< tt) c made

  -- Nor is any with the column hint in block 2.
  pub nothing_with_one_hint : (v : List (Elem mod13)) → ¬ InReach mod13 c (hinted (false ∷ true ∷ false ∷ false ∷ [])) (elems mod13 (8 ∷ 12 ∷ 2 ∷ 4 ∷ [])) v
  unfolding sum opposite product power element ops
  nothing_with_one_hint = unreached 1 (false ∷ true ∷ false ∷ false ∷ []) tt (lit< tt) c made
