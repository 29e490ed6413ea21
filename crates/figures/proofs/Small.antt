-- Tests for small codes: that numbers are codes, that elements are not conjugate, and that two are independent.
--
--   conjugates m a b c    c takes a to b
--   apart m a b           no c other than 0 does
--   apart_in m ps i j     so it is of the parameters at two places
--   multiplies m a b c    c is fixed, and b times c is a
--   separate m a b        so it is for no c
use Rattle.std.proofs.Common.{◌≡◌, ℕ, suc, Bool, true, false, cond, not, T, ◌≢◌, eqb, ltb, leb, List, [], ◌∷◌, length, get_or, sym, ap, ◌∙◌, subst, ap₂, inl, inr, arith, ltb→lt, leb→le, lt-ltb}
use Rattle.std.proofs.lemmas.Bool.{eq-eqb, cond-true, cond-false, ne_eqb}
use Rattle.fields.specs.Meaning.{Meaning, Laws}
use Rattle.fields.specs.Elements.{Elem, elem, ops}
use Rattle.fields.proofs.Carrier
use Rattle.fields.specs.Field.{Fixed}
use Rattle.fields.specs.Basics
use Rattle.fields.specs.Range.{both, both_left, both_right, below, at, below2, at2}
use Rattle.skew.specs.Roots.{Independent, Conjugate}
use Rattle.ranks.specs.Ranks.{Spanned}
use Rattle.ranks.proofs.Bases
use Rattle.codes.specs.Fitness.{Outside, AllNot, ApartUntil}
use Rattle.figures.proofs.Reaching.{independent_one}

-- Each number of the list is from `least` to Q - 1.
abbrev pub all_inside : Meaning → ℕ → List ℕ → Bool
all_inside m least [] = true
all_inside m least (x ∷ xs) = both (both (leb least x) (ltb x m.size)) (all_inside m least xs)

pub none_outside : (m : Meaning) (least : ℕ) (xs : List ℕ) → T (all_inside m least xs) → AllNot (Outside m least) xs
none_outside m least [] t j h o = absurd (omega arith)
none_outside m least (x ∷ xs) t ℕ.zero h (inl o) =
    let k = leb→le least x (both_left (leb least x) (ltb x m.size) (both_left (both (leb least x) (ltb x m.size)) (all_inside m least xs) t)) in omega arith
none_outside m least (x ∷ xs) t ℕ.zero h (inr o) =
    let k = ltb→lt x m.size (both_right (leb least x) (ltb x m.size) (both_left (both (leb least x) (ltb x m.size)) (all_inside m least xs) t)) in omega arith
none_outside m least (x ∷ xs) t (suc j) h o = none_outside m least xs (both_right (both (leb least x) (ltb x m.size)) (all_inside m least xs) t) j (omega arith) o

-- No c other than 0 takes a to b.
abbrev pub conjugates : Meaning → ℕ → ℕ → ℕ → Bool
conjugates m a b c = eqb ((ops m).mul ((ops m).mul ((ops m).twist (elem m c)) (elem m a)) ((ops m).inv (elem m c))).code (elem m b).code

abbrev pub apart : Meaning → ℕ → ℕ → Bool
apart m a b = below (λ c. cond (eqb c 0) true (not (conjugates m a b c))) m.size

pub not_conjugate : {m : Meaning} (l : Laws m) (a b : ℕ) → T (apart m a b) → ¬ Conjugate (ops m) (elem m a) (elem m b)
not_conjugate {m} l a b t (c, n, e) =
    let h = Carrier.is_code l c in
    let z : eqb c.code 0 ≡ false = ne_eqb c.code 0 (λ k. n (Carrier.same_code c (ops m).zero (k ∙ sym (zero_has)))) in
    let k = subst T (cond-false (eqb c.code 0) true (not (conjugates m a b c.code)) z) (at (λ c. cond (eqb c 0) true (not (conjugates m a b c))) m.size t c.code h) in
    let same : conjugates m a b c.code ≡ true =
    eq-eqb _ _ (ap (λ (x : Elem m). ((ops m).mul ((ops m).mul ((ops m).twist x) (elem m a)) ((ops m).inv x)).code) (Carrier.elem_code c) ∙ sym (ap (λ (x : Elem m). x.code) e)) in
    subst (λ v. T (not v)) same k
  where
    zero_has : (ops m).zero.code ≡ 0
    zero_has = sym (ap (λ (x : Elem m). x.code) (Carrier.zero_is m)) ∙ sym (Carrier.code_elem m 0 (Carrier.zero_counts l))

-- The parameters at two places, the earlier first, are not conjugate.
abbrev pub apart_in : Meaning → List ℕ → ℕ → ℕ → Bool
apart_in m ps i j = cond (ltb i j) (apart m (get_or ps i 0) (get_or ps j 0)) true

-- Where the test passes at all places, the parameters are apart.
pub apart_until : {m : Meaning} (l : Laws m) (ps : List ℕ) → T (below2 (apart_in m ps) (length ps)) → ApartUntil m ps (length ps)
apart_until {m} l ps t j h (i, k, e) =
    let tested = at2 (apart_in m ps) (length ps) t i j (omega (arith, k, h)) h in
    not_conjugate l (get_or ps i 0) (get_or ps j 0) (subst T (cond-true (ltb i j) (apart m (get_or ps i 0) (get_or ps j 0)) true (lt-ltb i j k)) tested) e

-- A fixed element times b is a; and it is so for none.
abbrev pub multiplies : Meaning → ℕ → ℕ → ℕ → Bool
multiplies m a b c = both (eqb ((ops m).twist (elem m c)).code (elem m c).code) (eqb ((ops m).mul (elem m c) (elem m b)).code (elem m a).code)

abbrev pub separate : Meaning → ℕ → ℕ → Bool
separate m a b = below (λ c. not (multiplies m a b c)) m.size

-- Where that test passes, a is no fixed multiple of b.
not_multiple : {m : Meaning} (l : Laws m) (a b : ℕ) → T (separate m a b) → (c : Elem m) → Fixed (ops m) c → elem m a ≢ (ops m).mul c (elem m b)
not_multiple {m} l a b t c fixed e =
    subst (λ v. T (not v)) (ap₂ both kept taken) (at (λ c. not (multiplies m a b c)) m.size t c.code (Carrier.is_code l c))
  where
    kept : eqb ((ops m).twist (elem m c.code)).code (elem m c.code).code ≡ true
    kept = eq-eqb _ _ (ap (λ (x : Elem m). ((ops m).twist x).code) (Carrier.elem_code c) ∙ ap (λ (x : Elem m). x.code) fixed ∙ sym (ap (λ (x : Elem m). x.code) (Carrier.elem_code c)))

    taken : eqb ((ops m).mul (elem m c.code) (elem m b)).code (elem m a).code ≡ true
    taken = eq-eqb _ _ (ap (λ (x : Elem m). ((ops m).mul x (elem m b)).code) (Carrier.elem_code c) ∙ sym (ap (λ (x : Elem m). x.code) e))

-- So both are independent where b is not zero.
pub independent_two : {m : Meaning} (l : Laws m) (a b : ℕ) → T (separate m a b) → elem m b ≢ (ops m).zero → Independent (ops m) (elem m a ∷ elem m b ∷ [])
independent_two {m} l a b t n =
    Bases.ind_more (Carrier.ops_laws l) (elem m a) (elem m b ∷ []) (independent_one (Carrier.ops_laws l) (elem m b) n) not_spanned
  where
    not_spanned : ¬ Spanned (ops m) (elem m b ∷ []) (elem m a)
    not_spanned ([], size, fixed, e) = omega (arith, size)
    not_spanned (c ∷ [], size, fixed, e) = not_multiple l a b t c fixed.0 (e ∙ Basics.add_zero (Carrier.ops_laws l) ((ops m).mul c (elem m b)))
    not_spanned (c ∷ d ∷ cs, size, fixed, e) = omega (arith, size)
