-- The laws of digits that are traces, from two tables of numbers that antt computes. `Traces` has the reasons, over elements.
--
--   trace_table q t k cs bs      for each c the traces of c b, k terms each: the unit rows, where cs take out the digits
--   combinations q t bs k cs     what cs, their t-th powers and so on, k rows, combine bs to: 1 and then zeros, where digits
--                                give their element
--   m, l, τ                      the field alone, its laws, and the t-th power on its elements
--   Kept d                       d is a code that the t-th power leaves: a fixed one, in a kind whose twist it is
use Rattle.std.specs.Prelude.{◌≡◌, ℕ, zero, suc, ◌^◌, ◌<◌, ◌≤◌, List, [], ◌∷◌, map, length, replicate, refl}
use Rattle.std.proofs.Common.{sym, ap, ap₂, ◌∙◌, subst, pow-suc, mul_comm}
use Rattle.std.proofs.Math.Nat.{pow-zero}
use Rattle.std.proofs.lemmas.List.{length-map}
use Rattle.std.specs.List.{AllByRecursion}
use Rattle.fields.specs.Lists.{all_follow, all_map}
use Rattle.fields.specs.Field.{comb}
use Rattle.fields.specs.Meaning.{Meaning, Laws, Code, combination}
use Rattle.fields.specs.Residues.{Modulus, sum, product, power, trace, traces, residues}
use Rattle.fields.specs.Elements.{Elem, elem, elems, codes}
use Rattle.fields.specs.Carried.{carried}
use Rattle.fields.specs.Rings.{Ring}
use Rattle.fields.specs.CodePowers.{power_code, power_product, trace_code}
use Rattle.fields.specs.DigitTests.{DigitLaws}
use Rattle.fields.specs.ResidueKinds.{size, Ordered, Additive, power_mul, power_whole, power_once, plain, plain_laws}
use Rattle.fields.specs.Traces.{again, tr, Left, identity, identity_map, Kills}
use Rattle.fields.specs.Traces
use Rattle.fields.specs.Carried

abbrev pub trace_table : Modulus → ℕ → ℕ → List ℕ → List ℕ → List (List ℕ)
trace_table q t k cs bs = map (λ c. map (λ b. trace q t k (product q c b)) bs) cs

abbrev pub combinations : Modulus → ℕ → List ℕ → ℕ → List ℕ → List ℕ
combinations q t bs zero cs = []
combinations q t bs (suc k) cs = combination (sum q) (product q) cs bs ∷ combinations q t bs k (map (power q t) cs)

module _ (q : Modulus) (r : Ring q (size q)) (order : Ordered q r) (small : size q ≤ 256) (t : ℕ) (additive : Additive q r order small t) where
  abbrev m : Meaning
  m = plain q r order

  l : Laws m
  l = plain_laws q r order small

  abbrev τ : Elem m → Elem m
  τ x = elem m (power q t x.code)

  -- The image of a code's element.
  τ_elem : (a : ℕ) → a < size q → τ (elem m a) ≡ elem m (power q t a)
  τ_elem a h = ap (λ b. elem m (power q t b)) (sym (Carried.code_elem m a (Carried.counts l a h)))

  -- The t-th power of a code is a code.
  raised : (a : ℕ) → a < size q → power q t a < size q
  raised = power_code q (size q) r t

  -- The t-th power keeps sums of elements,
  adds : (x y : Elem m) → τ ((carried m).add x y) ≡ (carried m).add (τ x) (τ y)
  adds x y = rw (Carried.elem_code x, Carried.elem_code y) at (on_codes x.code y.code (Carried.is_code l x) (Carried.is_code l y))
    where
      on_codes : (a b : ℕ) → a < size q → b < size q → τ ((carried m).add (elem m a) (elem m b)) ≡ (carried m).add (τ (elem m a)) (τ (elem m b))
      on_codes a b ha hb =
          ap τ (sym (Carried.sum_elem l a b ha hb)) ∙ τ_elem (sum q a b) (r.sum_code a b ha hb) ∙ ap (elem m) (additive a b ha hb)
          ∙ Carried.sum_elem l (power q t a) (power q t b) (raised a ha) (raised b hb) ∙ sym (ap₂ (carried m).add (τ_elem a ha) (τ_elem b hb))

  -- and products.
  muls : (x y : Elem m) → τ ((carried m).mul x y) ≡ (carried m).mul (τ x) (τ y)
  muls x y = rw (Carried.elem_code x, Carried.elem_code y) at (on_codes x.code y.code (Carried.is_code l x) (Carried.is_code l y))
    where
      on_codes : (a b : ℕ) → a < size q → b < size q → τ ((carried m).mul (elem m a) (elem m b)) ≡ (carried m).mul (τ (elem m a)) (τ (elem m b))
      on_codes a b ha hb =
          ap τ (sym (Carried.product_elem l a b ha hb)) ∙ τ_elem (product q a b) (r.product_code a b ha hb) ∙ ap (elem m) (power_product q (size q) r t a b ha hb)
          ∙ Carried.product_elem l (power q t a) (power q t b) (raised a ha) (raised b hb) ∙ sym (ap₂ (carried m).mul (τ_elem a ha) (τ_elem b hb))

  -- Repeated k times it is the power t^k.
  again_elem : (k a : ℕ) → a < size q → again τ k (elem m a) ≡ elem m (power q (t ^ k) a)
  again_elem zero a h = ap (elem m) (sym (ap (λ n. power q n a) (pow-zero t) ∙ power_once q r a h))
  again_elem (suc k) a h =
      ap (again τ k) (τ_elem a h) ∙ again_elem k (power q t a) (raised a h)
      ∙ ap (elem m) (power_mul q r (t ^ k) t a h ∙ ap (λ n. power q n a) (mul_comm t (t ^ k) ∙ sym (pow-suc t k)))

  -- The element of a trace of a code is the trace of its element.
  trace_elem : (k a : ℕ) → a < size q → elem m (trace q t k a) ≡ tr (carried m) τ k (elem m a)
  unfolding trace
  trace_elem zero a h = Carried.zero_is m
  trace_elem (suc k) a h =
      Carried.sum_elem l a (trace q t k (power q t a)) h (trace_code q (size q) r t k (power q t a) (raised a h))
      ∙ ap ((carried m).add (elem m a)) (trace_elem k (power q t a) (raised a h) ∙ ap (tr (carried m) τ k) (sym (τ_elem a h)))

  -- The same of the trace of c a.
  product_trace : (k c a : ℕ) → c < size q → a < size q → elem m (trace q t k (product q c a)) ≡ tr (carried m) τ k ((carried m).mul (elem m c) (elem m a))
  product_trace k c a hc ha = trace_elem k (product q c a) (r.product_code c a hc ha) ∙ ap (tr (carried m) τ k) (Carried.product_elem l c a hc ha)

  -- Two ways to take a list of codes to what stands for it are equal where they are at each code.
  each : {A B : Type 0} (h : A → B) (f : ℕ → A) (g : Elem m → B) → ((a : ℕ) → a < size q → h (f a) ≡ g (elem m a)) → (ns : List ℕ) → AllByRecursion (Code m) ns → map h (map f ns) ≡ map g (elems m ns)
  each h f g e [] p = refl
  each h f g e (n ∷ ns) p = ap₂ (λ x xs. x ∷ xs) (e n p.0) (each h f g e ns p.1)

  -- The t-th powers of codes are codes,
  raised_codes : (ns : List ℕ) → AllByRecursion (Code m) ns → AllByRecursion (Code m) (map (power q t) ns)
  raised_codes = all_map (Code m) (Code m) (power q t) raised

  -- and their elements are the images.
  raised_elems : (ns : List ℕ) → AllByRecursion (Code m) ns → elems m (map (power q t) ns) ≡ map τ (elems m ns)
  raised_elems = each (elem m) (power q t) τ (λ a h. sym (τ_elem a h))

  -- Codes are those of their elements.
  codes_elems : (ns : List ℕ) → AllByRecursion (Code m) ns → codes (elems m ns) ≡ ns
  codes_elems [] p = refl
  codes_elems (n ∷ ns) p = ap₂ (λ x xs. x ∷ xs) (sym (Carried.code_elem m n (Carried.counts l n p.0))) (codes_elems ns p.1)

  -- Where there are t^k codes, the t-th power leaves a trace of k terms.
  trace_kept : (k : ℕ) → t ^ k ≡ size q → (a : ℕ) → a < size q → power q t (trace q t k a) ≡ trace q t k a
  trace_kept k whole a h =
      let c = trace_code q (size q) r t k a h in
      let back : again τ k (elem m a) ≡ elem m a = again_elem k a h ∙ ap (elem m) (ap (λ n. power q n a) whole ∙ power_whole q r order a h) in
      Carried.same_elem l (power q t (trace q t k a)) (trace q t k a) (raised _ c) c
      (sym (τ_elem (trace q t k a) c) ∙ ap τ (trace_elem k a h) ∙ Traces.tr_left (Carried.carried_laws l) τ adds muls k (elem m a) back ∙ sym (trace_elem k a h))

  abbrev Kept : ℕ → Type 0
  Kept d = (d < size q) × (power q t d ≡ d)

  -- Kept codes are codes.
  kept_codes : (ds : List ℕ) → AllByRecursion Kept ds → AllByRecursion (Code m) ds
  kept_codes = all_follow Kept (Code m) (λ d g. g.0)

  module _ (cs bs : List ℕ) (cs-codes : AllByRecursion (Code m) cs) (bs-codes : AllByRecursion (Code m) bs) where
    -- The first table, told in elements: the unit rows.
    table_elems :
        (k : ℕ) → trace_table q t k cs bs ≡ identity 0 1 k
        → map (λ x. map (λ y. tr (carried m) τ k ((carried m).mul x y)) (elems m bs)) (elems m cs) ≡ identity (carried m).zero (carried m).one k
    table_elems k units =
        sym (each (elems m) (λ c. map (λ b. trace q t k (product q c b)) bs) (λ x. map (λ y. tr (carried m) τ k ((carried m).mul x y)) (elems m bs)) row cs cs-codes)
        ∙ ap (map (elems m)) units ∙ identity_map (elem m) 0 1 k ∙ ap₂ (λ z u. identity z u k) (Carried.zero_is m) (Carried.one_is m)
      where
        row : (c : ℕ) → c < size q → elems m (map (λ b. trace q t k (product q c b)) bs) ≡ map (λ y. tr (carried m) τ k ((carried m).mul (elem m c) y)) (elems m bs)
        row c hc = each (elem m) (λ b. trace q t k (product q c b)) (λ y. tr (carried m) τ k ((carried m).mul (elem m c) y)) (λ b hb. product_trace k c b hc hb) bs bs-codes

    -- Combinations that are 0, told in elements.
    kills : (k : ℕ) (ds : List ℕ) → AllByRecursion (Code m) ds → combinations q t bs k ds ≡ replicate k 0 → Kills (carried m) τ (elems m bs) k (elems m ds)
    kills zero ds p e = tt
    kills (suc k) ds p e =
        let now : combination (sum q) (product q) ds bs ≡ 0 = cc in
        let later : combinations q t bs k (map (power q t) ds) ≡ replicate k 0 = cc in (
          sym (Carried.combined_elem l ds bs p bs-codes) ∙ ap (elem m) now ∙ Carried.zero_is m,
          subst (λ xs. Kills (carried m) τ (elems m bs) k xs) (raised_elems ds p) (kills k (map (power q t) ds) (raised_codes ds p) later),
        )

    module _ (k : ℕ) (whole : t ^ suc k ≡ size q) (many : length cs ≡ suc k) (wide : length bs ≡ suc k) (units : trace_table q t (suc k) cs bs ≡ identity 0 1 (suc k)) (ones : combinations q t bs (suc k) cs ≡ 1 ∷ replicate k 0) where
      -- The digits of a code are traces of suc k terms,
      traces_are : (a : ℕ) → traces q t cs a ≡ map (λ c. trace q t (suc k) (product q c a)) cs
      unfolding traces
      traces_are a = ap (λ n. map (λ c. trace q t n (product q c a)) cs) many

      -- which are kept codes,
      traces_kept : (a : ℕ) → a < size q → AllByRecursion Kept (traces q t cs a)
      traces_kept a h = subst (AllByRecursion Kept) (sym (traces_are a)) (all_map (Code m) Kept (λ c. trace q t (suc k) (product q c a)) kept cs cs-codes)
        where
          kept : (c : ℕ) → c < size q → Kept (trace q t (suc k) (product q c a))
          kept c hc = let p = r.product_code c a hc h in (trace_code q (size q) r t (suc k) (product q c a) p, trace_kept (suc k) whole (product q c a) p)

      -- and their elements the traces of elements.
      traces_elems : (a : ℕ) → a < size q → elems m (traces q t cs a) ≡ map (λ x. tr (carried m) τ (suc k) ((carried m).mul x (elem m a))) (elems m cs)
      traces_elems a h =
          ap (elems m) (traces_are a)
          ∙ each (elem m) (λ c. trace q t (suc k) (product q c a)) (λ x. tr (carried m) τ (suc k) ((carried m).mul x (elem m a))) (λ c hc. product_trace (suc k) c a hc h) cs cs-codes

      -- They combine the basis to their code,
      gives : (a : ℕ) → a < size q → combination (sum q) (product q) (traces q t cs a) bs ≡ a
      gives a h =
          let p = kept_codes (traces q t cs a) (traces_kept a h) in
          let now : combination (sum q) (product q) cs bs ≡ 1 = cc in
          let later : combinations q t bs k (map (power q t) cs) ≡ replicate k 0 = cc in
          let one = sym (Carried.combined_elem l cs bs cs-codes bs-codes) ∙ ap (elem m) now ∙ Carried.one_is m in
          let killed = subst (λ xs. Kills (carried m) τ (elems m bs) k xs) (raised_elems cs cs-codes) (kills k (map (power q t) cs) (raised_codes cs cs-codes) later) in
          Carried.same_elem l (combination (sum q) (product q) (traces q t cs a) bs) a (Carried.combined_code l (traces q t cs a) bs p bs-codes) h
          (Carried.combined_elem l (traces q t cs a) bs p bs-codes ∙ ap (λ xs. comb (carried m) xs (elems m bs)) (traces_elems a h)
          ∙ Traces.trs_give (Carried.carried_laws l) τ adds muls k (elem m a) (elems m cs) (elems m bs) one killed)

      -- and no other kept codes do.
      only : (a : ℕ) (ds : List ℕ) → a < size q → length ds ≡ length bs → AllByRecursion Kept ds → combination (sum q) (product q) ds bs ≡ a → ds ≡ traces q t cs a
      only a ds h n f e =
          let p = kept_codes ds f in
          let given : comb (carried m) (elems m ds) (elems m bs) ≡ elem m a = sym (Carried.combined_elem l ds bs p bs-codes) ∙ ap (elem m) e in
          let left = all_map Kept (Left τ) (elem m) (λ d g. τ_elem d g.0 ∙ ap (elem m) g.1) ds f in
          let back =
          Traces.trs_only (Carried.carried_laws l) τ adds muls (suc k) (suc k) (elems m cs) (elems m bs) (elems m ds) (table_elems (suc k) units) (length-map ds (elem m) ∙ n ∙ wide) left in
          let alike : elems m ds ≡ elems m (traces q t cs a) = sym back ∙ ap (λ x. map (λ c. tr (carried m) τ (suc k) ((carried m).mul c x)) (elems m cs)) given ∙ sym (traces_elems a h) in
          sym (codes_elems ds p) ∙ ap codes alike ∙ codes_elems (traces q t cs a) (kept_codes (traces q t cs a) (traces_kept a h))

      -- So a kind with these digits, and the t-th power for its twist, keeps the laws of digits.
      pub trace_digits : (number u : ℕ) → DigitLaws (residues q number t u bs (traces q t cs))
      trace_digits number u = record { digits_fixed = traces_kept; digits_give = gives; digits_only = only }
