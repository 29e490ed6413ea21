-- Symbol lists of the program that hold the codes of elements.
--
--   Held m xs at s    s holds those of xs, of which there are `at`
use Rattle.std.proofs.Common.{◌≡◌, ℕ, ◌+◌, ◌≤◌, List, ◌++◌, length, take, sym, ap, ◌∙◌, arith, length-append}
use Rattle.std.proofs.lemmas.List.{length-map, map-append, take_all}
use Rattle.fields.specs.Meaning.{Meaning, Laws}
use Rattle.fields.specs.Elements.{Elem, elems, codes}
use Rattle.fields.proofs.Carrier
use Rattle.skew.specs.Polynomials.{Codes}

-- A symbol list that holds the codes of these elements.
pub record Held (m : Meaning) (xs : List (Elem m)) (at : ℕ) (s : List ℕ) : Type 0 where
  pub is : s ≡ codes xs
  pub size : length xs ≡ at

module _ {m : Meaning} (l : Laws m) where
  -- Codes behind codes.
  pub held_more : (xs ys : List (Elem m)) {at n : ℕ} {s t : List ℕ} → Held m xs at s → length ys ≡ n → at + n ≤ 24 → t ≡ take 24 (s ++ codes ys) → Held m (xs ++ ys) (at + n) t
  held_more xs ys {at} {n} {s} {t} k ey le et = record {
    is = et ∙ ap (λ w. take 24 (w ++ codes ys)) k.is ∙ ap (take 24) (sym (map-append (λ x. x.code) xs ys)) ∙ take_all 24 (codes (xs ++ ys)) (omega (arith, length-map (xs ++ ys) (λ x. x.code), long));
    size = long;
  }
    where
      long : length (xs ++ ys) ≡ at + n
      long = length-append xs ys ∙ omega (arith, k.size)

  -- Codes of elements are codes.
  pub held_codes : {xs : List (Elem m)} {at : ℕ} {s : List ℕ} → Held m xs at s → (Codes m s) × (length s ≡ at) × (elems m s ≡ xs)
  held_codes {xs} {at} {s} k = (
    ap (λ w. codes (elems m w)) k.is ∙ ap codes (Carrier.elems_codes xs) ∙ sym k.is,
    ap length k.is ∙ length-map xs (λ x. x.code) ∙ k.size,
    ap (elems m) k.is ∙ Carrier.elems_codes xs,
  )
