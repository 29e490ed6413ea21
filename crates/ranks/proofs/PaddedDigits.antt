-- The digits of an element with zeros behind, eight in all, stand for it.
--
--   behind       the zeros
--   numerals     what digits keep, they keep
use Rattle.std.proofs.Common.{◌≡◌, ℕ, suc, ◌-◌, List, [], ◌∷◌, ◌++◌, length, take, replicate, sym, refl, ap, ◌∙◌, subst, arith, length-append}
use Rattle.std.proofs.lemmas.List.{length-map, length-replicate, map-append}
use Rattle.std.specs.List.{AllByRecursion}
use Rattle.fields.specs.Field.{Ops, Zero, Fixed, plus, scale, comb}
use Rattle.fields.specs.Field as field
use Rattle.fields.specs.Meaning.{Meaning, Laws, clip, digit_row}
use Rattle.fields.specs.Elements.{Elem, element, elem, elems, ops, basis_of, digits_of}
use Rattle.fields.specs.Basics
use Rattle.fields.specs.Twists
use Rattle.fields.proofs.Carrier
use Rattle.fields.proofs.Digits
use Rattle.skew.proofs.Everywhere.{all_append}
use Rattle.skew.proofs.Sums.{cons_path}
use Rattle.ranks.specs.Reduction.{eight}
use Rattle.ranks.proofs.DigitSpans.{Numerals}

module _ {F : Type 0} {o : Ops F} (l : field.Laws o) where
  open o use {add as ◌+◌, mul as ◌*◌}

  infixl 65 ◌+◌
  infixl 70 ◌*◌
  -- Rows with zeros behind: sums.
  pub plus_behind : (u v z : List F) → length u ≡ length v → AllByRecursion (Zero o) z → plus o u v ++ z ≡ plus o (u ++ z) (v ++ z)
  plus_behind [] [] z e k = twice z k
    where
      twice : (y : List F) → AllByRecursion (Zero o) y → y ≡ plus o y y
      twice [] h = refl
      twice (x ∷ y) h = cons_path (sym (ap (λ w. x + w) h.0 ∙ Basics.add_zero l x)) (twice y h.1)
  plus_behind [] (y ∷ v) z e k = absurd (omega arith)
  plus_behind (x ∷ u) [] z e k = absurd (omega arith)
  plus_behind (x ∷ u) (y ∷ v) z e k = cons_path refl (plus_behind u v z (omega arith) k)

  -- Multiples.
  pub scale_behind : (c : F) (u z : List F) → AllByRecursion (Zero o) z → scale o c u ++ z ≡ scale o c (u ++ z)
  scale_behind c [] z k = none z k
    where
      none : (y : List F) → AllByRecursion (Zero o) y → y ≡ scale o c y
      none [] h = refl
      none (x ∷ y) h = cons_path (h.0 ∙ sym (ap (λ w. c * w) h.0 ∙ Basics.mul_zero l c)) (none y h.1)
  scale_behind c (x ∷ u) z k = cons_path refl (scale_behind c u z k)

  -- Zeros are fixed.
  pub fixed_zeros : (z : List F) → AllByRecursion (Zero o) z → AllByRecursion (Fixed o) z
  fixed_zeros [] k = tt
  fixed_zeros (x ∷ z) k = (subst (Fixed o) (sym k.0) (Twists.fixed_zero l), fixed_zeros z k.1)

  -- Equal rows with the same behind.
  pub before_same : (u v z : List F) → length u ≡ length v → u ++ z ≡ v ++ z → u ≡ v
  before_same u v z e h = sym (front u z) ∙ ap (take (length u)) h ∙ ap (λ i. take i (v ++ z)) e ∙ front v z
    where
      front : (w y : List F) → take (length w) (w ++ y) ≡ w
      front [] y = refl
      front (x ∷ w) y = cons_path refl (front w y)

module _ {m : Meaning} (l : Laws m) where
  -- The laws of the elements.
  abbrev laws : field.Laws (ops m)
  laws = Carrier.ops_laws l

  -- The zeros behind.
  pub behind : List (Elem m)
  behind = elems m (replicate (8 - m.width) 0)

  -- They are zeros.
  behind_zero : AllByRecursion (Zero (ops m)) behind
  unfolding behind
  behind_zero = go (8 - m.width)
    where
      go : (n : ℕ) → AllByRecursion (Zero (ops m)) (elems m (replicate n 0))
      go ℕ.zero = tt
      go (suc n) = (Carrier.zero_is m, go n)

  -- As many as it takes.
  rest : length behind ≡ 8 - m.width
  unfolding behind
  rest = length-map (replicate (8 - m.width) 0) (elem m) ∙ length-replicate (8 - m.width) 0

  -- The digits and the zeros.
  pub eight_is : (x : Elem m) → eight m x ≡ digits_of m x ++ behind
  unfolding behind
  eight_is x =
      map-append (elem m) (m.digits (clip m x.code)) (replicate (8 - m.width) 0)
      ∙ ap (λ c. elems m (m.digits c) ++ elems m (replicate (8 - m.width) 0)) x.counts

  -- What a kind answers for the digits of a symbol.
  pub eight_answers : {r : List ℕ} (a : ℕ) → r ≡ digit_row m a → elems m r ≡ eight m (elem m a)
  unfolding element
  eight_answers a e = ap (elems m) e ∙ ap (λ c. elems m (m.digits c ++ replicate (8 - m.width) 0)) (sym (elem m a).counts)

  -- They stand for elements.
  pub numerals : Numerals (ops m) 8 (eight m)
  numerals =
      let D = Digits.digits_linear l in
      record {
        fixed = λ x. (
          ap length (eight_is x) ∙ length-append (digits_of m x) behind ∙ omega (arith, D.digits_length x, wide, rest, l.width_high),
          subst (AllByRecursion (Fixed (ops m))) (sym (eight_is x)) (all_append (Fixed (ops m)) (digits_of m x) behind (D.digits_fixed x) (fixed_zeros laws behind behind_zero)),
        );
        add = λ x y.
            eight_is ((ops m).add x y) ∙ ap (λ w. w ++ behind) (D.digits_add x y) ∙ plus_behind laws (digits_of m x) (digits_of m y) behind (D.digits_length x ∙ sym (D.digits_length y)) behind_zero
            ∙ ap (λ w. plus (ops m) w (digits_of m y ++ behind)) (sym (eight_is x)) ∙ ap (plus (ops m) (eight m x)) (sym (eight_is y));
        mul = λ c x f. eight_is ((ops m).mul c x) ∙ ap (λ w. w ++ behind) (D.digits_mul c x f) ∙ scale_behind laws c (digits_of m x) behind behind_zero ∙ ap (scale (ops m) c) (sym (eight_is x));
        apart = λ x y e.
            sym (D.digits_give x)
            ∙ ap (λ w. comb (ops m) w (basis_of m)) (before_same laws (digits_of m x) (digits_of m y) behind (D.digits_length x ∙ sym (D.digits_length y)) (sym (eight_is x) ∙ e ∙ eight_is y))
            ∙ D.digits_give y;
      }
    where
      wide : length (basis_of m) ≡ m.width
      wide = length-map m.basis (elem m) ∙ l.basis_length
