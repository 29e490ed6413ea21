-- The laws of the integers modulo 13, each by a test over all codes.
use Rattle.std.specs.Prelude.{◌≡◌, ℕ, ◌^◌, ◌<◌, List, [], ◌∷◌, length, ◌==◌, nat_eq, refl}
use Rattle.std.proofs.Common.{sym, ap, ◌∙◌, mod-lt, arith, eqb→eq, lit<, lit≤}
use Rattle.std.specs.List.{AllByRecursion}
use Rattle.fields.specs.Meaning.{Laws, Fixed, combined}
use Rattle.fields.specs.Shipped.{mod13}
use Rattle.fields.specs.Range.{at, at2, at3, unless0, from0}

abbrev S : ℕ → ℕ → ℕ
S = mod13.sum

abbrev P : ℕ → ℕ → ℕ
P = mod13.product

-- One digit times 1, and nothing after it, is the digit.
digit_alone : (d : ℕ) → d < 13 → combined mod13 (d ∷ []) (1 ∷ []) ≡ d
digit_alone d h = eqb→eq _ _ (at (λ d. nat_eq (combined mod13 (d ∷ []) (1 ∷ [])) d) 13 tt d h)

only : (a : ℕ) (ds : List ℕ) → length ds ≡ 1 → AllByRecursion (Fixed mod13) ds → combined mod13 ds (1 ∷ []) ≡ a → ds ≡ a ∷ []
only a [] n f e = absurd (omega arith)
only a (d ∷ []) n f e = ap (λ x. x ∷ []) (sym (digit_alone d f.0.0) ∙ e)
only a (d ∷ c ∷ ds) n f e = absurd (omega arith)

pub mod13_laws : Laws mod13
mod13_laws = record {
  number_byte = lit< tt;
  size_low = lit≤ tt;
  size_high = lit≤ tt;
  width_low = lit≤ tt;
  width_high = lit≤ tt;
  sum_code = λ a b ha hb. omega arith;
  opposite_code = λ a ha. omega arith;
  product_code = λ a b ha hb. omega arith;
  inverse_code = λ a ha. mod-lt (a ^ 11) (lit< tt);
  twist_code = λ a ha. ha;
  untwist_code = λ a ha. ha;
  sum_comm = λ a b ha hb. eqb→eq _ _ (at2 (λ a b. nat_eq (S a b) (S b a)) 13 tt a b ha hb);
  sum_assoc = λ a b c ha hb hc. eqb→eq _ _ (at3 (λ a b c. nat_eq (S (S a b) c) (S a (S b c))) 13 tt a b c ha hb hc);
  sum_zero = λ a ha. eqb→eq _ _ (at (λ a. nat_eq (S a 0) a) 13 tt a ha);
  sum_opposite = λ a ha. eqb→eq _ _ (at (λ a. nat_eq (S a (mod13.opposite a)) 0) 13 tt a ha);
  product_comm = λ a b ha hb. eqb→eq _ _ (at2 (λ a b. nat_eq (P a b) (P b a)) 13 tt a b ha hb);
  product_assoc = λ a b c ha hb hc. eqb→eq _ _ (at3 (λ a b c. nat_eq (P (P a b) c) (P a (P b c))) 13 tt a b c ha hb hc);
  product_one = λ a ha. eqb→eq _ _ (at (λ a. nat_eq (P a 1) a) 13 tt a ha);
  product_inverse = λ a ha h. eqb→eq _ _ (from0 a _ h (at (λ a. unless0 a (P a (mod13.inverse a) == 1)) 13 tt a ha));
  product_sum = λ a b c ha hb hc. eqb→eq _ _ (at3 (λ a b c. nat_eq (P a (S b c)) (S (P a b) (P a c))) 13 tt a b c ha hb hc);
  twist_sum = λ a b ha hb. refl;
  twist_product = λ a b ha hb. refl;
  twist_untwist = λ a ha. refl;
  untwist_twist = λ a ha. refl;
  basis_length = refl;
  basis_codes = (lit< tt, tt);
  digits_length = λ a ha. refl;
  digits_fixed = λ a ha. ((ha, refl), tt);
  digits_give = λ a ha. digit_alone a ha;
  digits_only = λ a ds ha n f e. only a ds n f e;
}
