-- The laws of digits by computed tests: over all codes, and over all rows of fixed codes.
--
--   same xs ys         the lists are equal
--   member d ds        d is in the list
--   every f ds         the test passes at each number of the list
--   rows n from f      it passes at each row of n numbers taken from a list
--   DigitLaws m       what a kind owes of its digits
use Rattle.std.specs.Prelude.{◌≡◌, ℕ, suc, Bool, true, false, cond, T, List, [], ◌∷◌, length, ◌==◌, nat_eq, nat_lt, refl}
use Rattle.std.proofs.Common.{sym, ap, ap₂, ◌∙◌, subst, arith, eqb→eq, ltb→lt}
use Rattle.std.proofs.lemmas.Bool.{eq-eqb, cond-true}
use Rattle.std.proofs.Math.Bool.{◌||◌}
use Rattle.std.specs.Cmp.Lexicographic.{pointwise}
use Rattle.std.specs.List.{list_any, list_all as every}
use Rattle.std.specs.List.{AllByRecursion}
use Rattle.fields.specs.Lists.{all_follow}
use Rattle.fields.specs.Meaning.{Meaning, Code, Fixed, combined}
use Rattle.fields.specs.Range.{both, both_left, both_right, below, at}

abbrev pub same : List ℕ → List ℕ → Bool
same = pointwise nat_eq

pub same_is : (xs ys : List ℕ) → T (same xs ys) → xs ≡ ys
same_is [] [] t = refl
same_is [] (y ∷ ys) t = absurd t
same_is (x ∷ xs) [] t = absurd t
same_is (x ∷ xs) (y ∷ ys) t = ap₂ (λ z zs. z ∷ zs) (eqb→eq x y (both_left (x == y) (same xs ys) t)) (same_is xs ys (both_right (x == y) (same xs ys) t))

abbrev pub member : ℕ → List ℕ → Bool
member d = list_any (λ x. d == x)

-- What passes at each number of a list passes at a member.
at_member : (f : ℕ → Bool) (xs : List ℕ) → T (every f xs) → (d : ℕ) → T (member d xs) → T (f d)
at_member f [] t d h = absurd h
at_member f (x ∷ xs) t d h = choose (d == x) refl (at_member f xs (both_right (f x) (every f xs) t) d) h
  where
    choose : (b : Bool) → (d == x) ≡ b → (T (member d xs) → T (f d)) → T (b || member d xs) → T (f d)
    choose true e later k = subst (λ y. T (f y)) (sym (eqb→eq d x (subst T (sym e) tt))) (both_left (f x) (every f xs) t)
    choose false e later k = later k

abbrev pub rows : ℕ → List ℕ → (List ℕ → Bool) → Bool
rows ℕ.zero from f = f []
rows (suc n) from f = every (λ c. rows n from (λ ds. f (c ∷ ds))) from

at_rows : (n : ℕ) (from : List ℕ) (f : List ℕ → Bool) → T (rows n from f) → (ds : List ℕ) → length ds ≡ n → AllByRecursion (λ d. T (member d from)) ds → T (f ds)
at_rows ℕ.zero from f t [] e h = t
at_rows ℕ.zero from f t (d ∷ ds) e h = absurd (omega arith)
at_rows (suc n) from f t [] e h = absurd (omega arith)
at_rows (suc n) from f t (d ∷ ds) e h =
    at_rows n from (λ rest. f (d ∷ rest)) (at_member (λ c. rows n from (λ rest. f (c ∷ rest))) from t d h.0) ds (omega arith) h.1

pub record DigitLaws (m : Meaning) : Type 0 where
  pub digits_fixed : (a : ℕ) → Code m a → AllByRecursion (Fixed m) (m.digits a)
  pub digits_give : (a : ℕ) → Code m a → combined m (m.digits a) m.basis ≡ a
  pub digits_only : (a : ℕ) (ds : List ℕ) → Code m a → length ds ≡ m.width → AllByRecursion (Fixed m) ds → combined m ds m.basis ≡ a → ds ≡ m.digits a

module _ (m : Meaning) (fixed : List ℕ) where
  -- The numbers of the list are fixed codes,
  abbrev pub are_fixed : Bool
  are_fixed = every (λ d. both (nat_lt d m.size) (m.twist d == d)) fixed

  -- no other code is,
  abbrev pub all_fixed : Bool
  all_fixed = below (λ d. cond (m.twist d == d) (member d fixed) true) m.size

  -- the digits of each code are in the list and combine to it,
  abbrev pub digits_combine : Bool
  digits_combine = below (λ a. both (every (λ d. member d fixed) (m.digits a)) (combined m (m.digits a) m.basis == a)) m.size

  -- and each row from the list is the digits of what it combines to.
  abbrev pub rows_return : Bool
  rows_return = rows m.width fixed (λ ds. same ds (m.digits (combined m ds m.basis)))

  module _ (t1 : T are_fixed) (t2 : T all_fixed) (t3 : T digits_combine) (t4 : T rows_return) where
    fixes : (ds : List ℕ) → T (every (λ d. member d fixed) ds) → AllByRecursion (Fixed m) ds
    fixes [] t = tt
    fixes (d ∷ ds) t =
        let k = at_member (λ d. both (nat_lt d m.size) (m.twist d == d)) fixed t1 d (both_left (member d fixed) (every (λ d. member d fixed) ds) t) in (
          (ltb→lt _ _ (both_left (nat_lt d m.size) (m.twist d == d) k), eqb→eq _ _ (both_right (nat_lt d m.size) (m.twist d == d) k)),
          fixes ds (both_right (member d fixed) (every (λ d. member d fixed) ds) t),
        )

    listed : (d : ℕ) → Fixed m d → T (member d fixed)
    listed d f = subst T (cond-true (m.twist d == d) (member d fixed) true (eq-eqb _ _ f.1)) (at (λ d. cond (m.twist d == d) (member d fixed) true) m.size t2 d f.0)

    all_listed : (ds : List ℕ) → AllByRecursion (Fixed m) ds → AllByRecursion (λ d. T (member d fixed)) ds
    all_listed = all_follow (Fixed m) (λ d. T (member d fixed)) listed

    at_code : (a : ℕ) → Code m a → T (both (every (λ d. member d fixed) (m.digits a)) (combined m (m.digits a) m.basis == a))
    at_code a h = at (λ a. both (every (λ d. member d fixed) (m.digits a)) (combined m (m.digits a) m.basis == a)) m.size t3 a h

    pub digit_laws : DigitLaws m
    digit_laws = record {
      digits_fixed = λ a h. fixes (m.digits a) (both_left (every (λ d. member d fixed) (m.digits a)) (combined m (m.digits a) m.basis == a) (at_code a h));
      digits_give = λ a h. eqb→eq _ _ (both_right (every (λ d. member d fixed) (m.digits a)) (combined m (m.digits a) m.basis == a) (at_code a h));
      digits_only = λ a ds h n f e.
          same_is ds (m.digits (combined m ds m.basis)) (at_rows m.width fixed (λ ds. same ds (m.digits (combined m ds m.basis))) t4 ds n (all_listed ds f)) ∙ ap m.digits e;
    }
