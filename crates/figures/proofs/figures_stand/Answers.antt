use Rattle.std.proofs.Common.{◌≡◌, ℕ, suc, ◌+◌, ◌≤◌, true, false, ◌≢◌, [], ◌∷◌, sym, refl, ap, ◌∙◌, arith, lit<, lit≤}
use Rattle.fields.specs.Field.{comb}
use Rattle.fields.specs.Residues.{sum, opposite, product, power}
use Rattle.fields.specs.Elements.{Elem, element, elem, elems, ops}
use Rattle.fields.specs.Shipped.{gf16, mod13}
use Rattle.fields.specs.Basics
use Rattle.fields.proofs.Carrier
use Rattle.fields.specs.Mod13Laws.{mod13_laws}
use Rattle.fields.specs.ShippedLaws.{gf16_laws}
use Rattle.skew.specs.Roots.{Independent}
use Rattle.codes.specs.Duals.{powers}
use Rattle.codes.specs.Fitness.{related, dependent}
use Rattle.ranks.specs.Ranks.{Depends}
use Rattle.figures.specs.Figures.{points_a}
use Rattle.figures.proofs.Small.{none_outside}
use Rattle.figures.proofs.Reaching.{word_by_sheet}
use Rattle.figures.proofs.Unreached.{hinted, nothing_without_hints, nothing_with_one_hint}
use Rattle.figures.proofs.Answering.{refused_alone}
use Rattle.figures.proofs.Reached.{a_one_error, a_two_hints, b_one_error, b_two_hints, b_without_hints}
use Rattle.figures.proofs.Hinting.{five_dependent, one_spent, hints_called}
use Rattle.figures.proofs.Fitting.{two, apart_b, a_fit, b_fit}
use Rattle.figures.proofs.Recovering.{given, given_unhinted}
use Rattle.figures.proofs.figures_stand.Goals as goal

-- The sums of A's dual locators with each power of the locators, up to the second.
null_a : (i : ℕ) → i + 2 ≤ 4 → comb (ops mod13) (elems mod13 (1 ∷ 10 ∷ 3 ∷ 12 ∷ [])) (powers (ops mod13) i points_a) ≡ (ops mod13).zero
unfolding element ops
null_a ℕ.zero h = refl
null_a (suc ℕ.zero) h = refl
null_a (suc (suc ℕ.zero)) h = refl
null_a (suc (suc (suc i))) h = absurd (omega arith)

-- In kind 2 the code 6 is not zero.
six : elem gf16 6 ≢ (ops gf16).zero
unfolding element ops
six e = omega (arith, ap (λ (x : Elem gf16). x.code) e)

-- One locator other than zero is independent.
alone : Independent (ops gf16) (elems gf16 (1 ∷ []))
alone [] n f e = absurd (omega arith)
alone (c ∷ []) n f e =
    let l = Carrier.ops_laws gf16_laws in
    (sym (Basics.mul_one l c) ∙ ap ((ops gf16).mul c) (sym (Carrier.one_is gf16)) ∙ sym (Basics.add_zero l ((ops gf16).mul c (elem gf16 1))) ∙ e, tt)
alone (c ∷ d ∷ cs) n f e = absurd (omega arith)

-- 6 is a fixed multiple of 1.
depends_b : Depends gf16 (1 ∷ 6 ∷ []) 1
unfolding element ops sum product power
depends_b = record {
  within = lit< tt;
  before = alone;
  here = (elem gf16 6 ∷ [], refl, (refl, tt), refl);
  whole = λ free. six (free (elem gf16 6 ∷ elem gf16 1 ∷ []) refl (refl, (refl, tt)) refl).0;
}

pub returns : goal.returns
unfolding sum opposite product power element ops
returns c = record {
  kind_1_product = refl;
  kind_1_fixed = refl;
  kind_2_product = refl;
  kind_2_twist = refl;
  kind_3_product = refl;
  kind_3_twist = refl;
  kind_4_values = refl;
  kind_2_values_1 = refl;
  kind_2_values_2 = refl;
  a_spelled = record {
    whole = record {
      opens = record {
        blocks = (lit≤ tt, lit≤ tt);
        lengths = record { each = ((lit≤ tt, lit≤ tt), ((lit≤ tt, lit≤ tt), ((lit≤ tt, lit≤ tt), ((lit≤ tt, lit≤ tt), tt)))); total = lit≤ tt };
        least = lit≤ tt;
        most = lit≤ tt;
      };
      as_many_parameters = refl;
      as_many_locators = refl;
    };
    bytes_are = refl;
  };
  b_spelled = record {
    whole = record {
      opens = record {
        blocks = (lit≤ tt, lit≤ tt);
        lengths = record { each = ((lit≤ tt, lit≤ tt), ((lit≤ tt, lit≤ tt), tt)); total = lit≤ tt };
        least = lit≤ tt;
        most = lit≤ tt;
      };
      as_many_parameters = refl;
      as_many_locators = refl;
    };
    bytes_are = refl;
  };
  a_fit = a_fit;
  b_fit = b_fit;
  a_dual = record { size = refl; first = refl; null = null_a };
  a_syndromes = refl;
  b_conjugate =
      related 1 (none_outside gf16 1 (1 ∷ 8 ∷ []) tt) (none_outside gf16 0 (1 ∷ 2 ∷ 1 ∷ 2 ∷ []) tt) (lit< tt) (λ i h r. absurd (omega (arith, r.1))) (0, lit< tt, (elem gf16 2, two, refl));
  b_dependent =
      dependent (record { parameters = none_outside gf16 1 (1 ∷ 2 ∷ []) tt; locators = none_outside gf16 0 (1 ∷ 6 ∷ 1 ∷ 2 ∷ []) tt; apart = apart_b })
      (record { front = []; size = 2; rest = 2 ∷ []; place = 1; lengths_are = refl; before = λ b i h. absurd (omega arith); here = depends_b; fault = refl });
  a_word = λ c made. word_by_sheet made (elems mod13 (5 ∷ 3 ∷ [])) refl;
  b_word = λ c made. word_by_sheet made (elems gf16 (1 ∷ 1 ∷ [])) refl;
  a_one_error = λ c made. a_one_error made;
  a_two_errors = λ c made. nothing_without_hints made;
  a_one_hint = λ c made. nothing_with_one_hint made;
  a_two_hints = λ c made. a_two_hints made;
  b_one_error = λ c made. b_one_error made;
  b_two_hints = λ c made. b_two_hints made;
  b_without_hints = λ c made. b_without_hints made;
  b_dependent_hint = five_dependent;
  b_spent = one_spent;
  b_hints_called = λ c made t rs q h. hints_called made t (8 ∷ 4 ∷ 3 ∷ 13 ∷ []) rs q h;
  a_two_errors_called = λ c made t room. refused_alone c (8 ∷ 12 ∷ 2 ∷ 4 ∷ []) (hinted (false ∷ false ∷ false ∷ false ∷ [])) t room (nothing_without_hints made);
  a_one_hint_called = λ c made t room. refused_alone c (8 ∷ 12 ∷ 2 ∷ 4 ∷ []) (hinted (false ∷ true ∷ false ∷ false ∷ [])) t room (nothing_with_one_hint made);
  a_one_error_called = λ c made.
      given_unhinted mod13_laws made (8 ∷ 12 ∷ 1 ∷ 4 ∷ []) (8 ∷ 11 ∷ 1 ∷ 4 ∷ []) refl (tt, (tt, (tt, (tt, tt)))) refl 1 (a_one_error made).0 (a_one_error made).1 4 refl refl;
  a_two_hints_called = λ c made.
      given mod13_laws made (8 ∷ 12 ∷ 2 ∷ 4 ∷ []) (8 ∷ 11 ∷ 1 ∷ 4 ∷ []) refl (tt, (((refl, (refl, tt)), tt), (((refl, (refl, tt)), tt), (tt, tt)))) refl 0 (a_two_hints made).0 (a_two_hints made).1 refl;
  b_one_error_called = λ c made. given_unhinted gf16_laws made (8 ∷ 4 ∷ 3 ∷ 4 ∷ []) (0 ∷ 1 ∷ 3 ∷ 4 ∷ []) refl (tt, (tt, tt)) refl 1 (b_one_error made).0 (b_one_error made).1 2 refl refl;
  b_two_hints_called = λ c made.
      given gf16_laws made (8 ∷ 4 ∷ 3 ∷ 13 ∷ []) (0 ∷ 1 ∷ 3 ∷ 4 ∷ []) refl (tt, (((refl, (refl, (refl, tt))), tt), tt)) refl 0 (b_two_hints made).0 (b_two_hints made).1 refl;
  b_without_hints_called = λ c made.
      given_unhinted gf16_laws made (8 ∷ 4 ∷ 3 ∷ 13 ∷ []) (4 ∷ 4 ∷ 3 ∷ 13 ∷ []) refl (tt, (tt, tt)) refl 1 (b_without_hints made).0 (b_without_hints made).1 2 refl refl;
}
