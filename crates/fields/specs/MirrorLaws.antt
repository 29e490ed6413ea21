-- The mirror of a lawful kind is lawful.
use Rattle.std.specs.Prelude.{◌≡◌, ℕ, ◌+◌, ◌-◌, ◌<◌, nat_lt, List}
use Rattle.std.proofs.Common.{sym, ap, ◌∙◌, arith}
use Rattle.std.proofs.lemmas.Bool.{cond_both, ltb-true}
use Rattle.std.specs.List.{AllByRecursion}
use Rattle.fields.specs.Lists.{all_follow}
use Rattle.fields.specs.Meaning.{Meaning, Laws, Code, Fixed}
use Rattle.fields.specs.Mirror.{mirrored, across}

-- A byte stays a byte when it crosses 128.
across_byte : (n : ℕ) → n < 256 → across n < 256
across_byte n h = cond_both (nat_lt n 128) (n + 128) (n - 128) (λ x. x < 256) (λ e. omega (arith, ltb-true n 128 e)) (λ e. omega arith)

module _ (m : Meaning) (l : Laws m) where
  -- What twist keeps, untwist keeps.
  untwist_sum : (a b : ℕ) → Code m a → Code m b → m.untwist (m.sum a b) ≡ m.sum (m.untwist a) (m.untwist b)
  untwist_sum a b ha hb =
      let ua = l.untwist_code a ha in
      let ub = l.untwist_code b hb in
      let e : m.twist (m.sum (m.untwist a) (m.untwist b)) ≡ m.sum a b = l.twist_sum (m.untwist a) (m.untwist b) ua ub ∙ ap (λ x. m.sum x (m.twist (m.untwist b))) (l.twist_untwist a ha) ∙ ap (λ x. m.sum a x) (l.twist_untwist b hb) in
      ap m.untwist (sym e) ∙ l.untwist_twist (m.sum (m.untwist a) (m.untwist b)) (l.sum_code (m.untwist a) (m.untwist b) ua ub)

  untwist_product : (a b : ℕ) → Code m a → Code m b → m.untwist (m.product a b) ≡ m.product (m.untwist a) (m.untwist b)
  untwist_product a b ha hb =
      let ua = l.untwist_code a ha in
      let ub = l.untwist_code b hb in
      let e : m.twist (m.product (m.untwist a) (m.untwist b)) ≡ m.product a b = l.twist_product (m.untwist a) (m.untwist b) ua ub ∙ ap (λ x. m.product x (m.twist (m.untwist b))) (l.twist_untwist a ha) ∙ ap (λ x. m.product a x) (l.twist_untwist b hb) in
      ap m.untwist (sym e) ∙ l.untwist_twist (m.product (m.untwist a) (m.untwist b)) (l.product_code (m.untwist a) (m.untwist b) ua ub)

  -- The mirror has the same fixed elements.
  fixed_there : (d : ℕ) → Fixed m d → Fixed (mirrored m) d
  fixed_there d f = (f.0, ap m.untwist (sym f.1) ∙ l.untwist_twist d f.0)

  fixed_back : (d : ℕ) → Fixed (mirrored m) d → Fixed m d
  fixed_back d f = (f.0, ap m.twist (sym f.1) ∙ l.twist_untwist d f.0)

  all_there : (ds : List ℕ) → AllByRecursion (Fixed m) ds → AllByRecursion (Fixed (mirrored m)) ds
  all_there = all_follow (Fixed m) (Fixed (mirrored m)) fixed_there

  all_back : (ds : List ℕ) → AllByRecursion (Fixed (mirrored m)) ds → AllByRecursion (Fixed m) ds
  all_back = all_follow (Fixed (mirrored m)) (Fixed m) fixed_back

  pub mirror_laws : Laws (mirrored m)
  mirror_laws = record {
    number_byte = across_byte m.number l.number_byte;
    size_low = l.size_low;
    size_high = l.size_high;
    width_low = l.width_low;
    width_high = l.width_high;
    sum_code = l.sum_code;
    opposite_code = l.opposite_code;
    product_code = l.product_code;
    inverse_code = l.inverse_code;
    twist_code = l.untwist_code;
    untwist_code = l.twist_code;
    sum_comm = l.sum_comm;
    sum_assoc = l.sum_assoc;
    sum_zero = l.sum_zero;
    sum_opposite = l.sum_opposite;
    product_comm = l.product_comm;
    product_assoc = l.product_assoc;
    product_one = l.product_one;
    product_inverse = l.product_inverse;
    product_sum = l.product_sum;
    twist_sum = untwist_sum;
    twist_product = untwist_product;
    twist_untwist = l.untwist_twist;
    untwist_twist = l.twist_untwist;
    basis_length = l.basis_length;
    basis_codes = l.basis_codes;
    digits_length = l.digits_length;
    digits_fixed = λ a h. all_there (m.digits a) (l.digits_fixed a h);
    digits_give = l.digits_give;
    digits_only = λ a ds h n f e. l.digits_only a ds h n (all_back ds f) e;
  }
