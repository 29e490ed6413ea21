-- An element is reduced by elements whose digits are in reduced form: each is taken off times the digit at its pivot.
use Rattle.std.proofs.Common.{◌≡◌, ℕ, Bool, List, [], ◌∷◌, map, length, sym, refl, ap, ◌∙◌, subst, arith}
use Rattle.std.proofs.lemmas.List.{length-map}
use Rattle.std.specs.List.{AllByRecursion}
use Rattle.fields.specs.Field.{Ops, Laws, Fixed, plus, scale, comb}
use Rattle.fields.specs.Basics
use Rattle.fields.specs.Twists
use Rattle.fields.specs.Basics.{ring}
use Rattle.fields.specs.Rows
use Rattle.skew.proofs.Sums.{cons_path}
use Rattle.ranks.specs.Ranks.{pick, Spanned}
use Rattle.ranks.specs.Reduction.{mix, Reduced}
use Rattle.ranks.specs.RowSteps.{clear}
use Rattle.ranks.proofs.Spans
use Rattle.ranks.proofs.Picks
use Rattle.ranks.proofs.DigitSpans
use Rattle.ranks.proofs.DigitSpans.{Numerals}
use Rattle.hints.proofs.Leasts.{Reduces}

module _ {F : Type 0} {o : Ops F} (l : Laws o) (n : ℕ) (digits : F → List F) (d : Numerals o n digits) (marks : List Bool) (us : List F) (formed : Reduced o n marks (map digits us)) where
  open o use {one, add as ◌+◌, mul as ◌*◌, neg}

  infixl 65 ◌+◌
  infixl 70 ◌*◌
  -- What is taken off x.
  abbrev pub off : F → F
  off x = comb o (pick marks (digits x)) us

  -- There is a digit for each element.
  picked : (x : F) → length (pick marks (digits x)) ≡ length us
  picked x = Picks.length_pick marks (digits x) ((d.fixed x).0 ∙ sym formed.size) ∙ formed.full ∙ length-map us digits

  -- The digits are fixed.
  fixed_picked : (x : F) → AllByRecursion (Fixed o) (pick marks (digits x))
  fixed_picked x = Spans.all_pick l (Fixed o) marks (digits x) (d.fixed x).1

  -- It keeps sums.
  off_add : (x y : F) → off (x + y) ≡ off x + off y
  off_add x y =
      ap (λ w. comb o (pick marks w) us) (d.add x y) ∙ ap (λ w. comb o w us) (Picks.pick_plus l marks (digits x) (digits y) ((d.fixed x).0 ∙ sym (d.fixed y).0))
      ∙ Rows.comb_plus l (pick marks (digits x)) (pick marks (digits y)) us

  -- It keeps fixed multiples.
  off_scale : (c x : F) → Fixed o c → off (c * x) ≡ c * off x
  off_scale c x p =
      ap (λ w. comb o (pick marks w) us) (d.mul c x p) ∙ ap (λ w. comb o w us) (Picks.pick_map (o.mul c) marks (digits x)) ∙ Rows.comb_scale l c (pick marks (digits x)) us

  -- What the elements span is taken off whole.
  off_all : (cs : List F) → length cs ≡ length us → AllByRecursion (Fixed o) cs → off (comb o cs us) ≡ comb o cs us
  off_all cs e k =
      ap (λ w. comb o (pick marks w) us) (DigitSpans.digits_comb l n digits d cs us e k ∙ ap (λ i. mix o i (map digits us) cs) (sym formed.size))
      ∙ ap (λ w. comb o w us) (Picks.pick_mix l 0 marks (map digits us) cs formed.pivots (e ∙ sym (length-map us digits)) (omega (arith, formed.full, length-map us digits)))

  -- To take it off reduces by the elements.
  pub by_digits : Reduces o (λ x. x + neg (off x)) us
  by_digits = record {
    adds = λ x y. ap (λ w. x + y + neg w) (off_add x y) ∙ sum x y (off x) (off y);
    scales = λ c x p. ap (λ w. c * x + neg w) (off_scale c x p) ∙ multiple c x (off x);
    off = λ x. subst (Spanned o us) (sym (back x (off x))) (pick marks (digits x), picked x, fixed_picked x, refl);
    kills = λ x s. Basics.sub_of_equal l x (off x) (s.3 ∙ sym (ap off s.3 ∙ off_all s.0 s.1 s.2));
  }
    where
      sum : (x y u v : F) → x + y + neg (u + v) ≡ x + neg u + (y + neg v)
      sum x y u v = simp (ring, l)

      multiple : (c x u : F) → c * x + neg (c * u) ≡ c * (x + neg u)
      multiple c x u = simp (ring, l)

      back : (x u : F) → x + neg (x + neg u) ≡ u
      back x u = simp (ring, l)

  -- The digits of an opposite.
  digits_neg : (y : F) → digits (neg y) ≡ map neg (digits y)
  digits_neg y = ap digits (sym (one_less y)) ∙ d.mul (neg one) y (Twists.fixed_neg l one (Twists.fixed_one l)) ∙ each (digits y)
    where
      one_less : (x : F) → neg one * x ≡ neg x
      one_less x = simp (ring, l)

      each : (v : List F) → scale o (neg one) v ≡ map neg v
      each [] = refl
      each (x ∷ v) = cons_path (one_less x) (each v)

  -- In digits it is clearing.
  pub clear_digits : (x : F) → digits (x + neg (off x)) ≡ clear o marks (map digits us) (digits x)
  clear_digits x =
      d.add x (neg (off x))
      ∙ ap (plus o (digits x)) (digits_neg (off x) ∙ ap (map neg) (DigitSpans.digits_comb l n digits d (pick marks (digits x)) us (picked x) (fixed_picked x) ∙ ap (λ i. mix o i (map digits us) (pick marks (digits x))) (sym (d.fixed x).0)))
