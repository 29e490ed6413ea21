-- What elements span is told by rows that stand for them.
--
--   Numerals o n digits      rows of n fixed entries that stand for elements: they keep sums and fixed multiples, and tell elements apart
--   rank_as                  the rank of elements is the number of rows of a reduced form of their digits
use Rattle.std.proofs.Common.{◌≡◌, ℕ, Bool, List, [], ◌∷◌, map, length, sym, refl, ap, ◌∙◌, subst, arith}
use Rattle.std.proofs.lemmas.List.{length-map}
use Rattle.std.specs.List.{AllByRecursion}
use Rattle.fields.specs.Field.{Ops, Zero, Fixed, plus, scale, comb}
use Rattle.fields.specs.Field as field
use Rattle.fields.specs.Basics
use Rattle.fields.specs.Twists
use Rattle.skew.specs.Roots.{Independent}
use Rattle.skew.proofs.Sums.{cons_path}
use Rattle.ranks.specs.Ranks.{pick, Spanned, IsRank}
use Rattle.ranks.specs.Reduction.{mix, Row, AmongRows, Reduced}
use Rattle.ranks.proofs.Spans
use Rattle.ranks.proofs.Bases
use Rattle.ranks.proofs.Mixing
use Rattle.ranks.proofs.Picks

pub record Numerals {F : Type 0} (o : Ops F) (n : ℕ) (digits : F → List F) : Type 0 where
  pub fixed : (x : F) → Row o n (digits x)
  pub add : (x y : F) → digits (o.add x y) ≡ plus o (digits x) (digits y)
  pub mul : (c x : F) → Fixed o c → digits (o.mul c x) ≡ scale o c (digits x)
  pub apart : (x y : F) → digits x ≡ digits y → x ≡ y

module _ {F : Type 0} {o : Ops F} (l : field.Laws o) where
  open o use {zero, mul as ◌*◌}

  infixl 70 ◌*◌
  -- Zeros are the same where there are as many.
  pub same_zeros : (u v : List F) → length u ≡ length v → AllByRecursion (Zero o) u → AllByRecursion (Zero o) v → u ≡ v
  same_zeros [] [] e h k = refl
  same_zeros [] (y ∷ v) e h k = absurd (omega arith)
  same_zeros (x ∷ u) [] e h k = absurd (omega arith)
  same_zeros (x ∷ u) (y ∷ v) e h k = cons_path (h.0 ∙ sym k.0) (same_zeros u v (omega arith) h.1 k.1)

  module _ (n : ℕ) (digits : F → List F) (d : Numerals o n digits) where
    -- The digits of zero.
    zero_digits : AllByRecursion (Zero o) (digits zero)
    zero_digits = subst (AllByRecursion (Zero o)) (sym (ap digits (sym (Basics.zero_mul l zero)) ∙ d.mul zero zero (Twists.fixed_zero l))) (none_of (digits zero))
      where
        none_of : (v : List F) → AllByRecursion (Zero o) (scale o zero v)
        none_of [] = tt
        none_of (x ∷ v) = (Basics.zero_mul l x, none_of v)

    -- The digits of a combination.
    pub digits_comb : (cs vs : List F) → length cs ≡ length vs → AllByRecursion (Fixed o) cs → digits (comb o cs vs) ≡ mix o n (map digits vs) cs
    digits_comb [] [] e k = same_zeros (digits zero) (mix o n [] []) ((d.fixed zero).0 ∙ sym (Mixing.length_mix l n [] [])) zero_digits (Mixing.mix_none l n [])
    digits_comb [] (v ∷ vs) e k = absurd (omega arith)
    digits_comb (c ∷ cs) [] e k = absurd (omega arith)
    digits_comb (c ∷ cs) (v ∷ vs) e k =
        d.add (c * v) (comb o cs vs) ∙ ap (λ w. plus o w (digits (comb o cs vs))) (d.mul c v k.0) ∙ ap (plus o (scale o c (digits v))) (digits_comb cs vs (omega arith) k.1)
        ∙ sym (Mixing.mix_cons l n (digits v) (map digits vs) c cs (d.fixed v).0)

    -- What elements span, their digits span.
    pub spans_up : (us : List F) (x : F) → Spanned o us x → AmongRows o n (map digits us) (digits x)
    spans_up us x s = (s.0, s.1 ∙ sym (length-map us digits), s.2, ap digits s.3 ∙ digits_comb s.0 us s.1 s.2)

    -- And no more.
    pub spans_down : (us : List F) (x : F) → AmongRows o n (map digits us) (digits x) → Spanned o us x
    spans_down us x s =
        (s.0, s.1 ∙ length-map us digits, s.2, d.apart x (comb o s.0 us) (s.3 ∙ sym (digits_comb s.0 us (s.1 ∙ length-map us digits) s.2)))

    -- The same of each of a list.
    pub all_down : (us xs : List F) → AllByRecursion (AmongRows o n (map digits us)) (map digits xs) → AllByRecursion (Spanned o us) xs
    all_down us [] h = tt
    all_down us (x ∷ xs) h = (spans_down us x h.0, all_down us xs h.1)

    -- Rows that digits span are the digits of elements.
    pub lifted : (xs : List F) (rows : List (List F)) → AllByRecursion (AmongRows o n (map digits xs)) rows → (es : List F) × (map digits es ≡ rows) × AllByRecursion (Spanned o xs) es
    lifted xs [] h = ([], refl, tt)
    lifted xs (r ∷ rows) h =
        let w = lifted xs rows h.1 in
        let e : length h.0.0 ≡ length xs = h.0.1 ∙ length-map xs digits in
        (comb o h.0.0 xs ∷ w.0, cons_path (digits_comb h.0.0 xs e h.0.2 ∙ sym h.0.3) w.1, ((h.0.0, e, h.0.2, refl), w.2))

    -- Reduced rows are independent.
    pub rows_free : (marks : List Bool) (rows : List (List F)) → Reduced o n marks rows → (cs : List F) → length cs ≡ length rows → AllByRecursion (Zero o) (mix o n rows cs) → AllByRecursion (Zero o) cs
    rows_free marks rows f cs len e =
        subst (AllByRecursion (Zero o)) (ap (λ i. pick marks (mix o i rows cs)) (sym f.size) ∙ Picks.pick_mix l 0 marks rows cs f.pivots len (omega (arith, len, f.full)))
        (Spans.all_pick l (Zero o) marks (mix o n rows cs) e)

    -- The rank of elements is the number of rows of a reduced form of their digits.
    pub rank_as : (xs : List F) (marks : List Bool) (rows : List (List F)) → Reduced o n marks rows → AllByRecursion (AmongRows o n rows) (map digits xs) → AllByRecursion (AmongRows o n (map digits xs)) rows → IsRank o xs (length rows)
    rank_as xs marks rows f s t =
        subst (IsRank o xs) long (Bases.rank_by l xs w.0 free (all_down w.0 xs (subst (λ rs. AllByRecursion (AmongRows o n rs) (map digits xs)) (sym w.1) s)) w.2)
      where
        w : (es : List F) × (map digits es ≡ rows) × AllByRecursion (Spanned o xs) es
        w = lifted xs rows t

        long : length w.0 ≡ length rows
        long = sym (length-map w.0 digits) ∙ ap length w.1

        free : Independent o w.0
        free cs len fix e =
            rows_free marks rows f cs (len ∙ long)
            (subst (AllByRecursion (Zero o)) (ap digits (sym e) ∙ digits_comb cs w.0 len fix ∙ ap (λ rs. mix o n rs cs) w.1) zero_digits)
