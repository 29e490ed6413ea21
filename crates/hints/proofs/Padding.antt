-- Rows with zeros behind.
--
--   behind o k h     the row h with k zeros behind
use Rattle.std.proofs.Common.{◌≡◌, ℕ, suc, ◌+◌ as ◌+ℕ◌, ◌-◌, List, [], ◌∷◌, ◌++◌, map, length, replicate, sym, refl, ap, ◌∙◌, arith, length-append}
use Rattle.std.proofs.lemmas.List.{length-map, length-replicate}
use Rattle.std.proofs.lemmas.List.{map-append}
use Rattle.std.specs.List.{AllByRecursion}
use Rattle.fields.specs.Field.{Ops, Laws, Zero, Fixed, plus, scale}
use Rattle.fields.specs.Meaning.{Meaning}
use Rattle.fields.specs.Elements.{elem, elems, ops}
use Rattle.fields.proofs.Carrier
use Rattle.skew.proofs.Everywhere.{all_append}
use Rattle.skew.proofs.Sums.{cons_path}
use Rattle.ranks.specs.Reduction.{mix, Row, AmongRows}
use Rattle.ranks.proofs.Mixing
use Rattle.ranks.proofs.PaddedDigits
use Rattle.ranks.proofs.DigitSpans
use Rattle.hints.specs.Holdings.{padded}
use Rattle.codes.proofs.Interpolants

module _ {F : Type 0} (o : Ops F) where
  abbrev pub behind : ℕ → List F → List F
  behind k h = h ++ replicate k o.zero

module _ {F : Type 0} {o : Ops F} (l : Laws o) where
  open o use {zero}

  module _ (n k : ℕ) where
    -- A row of n places becomes one of n + k.
    pub row_behind : (h : List F) → Row o n h → Row o (n +ℕ k) (behind o k h)
    row_behind h r = (
      length-append h (replicate k zero) ∙ omega (arith, r.0, length-replicate k zero),
      all_append (Fixed o) h (replicate k zero) r.1 (PaddedDigits.fixed_zeros l (replicate k zero) (Interpolants.zeros_null l k)),
    )

    -- So each of a list.
    pub rows_behind : (hs : List (List F)) → AllByRecursion (Row o n) hs → AllByRecursion (Row o (n +ℕ k)) (map (behind o k) hs)
    rows_behind [] r = tt
    rows_behind (h ∷ hs) r = (row_behind h r.0, rows_behind hs r.1)

    -- Sums of rows with zeros behind.
    pub mix_behind : (hs : List (List F)) (xs : List F) → length xs ≡ length hs → AllByRecursion (λ h. length h ≡ n) hs → mix o (n +ℕ k) (map (behind o k) hs) xs ≡ behind o k (mix o n hs xs)
    mix_behind [] [] e r =
        DigitSpans.same_zeros l (mix o (n +ℕ k) [] []) (behind o k (mix o n [] []))
        (Mixing.length_mix l (n +ℕ k) [] [] ∙ sym (length-append (mix o n [] []) (replicate k zero) ∙ omega (arith, Mixing.length_mix l n [] [], length-replicate k zero)))
        (Mixing.mix_none l (n +ℕ k) []) (all_append (Zero o) (mix o n [] []) (replicate k zero) (Mixing.mix_none l n []) (Interpolants.zeros_null l k))
    mix_behind [] (x ∷ xs) e r = absurd (omega arith)
    mix_behind (h ∷ hs) [] e r = absurd (omega arith)
    mix_behind (h ∷ hs) (x ∷ xs) e r =
        Mixing.mix_cons l (n +ℕ k) (behind o k h) (map (behind o k) hs) x xs (length-append h (replicate k zero) ∙ omega (arith, r.0, length-replicate k zero))
        ∙ ap (plus o (scale o x (behind o k h))) (mix_behind hs xs (omega arith) r.1)
        ∙ ap (λ w. plus o w (behind o k (mix o n hs xs))) (sym (PaddedDigits.scale_behind l x h (replicate k zero) (Interpolants.zeros_null l k)))
        ∙ sym (PaddedDigits.plus_behind l (scale o x h) (mix o n hs xs) (replicate k zero) (length-map h (o.mul x) ∙ r.0 ∙ sym (Mixing.length_mix l n hs xs)) (Interpolants.zeros_null l k))
        ∙ ap (behind o k) (sym (Mixing.mix_cons l n h hs x xs r.0))

    -- The lengths of rows.
    pub lengths_of : (hs : List (List F)) → AllByRecursion (Row o n) hs → AllByRecursion (λ h. length h ≡ n) hs
    lengths_of [] r = tt
    lengths_of (h ∷ hs) r = (r.0.0, lengths_of hs r.1)

    -- What rows span, they span with zeros behind.
    pub among_behind : (hs : List (List F)) (h : List F) → AllByRecursion (Row o n) hs → AmongRows o n hs h → AmongRows o (n +ℕ k) (map (behind o k) hs) (behind o k h)
    among_behind hs h r s = (s.0, s.1 ∙ sym (length-map hs (behind o k)), s.2, ap (behind o k) s.3 ∙ sym (mix_behind hs s.0 s.1 (lengths_of hs r)))

    -- And no more.
    pub among_before : (hs : List (List F)) (h : List F) → AllByRecursion (Row o n) hs → length h ≡ n → AmongRows o (n +ℕ k) (map (behind o k) hs) (behind o k h) → AmongRows o n hs h
    among_before hs h r e s =
        let size : length s.0 ≡ length hs = s.1 ∙ length-map hs (behind o k) in
        (s.0, size, s.2, PaddedDigits.before_same l h (mix o n hs s.0) (replicate k zero) (e ∙ sym (Mixing.length_mix l n hs s.0)) (s.3 ∙ mix_behind hs s.0 size (lengths_of hs r)))

-- Numbers with zeros behind, in elements.
pub padded_numbers : (m : Meaning) (e : List ℕ) → elems m (e ++ replicate (8 - length e) 0) ≡ padded m (elems m e)
padded_numbers m e = map-append (elem m) e (replicate (8 - length e) 0) ∙ ap (λ z. elems m e ++ z) (zeros (8 - length e) ∙ ap (λ n. replicate (8 - n) (ops m).zero) (sym (length-map e (elem m))))
  where
    zeros : (k : ℕ) → elems m (replicate k 0) ≡ replicate k (ops m).zero
    zeros ℕ.zero = refl
    zeros (suc k) = cons_path (Carrier.zero_is m) (zeros k)
