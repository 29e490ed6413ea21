-- A sheet has at most one fault of its code: each fault says that none stands before it.
use Rattle.std.proofs.Common.{◌≡◌, ℕ, ◌+◌, ◌<◌, List, [], ◌∷◌, ◌++◌, length, get_or, take, drop, sym, refl, ap, ◌∙◌, subst, ap₂, subst₂, inl, inr, arith}
use Rattle.std.proofs.lemmas.List.{take_at, take-take, get_or-take, take-append-drop, drop_more, length-take, map-append}
use Rattle.std.proofs.Math.Seq.{get_or-append_seam}
use Rattle.std.proofs.lemmas.Bool.{cases_order}
use Rattle.fields.specs.Meaning.{Meaning, Laws}
use Rattle.fields.specs.Elements.{elem, elems, ops}
use Rattle.fields.proofs.Carrier
use Rattle.skew.specs.Roots.{Independent}
use Rattle.sheets.specs.declared.faults.Fault.{Fault}
use Rattle.sheets.specs.declared.faults.Reason.TheVariants.{NoCode, Dependent}
use Rattle.sheets.specs.declared.faults.Reason.TheVariants as reason
use Rattle.ranks.specs.Ranks.{cut, total, Depends}
use Rattle.ranks.proofs.Independence
use Rattle.codes.specs.Fitness.{at_code, First, Breaks, no_parameter, no_locator, related, dependent, OneFault}
use Rattle.codes.proofs.Rightness.{block_behind}

-- Two numbers of which neither is below the other are the same.
neither_below : (i j : ℕ) → ¬ (i < j) → ¬ (j < i) → i ≡ j
neither_below i j p q = elim (cases_order i j) [ inl e ↦ e | inr (inl h) ↦ absurd (p h) | inr (inr h) ↦ absurd (q h) ]

-- There is one first number of which P holds.
one_first : (P : ℕ → Type 0) (xs : List ℕ) (i j : ℕ) → First P xs i → First P xs j → i ≡ j
one_first P xs i j f g = neither_below i j (λ h. g.before i h f.here) (λ h. f.before j h g.here)

module _ {m : Meaning} (l : Laws m) where
  -- Elements of which one depends on earlier ones are not independent, and with more behind them neither.
  not_later : (ls : List ℕ) (i j : ℕ) → Depends m ls i → Depends m ls j → ¬ (i < j)
  not_later ls i j d e h =
      Independence.not_free (Carrier.ops_laws l) (elems m (take i ls)) (elem m (get_or ls i 0)) (elems m (drop (i + 1) (take j ls))) d.here
      (subst (Independent (ops m)) (ap (elems m) parted ∙ map-append (elem m) (take i ls) (get_or ls i 0 ∷ drop (i + 1) (take j ls))) e.before)
    where
      parted : take j ls ≡ take i ls ++ get_or ls i 0 ∷ drop (i + 1) (take j ls)
      parted =
          sym (take-append-drop i (take j ls))
          ∙ ap₂ ◌++◌ (take-take i j ls (omega (arith, h))) (drop_more (take j ls) i 0 (omega (arith, h, d.within, length-take j ls)) ∙ ap (λ x. x ∷ drop (i + 1) (take j ls)) (get_or-take j ls i 0 h))

  -- There is one first element that depends on earlier ones.
  one_place : (ls : List ℕ) (i j : ℕ) → Depends m ls i → Depends m ls j → i ≡ j
  one_place ls i j d e = neither_below i j (not_later ls i j d e) (not_later ls j i e d)

module _ {m : Meaning} {ls xs : List ℕ} {base : ℕ} where
  -- Of two blocks said to be the first with dependent locators neither stands before the other.
  not_behind : {e f : Fault} (b : Breaks m ls xs base e) (c : Breaks m ls xs base f) → ¬ (length b.front < length c.front)
  not_behind b c h =
      b.here.whole
      (subst (λ w. Independent (ops m) (elems m w)) (ap (λ ks. get_or (cut ks xs) (length b.front) []) b.lengths_are ∙ block_behind b.front b.size b.rest xs []) (c.before [] (length b.front) h))

  -- So they are one block, and the fault is one.
  one_break : Laws m → {e f : Fault} → Breaks m ls xs base e → Breaks m ls xs base f → e ≡ f
  one_break l b c =
      let there : b.place ≡ c.place = one_place l (take c.size (drop (total c.front) xs)) b.place c.place (subst₂ (λ n ks. Depends m (take n (drop (total ks) xs)) b.place) size front b.here) c.here in
      b.fault ∙ ap₂ (λ ks i. at_code Dependent (base + (total ks + i))) front there ∙ sym c.fault
    where
      long : length b.front ≡ length c.front
      long = neither_below (length b.front) (length c.front) (not_behind b c) (not_behind c b)

      front : b.front ≡ c.front
      front =
          sym (take_at b.front (b.size ∷ b.rest) (length b.front) refl) ∙ ap₂ take long (sym b.lengths_are ∙ c.lengths_are)
          ∙ take_at c.front (c.size ∷ c.rest) (length c.front) refl

      size : b.size ≡ c.size
      size =
          sym (get_or-append_seam b.front b.size b.rest 0) ∙ ap₂ (λ ks i. get_or ks i 0) (sym b.lengths_are ∙ c.lengths_are) long
          ∙ get_or-append_seam c.front c.size c.rest 0

-- So it is of all faults.
pub one_fault : {m : Meaning} → Laws m → OneFault m
one_fault l t e f (no_parameter i p) (no_parameter j q) = ap (λ n. at_code NoCode (4 + length t.blocks + n)) (one_first _ t.parameters i j p q)
one_fault l t e f (no_parameter i p) (no_locator j right q) = absurd (right i p.within p.here)
one_fault l t e f (no_parameter i p) (related j right codes h before here) = absurd (right i p.within p.here)
one_fault l t e f (no_parameter i p) (dependent judged b) = absurd (judged.parameters i p.within p.here)
one_fault l t e f (no_locator i right p) (no_parameter j q) = absurd (right j q.within q.here)
one_fault l t e f (no_locator i right p) (no_locator j right' q) = ap (λ n. at_code NoCode (5 + length t.blocks + length t.parameters + n)) (one_first _ t.locators i j p q)
one_fault l t e f (no_locator i right p) (related j right' codes h before here) = absurd (codes i p.within p.here)
one_fault l t e f (no_locator i right p) (dependent judged b) = absurd (judged.locators i p.within p.here)
one_fault l t e f (related i right codes h before here) (no_parameter j q) = absurd (right j q.within q.here)
one_fault l t e f (related i right codes h before here) (no_locator j right' q) = absurd (codes j q.within q.here)
one_fault l t e f (related i right codes h before here) (related j right' codes' h' before' here') =
    ap (λ n. at_code reason.Conjugate (4 + length t.blocks + n)) (neither_below i j (λ k. before' i k here) (λ k. before j k here'))
one_fault l t e f (related i right codes h before here) (dependent judged b) = absurd (judged.apart i h here)
one_fault l t e f (dependent judged b) (no_parameter j q) = absurd (judged.parameters j q.within q.here)
one_fault l t e f (dependent judged b) (no_locator j right q) = absurd (judged.locators j q.within q.here)
one_fault l t e f (dependent judged b) (related j right codes h before here) = absurd (judged.apart j h here)
one_fault l t e f (dependent judged b) (dependent judged' c) = one_break l b c
