-- Two stations with one code and word whose hints span the same agree.
use Rattle.std.proofs.Common.{◌≡◌, ℕ, suc, ◌<◌, ◌≤◌, List, [], ◌∷◌, map, length, get_or, Result, Ok, Err, IsOk, sym, ap, ◌∙◌, subst, arith}
use Rattle.fields.specs.Field.{plus}
use Rattle.fields.specs.Meaning.{Meaning, Laws}
use Rattle.fields.specs.Elements.{Elem, elems, codes, ops}
use Rattle.skew.specs.Annihilators.{places}
use Rattle.sheets.specs.declared.faults.Fault.{Fault}
use Rattle.ranks.specs.Ranks.{cut}
use Rattle.codes.specs.declared.shape.Code.{Code}
use Rattle.codes.specs.Holdings.{held as numbers}
use Rattle.codes.specs.Codes.{pts}
use Rattle.codes.specs.Duals.{Codeword}
use Rattle.hints.specs.Splittings.{Given, Splitting, IndependentHints, Alike, Everywhere}
use Rattle.hints.specs.Holdings.{no_hints}
use Rattle.hints.specs.Outcomes.{parts_of}
use Rattle.recovery.specs.declared.outcome.Recovery.{Recovery}
use Rattle.recovery.specs.Reach.{apart, InReach, AlikeHints, SpansOnly}
use Rattle.recovery.proofs.Sameness
use Rattle.station.specs.Calls.{decode, Reply}
use Rattle.station.specs.Positions.{held, solved, Tallied, Position, at}
use Rattle.station.specs.Rules.{Solves, Answered}
use Rattle.station.specs.Promises.{SameCode, Waits, Agree}
use Rattle.station.proofs.Keeping.{waits_kept}
use Rattle.station.proofs.Decoding.{gives, exact, alone}

module _ (m : Meaning) where
  -- The difference of a word from a codeword is cut in the same way.
  same_apart : {c d : Code} → SameCode c d → (w v : List (Elem m)) → apart m c w v ≡ apart m d w v
  same_apart s w v = ap (λ ns. cut ns (plus (ops m) w (map (ops m).neg v))) s.lengths

  -- What is in reach under one code is so under the other.
  reach_same : {c d : Code} {gs : List (Given (Elem m))} {w v : List (Elem m)} → SameCode c d → InReach m c gs w v → InReach m d gs w v
  reach_same {c} {d} {gs} {w} {v} s r = record {
    codeword = subst (λ ps. Codeword (ops m) (places m ps) d.dimension v) s.points (subst (λ k. Codeword (ops m) (pts m c) k v) s.dimension r.codeword);
    parts = r.parts;
    splitting = subst (λ es. Splitting (ops m) gs es r.parts) (same_apart s w v) r.splitting;
    errors = r.errors;
    weight = r.weight;
    budget = omega (arith, r.budget, s.dimension, ap length s.points);
  }

  -- Hints that are independent in every block and span the same.
  alike_hints : (ns : List ℕ) (gs hs : List (Given (Elem m))) → ((i : ℕ) → i < length ns → IndependentHints (ops m) (get_or ns i 0) (get_or gs i (no_hints m)))
      → ((i : ℕ) → i < length ns → IndependentHints (ops m) (get_or ns i 0) (get_or hs i (no_hints m))) → Everywhere (Alike (ops m)) ns gs hs → Everywhere (AlikeHints m) ns gs hs
  alike_hints [] [] [] first second a = tt
  alike_hints [] [] (h ∷ hs) first second a = absurd a
  alike_hints [] (g ∷ gs) hs first second a = absurd a
  alike_hints (n ∷ ns) [] hs first second a = absurd a
  alike_hints (n ∷ ns) (g ∷ gs) [] first second a = absurd a
  alike_hints (n ∷ ns) (g ∷ gs) (h ∷ hs) first second a = (
    record { first = first 0 (omega arith); second = second 0 (omega arith); alike = a.0 },
    alike_hints ns gs hs (λ i k. first (suc i) (omega (arith, k))) (λ i k. second (suc i) (omega (arith, k))) a.1,
  )

  -- The other way round.
  alike_back : (ns : List ℕ) (gs hs : List (Given (Elem m))) → Everywhere (Alike (ops m)) ns gs hs → Everywhere (Alike (ops m)) ns hs gs
  alike_back [] [] [] a = tt
  alike_back [] [] (h ∷ hs) a = absurd a
  alike_back [] (g ∷ gs) hs a = absurd a
  alike_back (n ∷ ns) [] hs a = absurd a
  alike_back (n ∷ ns) (g ∷ gs) [] a = absurd a
  alike_back (n ∷ ns) (g ∷ gs) (h ∷ hs) a =
      (record { rows = a.0.rows_back; rows_back = a.0.rows; columns = a.0.columns_back; columns_back = a.0.columns }, alike_back ns gs hs a.1)

  -- Where decode led to a station that is solved, what that has was recovered.
  recovered_there : (w : List ℕ) (t : Tallied) {c c' : Code} {gs gs' : List (Given (Elem m))} {r : Recovery} (a : Result Reply Fault) (p : Position m)
      → Answered m (at m (held c w gs) t) decode a p → p.standing ≡ solved c' gs' r → Solves m c gs w r
  recovered_there w t {c} {c'} {gs} {gs'} {r} (Ok x) p h e =
      let g = gives c w gs t x p h.1 in
      let same : solved c gs g.0 ≡ solved c' gs' r = sym (ap (λ (p : Position m). p.standing) g.2) ∙ e in
      subst (Solves m c gs w) (cc) g.1
  recovered_there w t {c} {c'} {gs} {gs'} {r} (Err f) p h e =
      let same : held c w gs ≡ solved c' gs' r = sym (ap (λ (p : Position m). p.standing) h.1) ∙ e in absurd (cc)

module _ {m : Meaning} (l : Laws m) where
  module _ {c d : Code} {w : List ℕ} {gs hs : List (Given (Elem m))} {t u : Tallied} (wait : Waits m c w gs t) (other : Waits m d w hs u) (s : SameCode c d)
      (a : Everywhere (Alike (ops m)) (numbers c.lengths) gs hs) where
    -- What calls have kept.
    alike : Everywhere (AlikeHints m) (numbers c.lengths) gs hs
    alike =
        alike_hints m (numbers c.lengths) gs hs (waits_kept l wait).free
        (subst (λ ns. (i : ℕ) → i < length ns → IndependentHints (ops m) (get_or ns i 0) (get_or hs i (no_hints m))) (sym s.lengths) (waits_kept l other).free) a

    same : SpansOnly m c (elems m w)
    same = Sameness.spans_only l c w (waits_kept l wait).long

    -- What is in reach for the one station is so for the other.
    reaches : (v : List (Elem m)) → InReach m c gs (elems m w) v → InReach m d hs (elems m w) v
    reaches v r = reach_same m s (same.reach gs hs alike v r)

    -- Where the one gives a codeword, so does the other.
    gives_too : (a b : Result Reply Fault) (p q : Position m) → Answered m (at m (held c w gs) t) decode a p → Answered m (at m (held d w hs) u) decode b q → IsOk a → IsOk b
    gives_too a b p q h k ok = let v = (exact wait a p h).0 ok in (exact other b q k).1 (v.0, reaches v.0 v.1)

    module _ {r x : Recovery} (R : Solves m c gs w r) (X : Solves m d hs w x) where
      -- It is the same codeword.
      same_elements : elems m (numbers r.codeword) ≡ elems m (numbers x.codeword)
      same_elements = alone l other (elems m (numbers r.codeword)) (elems m (numbers x.codeword)) (reaches (elems m (numbers r.codeword)) R.reach) X.reach

      same_codeword : numbers r.codeword ≡ numbers x.codeword
      same_codeword = sym R.codes.1 ∙ ap codes same_elements ∙ X.codes.1

      -- The parts of the one split the difference of the other, which has no more full errors.
      no_more : x.errors ≤ r.errors
      no_more =
          X.least (parts_of m (numbers c.lengths) r.parts) r.errors
          (subst (λ es. Splitting (ops m) hs es (parts_of m (numbers c.lengths) r.parts)) (ap (apart m c (elems m w)) same_elements ∙ same_apart m s (elems m w) (elems m (numbers x.codeword)))
          (same.splits gs hs alike (elems m (numbers r.codeword)) (parts_of m (numbers c.lengths) r.parts) R.splitting))
          R.weight

  -- Both ways.
  pub spans_only : {c d : Code} {w : List ℕ} {gs hs : List (Given (Elem m))} {t u : Tallied} → Waits m c w gs t → Waits m d w hs u → SameCode c d
      → Everywhere (Alike (ops m)) (numbers c.lengths) gs hs → (a b : Result Reply Fault) (p q : Position m) → Answered m (at m (held c w gs) t) decode a p → Answered m (at m (held d w hs) u) decode b q → Agree m a p b q
  spans_only {c} {d} {w} {gs} {hs} {t} {u} wait other s k a b p q h j = (
    (gives_too wait other s k a b p q h j, gives_too other wait back turned b a q p j h),
    (λ c' d' gs' hs' r x e f.
        let R = recovered_there m w t a p h e in
        let X = recovered_there m w u b q j f in
        (same_codeword wait other s k R X, omega (arith, no_more wait other s k R X, no_more other wait back turned X R))),
  )
    where
      back : SameCode d c
      back = record { dimension = sym s.dimension; lengths = sym s.lengths; points = sym s.points }

      turned : Everywhere (Alike (ops m)) (numbers d.lengths) hs gs
      turned = subst (λ ns. Everywhere (Alike (ops m)) ns hs gs) s.lengths (alike_back m (numbers c.lengths) gs hs k)
