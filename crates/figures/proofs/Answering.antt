-- Answers of a station that are determined: where each row of a table has one fault, the table refuses with one fault; so calls that it
-- judges are answered in one way, and lists of them.
--
--   Single r             the row r refuses with one fault alone
--   Singles rs           so does each of these rows
--   Only p c a q         put to a station at p, the call c is answered a and leads to q, and nothing else
use Rattle.std.proofs.Common.{◌≡◌, ℕ, ◌<◌, List, [], ◌∷◌, Result, Ok, Err, sym, refl, ap, ◌∙◌, subst, inl, inr, arith}
use Rattle.fields.specs.Meaning.{Meaning}
use Rattle.fields.specs.Elements.{Elem, elems}
use Rattle.sheets.specs.declared.faults.Fault.{Fault}
use Rattle.sheets.specs.declared.faults.Reason.{Reason}
use Rattle.sheets.specs.declared.faults.Reason.TheVariants.{OutOfReach}
use Rattle.codes.specs.declared.shape.Code.{Code}
use Rattle.codes.specs.Holdings.{held as numbers}
use Rattle.hints.specs.declared.not_taken.NotTaken.{NotTaken}
use Rattle.hints.specs.Splittings.{Given}
use Rattle.hints.specs.Taking.{RowJudged, ColumnJudged, with_row, with_column}
use Rattle.recovery.specs.Reach.{InReach}
use Rattle.station.specs.Calls.{Command, row, column, decode, Reply, done, wrote, weighs, counted, handed, at_station}
use Rattle.station.specs.Tables.{Row, where_so, Refuses, Accepts}
use Rattle.station.specs.Positions.{held, Tallied, Position, at, most_words}
use Rattle.station.specs.Refusals.{rows_of}
use Rattle.station.specs.Rules.{Acts, Answered}
use Rattle.station.specs.Histories.{History, no_call, call}
use Rattle.station.specs.Standings.{fault_of}
use Rattle.station.proofs.Reported.{always}
use Rattle.station.proofs.Hinted.{row_refused, row_accepted, column_accepted}

abbrev Single : Row → Type 0
Single r = (e f : Fault) → r e → r f → e ≡ f

abbrev Singles : List Row → Type 0
Singles [] = Unit {0}
Singles (r ∷ rs) = Single r × Singles rs

-- A row that refuses where something holds is one.
single : {P : Type 0} {reason : Reason} {place : ℕ} → Single (where_so P reason place)
single e f h k = h.1 ∙ sym k.1

-- A table of them refuses with one fault.
one_refusal : (rs : List Row) (e f : Fault) → Singles rs → Refuses rs e → Refuses rs f → e ≡ f
one_refusal [] e f s h k = absurd h
one_refusal (r ∷ rs) e f s (inl h) (inl k) = s.0 e f h k
one_refusal (r ∷ rs) e f s (inl h) (inr k) = absurd (k.0 e h)
one_refusal (r ∷ rs) e f s (inr h) (inl k) = absurd (h.0 f k)
one_refusal (r ∷ rs) e f s (inr h) (inr k) = one_refusal rs e f s.1 h.1 k.1

-- A table that accepts does not refuse.
not_both : (rs : List Row) (e : Fault) → Accepts rs → ¬ Refuses rs e
not_both [] e a h = h
not_both (r ∷ rs) e a (inl h) = a.0 e h
not_both (r ∷ rs) e a (inr h) = not_both rs e a.1 h.1

module _ {m : Meaning} where
  abbrev pub Only : Position m → Command → Result Reply Fault → Position m → Type 0
  Only p c a q = (b : Result Reply Fault) (r : Position m) → Answered m p c b r → (b ≡ a) × (r ≡ q)

  -- What a table of them refuses is refused so, and nothing else.
  only_refused : (p : Position m) (c : Command) (e : Fault) → Singles (rows_of m p c) → Refuses (rows_of m p c) e → Only p c (Err e) p
  only_refused p c e s h (Ok x) r k = absurd (not_both (rows_of m p c) e k.0 h)
  only_refused p c e s h (Err f) r k = (ap Err (one_refusal (rows_of m p c) f e s k.0 h), k.1)

  -- What a table accepts is not refused.
  pub not_refused : (p q : Position m) (c : Command) (a : Result Reply Fault) → Accepts (rows_of m p c) → Answered m p c a q
      → (x : Reply) × (a ≡ Ok x) × Acts m c p.standing p.tally x q
  not_refused p q c (Ok x) h k = (x, refl, k.1)
  not_refused p q c (Err e) h k = absurd (not_both (rows_of m p c) e h k.0)

  -- So it is done, and nothing else, where that is all that the call does.
  only_done : (p q : Position m) (c : Command) → Accepts (rows_of m p c) → ((x : Reply) (r : Position m) → Acts m c p.standing p.tally x r → (x ≡ done) × (r ≡ q)) → Only p c (Ok done) q
  only_done p q c h act b r k = let (x, is, acts) = not_refused p r c b h k in let there = act x r acts in (is ∙ ap Ok there.0, there.1)

  module _ (c : Code) (w : List ℕ) (gs : List (Given (Elem m))) (t : Tallied) where
    -- A row hint that is judged to be taken is taken.
    pub row_taken : (b x : ℕ) → RowJudged m (numbers c.lengths) c.dimension gs b x (Ok tt)
        → Only (at m (held c w gs) t) (row b x) (Ok done) (at m (held c w (with_row m gs b x)) t)
    row_taken b x judged = only_done (at m (held c w gs) t) (at m (held c w (with_row m gs b x)) t) (row b x) (always refl, row_accepted m c w gs t b x judged) act
      where
        act : (y : Reply) (r : Position m) → Acts m (row b x) (held c w gs) t y r → (y ≡ done) × (r ≡ at m (held c w (with_row m gs b x)) t)
        act done r h = (refl, h)
        act (wrote ys) r h = absurd h.0
        act (weighs n) r h = absurd h.0
        act (counted i j) r h = absurd h.0
        act (handed xs f a d) r h = absurd h.0

    -- So is a column hint.
    pub column_taken : (b : ℕ) (h : List ℕ) → ColumnJudged m (numbers c.lengths) c.dimension gs b h (Ok tt)
        → Only (at m (held c w gs) t) (column b h) (Ok done) (at m (held c w (with_column m gs b h)) t)
    column_taken b h judged =
        only_done (at m (held c w gs) t) (at m (held c w (with_column m gs b h)) t) (column b h) (always refl, column_accepted m c w gs t b h judged) act
      where
        act : (y : Reply) (r : Position m) → Acts m (column b h) (held c w gs) t y r → (y ≡ done) × (r ≡ at m (held c w (with_column m gs b h)) t)
        act done r k = (refl, k)
        act (wrote ys) r k = absurd k.0
        act (weighs n) r k = absurd k.0
        act (counted i j) r k = absurd k.0
        act (handed xs f a d) r k = absurd k.0

    -- A row hint that is judged not to be taken is refused for that reason.
    pub row_turned_down : (b x : ℕ) (e : NotTaken) → RowJudged m (numbers c.lengths) c.dimension gs b x (Err e)
        → Only (at m (held c w gs) t) (row b x) (Err (fault_of e)) (at m (held c w gs) t)
    row_turned_down b x e judged =
        only_refused (at m (held c w gs) t) (row b x) (fault_of e) (single, (single, (single, (single, (single, tt)))))
        (inr (always refl, row_refused m c w gs t b x e judged))

    -- Decode is refused where the tally is not full and no codeword is in reach.
    unreached_refused : t.words < most_words → ((v : List (Elem m)) → ¬ InReach m c gs (elems m w) v) → Refuses (rows_of m (at m (held c w gs) t) decode) (at_station OutOfReach 0)
    unreached_refused room none = inr (always refl, inr ((λ e full. omega (arith, full.0, room)), inl (none, refl)))

    -- So it is, and answered nothing else.
    pub refused_alone : t.words < most_words → ((v : List (Elem m)) → ¬ InReach m c gs (elems m w) v)
        → Refuses (rows_of m (at m (held c w gs) t) decode) (at_station OutOfReach 0)
        × ((a : Result Reply Fault) (q : Position m) → Answered m (at m (held c w gs) t) decode a q → a ≡ Err (at_station OutOfReach 0))
    refused_alone room none =
        let refuses = unreached_refused room none in
        (refuses, λ a q h. (only_refused (at m (held c w gs) t) decode (at_station OutOfReach 0) (single, (single, (single, tt))) refuses a q h).0)

  -- A first call that is only answered so, and the calls after it.
  pub after : {p q r : Position m} {c : Command} {cs : List Command} {a : Result Reply Fault} {rs : List (Result Reply Fault)} → Only p c a q → History m p (c ∷ cs) rs r
      → (rest : List (Result Reply Fault)) × (rs ≡ a ∷ rest) × History m q cs rest r
  after {r = r} {cs = cs} only (call {q = q} {a = a} {rest = rest} h more) =
      let there = only a q h in (rest, ap (λ b. b ∷ rest) there.0, subst (λ q. History m q cs rest r) there.1 more)

  -- No calls have no answers.
  pub at_end : {p r : Position m} {rs : List (Result Reply Fault)} → History m p [] rs r → rs ≡ []
  at_end no_call = refl
