-- A hint that is judged is refused or accepted by the table.
use Rattle.std.proofs.Common.{ℕ, List, Ok, Err, refl, ap, inl, inr, arith}
use Rattle.fields.specs.Meaning.{Meaning}
use Rattle.fields.specs.Elements.{Elem}
use Rattle.sheets.specs.declared.faults.Reason.TheVariants.{NoSymbol}
use Rattle.codes.specs.declared.shape.Code.{Code}
use Rattle.codes.specs.Holdings.{held as numbers}
use Rattle.hints.specs.declared.not_taken.NotTaken.{NotTaken}
use Rattle.hints.specs.declared.not_taken.NotTaken.TheVariants.{NoBlock, WrongLength, NoCode, Dependent, Spent}
use Rattle.hints.specs.Splittings.{Given}
use Rattle.hints.specs.Taking.{RowJudged, ColumnJudged}
use Rattle.station.specs.Calls.{row, column, at_station}
use Rattle.station.specs.Tables.{Refuses, Accepts}
use Rattle.station.specs.Positions.{held, Tallied}
use Rattle.station.specs.Refusals.{later_rows}
use Rattle.station.specs.Standings.{fault_of}

module _ (m : Meaning) (c : Code) (w : List ℕ) (gs : List (Given (Elem m))) (t : Tallied) where
  pub row_refused : (b x : ℕ) (e : NotTaken) → RowJudged m (numbers c.lengths) c.dimension gs b x (Err e) → Refuses (later_rows m (row b x) (held c w gs) t) (fault_of e)
  row_refused b x NoBlock h = inl (h, refl)
  row_refused b x WrongLength h = absurd h
  row_refused b x (NoCode i) h = inr ((λ e row. row.0 h.0), inl (h.1, ap (at_station NoSymbol) h.2))
  row_refused b x Dependent h = inr ((λ e row. row.0 h.0), inr ((λ e row. omega (arith, row.0, h.1)), inl (h.2, refl)))
  row_refused b x Spent h = inr ((λ e row. row.0 h.0), inr ((λ e row. omega (arith, row.0, h.1)), inr ((λ e row. h.2 row.0), inl (h.3, refl))))

  pub row_accepted : (b x : ℕ) → RowJudged m (numbers c.lengths) c.dimension gs b x (Ok tt) → Accepts (later_rows m (row b x) (held c w gs) t)
  row_accepted b x h = ((λ e row. row.0 h.0), ((λ e row. omega (arith, row.0, h.1)), ((λ e row. h.2 row.0), ((λ e row. row.0 h.3), tt))))

  pub column_refused : (b : ℕ) (h : List ℕ) (e : NotTaken) → ColumnJudged m (numbers c.lengths) c.dimension gs b h (Err e) → Refuses (later_rows m (column b h) (held c w gs) t) (fault_of e)
  column_refused b h NoBlock k = inl (k, refl)
  column_refused b h WrongLength k = inr ((λ e row. row.0 k.0), inl (k.1, refl))
  column_refused b h (NoCode i) k = inr ((λ e row. row.0 k.0), inr ((λ e row. row.0 k.1), inl (record { place = i; first = k.2; fault = refl })))
  column_refused b h Dependent k =
      inr ((λ e row. row.0 k.0), inr ((λ e row. row.0 k.1), inr ((λ e row. k.2 row.place row.first.within row.first.here), inl (k.3, refl))))
  column_refused b h Spent k =
      inr ((λ e row. row.0 k.0), inr ((λ e row. row.0 k.1), inr ((λ e row. k.2 row.place row.first.within row.first.here), inr ((λ e row. k.3 row.0), inl (k.4, refl)))))

  pub column_accepted : (b : ℕ) (h : List ℕ) → ColumnJudged m (numbers c.lengths) c.dimension gs b h (Ok tt) → Accepts (later_rows m (column b h) (held c w gs) t)
  column_accepted b h k =
      ((λ e row. row.0 k.0), ((λ e row. row.0 k.1), ((λ e row. k.2 row.place row.first.within row.first.here), ((λ e row. k.3 row.0), ((λ e row. row.0 k.4), tt)))))
