-- What a station is asked and what it answers.
--
--   Command         a call with its input; where something is written, the length of the buffer is an input
--   Reply           the answer of a call that is not refused
--   Stage, opens    the four states, and which calls are open in which
--   at_station      a refusal of the layer of stations
use Rattle.std.specs.Prelude.{ℕ, Bool, true, false, List}
use Rattle.sheets.specs.declared.faults.Fault.{Fault}
use Rattle.sheets.specs.declared.faults.Reason.{Reason}
use Rattle.sheets.specs.declared.faults.Layer.TheVariants as layer
use Rattle.sheets.specs.Faults.{refused_by}

pub data Command : Type 0 where
  -- the bytes of a sheet
  set_up : List ℕ → Command
  load : List ℕ → Command
  -- a block, counted from 1, and an element
  row : ℕ → ℕ → Command
  -- a block, counted from 1, and coefficients
  column : ℕ → List ℕ → Command
  decode : Command
  clear : Command
  -- symbols, and the length of the buffer
  encode : List ℕ → ℕ → Command
  message : List ℕ → ℕ → Command
  syndromes : List ℕ → ℕ → Command
  dual : ℕ → Command
  weight : List ℕ → Command
  tally : Command
  -- an item, and the length of the buffer
  read : ℕ → ℕ → Command

pub data Reply : Type 0 where
  done : Reply
  wrote : List ℕ → Reply
  weighs : ℕ → Reply
  -- how many words were recovered, and the sum of their tF
  counted : ℕ → ℕ → Reply
  -- what was written, tF, tR and tC
  handed : List ℕ → ℕ → ℕ → ℕ → Reply

pub data Stage : Type 0 where
  bare : Stage
  ready : Stage
  held : Stage
  solved : Stage

abbrev pub opens : Stage → Command → Bool
opens bare (set_up x) = true
opens bare c = false
opens ready (load x) = true
opens held (row b x) = true
opens held (column b x) = true
opens held decode = true
opens held clear = true
opens solved (read i n) = true
opens solved clear = true
-- the calls that only report
opens s (encode x n) = true
opens s (message x n) = true
opens s (syndromes x n) = true
opens s (dual n) = true
opens s (weight x) = true
opens s tally = true
opens s c = false

abbrev pub at_station : Reason → ℕ → Fault
at_station reason place = refused_by layer.Station reason place
