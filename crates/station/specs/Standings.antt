-- Where a station of the program stands by the rules. Its hints are in reduced form, and stand for each list that spans the same with as
-- many: so a list is given, and that the station's hints stand for it is part of being sound.
--
--   stage_of, HasCode        the state, and that it has this code
--   command_of, reply_of     calls and answers as the rules have them
--   position_of s gs         where the station stands, with these hints
--   Sound m state gs         what holds in a station that calls have led there: the code is lawful and that of a sheet, what was prepared is
--                            its own, the word and the hints are its own, and what was recovered was recovered by them
--   replied f a              the answer of a method, as the rules have it
--   Goes m s c a t           a sound station s goes to a sound station t by the call c with the answer a, as the rules have it
--   Replayed m cs rs s       a list of calls put to a bare station led to s, with these answers
--   Reports m s c a          a sound station s stays where it is by the call c with the answer a, as the rules have it
use Rattle.std.specs.Prelude.{◌≡◌, List, length, Result, Ok, Err, IfSome, MatchResult, map}
use Rattle.fields.specs.Meaning.{Meaning}
use Rattle.fields.specs.Elements.{Elem}
use Rattle.sheets.specs.declared.faults.Fault.{Fault}
use Rattle.sheets.specs.declared.faults.Reason.TheVariants.{NoSymbol, OutOfRange, DependentHint}
use Rattle.sheets.specs.declared.faults.Reason.TheVariants as reason
use Rattle.sheets.specs.Sheets.{Text}
use Rattle.codes.specs.declared.shape.Code.{Code}
use Rattle.codes.specs.Holdings.{held as numbers, stops}
use Rattle.codes.specs.Codes.{LawfulCode}
use Rattle.codes.specs.Writing.{Described, written}
use Rattle.hints.specs.declared.not_taken.NotTaken.{NotTaken}
use Rattle.hints.specs.declared.not_taken.NotTaken.TheVariants.{NoBlock, WrongLength, NoCode, Dependent, Spent}
use Rattle.hints.specs.Splittings.{Given, row_count, column_count}
use Rattle.hints.specs.Holdings.{Holds}
use Rattle.recovery.specs.Reach.{Recovered}
use Rattle.recovery.specs.Preparation.{Prepares}
use Rattle.station.specs.declared.plan.Plan.{Plan}
use Rattle.station.specs.declared.state.State.{State}
use Rattle.station.specs.declared.state.State.TheVariants.{Bare, Ready, Held, Solved}
use Rattle.station.specs.declared.answers.Answer.{Answer}
use Rattle.station.specs.declared.answers.Answer.TheVariants.{Done, Wrote, Weighs, Counted, Handed}
use Rattle.station.specs.declared.calls.Call.{Call}
use Rattle.station.specs.declared.calls.Call.TheVariants.{SetUp, Load, Row, Column, Decode, Clear, Encode, Message, Syndromes, Dual, Weight, Tally, Read}
use Rattle.station.specs.declared.station.Station.{Station}
use Rattle.station.specs.Calls.{
  Command,
  set_up,
  load,
  row,
  column,
  decode,
  clear,
  encode,
  message,
  syndromes,
  dual,
  weight,
  tally,
  read,
  Reply,
  done,
  wrote,
  weighs,
  counted,
  handed,
  Stage,
  at_station,
}
use Rattle.station.specs.Calls as calls
use Rattle.station.specs.Positions.{Standing, bare, ready, held, solved, Position, at}
use Rattle.station.specs.Refusals.{code_rows}
use Rattle.station.specs.Rules.{Told, Answered}
use Rattle.station.specs.Histories.{start, History}
use Rattle.station.specs.Tables.{Refuses, Accepts}

abbrev pub stage_of : State → Stage
stage_of Bare = calls.bare
stage_of (Ready p) = calls.ready
stage_of (Held p w h) = calls.held
stage_of (Solved p r i j) = calls.solved

abbrev pub HasCode : State → Code → Type 0
HasCode Bare c = ⊥
HasCode (Ready p) c = c ≡ p.code
HasCode (Held p w h) c = c ≡ p.code
HasCode (Solved p r i j) c = c ≡ p.code

abbrev pub command_of : Call → Command
command_of (SetUp x) = set_up x.now
command_of (Load x) = load x.now
command_of (Row b x) = row b x
command_of (Column b x) = column b x.now
command_of Decode = decode
command_of Clear = clear
command_of (Encode x n) = encode x.now n
command_of (Message x n) = message x.now n
command_of (Syndromes x n) = syndromes x.now n
command_of (Dual n) = dual n
command_of (Weight x) = weight x.now
command_of Tally = tally
command_of (Read i n) = read i n

abbrev pub reply_of : Answer → Reply
reply_of Done = done
reply_of (Wrote s) = wrote (written s)
reply_of (Weighs n) = weighs n
reply_of (Counted t) = counted t.words t.errors
reply_of (Handed s n) = handed (written s) n.full n.row n.column

-- The fault with which a hint that is not taken is refused.
abbrev pub fault_of : NotTaken → Fault
fault_of NoBlock = at_station OutOfRange 0
fault_of WrongLength = at_station reason.WrongLength 0
fault_of (NoCode i) = at_station NoSymbol i
fault_of Dependent = at_station DependentHint 0
fault_of Spent = at_station reason.Spent 0

abbrev pub replied : {A : Type 0} → (A → Reply) → Result A Fault → Result Reply Fault
replied f (Ok x) = Ok (f x)
replied f (Err e) = Err e

module _ (m : Meaning) where
  abbrev pub standing_of : State → List (Given (Elem m)) → Standing m
  standing_of Bare gs = bare
  standing_of (Ready p) gs = ready p.code
  standing_of (Held p w h) gs = held p.code (numbers w) gs
  standing_of (Solved p r i j) gs = solved p.code gs r

pub record SoundPlan (m : Meaning) (p : Plan) : Type 0 where
  pub lawful : LawfulCode m p.code
  pub sheet : (t : Text) × Described p.code t
  pub prepared : IfSome p.prepared (Prepares m p.code)

module _ (m : Meaning) where
  abbrev pub Sound : State → List (Given (Elem m)) → Type 0
  Sound Bare gs = Unit {0}
  Sound (Ready p) gs = SoundPlan m p
  Sound (Held p w h) gs = SoundPlan m p × (length (numbers w) ≡ length (stops p.code.course)) × Holds m (numbers p.code.lengths) p.code.dimension h gs
  Sound (Solved p r i j) gs = SoundPlan m p × (i ≡ row_count gs) × (j ≡ column_count gs) × ((w : List (Elem m)) × Recovered m p.code gs w r)

  abbrev pub position_of : {K : Type 0} → Station K → List (Given (Elem m)) → Position m
  position_of s gs = at m (standing_of m s.state gs) (record { words = s.tally.words; errors = s.tally.errors })

  abbrev pub Goes : {K : Type 0} → Station K → Command → Result Reply Fault → Station K → Type 0
  Goes s c a t = (gs : List (Given (Elem m))) → Sound s.state gs → (hs : List (Given (Elem m))) × Sound t.state hs × Answered m (position_of s gs) c a (position_of t hs)

  abbrev pub Reports : {K : Type 0} → Station K → Command → Result Reply Fault → Type 0
  Reports s c a = (gs : List (Given (Elem m))) → Sound s.state gs → Answered m (position_of s gs) c a (position_of s gs)

  -- What is reported of the code of a sound station.
  abbrev pub CodeReports : Code → Command → Result Reply Fault → Type 0
  CodeReports c command a = LawfulCode m c → ((t : Text) × Described c t) → MatchResult a (λ r. Accepts (code_rows m command c) × Told m command c r) (Refuses (code_rows m command c))

  -- A list of calls led a bare station there, with these answers.
  abbrev pub Replayed : {K : Type 0} → List Call → List (Result Answer Fault) → Station K → Type 0
  Replayed calls answers s =
      (gs : List (Given (Elem m))) × Sound s.state gs × History m (start m) (map command_of calls) (map (replied reply_of) answers) (position_of s gs)
