-- What holds of a station after every list of calls.
use Rattle.fields.specs.Meaning.{Meaning, Laws}
use Rattle.station.specs.Promises.{Promises}
use Rattle.station.proofs.Decoding
use Rattle.station.proofs.Agreeing

-- By the rules alone, over every kind that keeps the laws.
pub promises : {m : Meaning} (l : Laws m) → Promises m
promises l = record {
  exact = λ c w gs t wait. Decoding.exact wait;
  outcome = λ c w gs t wait. Decoding.outcome l wait;
  spans_only = λ c d w gs hs t u wait other same alike. Agreeing.spans_only l wait other same alike;
}
