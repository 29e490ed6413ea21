use Rattle.std.proofs.Common.{◌≡◌, take}
use Rattle.station.specs.Standings.{Replayed}
use Rattle.station.proofs.replaying.replay.Given as goal

abbrev pub invariant-loop-call : goal.invariant-loop-call
invariant-loop-call g l = record {
  kind : l.station.kind ≡ l.fn.kind;
  told : Replayed (g.K.Kind.meaning l.fn.kind) (take l.call-index l.calls) l.answers.items l.station;
}
