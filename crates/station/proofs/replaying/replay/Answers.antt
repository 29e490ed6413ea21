use Rattle.std.proofs.Common.{[], sym, ◌∙◌, subst}
use Rattle.station.specs.Standings.{Replayed}
use Rattle.station.proofs.Promised.{promises}
use Rattle.station.proofs.Recounting.{none_yet, next_call}
use Rattle.station.proofs.replaying.replay.Goals as goal

pub loop-call-init : goal.loop-call-init
loop-call-init g c = record {
  kind = c.new-station.ensures.kind;
  told =
      let m = g.K.Kind.meaning c.args.kind in
      subst (λ rs. Replayed m [] rs c.new-station.result) (sym c.new-answers.ensures.items)
      (none_yet m c.new-station.result c.new-station.ensures.bare.0 c.new-station.ensures.bare.1);
}

pub returns-in_err-push-clause-promises : goal.returns-in_err-push-clause-promises
returns-in_err-push-clause-promises g c = promises (g.met.K.Kind.lawful c.args.kind)

pub loop-call-preserved : goal.loop-call-preserved
loop-call-preserved g c = record {
  kind = c.put-answer.ensures.kind ∙ c.loop-call.invariant.kind;
  told =
      next_call g.K.Kind.meaning c.loop-call.station c.put-answer.new.self c.loop-call.invariant.kind c.args.calls.now c.loop-call.call-index _ c.loop-call.answers.items c.put-answer.result
      c.loop-call-test.true c.in_ok-push.ensures.items c.loop-call.invariant.told c.put-answer.ensures.rules;
}

pub returns-clause-promises : goal.returns-clause-promises
returns-clause-promises g c = promises (g.met.K.Kind.lawful c.args.kind)
