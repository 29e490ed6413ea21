-- The job is read whole or up to the limit, answered and written.
use Rattle.std.proofs.Common.{◌≡◌, ◌++◌, take, IfSome, option_map, subst}
use Rattle.lrsjob.proofs.Serving.{served}
use Rattle.lrsjob.proofs.serve.Goals as goal

pub returns : goal.returns
returns g c =
    let left = g.R.Read.remaining in
    let read =
    subst (λ r. IfSome (option_map (take c.take.result.limit) (left r)) (λ xs. c.read_to_end.new.buf.items ≡ c.new-job.result.items ++ xs)) c.take.ensures.inner c.in_ok-read_to_end.ensures.bytes
    in
    served c.write_all.result (left c.args.input) _ _ _ _ _ _ _ _ c.take.ensures.limit read c.new-job.ensures.items c.as_slice.ensures.value c.answer-text.ensures c.as_slice-2.ensures c.write_all.ensures.bytes
