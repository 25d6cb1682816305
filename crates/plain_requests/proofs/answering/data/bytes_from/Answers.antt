use Rattle.std.specs.Prelude.{slice_index_or}
use Rattle.rio_model.specs.Held.{byte_in}
use Rattle.plain_requests.proofs.RegionSteps.{pushed}
use Rattle.plain_requests.proofs.answering.data.bytes_from.Goals as goal

pub loop-done-preserved : goal.loop-done-preserved
loop-done-preserved c = pushed (byte_in (λ w. slice_index_or c.args.words.now w 0)) c.args.off c.loop-done.done c.loop-done.bytes.items c.push.new.self.items c.byte_at.result c.loop-done.invariant c.in_ok-push.ensures.items c.byte_at.ensures
