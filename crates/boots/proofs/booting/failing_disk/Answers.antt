use Rattle.block_disk.specs.MemDisks.{state_of}
use Rattle.boots.proofs.FailingCalls.{failing_then, more_upcoming}
use Rattle.boots.proofs.booting.failing_disk.Goals as goal

pub loop-call-preserved : goal.loop-call-preserved
loop-call-preserved c = record {
  rest = failing_then (state_of c.args.disk) (state_of c.loop-call.disk) (state_of c.fail_call.new.self) _ c.loop-call.invariant.rest c.in_ok-fail_call.ensures.ok;
  more = more_upcoming (state_of c.args.disk) (state_of c.loop-call.disk) (state_of c.fail_call.new.self) _ _ c.in_ok-fail_call.ensures.ok c.loop-call.invariant.more;
}
