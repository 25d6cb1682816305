use Rattle.std.proofs.Common.{◌≡◌, ◌≤◌, ◌+◌}
use Rattle.block_disk.specs.MemDisks.{state_of, upcoming}
use Rattle.boots.proofs.booting.failing_disk.Given as goal

abbrev pub invariant-loop-call : goal.invariant-loop-call
invariant-loop-call l = record {
  rest : state_of l.disk ≡ record (state_of l.fn.disk) { failing = (state_of l.disk).failing };
  more : upcoming (state_of l.disk).calls (state_of l.disk).failing ≤ upcoming (state_of l.fn.disk).calls (state_of l.fn.disk).failing + l.call-index;
}
