use Rattle.plain_requests.proofs.Common.{◌≡◌, ◌+◌, ◌-◌}
use Rattle.rio_requests.specs.RegionAnswers.{all_free}
use Rattle.plain_requests.proofs.answering.heap.all_free.Given as goal

-- the units left tell
abbrev pub invariant-loop-done : goal.invariant-loop-done
invariant-loop-done l = all_free l.blocks l.unit l.units ≡ all_free l.blocks (l.unit + l.done) (l.units - l.done)
