use Rattle.plain_requests.proofs.Common.{◌≡◌, ◌+◌, ◌-◌}
use Rattle.rio_requests.specs.RegionAnswers.{all_in_range}
use Rattle.plain_requests.proofs.answering.data.all_in_range.Given as goal

-- the words left tell
abbrev pub invariant-loop-done : goal.invariant-loop-done
invariant-loop-done l = all_in_range l.ranges l.word l.count ≡ all_in_range l.ranges (l.word + l.done) (l.count - l.done)
