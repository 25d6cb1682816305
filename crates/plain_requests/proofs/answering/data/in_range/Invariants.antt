use Rattle.plain_requests.proofs.Common.{◌≡◌, drop}
use Rattle.rio_requests.specs.RegionAnswers.{in_range}
use Rattle.plain_requests.proofs.answering.data.in_range.Given as goal

-- the ranges left tell
abbrev pub invariant-loop-range : goal.invariant-loop-range
invariant-loop-range l = in_range l.ranges l.word ≡ in_range (drop l.range-index l.ranges) l.word
