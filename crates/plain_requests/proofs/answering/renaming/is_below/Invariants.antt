use Rattle.plain_requests.proofs.Common.{◌≡◌, drop}
use Rattle.rio_requests.specs.Answers.{is_below}
use Rattle.plain_requests.proofs.answering.renaming.is_below.Given as goal

-- the names left tell
abbrev pub invariant-loop-i : goal.invariant-loop-i
invariant-loop-i l = is_below l.tops l.names ≡ is_below (drop l.i l.tops) (drop l.i l.names)
