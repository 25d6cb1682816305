use Rattle.plain_requests.proofs.Common.{◌≡◌, drop, walk}
use Rattle.plain_requests.proofs.answering.paths.walk.Given as goal

-- the rest of the walk ends as the whole of it
abbrev pub invariant-loop-name : goal.invariant-loop-name
invariant-loop-name l = walk l.s 1 l.names ≡ walk l.s l.at.0 (drop l.name-index l.names)
