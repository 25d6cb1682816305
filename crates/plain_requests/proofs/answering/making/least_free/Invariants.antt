use Rattle.plain_requests.proofs.Common.{◌≡◌, ◌+◌, ◌-◌, is_none, find, range_with_len, get, least_free}
use Rattle.plain_requests.proofs.answering.making.least_free.Given as goal

-- none below is free
abbrev pub invariant-loop-below : goal.invariant-loop-below
invariant-loop-below l = least_free l.s ≡ find (λ i. is_none (get l.s.nodes i)) (range_with_len (l.below + 1) (l.s.shape.inodes - l.below))
