use Rattle.plain_requests.proofs.Common.{◌≡◌, ◌-◌, map, sum, range_with_len, get, reserved, node_blocks}
use Rattle.plain_requests.proofs.answering.room.free_count.Given as goal

-- what the nodes passed leave
abbrev pub invariant-loop-below : goal.invariant-loop-below
invariant-loop-below l = l.left ≡ l.s.shape.blocks - reserved l.s.shape - sum (map (λ i. node_blocks l.s i (get l.s.nodes i)) (range_with_len 1 l.below))
