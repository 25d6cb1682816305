use Rattle.node_pages.proofs.Common.{◌≡◌, ◌≤◌, length, not, take, filter, numbers}
use Rattle.node_pages.specs.Changes.{is_among}
use Rattle.node_pages.proofs.taking.leave_out.Given as goal

abbrev pub invariant-loop-t : goal.invariant-loop-t
invariant-loop-t l = record {
  until : l.t ≤ length l.blocks;
  left : numbers l.left.items ≡ take l.n (filter (λ b. not (is_among (numbers l.skip) b)) (take l.t (numbers l.blocks)));
}
