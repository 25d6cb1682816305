use Rattle.node_pages.proofs.Common.{ℕ, ◌≡◌, ◌<◌, ◌≤◌, length, slice_index, numbers}
use Rattle.node_pages.specs.Changes.{new_direct}
use Rattle.node_pages.proofs.growing.grown_inode.Given as goal

abbrev pub invariant-loop-p : goal.invariant-loop-p
invariant-loop-p l = record {
  until : l.p ≤ l.want;
  whole : length l.direct ≡ 24;
  direct : (q : ℕ) → q < 24 → slice_index l.direct q ≡ new_direct l.old.direct l.have l.p (numbers l.taken) q;
}
