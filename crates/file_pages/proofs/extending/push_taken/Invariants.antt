use Rattle.file_pages.proofs.Common.{ℕ, ◌≡◌, ◌-◌, ◌<◌, ◌≤◌, ◌++◌, slice_index, numbers, AtPage, Placed}
use Rattle.node_pages.specs.LookingUp.{page_blocks}
use Rattle.file_pages.proofs.extending.push_taken.Given as goal

abbrev pub invariant-loop-p : goal.invariant-loop-p
invariant-loop-p l = record {
  from : l.first ≤ l.p;
  to : l.p ≤ l.end;
  found : (n : Placed) → ((p : ℕ) → l.first ≤ p → p < l.end → slice_index (numbers l.taken) (p - l.have) ≡ n.block (AtPage p)) → numbers l.blocks.items ≡ numbers l.fn.blocks.items ++ page_blocks n l.first (l.p - l.first);
}
