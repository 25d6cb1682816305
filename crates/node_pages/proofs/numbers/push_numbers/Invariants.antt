use Rattle.node_pages.proofs.Common.{ℕ, ◌≡◌, ◌-◌, ◌/◌, ◌<◌, ◌≤◌, ◌++◌, slice_index, numbers, AtPage, Placed}
use Rattle.rio_base.specs.Layout.{half}
use Rattle.node_pages.specs.LookingUp.{page_blocks}
use Rattle.node_pages.proofs.numbers.push_numbers.Given as goal

abbrev pub invariant-loop-p : goal.invariant-loop-p
invariant-loop-p l = record {
  from : l.first ≤ l.p;
  to : l.p ≤ l.end;
  found : (n : Placed) → ((p : ℕ) → l.first ≤ p → p < l.end → half (slice_index l.words ((p - 24) / 2 - (l.first - 24) / 2)) p ≡ n.block (AtPage p)) → numbers l.blocks.items ≡ numbers l.fn.blocks.items ++ page_blocks n l.first (l.p - l.first);
}
