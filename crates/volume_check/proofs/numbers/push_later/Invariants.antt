use Rattle.volume_check.proofs.Common.{ℕ, ◌≡◌, ◌-◌, ◌/◌, ◌<◌, ◌≤◌, ◌++◌, slice_index, AtPage, Placed, half}
use Rattle.volume_check.specs.NodeBlocks.{numbers, page_numbers}
use Rattle.volume_check.proofs.numbers.push_later.Given as goal

abbrev pub invariant-loop-page : goal.invariant-loop-page
invariant-loop-page l = record {
  from : 24 ≤ l.page;
  to : l.page ≤ l.count;
  found : (n : Placed) → ((p : ℕ) → 24 ≤ p → p < l.count → half (slice_index l.words ((p - 24) / 2)) p ≡ n.block (AtPage p)) → numbers l.blocks.items ≡ numbers l.fn.blocks.items ++ page_numbers n 24 (l.page - 24);
}
