use Rattle.plain_requests.proofs.Common.{◌≡◌, ◌≤◌, length, drop, name_cmp, row_entries}
use Rattle.std.specs.FinMap.{entries, from_entries}
use Rattle.plain_requests.proofs.answering.listing.in_order.Given as goal

abbrev pub decreases-loop-left : goal.decreases-loop-left
decreases-loop-left l = l.left

abbrev pub invariant-loop-left : goal.invariant-loop-left
invariant-loop-left l = record {
  within : l.left ≤ length l.rows;
  placed : row_entries l.made.items ≡ entries (from_entries {R = name_cmp} (row_entries (drop l.left l.rows)));
}
