use Rattle.std.proofs.Common.{◌≡◌, ℕ, ◌<◌, ◌≤◌, ◌-◌}
use Rattle.undo_list.specs.Bits.{mark_of}
use Rattle.undo_list.proofs.marks.unmarked_from.Given as goal

abbrev pub invariant-loop-next : goal.invariant-loop-next
invariant-loop-next l = record {
  low : l.from ≤ l.next;
  high : l.next ≤ l.to;
  before : (i : ℕ) → l.from ≤ i → i < l.next → mark_of l.marks i ≡ 1;
}

abbrev pub decreases-loop-next : goal.decreases-loop-next
decreases-loop-next l = l.to - l.next
