use Rattle.std.proofs.Common.{◌≤◌, ◌-◌}
use Rattle.undo_list.specs.Bits.{MarksRun}
use Rattle.undo_list.proofs.marks.mark.Given as goal

abbrev pub invariant-loop-next : goal.invariant-loop-next
invariant-loop-next l = record {
  low : l.from ≤ l.next;
  high : l.next ≤ l.to;
  run : MarksRun l.fn.marks l.marks l.from l.next;
}

abbrev pub decreases-loop-next : goal.decreases-loop-next
decreases-loop-next l = l.to - l.next
