use Rattle.node_pages.proofs.Common.{◌≡◌, ◌-◌, ◌≤◌, map, numbers, run_edits}
use Rattle.node_pages.specs.Changes.{new_word, word_edit}
use Rattle.node_pages.proofs.growing.table_edits.Given as goal

abbrev pub invariant-loop-w : goal.invariant-loop-w
invariant-loop-w l = record {
  from : l.first ≤ l.w;
  to : l.w ≤ l.end;
  edits : map word_edit l.edits.items ≡ run_edits l.table.0 (new_word l.last l.have l.want (numbers l.taken)) l.first (l.w - l.first);
}
