use Rattle.request_ends.proofs.Common.{ℕ, ◌≢◌, ◌<◌, slice_index}
use Rattle.file_tree.specs.Walks.{ino_numbers}
use Rattle.node_moving.proofs.removing.is_among.Given as goal

abbrev pub invariant-loop-t : goal.invariant-loop-t
invariant-loop-t l = record {
  none : (q : ℕ) → q < l.t → slice_index (ino_numbers l.busy) q ≢ l.i.0;
}
