use Rattle.node_pages.proofs.Common.{ℕ, ◌≢◌, ◌<◌, slice_index, numbers}
use Rattle.node_pages.proofs.taking.is_among.Given as goal

abbrev pub invariant-loop-k : goal.invariant-loop-k
invariant-loop-k l = record {
  none : (q : ℕ) → q < l.k → slice_index (numbers l.blocks) q ≢ l.b.0;
}
