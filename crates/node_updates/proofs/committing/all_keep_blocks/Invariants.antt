use Rattle.request_ends.proofs.Common.{ℕ, ◌<◌, slice_index_or}
use Rattle.node_updates.specs.Changes.{KeepsBlocks}
use Rattle.node_updates.specs.declared.changes.NodeChange.{NodeChange}
use Rattle.node_updates.proofs.committing.all_keep_blocks.Given as goal

-- the changes before this one keep their blocks
abbrev pub invariant-loop-change : goal.invariant-loop-change
invariant-loop-change l = record {
  kept : (s : ℕ) (d : NodeChange) → s < l.change-index → KeepsBlocks (slice_index_or l.changes s d);
}
