use Rattle.volume_check.proofs.Common.{ℕ, ◌<◌, slice_index}
use Rattle.volume_check.specs.NodeBlocks.{InRange, numbers}
use Rattle.volume_check.proofs.numbers.are_in_range.Given as goal

-- the blocks before this one are
abbrev pub invariant-loop-b : goal.invariant-loop-b
invariant-loop-b l = (k : ℕ) → k < l.b-index → InRange l.shape (slice_index (numbers l.blocks) k)
