use Rattle.plain_requests.proofs.Common.{◌≡◌, drop}
use Rattle.rio_model.specs.Heap.{block_size}
use Rattle.plain_requests.proofs.answering.heap.block_size.Given as goal

-- the blocks left tell
abbrev pub invariant-loop-block : goal.invariant-loop-block
invariant-loop-block l = block_size l.blocks l.unit ≡ block_size (drop l.block-index l.blocks) l.unit
