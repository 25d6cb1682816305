use Rattle.plain_requests.proofs.Common.{◌≡◌, drop}
use Rattle.rio_model.specs.Heap.{in_block}
use Rattle.plain_requests.proofs.answering.heap.in_block.Given as goal

-- the blocks left tell
abbrev pub invariant-loop-block : goal.invariant-loop-block
invariant-loop-block l = in_block l.blocks l.unit ≡ in_block (drop l.block-index l.blocks) l.unit
