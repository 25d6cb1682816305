use Rattle.plain_requests.proofs.Common.{◌≡◌, ◌++◌, take, drop}
use Rattle.rio_model.specs.Heap.{without_block}
use Rattle.plain_requests.proofs.answering.heap.without_block.Given as goal

-- none of those passed is the block
abbrev pub invariant-loop-at : goal.invariant-loop-at
invariant-loop-at l = record {
  same : l.rows.items ≡ l.fn.blocks;
  behind : without_block l.rows.items l.unit ≡ take l.at l.rows.items ++ without_block (drop l.at l.rows.items) l.unit;
}
