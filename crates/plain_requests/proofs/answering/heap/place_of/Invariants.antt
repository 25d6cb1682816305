use Rattle.plain_requests.proofs.Common.{◌≡◌, ◌++◌, ℕ, take, drop}
use Rattle.rio_model.specs.Heap.{with_block}
use Rattle.plain_requests.proofs.answering.heap.place_of.Given as goal

-- a block belongs behind those passed
abbrev pub invariant-loop-at : goal.invariant-loop-at
invariant-loop-at l = (units : ℕ) → with_block l.blocks l.unit units ≡ take l.at l.blocks ++ with_block (drop l.at l.blocks) l.unit units
