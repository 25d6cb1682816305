use Rattle.volume_check.proofs.Common.{◌≡◌, ◌<◌, length, IsIno, Layout, pages}
use Rattle.volume_check.specs.Claims.{Claimed, IsBefore}
use Rattle.volume_check.specs.NodeBlocks.{node_numbers, numbers}
use Rattle.volume_check.proofs.owners.claim_all.Given as goal

-- the slots before this place have their owners
abbrev pub invariant-loop-at : goal.invariant-loop-at
invariant-loop-at l = record {
  len : length l.owners ≡ length l.fn.owners;
  claimed : (m : Layout) → IsIno m.shape l.i.0 → (0 < (m.node l.i.0).kind → l.count ≡ pages (m.node l.i.0).size) → numbers l.blocks ≡ node_numbers (m.node l.i.0) → Claimed m (IsBefore m l.i.0 0) l.fn.owners l.fn.least → Claimed m (IsBefore m l.i.0 l.at) l.owners l.twice;
}
