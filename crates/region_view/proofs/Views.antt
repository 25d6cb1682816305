-- A view of a region after calls on its words.
use Rattle.region_view.proofs.Common.{ℕ, ◌+◌, ◌/◌, sym, ap, ◌∙◌, arith, VolumeShape, BlockWords, Seen, Kept, Ready, Inode, IsInode}
use Rattle.rio_base.specs.Layout.{half}
use Rattle.region_view.specs.Views.{OnRegion}
use Rattle.rio_model.specs.RegionMoves.{RestHeld}

-- a view that stood on a region stands on it still, where only words of it differ
pub on_still : (shape : VolumeShape) (x : Seen) (k : Kept) (y : Seen) (j : Kept) (i words : ℕ) → OnRegion shape x k i words → Ready shape y j → RestHeld shape i x.words y.words → OnRegion shape y j i words
on_still shape x k y j i words h ready rest = record { ready = ready; ino = h.ino; region = rest.kind ∙ h.region; size = rest.size ∙ h.size }

-- and its inode says what it said
pub inode_still : (shape : VolumeShape) (i : ℕ) (f g : BlockWords) (n : Inode) → IsInode f i n → RestHeld shape i f g → IsInode g i n
inode_still shape i f g n is rest = record {
  kind = is.kind ∙ sym (rest.inode 0 (omega arith));
  size = is.size ∙ sym (rest.inode 1 (omega arith));
  direct = λ p few. is.direct p few ∙ sym (ap (λ w. half w p) (rest.inode (2 + p / 2) (omega (arith, few))));
  indirect = is.indirect ∙ sym (ap (λ w. half w 0) (rest.inode 14 (omega arith)));
  double = is.double ∙ sym (ap (λ w. half w 0) (rest.inode 15 (omega arith)));
}
