-- The volumes of tests: their sizes, what a fresh one reads as, and nodes without bytes on one.
use Rattle.std.specs.Prelude.{◌≡◌, ℕ, ◌+◌, ◌-◌, ◌/◌, ◌^◌, ◌<◌, ◌≤◌, ◌⊎◌, ◌∷◌, [], false}
use Rattle.rio_base.specs.declared.places.VolumeShape.{VolumeShape}
use Rattle.rio_base.specs.Blocks.{BlockWords, Seen}
use Rattle.rio_base.specs.Layout.{volume_magic}
use Rattle.rio_base.specs.Volume.{Kept, put, put_run}
use Rattle.rio_base.specs.NodeKinds.{free_kind, dir_kind}
use Rattle.rio_model.specs.Fresh.{fresh_state}
use Rattle.rio_model.specs.Held.{held_of}
use Rattle.rio_model.specs.VolumeReads.{ReadsAs}
use Rattle.rio_model.specs.VolumeReady.{Ready}
use Rattle.rio_model.specs.VolumeRules.{IsMapped}

pub record IsTestShape (shape : VolumeShape) : Type 0 where
  pub version : shape.version ≡ 1
  pub inodes : (shape.inodes ≡ 64) ⊎ (shape.inodes ≡ 128)
  pub from : 3 + shape.inodes / 32 ≤ shape.blocks
  pub to : shape.blocks ≤ 32768

-- the marks of the reserved blocks
abbrev pub marks_of : VolumeShape → ℕ
marks_of shape = 2 ^ (2 + shape.inodes / 32) - 1

-- the words of a fresh volume, over zeros: superblock, bitmap, and the root's inode
abbrev pub fresh_words : VolumeShape → BlockWords → BlockWords
fresh_words shape f = put (put (put_run f 0 0 4 (volume_magic ∷ 1 ∷ shape.blocks ∷ shape.inodes ∷ [])) 1 0 (marks_of shape)) 2 0 1

-- a fresh volume: it may be called, reads as an empty root directory alone, and has no loose block
pub record IsFresh (shape : VolumeShape) (x : Seen) (k : Kept) : Type 0 where
  pub ready : Ready shape x k
  pub reads : ReadsAs shape x.words (fresh_state shape 0 0)
  pub loose : (b : ℕ) → k.loose b ≡ false

-- the nodes from inode 2 to inode `last` are of this kind, no inode past them is used, and no node has bytes
pub record HasNodes (shape : VolumeShape) (f : BlockWords) (kind last : ℕ) : Type 0 where
  pub mapped : IsMapped shape f
  pub root : (held_of shape f 1).kind ≡ dir_kind
  pub made : (i : ℕ) → 2 ≤ i → i ≤ last → (held_of shape f i).kind ≡ kind
  pub free : (i : ℕ) → last < i → (held_of shape f i).kind ≡ free_kind
  pub empty : (i : ℕ) → (held_of shape f i).size ≡ 0
