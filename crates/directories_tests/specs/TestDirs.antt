-- The volume of the tests: nine directories on it, whose rows name one another.
use Rattle.std.specs.Prelude.{◌≡◌, ◌≢◌, ℕ, ◌<◌, ◌≤◌, ◌⊎◌, true, None, List}
use Rattle.std.specs.List.{Contains}
use Rattle.rio_base.specs.declared.places.VolumeShape.{VolumeShape}
use Rattle.rio_base.specs.Blocks.{BlockWords, Seen}
use Rattle.rio_base.specs.Layout.{IsIno}
use Rattle.rio_base.specs.Shapes.{reserved}
use Rattle.rio_base.specs.Volume.{Kept}
use Rattle.rio_base.specs.NodeKinds.{dir_kind}
use Rattle.rio_model.specs.Held.{Held, held_of}
use Rattle.rio_model.specs.Paths.{IsName}
use Rattle.rio_model.specs.Placed.{placed_at}
use Rattle.rio_model.specs.VolumeReady.{InOrder, Ready}
use Rattle.rio_model.specs.VolumeRules.{EntryRule}
use Rattle.node_pages.specs.declared.changes.Edit.{Edit}
use Rattle.directories.specs.Plans.{MayBeMade, PlansDir}
use Rattle.directories.specs.Rows.{HasRow, NamesApart}
use Rattle.directories.specs.declared.changes.DirChange.{DirChange}

-- its directories
pub record IsTestDir (i : ℕ) : Type 0 where
  pub from : 1 ≤ i
  pub to : i ≤ 9

-- the volume is in order, whether or not an update is open
pub record DirsOrder (shape : VolumeShape) (x : Seen) (k : Kept) : Type 0 where
  pub order : InOrder shape x.words x k
  pub entries : EntryRule (held_of shape x.words)
  pub dirs : (i : ℕ) → IsTestDir i → (held_of shape x.words i).kind ≡ dir_kind
  pub apart : (i : ℕ) → IsTestDir i → NamesApart (held_of shape x.words i)

-- and may be called
pub record DirsReady (shape : VolumeShape) (x : Seen) (k : Kept) : Type 0 where
  pub ready : Ready shape x k
  pub entries : EntryRule (held_of shape x.words)
  pub dirs : (i : ℕ) → IsTestDir i → (held_of shape x.words i).kind ≡ dir_kind
  pub apart : (i : ℕ) → IsTestDir i → NamesApart (held_of shape x.words i)

-- a directory still, with no row more but of a name that a path may have for one of the directories, and no name twice
pub record KeepsRows (h k : Held) : Type 0 where
  pub dir : k.kind ≡ dir_kind
  pub rows : (name : List ℕ) (i : ℕ) → HasRow k name i → HasRow h name i ⊎ (IsName name × IsTestDir i)
  pub apart : NamesApart h → NamesApart k

-- a plan that may be made next
pub record CanMake (shape : VolumeShape) (y : Seen) (j : Kept) (c : DirChange) : Type 0 where
  pub old : BlockWords
  pub ino : IsIno shape c.dir.0
  pub plan : PlansDir shape old y j c.dir.0 KeepsRows c
  pub still : held_of shape y.words c.dir.0 ≡ held_of shape old c.dir.0
  pub may : MayBeMade shape (placed_at old c.dir.0) plan.node c.dir.0 y.words y.words

-- the blocks of these edits may be touched
pub record CanTouch (shape : VolumeShape) (y : Seen) (edits : List Edit) : Type 0 where
  pub from : (e : Edit) → Contains edits e → reserved shape ≤ e.block.0
  pub to : (e : Edit) → Contains edits e → e.block.0 < shape.blocks
  pub unnamed : (e : Edit) → Contains edits e → y.cached e.block.0 ≡ true → y.names e.block.0 ≡ None

-- ---- rows

-- a small letter, a digit or a dash
pub record IsPlainByte (b : ℕ) : Type 0 where
  pub low : 45 ≤ b
  pub high : b ≤ 122
  pub not_dot : b ≢ 46
  pub not_slash : b ≢ 47
