-- What is held in memory of a volume, and the blocks that it is in step with.
use Rattle.std.specs.Prelude.{◌≡◌, ◌≢◌, ◌<◌, ℕ, Ok, None, take}
use Rattle.std.specs.FinMap.{get}
use Rattle.rio_base.specs.declared.places.VolumeShape.{VolumeShape}
use Rattle.rio_base.specs.Blocks.{BlockWords}
use Rattle.rio_model.specs.declared.state.State.{State}
use Rattle.rio_model.specs.Paths.{names_of, walk}
use Rattle.rio_model.specs.VolumeReads.{ReadsAs}
use Rattle.inode_table.specs.Inodes.{KnowsFull}
use Rattle.name_index.specs.Agreeing.{Agrees}
use Rattle.file_tree.specs.declared.last_path.LastPath.{LastPath}
use Rattle.file_tree.specs.declared.memo.Memo.{Memo}

-- the path that is held, if any, leads from the root to the node beside it
pub record LeadsThere (last : LastPath) (s : State) : Type 0 where
  pub there : 0 < last.len → walk s 1 (names_of (take last.len last.room)) ≡ Ok last.ino.0

-- the names that are held are those of the state that the blocks read as, blocks of inodes that are held to be full are so, and
-- the path that is held leads where it led
pub record InStep (shape : VolumeShape) (f : BlockWords) (memo : Memo) : Type 0 where
  pub names : (s : State) → ReadsAs shape f s → Agrees memo.names s.names
  pub full : KnowsFull shape memo.full f
  pub path : (s : State) → ReadsAs shape f s → LeadsThere memo.path s

-- ---- what a change leaves of nodes

-- all of s are there in t
abbrev pub StayThere : State → State → Type 0
StayThere s t = (j : ℕ) → get t.nodes j ≡ None → get s.nodes j ≡ None

-- all but node i
abbrev pub StayBut : ℕ → State → State → Type 0
StayBut i s t = (j : ℕ) → j ≢ i → get t.nodes j ≡ None → get s.nodes j ≡ None
