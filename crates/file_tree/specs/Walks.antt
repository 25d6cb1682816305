-- What look-ups by path answer, by the state that the blocks read as.
use Rattle.std.specs.Prelude.{◌≡◌, ℕ, ◌⊎◌, List, None, Some, map, Result, Ok, Err}
use Rattle.std.specs.FinMap.{get}
use Rattle.rio_base.specs.declared.places.Ino.{Ino}
use Rattle.rio_base.specs.declared.places.VolumeShape.{VolumeShape}
use Rattle.rio_base.specs.Blocks.{BlockWords}
use Rattle.rio_base.specs.NodeKinds.{dir_kind}
use Rattle.rio_model.specs.declared.node.Node.TheVariants.{Dir, Region}
use Rattle.rio_model.specs.declared.node.RegionNode.{RegionNode}
use Rattle.rio_model.specs.declared.state.State.{State}
use Rattle.rio_model.specs.States.{front_of, last_of}
use Rattle.rio_model.specs.Held.{held_of}
use Rattle.rio_model.specs.Paths.{walk_to_dir}
use Rattle.inode_table.specs.declared.inode.Inode.{Inode}
use Rattle.directories.specs.Rows.{IsEntry}
use Rattle.rio_requests.specs.Answers.{found}
use Rattle.request_ends.specs.declared.failures.FileFail.{FileFail}
use Rattle.request_ends.specs.declared.failures.FileFail.TheVariants.{Refused, Fault, Stopped, Memory}
use Rattle.file_tree.specs.declared.walking.Row.{Row}

-- a look-up that tells the inode of what it finds, without that
abbrev pub ino_in : Result (Ino × Inode) FileFail → Result Ino FileFail
ino_in (Ok at) = Ok at.0
ino_in (Err e) = Err e

-- a look-up answers what a walk in the state comes to; where it failed, no byte is done
abbrev pub Comes : Result ℕ ℕ → Result Ino FileFail → Type 0
Comes walked (Ok i) = walked ≡ Ok i.0
Comes walked (Err (Refused c)) = walked ≡ Err c
Comes walked (Err (Fault k)) = k ≡ 0
Comes walked (Err Stopped) = Unit {0}
Comes walked (Err Memory) = ⊥

-- a look-up of the row of a path's last name answers what the state has of it; where it failed, no byte is done
abbrev pub RowComes : State → List (List ℕ) → Result Row FileFail → Type 0
RowComes s names (Ok row) = (walk_to_dir s (front_of names) ≡ Ok row.dir.0) × (get s.names (row.dir.0, last_of names) ≡ Some row.ino.0)
RowComes s names (Err (Refused c)) = (walk_to_dir s (front_of names) ≡ Err c) ⊎ ((dir : ℕ) × (walk_to_dir s (front_of names) ≡ Ok dir) × (found s dir (last_of names) ≡ Err c))
RowComes s names (Err (Fault k)) = k ≡ 0
RowComes s names (Err Stopped) = Unit {0}
RowComes s names (Err Memory) = ⊥

-- a row, by the blocks: its directory has it, in its slot
pub record IsRow (shape : VolumeShape) (f : BlockWords) (name : List ℕ) (row : Row) : Type 0 where
  pub dir : (held_of shape f row.dir.0).kind ≡ dir_kind
  pub entry : IsEntry (held_of shape f row.dir.0) row.slot name row.ino.0

-- the file at the end of a walk: 5 where a directory is there, 7 where a region is
abbrev pub FileComes : State → Result ℕ ℕ → Result Ino FileFail → Type 0
FileComes s walked (Ok i) = walked ≡ Ok i.0
FileComes s walked (Err (Refused c)) = (walked ≡ Err c) ⊎ ((i : ℕ) × (walked ≡ Ok i) × (((c ≡ 5) × (get s.nodes i ≡ Some Dir)) ⊎ ((c ≡ 7) × ((r : RegionNode) × (get s.nodes i ≡ Some (Region r))))))
FileComes s walked (Err (Fault k)) = k ≡ 0
FileComes s walked (Err Stopped) = Unit {0}
FileComes s walked (Err Memory) = ⊥

-- a directory in which this name is free: 3 where it is not
abbrev pub FreeRow : State → List (List ℕ) → List ℕ → Result Ino FileFail → Type 0
FreeRow s names name (Ok dir) = (walk_to_dir s names ≡ Ok dir.0) × (get s.names (dir.0, name) ≡ None)
FreeRow s names name (Err (Refused c)) = (walk_to_dir s names ≡ Err c) ⊎ ((dir : ℕ) × (walk_to_dir s names ≡ Ok dir) × ((i : ℕ) × (get s.names (dir, name) ≡ Some i)) × (c ≡ 3))
FreeRow s names name (Err (Fault k)) = k ≡ 0
FreeRow s names name (Err Stopped) = Unit {0}
FreeRow s names name (Err Memory) = ⊥

-- the numbers of inodes
abbrev pub ino_numbers : List Ino → List ℕ
ino_numbers inodes = map (λ (i : Ino). i.0) inodes
