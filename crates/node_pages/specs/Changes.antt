-- A prepared change of a node's size, the numbers that a growing node gets, and what the change makes of the node.
use Rattle.std.specs.Prelude.{ℕ, ◌+◌, ◌-◌, ◌*◌, ◌^◌, ◌&&◌, ◌≡◌, ◌<◌, ◌≤◌, ◌⊎◌, ◌==◌, ◌||◌, ◌∷◌, nat_lt, nat_le, if◌then◌else◌, List, slice_index, Bool, true, false, not, None, [], length, map, take}
use Rattle.std.specs.List.{AllByRecursion, Contains, filter}
use Rattle.rio_base.specs.declared.places.Block.{Block}
use Rattle.rio_base.specs.declared.places.VolumeShape.{VolumeShape}
use Rattle.rio_base.specs.Bitmap.{free_blocks}
use Rattle.rio_base.specs.Blocks.{BlockWords, Seen}
use Rattle.rio_base.specs.Layout.{inode_kind}
use Rattle.rio_base.specs.Volume.{Kept}
use Rattle.rio_base.specs.NodeKinds.{free_kind, region_kind}
use Rattle.rio_model.specs.NodeChanges.{Available, Takes, grown}
use Rattle.rio_model.specs.Placed.{Slot, AtTable, Placed, HasSlot, Layout, placed_at, volume_layout, IsFree}
use Rattle.rio_model.specs.Sizes.{blocks_for}
use Rattle.rio_model.specs.Updates.{Turns, Update, WordEdit}
use Rattle.rio_model.specs.VolumeReady.{Bears}
use Rattle.block_alloc.specs.Bitmap.{numbers}
use Rattle.inode_table.specs.declared.inode.Inode.{Inode}
use Rattle.inode_table.specs.Inodes.{IsInode, inode_words}
use Rattle.node_pages.specs.declared.changes.Edit.{Edit}
use Rattle.node_pages.specs.declared.changes.SizeChange.{SizeChange}

-- ---- the numbers of a growing node: in its inode, and in its table

-- the number of page p where the pages from `have` to `want` are those taken, and page have - 1 is in block `last`
abbrev pub new_number : ℕ → ℕ → ℕ → List ℕ → ℕ → ℕ
new_number last have want taken p = if nat_lt p have then last else if nat_lt p want then slice_index taken (p - have) else 0

-- a word of the table
abbrev pub new_word : ℕ → ℕ → ℕ → List ℕ → ℕ → ℕ
new_word last have want taken w = new_number last have want taken (24 + 2 * w) + 2 ^ 32 * new_number last have want taken (25 + 2 * w)

-- a number in the inode
abbrev pub new_direct : List ℕ → ℕ → ℕ → List ℕ → ℕ → ℕ
new_direct old have want taken p = if nat_le have p && nat_lt p want then slice_index taken (p - have) else slice_index old p

-- ---- a prepared change

abbrev pub word_edit : Edit → WordEdit
word_edit e = record { block = e.block.0; word = e.word; value = e.value }

-- the update of these edits, in which inode i is stored, and blocks are marked and unmarked
abbrev pub node_update : ℕ → Inode → List Edit → List Block → List Block → Update
node_update i inode edits taken freed = record { ino = i; inode = inode_words inode; edits = map word_edit edits; taken = numbers taken; freed = numbers freed }

-- the update that a change of the size of node i is
abbrev pub size_update : ℕ → SizeChange → Update
size_update i c = node_update i c.inode c.edits c.taken c.freed

-- the inode for which a change is prepared: inode i as it is, or that of a new node without bytes where inode i is free
abbrev pub PlansFor : BlockWords → ℕ → Inode → Type 0
PlansFor f i given = (IsInode f i given × (0 < given.kind)) ⊎ ((inode_kind f i ≡ free_kind) × (given.size ≡ 0) × (1 ≤ given.kind) × (given.kind ≤ region_kind))

-- the node as this inode says it
abbrev pub given_node : BlockWords → ℕ → Inode → Placed
given_node f i given = record { kind = given.kind; size = given.size; block = (placed_at f i).block }

-- and as the change leaves it: it keeps its blocks as far as its new size reaches, and has the taken ones behind them
abbrev pub planned_node : BlockWords → ℕ → Inode → ℕ → SizeChange → Placed
planned_node f i given len c = grown (given_node f i given) len (numbers c.taken)

-- an edit of a table of a node
abbrev pub EditsTable : Placed → Edit → Type 0
EditsTable m e = ((k : ℕ) × HasSlot m (AtTable k) × (m.block (AtTable k) ≡ e.block.0)) × (e.word < 512)

-- ---- blocks to be skipped

abbrev pub is_among : List ℕ → ℕ → Bool
is_among [] b = false
is_among (c ∷ cs) b = (c == b) || is_among cs b

-- the free blocks but these, lowest first
abbrev pub free_beside : VolumeShape → BlockWords → List ℕ → List ℕ
free_beside shape f skip = filter (λ b. not (is_among skip b)) (free_blocks shape f)

-- none of these differs: not its words, and it is loose or cached, under its name, only where it was
pub record Spares (blocks : List ℕ) (x : Seen) (k : Kept) (y : Seen) (j : Kept) : Type 0 where
  pub words : (b w : ℕ) → Contains blocks b → y.words b w ≡ x.words b w
  pub loose : (b : ℕ) → Contains blocks b → j.loose b ≡ true → k.loose b ≡ true
  pub named : (b : ℕ) → Contains blocks b → y.cached b ≡ true → (x.cached b ≡ true) × (y.names b ≡ x.names b)

-- and the same of every free block that is not taken
pub record KeepsFree (l : Layout) (taken : List ℕ) (x : Seen) (k : Kept) (y : Seen) (j : Kept) : Type 0 where
  pub words : (b w : ℕ) → IsFree l b → (Contains taken b → ⊥) → y.words b w ≡ x.words b w
  pub loose : (b : ℕ) → IsFree l b → (Contains taken b → ⊥) → j.loose b ≡ true → k.loose b ≡ true
  pub named : (b : ℕ) → IsFree l b → (Contains taken b → ⊥) → y.cached b ≡ true → (x.cached b ≡ true) × (y.names b ≡ x.names b)

-- no block twice
abbrev pub Apart : List ℕ → Type 0
Apart blocks = (s t : ℕ) → s < length blocks → t < length blocks → slice_index blocks s ≡ slice_index blocks t → s ≡ t

-- ---- what is prepared

-- blocks that a node takes to go from one size to another
abbrev pub wanted_blocks : ℕ → ℕ → ℕ
wanted_blocks size len = blocks_for len - blocks_for size

-- blocks that are prepared to be taken by a node: they read as zeros, none is loose, and one that is cached bears the name
-- that it has as the node's
pub record Staged (i : ℕ) (m : Placed) (taken : List ℕ) (y : Seen) (j : Kept) : Type 0 where
  pub zeros : (b w : ℕ) → Contains taken b → y.words b w ≡ 0
  pub firm : (b : ℕ) → Contains taken b → j.loose b ≡ false
  pub named : (s : Slot) → HasSlot m s → Contains taken (m.block s) → y.cached (m.block s) ≡ true → Bears i m s (y.names (m.block s))

-- a change of size that is prepared. It may be made on any blocks in which inode i still lies as it did, whatever its pages
-- hold then: it edits no page, so that they hold the same afterwards
pub record PlansSize (shape : VolumeShape) (f : BlockWords) (y : Seen) (j : Kept) (i : ℕ) (given : Inode) (len : ℕ) (skip : List ℕ) (c : SizeChange) : Type 0 where
  pub turns : Turns shape (placed_at f i) (planned_node f i given len c) (size_update i c)
  pub from : (s : Slot) → HasSlot (planned_node f i given len c) s → Available (volume_layout shape f) i ((planned_node f i given len c).block s)
  pub lowest : numbers c.taken ≡ take (wanted_blocks given.size len) (free_beside shape f skip)
  pub count : length (numbers c.taken) ≡ wanted_blocks given.size len
  pub tables : AllByRecursion (EditsTable (planned_node f i given len c)) c.edits
  pub unnamed : (k : ℕ) → HasSlot (planned_node f i given len c) (AtTable k) → y.cached ((planned_node f i given len c).block (AtTable k)) ≡ true → y.names ((planned_node f i given len c).block (AtTable k)) ≡ None
  pub staged : Staged i (planned_node f i given len c) (numbers c.taken) y j

-- a change to a smaller size, or to the same one: the node keeps its first blocks, and nothing but its inode changes
pub record Shrinks (shape : VolumeShape) (f : BlockWords) (i : ℕ) (given : Inode) (len : ℕ) (c : SizeChange) : Type 0 where
  pub turns : Turns shape (placed_at f i) (planned_node f i given len c) (size_update i c)
  pub taken : numbers c.taken ≡ []
  pub edits : c.edits ≡ []
  pub freed : (b : ℕ) → Contains (numbers c.freed) b → (s : Slot) × HasSlot (given_node f i given) s × ((placed_at f i).block s ≡ b) × (HasSlot (planned_node f i given len c) s → ⊥)

-- a change to a larger size by these blocks, which are staged
pub record Grows (shape : VolumeShape) (f : BlockWords) (y : Seen) (j : Kept) (i : ℕ) (given : Inode) (len : ℕ) (blocks : List ℕ) (c : SizeChange) : Type 0 where
  pub turns : Turns shape (placed_at f i) (planned_node f i given len c) (size_update i c)
  pub taken : numbers c.taken ≡ blocks
  pub takes : Takes (volume_layout shape f) (given_node f i given) len blocks
  pub tables : AllByRecursion (EditsTable (planned_node f i given len c)) c.edits
  pub staged : Staged i (planned_node f i given len c) blocks y j
