-- Where the nodes of a volume lie: which block is which page of which node. All of it is looked up in the words of the
-- blocks: what an inode says, and what the indirect block says that it names. A layout is said twice: as a function of the
-- words, `placed_at`, and as a relation to them, `Lies`. The words may move while the relation lasts: so a step is proved
-- about one layout, and only at the end of a change about the one that the words say then.
use Rattle.std.specs.Prelude.{◌≡◌, ◌≢◌, ℕ, ◌-◌, ◌/◌, ◌<◌, ◌≤◌, nat_lt, if◌then◌else◌}
use Rattle.rio_base.specs.declared.places.VolumeShape.{VolumeShape}
use Rattle.rio_base.specs.Blocks.{BlockWords}
use Rattle.rio_base.specs.Layout.{IsIno, inode_kind, inode_size, direct_number, indirect_number, half}
use Rattle.rio_base.specs.Shapes.{reserved}
use Rattle.rio_model.specs.Sizes.{pages, tables}

-- ---- the blocks of one node

-- a place among them: a page by its index, or a table, which is a block of block numbers. Table 0 is the indirect block
pub data Slot : Type 0 where
  AtPage : ℕ → Slot
  AtTable : ℕ → Slot

-- what an inode says: kind, size, and the block of each slot
pub record Placed : Type 0 where
  pub kind : ℕ
  pub size : ℕ
  pub block : Slot → ℕ

-- a node of this size has this slot
abbrev pub Within : ℕ → Slot → Type 0
Within size (AtPage p) = p < pages size
Within size (AtTable k) = k < tables size

-- a slot counts: its inode is used, and its size reaches the slot. Numbers that don't count are not looked at
pub record HasSlot (n : Placed) (s : Slot) : Type 0 where
  pub used : 0 < n.kind
  pub within : Within n.size s

-- the number of a slot's block, where it stands. `table` gives the blocks of the tables. A slot of a later version is one
-- case more
unfoldable pub number_at : BlockWords → ℕ → (ℕ → ℕ) → Slot → ℕ
number_at f i table (AtPage p) = if nat_lt p 24 then direct_number f i p else half (f (table 0) ((p - 24) / 2)) p
number_at f i table (AtTable k) = indirect_number f i

-- inode i says this, as far as it counts
pub record Lies (f : BlockWords) (i : ℕ) (n : Placed) : Type 0 where
  pub kind : inode_kind f i ≡ n.kind
  pub size : 0 < n.kind → inode_size f i ≡ n.size
  pub blocks : (s : Slot) → HasSlot n s → number_at f i (λ k. n.block (AtTable k)) s ≡ n.block s

-- all that it says
abbrev pub placed_at : BlockWords → ℕ → Placed
placed_at f i = record { kind = inode_kind f i; size = inode_size f i; block = number_at f i (λ k. number_at f i (λ _. 0) (AtTable k)) }

-- ---- all nodes

pub record Layout : Type 0 where
  pub shape : VolumeShape
  pub node : ℕ → Placed

-- the layout that the blocks say
abbrev pub volume_layout : VolumeShape → BlockWords → Layout
volume_layout shape f = record { shape = shape; node = placed_at f }

-- slot s of inode i counts
pub record Owns (l : Layout) (i : ℕ) (s : Slot) : Type 0 where
  pub ino : IsIno l.shape i
  pub slot : HasSlot (l.node i) s

-- a block counts: some node has it
pub record Owned (l : Layout) (b : ℕ) : Type 0 where
  pub node : ℕ
  pub slot : Slot
  pub owns : Owns l node slot
  pub is : (l.node node).block slot ≡ b

-- a block is free: neither reserved nor some node's
pub record IsFree (l : Layout) (b : ℕ) : Type 0 where
  pub from : reserved l.shape ≤ b
  pub to : b < l.shape.blocks
  pub free : Owned l b → ⊥

-- blocks agree on all that is in use: the reserved blocks and those of nodes
pub record Agrees (l : Layout) (f g : BlockWords) : Type 0 where
  pub low : (b w : ℕ) → b < reserved l.shape → g b w ≡ f b w
  pub owned : (i : ℕ) (s : Slot) → Owns l i s → (w : ℕ) → g ((l.node i).block s) w ≡ f ((l.node i).block s) w

-- and but for the pages of node i
pub record AgreesBeside (l : Layout) (i : ℕ) (f g : BlockWords) : Type 0 where
  pub low : (b w : ℕ) → b < reserved l.shape → g b w ≡ f b w
  pub tables : (t : ℕ) → HasSlot (l.node i) (AtTable t) → (w : ℕ) → g ((l.node i).block (AtTable t)) w ≡ f ((l.node i).block (AtTable t)) w
  pub others : (j : ℕ) (s : Slot) → j ≢ i → Owns l j s → (w : ℕ) → g ((l.node j).block s) w ≡ f ((l.node j).block s) w

-- ---- two descriptions of one node

pub record SamePlaced (n m : Placed) : Type 0 where
  pub kind : m.kind ≡ n.kind
  pub size : 0 < n.kind → m.size ≡ n.size
  pub blocks : (s : Slot) → HasSlot n s → m.block s ≡ n.block s
