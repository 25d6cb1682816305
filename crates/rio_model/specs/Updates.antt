-- An update of a volume as a whole: edits of words, one inode stored, and blocks marked and unmarked.
use Rattle.std.specs.Prelude.{◌≡◌, ℕ, ◌+◌, ◌-◌, ◌/◌, ◌<◌, ◌≤◌, ◌⊎◌, List, [], ◌∷◌, map, slice_index}
use Rattle.std.specs.List.{AllByRecursion, Contains, range_with_len}
use Rattle.rio_base.specs.declared.places.VolumeShape.{VolumeShape}
use Rattle.rio_base.specs.Bitmap.{used_bit}
use Rattle.rio_base.specs.Blocks.{BlockWords}
use Rattle.rio_base.specs.Layout.{IsIno, inode_block, inode_place, half}
use Rattle.rio_base.specs.Shapes.{IsShape}
use Rattle.rio_base.specs.Volume.{put, put_run}
use Rattle.rio_model.specs.NodeChanges.{IsBitmap, Without}
use Rattle.rio_model.specs.Placed.{Slot, AtPage, AtTable, Placed, HasSlot, Lies}
use Rattle.rio_model.specs.VolumeRules.{bitmap_bits, NodeFits}

-- one word of a block gets a value
pub record WordEdit : Type 0 where
  pub block : ℕ
  pub word : ℕ
  pub value : ℕ

-- the blocks after edits, made in order
abbrev pub edited : BlockWords → List WordEdit → BlockWords
edited f [] = f
edited f (e ∷ edits) = edited (put f e.block e.word e.value) edits

-- n words of a block from a word on, edited one after the other
abbrev pub run_edits : ℕ → (ℕ → ℕ) → ℕ → ℕ → List WordEdit
run_edits b value first count = map (λ w. record { block = b; word = w; value = value w }) (range_with_len first count)

-- the blocks with inode i stored, its 16 words given
abbrev pub with_inode : BlockWords → ℕ → List ℕ → BlockWords
with_inode f i words = put_run f (inode_block i) (inode_place i) 16 words

pub record Update : Type 0 where
  -- the inode that is stored, and its 16 words
  pub ino : ℕ
  pub inode : List ℕ
  pub edits : List WordEdit
  -- blocks to be marked, and to be unmarked
  pub taken : List ℕ
  pub freed : List ℕ

-- g is f with an update made
pub record Applied (shape : VolumeShape) (u : Update) (f g : BlockWords) : Type 0 where
  pub words : (b w : ℕ) → (IsBitmap shape b → ⊥) → g b w ≡ with_inode (edited f u.edits) u.ino u.inode b w
  pub taken : (b : ℕ) → Contains u.taken b → used_bit shape g b ≡ 1
  pub freed : (b : ℕ) → Contains u.freed b → used_bit shape g b ≡ 0
  pub others : (b : ℕ) → b < bitmap_bits shape → (Contains u.taken b → ⊥) → (Contains u.freed b → ⊥) → used_bit shape g b ≡ used_bit shape f b

-- a node has the block of an edit
abbrev pub EditsNode : Placed → WordEdit → Type 0
EditsNode m e = (s : Slot) × HasSlot m s × (m.block s ≡ e.block)

-- an update by which a node that is n becomes m: it takes and frees what m has more and less, edits blocks of m alone, and
-- stores an inode and numbers in tables that say m
pub record Turns (shape : VolumeShape) (n m : Placed) (u : Update) : Type 0 where
  pub shape_fits : IsShape shape
  pub ino : IsIno shape u.ino
  pub old_fits : NodeFits shape n
  pub new_fits : NodeFits shape m
  pub gains : (s : Slot) → HasSlot m s → ((t : Slot) × HasSlot n t × (n.block t ≡ m.block s)) ⊎ Contains u.taken (m.block s)
  pub loses : (s : Slot) → HasSlot n s → ((t : Slot) × HasSlot m t × (m.block t ≡ n.block s)) ⊎ Contains u.freed (n.block s)
  pub taken : (b : ℕ) → Contains u.taken b → ((s : Slot) × HasSlot m s × (m.block s ≡ b)) × Without n b
  pub freed : (b : ℕ) → Contains u.freed b → ((s : Slot) × HasSlot n s × (n.block s ≡ b)) × Without m b
  pub edits : AllByRecursion (EditsNode m) u.edits
  pub kind : slice_index u.inode 0 ≡ m.kind
  pub size : slice_index u.inode 1 ≡ m.size
  pub direct : (p : ℕ) → p < 24 → HasSlot m (AtPage p) → half (slice_index u.inode (2 + p / 2)) p ≡ m.block (AtPage p)
  pub indirect : (k : ℕ) → HasSlot m (AtTable k) → half (slice_index u.inode 14) 0 ≡ m.block (AtTable k)
  pub later : (f : BlockWords) → Lies f u.ino n → (p : ℕ) → 24 ≤ p → HasSlot m (AtPage p) → half (edited f u.edits (m.block (AtTable 0)) ((p - 24) / 2)) p ≡ m.block (AtPage p)
