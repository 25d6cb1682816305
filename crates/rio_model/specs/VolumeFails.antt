-- Which rule of a volume fails first, and the block that is told with it: of rules on inodes the block of the least inode that
-- does not keep it, of rules on blocks the least block. Each rule supposes those before it.
use Rattle.std.specs.Prelude.{◌≡◌, ◌≢◌, ℕ, ◌<◌, ◌⊎◌, List, length, None, Some, Ok}
use Rattle.std.specs.FinMap.{get}
use Rattle.rio_base.specs.declared.places.VolumeShape.{VolumeShape}
use Rattle.rio_base.specs.Blocks.{BlockWords}
use Rattle.rio_base.specs.Layout.{HasSuperblock, IsIno, inode_block}
use Rattle.rio_base.specs.Machine.{Contents}
use Rattle.rio_base.specs.Shapes.{IsServed}
use Rattle.rio_model.specs.declared.state.State.{State}
use Rattle.rio_model.specs.Cover.{stands}
use Rattle.rio_model.specs.Held.{Held, held_of}
use Rattle.rio_model.specs.Paths.{walk}
use Rattle.rio_model.specs.Placed.{Layout, Owns, Slot, volume_layout}
use Rattle.rio_model.specs.Registry.{IsValid, tag_at, tag_block}
use Rattle.rio_model.specs.Standing.{EntryFits}
use Rattle.rio_model.specs.VolumeReads.{Reads, ReadsAs}
use Rattle.rio_model.specs.VolumeRules.{ApartAt, EntryAt, EntryRule, KindAt, KindRule, MarkRule, NamesApartRule, NumberAt, NumberRule, OnceRule, RegionAt, ReservedRule, SizeAt, SizeRule, TreeRule}
use Rattle.rio_model.specs.RuleNumbers.{volume_rule}
use Rattle.rio_model.specs.declared.rules.VolumeRule.TheVariants.{Superblock, Reserved, Kinds, Sizes, Numbers, Once, Marks, Entries, NamesApart, Tree, Regions, Cached}

-- ---- rule 1: it fails, with block 0, where the superblock says no shape of which this holds

-- a shape that is served, with as many blocks as the disk has
pub record SaysShape (f : BlockWords) (count : ℕ) (shape : VolumeShape) : Type 0 where
  pub served : IsServed shape
  pub words : HasSuperblock f shape
  pub blocks : count ≡ shape.blocks

-- ---- what a rule asks of one inode

-- b is the block of the least inode that does not keep this
pub record FailsFirst (shape : VolumeShape) (keeps : ℕ → Type 0) (b : ℕ) : Type 0 where
  pub ino : ℕ
  pub is_ino : IsIno shape ino
  pub fails : ¬ keeps ino
  pub before : (j : ℕ) → IsIno shape j → j < ino → keeps j
  pub block : b ≡ inode_block ino

abbrev pub HasNoName : State → ℕ → Type 0
HasNoName s i = (d : ℕ) (a : List ℕ) → get s.names (d, a) ≢ Some i

-- node i has exactly one name, and is reached from inode 1
pub record HasOneName (s : State) (i : ℕ) : Type 0 where
  pub dir : ℕ
  pub name : List ℕ
  pub row : get s.names (dir, name) ≡ Some i
  pub only : (d : ℕ) (a : List ℕ) → get s.names (d, a) ≡ Some i → (d ≡ dir) × (a ≡ name)
  pub reached : (names : List (List ℕ)) × (walk s 1 names ≡ Ok i)

-- rule 10: inode 1 has no name, and each other used inode has exactly one and is reached
abbrev pub TreeAt : State → ℕ → Type 0
TreeAt s i = get s.nodes i ≢ None → ((i ≡ 1) × HasNoName s i) ⊎ ((i ≢ 1) × HasOneName s i)

-- ---- what rule 6 asks of one block

-- block b counts twice
pub record CountsTwice (l : Layout) (b : ℕ) : Type 0 where
  pub i : ℕ
  pub j : ℕ
  pub s : Slot
  pub t : Slot
  pub one : Owns l i s × ((l.node i).block s ≡ b)
  pub other : Owns l j t × ((l.node j).block t ≡ b)
  pub two : ¬ ((i ≡ j) × (s ≡ t))

-- it is the least that does
pub record IsLeastTwice (l : Layout) (b : ℕ) : Type 0 where
  pub twice : CountsTwice l b
  pub least : (c : ℕ) → c < b → ¬ CountsTwice l c

-- ---- the first rule that fails

-- of the rules 10 and 11. No directory has two equal names, so what is held reads as a state
pub record FailsTree (shape : VolumeShape) (held : ℕ → Held) (rule b : ℕ) : Type 0 where
  pub state : State
  pub reads : Reads held state
  pub fails : ((rule ≡ volume_rule Tree) × FailsFirst shape (TreeAt state) b) ⊎ (TreeRule state × (rule ≡ volume_rule Regions) × FailsFirst shape (RegionAt held) b)

-- of the rules 8 to 11, by what the inodes hold
abbrev pub FailsHeld : VolumeShape → (ℕ → Held) → ℕ → ℕ → Type 0
FailsHeld shape held rule b =
    ((rule ≡ volume_rule Entries) × FailsFirst shape (EntryAt held) b) ⊎ (EntryRule held × (
    ((rule ≡ volume_rule NamesApart) × FailsFirst shape (ApartAt held) b) ⊎ (NamesApartRule held × FailsTree shape held rule b)))

-- of the rules 2 to 11, for a volume of this shape
abbrev pub FailsOn : VolumeShape → BlockWords → ℕ → ℕ → Type 0
FailsOn shape f rule b =
    ((rule ≡ volume_rule Reserved) × (b ≡ 1) × ¬ ReservedRule shape f) ⊎ (ReservedRule shape f × (
    ((rule ≡ volume_rule Kinds) × FailsFirst shape (KindAt (volume_layout shape f)) b) ⊎ (KindRule (volume_layout shape f) × (
    ((rule ≡ volume_rule Sizes) × FailsFirst shape (SizeAt (volume_layout shape f)) b) ⊎ (SizeRule (volume_layout shape f) × (
    ((rule ≡ volume_rule Numbers) × FailsFirst shape (NumberAt (volume_layout shape f)) b) ⊎ (NumberRule (volume_layout shape f) × (
    ((rule ≡ volume_rule Once) × IsLeastTwice (volume_layout shape f) b) ⊎ (OnceRule (volume_layout shape f) × (
    ((rule ≡ volume_rule Marks) × (b ≡ 1) × ¬ MarkRule (volume_layout shape f) f) ⊎ (MarkRule (volume_layout shape f) f × FailsHeld shape (held_of shape f) rule b)))))))))))

-- of the rules 1 to 11, for blocks of a disk that has so many
abbrev pub FailsVolume : BlockWords → ℕ → ℕ → ℕ → Type 0
FailsVolume f count rule b =
    ((rule ≡ volume_rule Superblock) × (b ≡ 0) × ((shape : VolumeShape) → ¬ SaysShape f count shape))
    ⊎ ((shape : VolumeShape) × SaysShape f count shape × FailsOn shape f rule b)

-- ---- rule 12

-- b is the least block whose entry does not keep it
pub record FailsEntries (l : Layout) (words : List ℕ) (b : ℕ) : Type 0 where
  pub entry : ℕ
  pub valid : IsValid words entry
  pub is : tag_block (tag_at words entry) ≡ b
  pub fails : ¬ EntryFits l words entry
  pub before : (k : ℕ) → IsValid words k → tag_block (tag_at words k) < b → EntryFits l words k

-- of the rules 1 to 12, for memory and disk with the disk as it reads
abbrev pub FailsPair : Contents → ℕ → ℕ → Type 0
FailsPair c rule b =
    FailsVolume (stands c) (length c.disk) rule b
    ⊎ ((s : State) × SaysShape (stands c) (length c.disk) s.shape × ReadsAs s.shape (stands c) s × (rule ≡ volume_rule Cached) × FailsEntries (volume_layout s.shape (stands c)) c.words b)
