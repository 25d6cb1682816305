-- Which node has each block, as far as nodes were looked at.
use Rattle.std.specs.Prelude.{Bool, true, false, ◌≡◌, ◌≢◌, ℕ, ◌+◌, ◌-◌, ◌<◌, nat_lt, if◌then◌else◌, ◌≤◌, ◌⊎◌, List, length, slice_index_or, slice_set, Option, None, Some}
use Rattle.rio_base.specs.declared.places.Block.{Block}
use Rattle.rio_base.specs.declared.places.Ino.{Ino}
use Rattle.rio_model.specs.declared.census.Owner.{Owner}
use Rattle.rio_model.specs.declared.census.Owner.TheVariants.{Nobody, PageOf, TableOf}
use Rattle.rio_model.specs.Placed.{AtPage, AtTable, Layout, Owns, Slot}
use Rattle.rio_model.specs.Sizes.{pages}

-- this is a node
abbrev pub is_owned : Owner → Bool
is_owned Nobody = false
is_owned (PageOf i p) = true
is_owned (TableOf i t) = true

-- the place of a slot among the blocks of a node that has so many pages
abbrev pub slot_place : ℕ → Slot → ℕ
slot_place count (AtPage p) = p
slot_place count (AtTable k) = count + k

-- the slot at a place among them
abbrev pub slot_at : ℕ → ℕ → Slot
slot_at count at = if nat_lt at count then AtPage at else AtTable (at - count)

-- node i as the owner of a block by a slot
abbrev pub slot_owner : Ino → Slot → Owner
slot_owner i (AtPage p) = PageOf i p
slot_owner i (AtTable k) = TableOf i k

-- slot s of node j is one of the first k of node i, or node j is below i
abbrev pub IsBefore : Layout → ℕ → ℕ → ℕ → Slot → Type 0
IsBefore l i k j s = Owns l j s × ((j < i) ⊎ ((j ≡ i) × (slot_place (pages (l.node i).size) s < k)))

-- of the slots that count for `counts`, this is the owner of block b
abbrev pub OwnerBy : Layout → (ℕ → Slot → Type 0) → ℕ → Owner → Type 0
OwnerBy l counts b Nobody = (j : ℕ) (s : Slot) → counts j s → (l.node j).block s ≡ b → ⊥
OwnerBy l counts b (PageOf i p) = counts i.0 (AtPage p) × ((l.node i.0).block (AtPage p) ≡ b)
OwnerBy l counts b (TableOf i t) = counts i.0 (AtTable t) × ((l.node i.0).block (AtTable t) ≡ b)

-- a block was found that is at most this
abbrev pub IsAtMost : Option Block → ℕ → Type 0
IsAtMost None b = ⊥
IsAtMost (Some least) b = least.0 ≤ b

-- two different slots have block b
pub record SharedBy (l : Layout) (counts : ℕ → Slot → Type 0) (b : ℕ) : Type 0 where
  pub i : ℕ
  pub j : ℕ
  pub s : Slot
  pub t : Slot
  pub one : counts i s × ((l.node i).block s ≡ b)
  pub other : counts j t × ((l.node j).block t ≡ b)
  pub two : ¬ ((i ≡ j) × (s ≡ t))

-- each block has its owner, and `least` is the least block that two of these slots have
pub record Claimed (l : Layout) (counts : ℕ → Slot → Type 0) (owners : List Owner) (least : Option Block) : Type 0 where
  pub len : length owners ≡ l.shape.blocks
  pub owner : (b : ℕ) → b < l.shape.blocks → OwnerBy l counts b (slice_index_or owners b Nobody)
  pub found : (b : Block) → least ≡ Some b → SharedBy l counts b.0
  pub shared : (i j : ℕ) (s t : Slot) → counts i s → counts j t → (l.node i).block s ≡ (l.node j).block t → ((i ≡ j) × (s ≡ t)) ⊎ IsAtMost least ((l.node i).block s)

-- block b got this owner, or had one before. Then it is told, if none below it is
pub record Notes (b : ℕ) (owner : Owner) (old new : List Owner) (least told : Option Block) : Type 0 where
  pub free : slice_index_or old b Nobody ≡ Nobody → (new ≡ slice_set old b owner) × (told ≡ least)
  pub taken : slice_index_or old b Nobody ≢ Nobody → (new ≡ old) × IsAtMost told b
  pub lower : (c : ℕ) → IsAtMost least c → IsAtMost told c
  pub own : (c : Block) → told ≡ Some c → (least ≡ Some c) ⊎ ((c.0 ≡ b) × (slice_index_or old b Nobody ≢ Nobody))
