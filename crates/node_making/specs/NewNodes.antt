-- A node that is made. Of a region: its pages, its words, and the change that is prepared; and the answer of a look-up of a
-- region.
use Rattle.std.specs.Prelude.{◌≡◌, ℕ, ◌*◌, ◌<◌, ◌≤◌, ◌⊎◌, ◌==◌, if◌then◌else◌, true, false, List, [], ◌∷◌, take, Option, None, Some, Result, Ok, Err}
use Rattle.std.specs.List.{AllByRecursion, Contains}
use Rattle.std.specs.FinMap.{get}
use Rattle.rio_base.specs.declared.places.Ino.{Ino}
use Rattle.rio_base.specs.declared.places.PageName.{PageName}
use Rattle.rio_base.specs.declared.places.VolumeShape.{VolumeShape}
use Rattle.rio_base.specs.Blocks.{BlockWords, Seen}
use Rattle.rio_base.specs.Volume.{Kept}
use Rattle.rio_base.specs.NodeKinds.{dir_kind, file_kind, region_kind}
use Rattle.rio_model.specs.declared.node.Node.TheVariants.{Region}
use Rattle.rio_model.specs.declared.node.RegionNode.{RegionNode}
use Rattle.rio_model.specs.declared.state.State.{State}
use Rattle.rio_model.specs.Held.{Held, held}
use Rattle.rio_model.specs.Paths.{names_of, walk}
use Rattle.rio_model.specs.Placed.{Slot, AtTable, Placed, HasSlot, IsFree, placed_at, volume_layout}
use Rattle.rio_model.specs.Sizes.{largest_size}
use Rattle.rio_model.specs.Undo.{region_magic, region_words}
use Rattle.rio_model.specs.Updates.{Turns}
use Rattle.rio_model.specs.VolumeReady.{NamedNode}
use Rattle.rio_model.specs.declared.node.Node.{Node}
use Rattle.rio_requests.specs.Answers.{empty_node, new_region}
use Rattle.block_alloc.specs.Bitmap.{numbers}
use Rattle.node_pages.specs.Changes.{EditsTable, free_beside}
use Rattle.request_ends.specs.declared.failures.FileFail.{FileFail}
use Rattle.request_ends.specs.declared.failures.FileFail.TheVariants.{Refused, Fault, Stopped, Memory}
use Rattle.node_updates.specs.Changes.{change_update}
use Rattle.node_updates.specs.declared.changes.NodeChange.{NodeChange}
use Rattle.node_making.specs.declared.regions.RegionSizes.{RegionSizes}
use Rattle.node_making.specs.declared.new_nodes.NewNode.{NewNode}
use Rattle.node_making.specs.declared.new_nodes.NewNode.TheVariants.{Bare, Sized}

-- ---- sizes

-- a region of one undo page and one data page at least, in as many bytes as a node may have
pub record FitRegion (r : RegionSizes) : Type 0 where
  pub undo : 1 ≤ r.undo_pages
  pub data_pages : 1 ≤ r.data_pages
  pub bytes : r.bytes ≡ 8 * region_words r.undo_pages r.data_pages
  pub most : r.bytes ≤ largest_size

-- the sizes of a region, where a node can have so many bytes
abbrev pub SizesRegion : ℕ → ℕ → Option RegionSizes → Type 0
SizesRegion undo pages None = largest_size < 8 * region_words undo pages
SizesRegion undo pages (Some r) = (r.undo_pages ≡ undo) × (r.data_pages ≡ pages) × FitRegion r

-- ---- words

-- the first words of the header
abbrev pub header_words : RegionSizes → List ℕ
header_words r = region_magic ∷ (r.undo_pages ∷ (r.data_pages ∷ []))

-- the name of its page
abbrev pub header_name : Ino → PageName
header_name i = record { file = i; index = 0; size = 4096 }

-- the words of a new region: the header, and zeros behind it
abbrev pub new_word : ℕ → ℕ → ℕ → ℕ
new_word undo pages y = if y == 0 then region_magic else if y == 1 then undo else if y == 2 then pages else 0

-- what its inode holds
abbrev pub new_held : ℕ → ℕ → Held
new_held undo pages = record { kind = 3; size = 8 * region_words undo pages; word = new_word undo pages }

-- ---- a new region that is prepared over blocks f, in the lowest blocks that are free there and none of these. y and j are
-- the volume then

pub record PlansRegion (shape : VolumeShape) (f : BlockWords) (y : Seen) (j : Kept) (i : ℕ) (r : RegionSizes) (skip : List ℕ) (c : NodeChange) : Type 0 where
  pub ino : c.ino.0 ≡ i
  pub node : Placed
  pub kind : node.kind ≡ region_kind
  pub turns : Turns shape (placed_at f i) node (change_update c)
  pub from : (s : Slot) → HasSlot node s → IsFree (volume_layout shape f) (node.block s)
  pub beside : (s : Slot) → HasSlot node s → Contains skip (node.block s) → ⊥
  pub lowest : (n : ℕ) × (numbers c.taken ≡ take n (free_beside shape f skip))
  pub tables : AllByRecursion (EditsTable node) c.edits
  pub unnamed : (k : ℕ) → HasSlot node (AtTable k) → y.cached (node.block (AtTable k)) ≡ true → y.names (node.block (AtTable k)) ≡ None
  pub holds : held y.words node ≡ new_held r.undo_pages r.data_pages
  pub firm : (s : Slot) → HasSlot node s → j.loose (node.block s) ≡ false
  pub named : NamedNode i node y

-- ---- a region at a path

-- the walk ends at a region, or what refuses it: the walk, or 8 where no region is
abbrev pub FindsRegion : State → List ℕ → Result Ino FileFail → Type 0
FindsRegion s path (Ok i) = (walk s 1 (names_of path) ≡ Ok i.0) × ((r : RegionNode) × (get s.nodes i.0 ≡ Some (Region r)))
FindsRegion s path (Err (Refused c)) = (walk s 1 (names_of path) ≡ Err c) ⊎ ((i : ℕ) × (walk s 1 (names_of path) ≡ Ok i) × ((r : RegionNode) → get s.nodes i ≡ Some (Region r) → ⊥) × (c ≡ 8))
FindsRegion s path (Err (Fault k)) = k ≡ 0
FindsRegion s path (Err Stopped) = Unit {0}
FindsRegion s path (Err Memory) = ⊥

-- ---- a new node, as a node of the state

abbrev pub node_made : NewNode → Node
node_made (Bare kind) = empty_node kind
node_made (Sized sizes) = Region (new_region sizes.data_pages sizes.undo_pages)

-- a directory or a file, or a region of sizes that a node may have
abbrev pub FitsNode : NewNode → Type 0
FitsNode (Bare kind) = (kind ≡ dir_kind) ⊎ (kind ≡ file_kind)
FitsNode (Sized sizes) = FitRegion sizes
