-- What calls on the nodes of a volume suppose of it, and keep: names of cached pages, and blocks that stand.
use Rattle.std.specs.Prelude.{◌≡◌, ◌≢◌, ℕ, ◌-◌, ◌*◌, ◌<◌, ◌≤◌, ◌⊎◌, true, false, min, Option, None, Some}
use Rattle.rio_base.specs.declared.places.PageName.{PageName}
use Rattle.rio_base.specs.declared.places.VolumeShape.{VolumeShape}
use Rattle.rio_base.specs.Blocks.{BlockWords, Seen, Looks}
use Rattle.rio_base.specs.Layout.{IsIno}
use Rattle.rio_base.specs.Shapes.{HasShape, reserved}
use Rattle.rio_base.specs.Volume.{Kept}
use Rattle.rio_base.specs.NodeKinds.{dir_kind}
use Rattle.rio_model.specs.Placed.{Slot, AtPage, AtTable, Placed, HasSlot, Layout, volume_layout, Owns, Agrees}
use Rattle.rio_model.specs.VolumeRules.{IsMapped}

-- a name of page p of file or region i, with at least the bytes that a node of this size has in the page
pub record NamesPage (i size p : ℕ) (name : PageName) : Type 0 where
  pub file : name.file.0 ≡ i
  pub index : name.index ≡ p
  pub size_from : min 4096 (size - 4096 * p) ≤ name.size

-- a cached block of slot s of node i, which is n, may bear this name: none for a table or a directory's page
abbrev pub Bears : ℕ → Placed → Slot → Option PageName → Type 0
Bears i n (AtTable k) name = name ≡ None
Bears i n (AtPage p) None = n.kind ≡ dir_kind
Bears i n (AtPage p) (Some name) = (n.kind ≢ 1) × NamesPage i n.size p name

-- each cached block of node i bears such a name
abbrev pub NamedNode : ℕ → Placed → Seen → Type 0
NamedNode i n x = (s : Slot) → HasSlot n s → x.cached (n.block s) ≡ true → Bears i n s (x.names (n.block s))

-- and so does each of every node
pub record AllNamed (l : Layout) (x : Seen) : Type 0 where
  pub each : (i : ℕ) → IsIno l.shape i → NamedNode i (l.node i) x

-- nothing reads otherwise, the volume still has this shape, and cached pages bear their names
pub record LooksNamed (shape : VolumeShape) (x y : Seen) : Type 0 where
  pub looks : Looks x y
  pub has_shape : HasShape shape y
  pub named : AllNamed (volume_layout shape x.words) y

-- a block may be newly cached under this name: it is reserved, or some node has it so
abbrev pub BearsOwn : Layout → ℕ → Option PageName → Type 0
BearsOwn l b name = ((b < reserved l.shape) × (name ≡ None)) ⊎ ((i : ℕ) × (s : Slot) × Owns l i s × ((l.node i).block s ≡ b) × Bears i (l.node i) s name)

-- no block in use is loose
pub record Firmly (l : Layout) (k : Kept) : Type 0 where
  pub low : (b : ℕ) → b < reserved l.shape → k.loose b ≡ false
  pub owned : (i : ℕ) (s : Slot) → Owns l i s → k.loose ((l.node i).block s) ≡ false

-- a volume in order, by words that read or that stand: the rules 1 to 7 hold, cached pages bear their names, and no block in
-- use is loose
pub record InOrder (shape : VolumeShape) (f : BlockWords) (x : Seen) (k : Kept) : Type 0 where
  pub has_shape : HasShape shape x
  pub mapped : IsMapped shape f
  pub named : AllNamed (volume_layout shape f) x
  pub firm : Firmly (volume_layout shape f) k

-- what a changing call supposes: a volume in order by the words as they read, and no open update
pub record Ready (shape : VolumeShape) (x : Seen) (k : Kept) : Type 0 where
  pub order : InOrder shape x.words x k
  pub idle : k.updating ≡ false

-- what a changing call leaves that is stopped: order by what stands
abbrev pub StandsReady : VolumeShape → Seen → Kept → Type 0
StandsReady shape x k = InOrder shape k.standing x k

-- a call that only prepares a change: nothing in use differs, read or standing
pub record LeavesInUse (l : Layout) (x : Seen) (k : Kept) (y : Seen) (j : Kept) : Type 0 where
  pub words : Agrees l x.words y.words
  pub standing : Agrees l k.standing j.standing
  pub has_shape : HasShape l.shape y
  pub named : AllNamed l y
  pub firm : Firmly l j
  pub idle : j.updating ≡ false
