-- Counts of a state's nodes and blocks, and which node has each block.
use Rattle.std.specs.Prelude.{◌≡◌, ℕ, ◌<◌, Bool, true, false, List, length, slice_index_or, Option, Some}
use Rattle.std.specs.List.{filter, range_with_len}
use Rattle.std.specs.FinMap.{get}
use Rattle.rio_model.specs.declared.census.Census.{Census}
use Rattle.rio_model.specs.declared.census.Owner.{Owner}
use Rattle.rio_model.specs.declared.census.Owner.TheVariants.{Nobody, PageOf, TableOf}
use Rattle.rio_model.specs.declared.node.Node.{Node}
use Rattle.rio_model.specs.declared.node.Node.TheVariants.{File, Region}
use Rattle.rio_model.specs.declared.state.State.{State}
use Rattle.rio_model.specs.Paths.{is_dir}
use Rattle.rio_model.specs.Placed.{AtPage, AtTable, Layout, Owned, Owns}
use Rattle.rio_model.specs.Sizes.{free_count, used_blocks}

-- ---- counts

abbrev pub is_file : Option Node → Bool
is_file (Some (File _)) = true
is_file _ = false

abbrev pub is_region : Option Node → Bool
is_region (Some (Region _)) = true
is_region _ = false

-- how many inodes have a node that passes a test
abbrev pub node_count : (Option Node → Bool) → State → ℕ
node_count test s = length (filter (λ i. test (get s.nodes i)) (range_with_len 1 s.shape.inodes))

-- the counts are those of this state
pub record IsCensus (s : State) (c : Census) : Type 0 where
  pub shape : c.shape ≡ s.shape
  pub dirs : c.dirs ≡ node_count is_dir s
  pub files : c.files ≡ node_count is_file s
  pub regions : c.regions ≡ node_count is_region s
  pub used : c.used ≡ used_blocks s
  pub free : c.free ≡ free_count s

-- ---- owners

-- block b is this node's, by the numbers that count
abbrev pub OwnerIs : Layout → ℕ → Owner → Type 0
OwnerIs l b Nobody = ¬ Owned l b
OwnerIs l b (PageOf i p) = Owns l i.0 (AtPage p) × ((l.node i.0).block (AtPage p) ≡ b)
OwnerIs l b (TableOf i t) = Owns l i.0 (AtTable t) × ((l.node i.0).block (AtTable t) ≡ b)

-- there is an owner for each block, and it is the block's
pub record HasOwners (l : Layout) (owners : List Owner) : Type 0 where
  pub count : length owners ≡ l.shape.blocks
  pub each : (b : ℕ) → b < l.shape.blocks → OwnerIs l b (slice_index_or owners b Nobody)
