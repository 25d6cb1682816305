-- How many blocks a node of a size takes, and how many blocks of a state's volume are used and free.
use Rattle.std.specs.Prelude.{ℕ, ◌+◌, ◌-◌, ◌*◌, ◌/◌, nat_lt, if◌then◌else◌, length, map, sum, Option, Some, None}
use Rattle.std.specs.List.{range_with_len}
use Rattle.std.specs.FinMap.{get}
use Rattle.rio_base.specs.Shapes.{reserved}
use Rattle.rio_model.specs.declared.node.Node.{Node}
use Rattle.rio_model.specs.declared.node.Node.TheVariants.{Dir, File, Region}
use Rattle.rio_model.specs.declared.node.RegionNode.{RegionNode}
use Rattle.rio_model.specs.declared.state.State.{State}
use Rattle.rio_model.specs.States.{names_in}
use Rattle.rio_model.specs.Undo.{region_words}

-- ---- by size. A page has 4,096 bytes

abbrev pub pages : ℕ → ℕ
pages size = (size + 4095) / 4096

-- tables: blocks of block numbers. A node of more than 24 pages has one, its indirect block
abbrev pub tables : ℕ → ℕ
tables size = if nat_lt 24 (pages size) then 1 else 0

abbrev pub blocks_for : ℕ → ℕ
blocks_for size = pages size + tables size

-- the largest size: 24 pages and the 1,024 that an indirect block numbers
abbrev pub largest_size : ℕ
largest_size = 4292608

-- ---- by state

abbrev pub data_pages : RegionNode → ℕ
data_pages r = length r.words / 512

-- the bytes of a node: 64 for each name of a directory, and of a region all its pages
abbrev pub node_size : State → ℕ → Node → ℕ
node_size s i Dir = 64 * length (names_in s i)
node_size s i (File bytes) = length bytes
node_size s i (Region r) = 8 * region_words r.undo (data_pages r)

abbrev pub node_blocks : State → ℕ → Option Node → ℕ
node_blocks s i None = 0
node_blocks s i (Some node) = blocks_for (node_size s i node)

-- the blocks of all nodes
abbrev pub used_blocks : State → ℕ
used_blocks s = sum (map (λ i. node_blocks s i (get s.nodes i)) (range_with_len 1 s.shape.inodes))

-- those that no node has
abbrev pub free_count : State → ℕ
free_count s = s.shape.blocks - reserved s.shape - used_blocks s
