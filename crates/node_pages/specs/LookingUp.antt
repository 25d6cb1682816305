-- Where the pages of a node lie, looked up in its inode and its tables.
use Rattle.std.specs.Prelude.{◌≡◌, ℕ, ◌++◌, true, List, map, None}
use Rattle.std.specs.List.{range_with_len}
use Rattle.rio_base.specs.declared.places.VolumeShape.{VolumeShape}
use Rattle.rio_base.specs.BlockSets.{CachesBy}
use Rattle.rio_base.specs.Blocks.{Looks, Seen}
use Rattle.rio_base.specs.Shapes.{HasShape}
use Rattle.rio_model.specs.Placed.{AtPage, AtTable, Placed, Layout, volume_layout, Owns}
use Rattle.rio_model.specs.Sizes.{pages, tables}
use Rattle.rio_model.specs.VolumeReady.{BearsOwn}
use Rattle.rio_model.specs.VolumeRules.{IsNumbered}

-- the blocks of so many pages of a node, from a page on
abbrev pub page_blocks : Placed → ℕ → ℕ → List ℕ
page_blocks n first count = map (λ p. n.block (AtPage p)) (range_with_len first count)

-- all blocks of a node, its pages in order first
abbrev pub node_blocks : Placed → List ℕ
node_blocks n = page_blocks n 0 (pages n.size) ++ map (λ k. n.block (AtTable k)) (range_with_len 0 (tables n.size))

-- a cached table bears no name
pub record TablesUnnamed (l : Layout) (x : Seen) : Type 0 where
  pub each : (i k : ℕ) → Owns l i (AtTable k) → x.cached ((l.node i).block (AtTable k)) ≡ true → x.names ((l.node i).block (AtTable k)) ≡ None

-- the rules 1 to 5 hold, and inodes and tables may be read as metadata: what a call supposes that looks up block numbers
pub record CanLookUp (shape : VolumeShape) (x : Seen) : Type 0 where
  pub has_shape : HasShape shape x
  pub numbered : IsNumbered shape x.words
  pub unnamed : TablesUnnamed (volume_layout shape x.words) x

-- what such a call leaves: nothing reads otherwise, and a block is newly cached only under a name that it may bear
pub record LooksUp (shape : VolumeShape) (x y : Seen) : Type 0 where
  pub looks : Looks x y
  pub still : CanLookUp shape y
  pub caches : CachesBy (BearsOwn (volume_layout shape x.words)) x y
