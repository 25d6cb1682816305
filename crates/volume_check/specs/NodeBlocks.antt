-- The blocks of one node, by the numbers that count, and their words, read one block after the other.
use Rattle.std.specs.Prelude.{ℕ, ◌<◌, ◌≤◌, ◌++◌, ◌≡◌, ◌+◌, ◌*◌, nat_lt, if◌then◌else◌, List, [], map, length, slice_index}
use Rattle.std.specs.List.{range_with_len}
use Rattle.rio_base.specs.declared.places.Block.{Block}
use Rattle.rio_base.specs.declared.places.VolumeShape.{VolumeShape}
use Rattle.rio_base.specs.Shapes.{reserved}
use Rattle.rio_base.specs.Blocks.{BlockWords}
use Rattle.rio_model.specs.Placed.{AtPage, AtTable, HasSlot, Placed}
use Rattle.rio_model.specs.Sizes.{largest_size, pages, tables}
use Rattle.rio_model.specs.Held.{Held}

abbrev pub numbers : List Block → List ℕ
numbers blocks = map (λ b. b.0) blocks

-- the blocks of so many of its pages, from a page on
abbrev pub page_numbers : Placed → ℕ → ℕ → List ℕ
page_numbers n first count = map (λ p. n.block (AtPage p)) (range_with_len first count)

-- all of them, its pages in order first and then its tables. A free inode has none
abbrev pub node_numbers : Placed → List ℕ
node_numbers n = if nat_lt 0 n.kind then page_numbers n 0 (pages n.size) ++ map (λ k. n.block (AtTable k)) (range_with_len 0 (tables n.size)) else []

-- a block past the reserved ones
abbrev pub InRange : VolumeShape → ℕ → Type 0
InRange shape b = (reserved shape ≤ b) × (b < shape.blocks)

-- the numbers of a node can be looked up: its size reaches no further than its tables do, and they are blocks of the disk
pub record CanNumber (n : Placed) (count : ℕ) : Type 0 where
  pub size : 0 < n.kind → n.size ≤ largest_size
  pub tables : (k : ℕ) → HasSlot n (AtTable k) → n.block (AtTable k) < count

-- ---- the words

-- the words of block b were added to others
pub record PushesBlock (f : BlockWords) (b : ℕ) (old new : List ℕ) : Type 0 where
  pub len : length new ≡ length old + 512
  pub front : (y : ℕ) → y < length old → slice_index new y ≡ slice_index old y
  pub block : (w : ℕ) → w < 512 → slice_index new (length old + w) ≡ f b w

-- the words of the first `count` pages of a node. What lies past its size may be anything
pub record HasFront (h : Held) (count : ℕ) (words : List ℕ) : Type 0 where
  pub len : length words ≡ 512 * count
  pub each : (y : ℕ) → y < 512 * count → 8 * y < h.size → slice_index words y ≡ h.word y
