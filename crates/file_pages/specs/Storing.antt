-- Pages of a file stored to, while no update is open.
use Rattle.std.specs.Prelude.{◌≡◌, ℕ, ◌/◌, ◌%◌, ◌<◌, ◌≤◌, true, Option, Some}
use Rattle.rio_base.specs.declared.places.PageName.{PageName}
use Rattle.rio_base.specs.declared.places.VolumeShape.{VolumeShape}
use Rattle.rio_base.specs.Blocks.{BlockWords, Seen}
use Rattle.rio_base.specs.Volume.{Firm, Kept}
use Rattle.rio_model.specs.Placed.{AtPage, IsFree, placed_at, volume_layout, AgreesBeside}
use Rattle.rio_model.specs.Sizes.{pages}
use Rattle.rio_model.specs.VolumeReady.{NamedNode, NamesPage, Ready}
use Rattle.file_pages.specs.PageBytes.{block_byte}

-- pages of file i alone differ, and the volume is in order
pub record StoresPages (shape : VolumeShape) (x : Seen) (k : Kept) (y : Seen) (j : Kept) (i : ℕ) : Type 0 where
  pub beside : AgreesBeside (volume_layout shape x.words) i x.words y.words
  pub ready : Ready shape y j
  pub named : NamedNode i (placed_at x.words i) y
  pub firm : Firm k j
  pub free_words : (b w : ℕ) → IsFree (volume_layout shape x.words) b → y.words b w ≡ x.words b w
  pub free_named : (b : ℕ) → IsFree (volume_layout shape x.words) b → y.cached b ≡ true → (x.cached b ≡ true) × (y.names b ≡ x.names b)

-- a block has its first bytes still, and no other block differs
pub record KeepsFront (f g : BlockWords) (b at : ℕ) : Type 0 where
  pub others : (c w : ℕ) → (c ≡ b → ⊥) → g c w ≡ f c w
  pub front : (y : ℕ) → y < at → block_byte g b y ≡ block_byte f b y

-- and zeros behind them
abbrev pub ZerosFrom : BlockWords → ℕ → ℕ → Type 0
ZerosFrom g b at = (y : ℕ) → at ≤ y → y < 4096 → block_byte g b y ≡ 0

-- a name of page p of file i, as wide as the page is in a file of this size
abbrev pub NamedAs : ℕ → ℕ → ℕ → Option PageName → Type 0
NamedAs i size p name = (own : PageName) × (name ≡ Some own) × NamesPage i size p own

-- file i, which has this size by the blocks f, may grow to another: its pages read as zeros past its size, and cached ones
-- are named widely enough
pub record TailCleared (f : BlockWords) (y : Seen) (i size len : ℕ) : Type 0 where
  pub zeros : (x : ℕ) → size ≤ x → x / 4096 < pages size → block_byte y.words ((placed_at f i).block (AtPage (x / 4096))) (x % 4096) ≡ 0
  pub named : (p : ℕ) → p < pages size → y.cached ((placed_at f i).block (AtPage p)) ≡ true → NamedAs i len p (y.names ((placed_at f i).block (AtPage p)))
