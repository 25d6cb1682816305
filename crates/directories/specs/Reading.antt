-- Reading a directory: what calls suppose of it, and a name found among its entries.
use Rattle.std.specs.Prelude.{◌≡◌, ℕ, ◌≢◌, ◌+◌, ◌*◌, ◌/◌, ◌%◌, ◌^◌, ◌<◌, List, Option, Some, None}
use Rattle.rio_base.specs.declared.places.VolumeShape.{VolumeShape}
use Rattle.rio_base.specs.Blocks.{Seen}
use Rattle.rio_base.specs.Layout.{IsIno}
use Rattle.rio_base.specs.Shapes.{HasShape}
use Rattle.rio_base.specs.declared.places.Ino.{Ino}
use Rattle.rio_base.specs.NodeKinds.{dir_kind}
use Rattle.rio_model.specs.Held.{Held, entry_name, held_of}
use Rattle.rio_model.specs.Placed.{placed_at, volume_layout}
use Rattle.rio_model.specs.VolumeReady.{AllNamed}
use Rattle.rio_model.specs.VolumeRules.{EntryRule, IsMapped}
use Rattle.directories.specs.Entries.{name_in}
use Rattle.directories.specs.Rows.{IsEntry}

-- the rules 1 to 8 hold, and cached pages bear their names: any directory can be read
pub record CanReadRows (shape : VolumeShape) (x : Seen) : Type 0 where
  pub has_shape : HasShape shape x
  pub mapped : IsMapped shape x.words
  pub named : AllNamed (volume_layout shape x.words) x
  pub entries : EntryRule (held_of shape x.words)

-- the rules 1 to 8 hold, cached pages bear their names, and inode d is a directory
pub record CanReadDir (shape : VolumeShape) (x : Seen) (d : ℕ) : Type 0 where
  pub has_shape : HasShape shape x
  pub mapped : IsMapped shape x.words
  pub named : AllNamed (volume_layout shape x.words) x
  pub entries : EntryRule (held_of shape x.words)
  pub ino : IsIno shape d
  pub dir : (placed_at x.words d).kind ≡ dir_kind

-- ---- a name found: among the entries of a page, and among those of a directory

-- among the first entries of a page, by its words
abbrev pub FindsIn : (ℕ → ℕ) → ℕ → List ℕ → Option (Ino × ℕ) → Type 0
FindsIn word count name None = (k : ℕ) → k < count → name_in word k ≢ name
FindsIn word count name (Some found) = (found.1 < count) × (name_in word found.1 ≡ name) × (word (8 * found.1) % 2 ^ 32 ≡ found.0.0)

-- among the slots of page p of a directory
abbrev pub FindsInPage : Held → ℕ → List ℕ → Option (Ino × ℕ) → Type 0
FindsInPage h p name None = (j : ℕ) → 64 * j < h.size → j / 64 ≡ p → entry_name h j ≢ name
FindsInPage h p name (Some found) = IsEntry h (64 * p + found.1) name found.0.0
