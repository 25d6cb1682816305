-- What calls leave of a file: its bytes, as they read and as they stand.
use Rattle.std.specs.Prelude.{◌≡◌, ℕ, ◌+◌, ◌<◌, ◌≤◌, ◌⊎◌, List, length}
use Rattle.rio_base.specs.declared.places.VolumeShape.{VolumeShape}
use Rattle.rio_base.specs.Bitmap.{free_blocks}
use Rattle.rio_base.specs.Blocks.{BlockWords, Seen}
use Rattle.rio_base.specs.Volume.{Kept}
use Rattle.rio_model.specs.FileParts.{IsLead, resized}
use Rattle.rio_model.specs.Held.{held_bytes, held_of}
use Rattle.rio_model.specs.NodeChanges.{SetsFile}
use Rattle.rio_model.specs.Sizes.{largest_size}
use Rattle.rio_model.specs.VolumeReady.{StandsReady}
use Rattle.node_pages.specs.Changes.{wanted_blocks}

-- the bytes of file i
abbrev pub file_bytes : VolumeShape → BlockWords → ℕ → List ℕ
file_bytes shape f i = held_bytes (held_of shape f i)

-- file i holds these bytes, both as the blocks read and as they stand, and every other node holds what it held in f
pub record SetsBoth (shape : VolumeShape) (f : BlockWords) (y : Seen) (j : Kept) (i : ℕ) (bytes : List ℕ) : Type 0 where
  pub reads : SetsFile shape f y.words i bytes
  pub stands : SetsFile shape f j.standing i bytes

-- a node of one size may have another: it is not too large, and as many blocks are free as it takes
pub record HasSpace (shape : VolumeShape) (f : BlockWords) (size len : ℕ) : Type 0 where
  pub most : len ≤ largest_size
  pub room : wanted_blocks size len ≤ length (free_blocks shape f)

-- bytes may be written: none, or there is space up to their end
abbrev pub HasSpaceFor : VolumeShape → BlockWords → ℕ → ℕ → List ℕ → Type 0
HasSpaceFor shape f size off bytes = 0 < length bytes → HasSpace shape f size (off + length bytes)

-- what a stop leaves of a change of file i: such bytes stand, and the volume may be started again
pub record StopsAs (shape : VolumeShape) (f : BlockWords) (y : Seen) (j : Kept) (i : ℕ) (part : List ℕ → Type 0) : Type 0 where
  pub bytes : List ℕ
  pub is : part bytes
  pub stands : SetsFile shape f j.standing i bytes
  pub ready : StandsReady shape y j

-- what a fault leaves of a write: its first k bytes are there, over bytes that the file had. So they are of a write that is
-- not refused
pub record FaultsAfter (shape : VolumeShape) (f : BlockWords) (y : Seen) (j : Kept) (i off : ℕ) (bytes : List ℕ) (k : ℕ) : Type 0 where
  pub new : List ℕ
  pub lead : IsLead (file_bytes shape f i) off bytes k new
  pub both : SetsBoth shape f y j i new
  pub space : 0 < k → HasSpaceFor shape f (length (file_bytes shape f i)) off bytes

-- what a stop leaves of a change of size: the old bytes, or the new ones where there was space
abbrev pub ResizeStops : VolumeShape → BlockWords → ℕ → ℕ → List ℕ → Type 0
ResizeStops shape f i len new = (new ≡ file_bytes shape f i) ⊎ (HasSpace shape f (length (file_bytes shape f i)) len × (new ≡ resized (file_bytes shape f i) len))
