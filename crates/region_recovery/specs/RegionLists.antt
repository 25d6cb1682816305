-- The regions of a volume, and which of them have undo records.
use Rattle.std.specs.Prelude.{◌≡◌, ℕ, ◌==◌, Bool, true, false, List, [], ◌∷◌, filter, length, map}
use Rattle.std.specs.List.{range_with_len}
use Rattle.rio_base.specs.declared.places.Ino.{Ino}
use Rattle.rio_base.specs.declared.places.VolumeShape.{VolumeShape}
use Rattle.rio_base.specs.Blocks.{BlockWords}
use Rattle.rio_base.specs.NodeKinds.{region_kind}
use Rattle.rio_model.specs.Held.{held_of}
use Rattle.rio_model.specs.Undo.{UndoRecord, undo_records}

abbrev pub is_region : VolumeShape → BlockWords → ℕ → Bool
is_region shape f i = (held_of shape f i).kind == region_kind

-- the inodes of all regions, in order
unfoldable pub region_inos : VolumeShape → BlockWords → List ℕ
region_inos shape f = filter (is_region shape f) (range_with_len 1 shape.inodes)

abbrev pub ino_numbers : List Ino → List ℕ
ino_numbers inodes = map (λ (i : Ino). i.0) inodes

-- ---- undo records

abbrev pub is_some_record : List UndoRecord → Bool
is_some_record [] = false
is_some_record (r ∷ older) = true

-- region i has an undo record
abbrev pub has_records : VolumeShape → BlockWords → ℕ → Bool
has_records shape f i = is_some_record (undo_records (held_of shape f i).word)

-- how many regions have one
abbrev pub undone_count : VolumeShape → BlockWords → ℕ
undone_count shape f = length (filter (has_records shape f) (region_inos shape f))

-- no region has one
abbrev pub AreRecovered : VolumeShape → BlockWords → Type 0
AreRecovered shape f = (i : ℕ) → (held_of shape f i).kind ≡ region_kind → undo_records (held_of shape f i).word ≡ []
