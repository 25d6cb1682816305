-- What a write leaves of a file, by how it ends.
use Rattle.std.specs.Prelude.{◌≡◌, ℕ, ◌⊎◌, List, length, Result, Ok, Err}
use Rattle.rio_base.specs.declared.places.VolumeShape.{VolumeShape}
use Rattle.rio_base.specs.Blocks.{BlockWords, Seen}
use Rattle.rio_base.specs.Volume.{Kept}
use Rattle.rio_model.specs.FileParts.{WritePart, written}
use Rattle.rio_model.specs.Placed.{volume_layout}
use Rattle.rio_model.specs.VolumeReady.{LeavesInUse, Ready}
use Rattle.file_pages.specs.Files.{FaultsAfter, HasSpaceFor, SetsBoth, StopsAs, file_bytes}
use Rattle.node_pages.specs.declared.failures.WriteFail.{WriteFail}
use Rattle.node_pages.specs.declared.failures.WriteFail.TheVariants.{Fault, Stopped}

-- what a stop leaves of a write: the old bytes, or where there was space all of it or a leading part
abbrev pub WriteStops : VolumeShape → BlockWords → ℕ → ℕ → List ℕ → List ℕ → Type 0
WriteStops shape f i off bytes new = (new ≡ file_bytes shape f i) ⊎ (HasSpaceFor shape f (length (file_bytes shape f i)) off bytes × WritePart (file_bytes shape f i) off bytes new)

-- how a write of file i may end. x and k are before it, y and j after it
abbrev pub WriteLeaves : {T : Type 0} → VolumeShape → Seen → Kept → Seen → Kept → ℕ → ℕ → List ℕ → Result T WriteFail → Type 0
WriteLeaves shape x k y j i off bytes (Ok _) = SetsBoth shape x.words y j i (written (file_bytes shape x.words i) off bytes) × Ready shape y j
WriteLeaves shape x k y j i off bytes (Err (Fault done)) = FaultsAfter shape x.words y j i off bytes done × Ready shape y j
WriteLeaves shape x k y j i off bytes (Err Stopped) = StopsAs shape x.words y j i (WriteStops shape x.words i off bytes)
WriteLeaves shape x k y j i off bytes (Err _) = LeavesInUse (volume_layout shape x.words) x k y j
