-- A change of a file's size that is prepared, and what calls leave that make it.
use Rattle.std.specs.Prelude.{◌≡◌, ℕ, ◌⊎◌, false, List, Result, Ok, Err}
use Rattle.std.specs.List.{AllByRecursion}
use Rattle.rio_base.specs.declared.places.VolumeShape.{VolumeShape}
use Rattle.rio_base.specs.Blocks.{BlockWords, Seen}
use Rattle.rio_base.specs.Layout.{IsIno}
use Rattle.rio_base.specs.Volume.{Kept, Settled}
use Rattle.rio_base.specs.NodeKinds.{file_kind}
use Rattle.block_alloc.specs.Bitmap.{numbers}
use Rattle.rio_model.specs.FileParts.{ResizePart, resized}
use Rattle.rio_model.specs.Held.{held, held_bytes}
use Rattle.rio_model.specs.NodeChanges.{AreLowest, Available}
use Rattle.rio_model.specs.Placed.{Slot, Placed, HasSlot, placed_at, volume_layout, AgreesBeside}
use Rattle.rio_model.specs.Updates.{Turns}
use Rattle.rio_model.specs.VolumeReady.{LeavesInUse, NamedNode, Ready}
use Rattle.rio_model.specs.VolumeRules.{IsMapped}
use Rattle.node_pages.specs.Changes.{EditsTable, size_update}
use Rattle.file_pages.specs.Files.{SetsBoth, StopsAs, file_bytes}
use Rattle.node_pages.specs.Updating.{TableOrFree}
use Rattle.node_pages.specs.declared.changes.SizeChange.{SizeChange}
use Rattle.node_pages.specs.declared.failures.SizeFail.{SizeFail}
use Rattle.node_pages.specs.declared.failures.SizeFail.TheVariants.{Fault, Stopped}

-- file i, as the blocks f say it, is to become m by a change. Since then its pages and free blocks alone were stored to
pub record Prepared (shape : VolumeShape) (f : BlockWords) (y : Seen) (j : Kept) (i : ℕ) (m : Placed) (c : SizeChange) : Type 0 where
  pub ino : IsIno shape i
  pub mapped : IsMapped shape f
  pub was_file : (placed_at f i).kind ≡ file_kind
  pub ready : Ready shape y j
  pub settled : Settled y j
  pub beside : AgreesBeside (volume_layout shape f) i f y.words
  pub turns : Turns shape (placed_at f i) m (size_update i c)
  pub file : m.kind ≡ file_kind
  pub from : (s : Slot) → HasSlot m s → Available (volume_layout shape f) i (m.block s)
  pub tables : AllByRecursion (EditsTable m) c.edits
  pub named : NamedNode i m y
  pub firm : (s : Slot) → HasSlot m s → j.loose (m.block s) ≡ false
  pub old_tables : TableOrFree (volume_layout shape y.words) i c.edits
  pub lowest : AreLowest shape f (numbers c.taken)

abbrev pub IsEither : List ℕ → List ℕ → List ℕ → Type 0
IsEither old new bytes = (bytes ≡ old) ⊎ (bytes ≡ new)

-- how the call that makes it may end. y is before the call, z and l after it
abbrev pub Committed : {T : Type 0} → VolumeShape → BlockWords → Seen → Placed → Seen → Kept → ℕ → Result T SizeFail → Type 0
Committed shape f y m z l i (Ok _) = SetsBoth shape f z l i (held_bytes (held y.words m)) × Ready shape z l
Committed shape f y m z l i (Err Fault) = SetsBoth shape f z l i (held_bytes (held y.words (placed_at f i))) × Ready shape z l
Committed shape f y m z l i (Err Stopped) = StopsAs shape f z l i (IsEither (held_bytes (held y.words (placed_at f i))) (held_bytes (held y.words m)))
Committed shape f y m z l i (Err _) = ⊥

-- how a call may end that gives file i another size. x and k are before the call, y and j after it
abbrev pub SizeLeaves : {T : Type 0} → VolumeShape → Seen → Kept → Seen → Kept → ℕ → ℕ → Result T SizeFail → Type 0
SizeLeaves shape x k y j i len (Ok _) = SetsBoth shape x.words y j i (resized (file_bytes shape x.words i) len) × Ready shape y j
SizeLeaves shape x k y j i len (Err Fault) = SetsBoth shape x.words y j i (file_bytes shape x.words i) × Ready shape y j
SizeLeaves shape x k y j i len (Err Stopped) = StopsAs shape x.words y j i (ResizePart (file_bytes shape x.words i) len)
SizeLeaves shape x k y j i len (Err _) = LeavesInUse (volume_layout shape x.words) x k y j
