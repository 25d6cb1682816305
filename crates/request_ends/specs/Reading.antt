-- What a call on files asks of the blocks that it only reads, and what it leaves of them.
use Rattle.std.specs.Prelude.{◌≡◌, Result, IsErrOf}
use Rattle.rio_base.specs.declared.places.VolumeShape.{VolumeShape}
use Rattle.rio_base.specs.Blocks.{EndsBy, Health, Seen}
use Rattle.rio_base.specs.Frames.{HasRead}
use Rattle.rio_base.specs.Shapes.{HasShape}
use Rattle.rio_base.specs.Volume.{Below, Goes, Kept}
use Rattle.rio_model.specs.Placed.{volume_layout}
use Rattle.rio_model.specs.VolumeReads.{ReadsAs}
use Rattle.rio_model.specs.VolumeReady.{AllNamed, LeavesInUse, LooksNamed}
use Rattle.rio_model.specs.declared.state.State.{State}
use Rattle.request_ends.specs.Ends.{CanServe}
use Rattle.request_ends.specs.Failures.{Faulted}
use Rattle.request_ends.specs.declared.failures.FileFail.{FileFail}
use Rattle.request_ends.specs.declared.failures.FileFail.TheVariants.{Stopped}

-- the blocks read as some state, and cached pages bear their names
pub record ReadsSome (shape : VolumeShape) (x : Seen) : Type 0 where
  pub has_shape : HasShape shape x
  pub named : AllNamed (volume_layout shape x.words) x
  pub state : State
  pub reads : ReadsAs shape x.words state

-- the object was only read, by a call on files that has this answer
abbrev pub ReadFor : {V T : Type 0} → (V → Seen) → (V → Health) → (V → Type 0) → (V → V → Type 0) → VolumeShape → V → V → Result T FileFail → Type 0
ReadFor seen health sound passes shape x y r = HasRead seen health sound passes (LooksNamed shape) x y (Faulted r) (IsErrOf r Stopped)

-- the same, told of a volume: what is in use is as it was, and it can serve again
pub record FilesRead {V : Type 0} (seen : V → Seen) (health : V → Health) (below : V → Below) (kept : V → Kept) (is_sound : V → Type 0) (shape : VolumeShape) (x y : V) (fault stop : Type 0) : Type 0 where
  pub leaves : LeavesInUse (volume_layout shape (seen x).words) (seen x) (kept x) (seen y) (kept y)
  pub words : (seen y).words ≡ (seen x).words
  pub can : CanServe shape (seen y) (kept y)
  pub goes : Goes (health x) (below x) (health y) (below y)
  pub ends : EndsBy (health x) (health y) fault stop
  pub sound : is_sound y
