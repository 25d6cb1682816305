-- How a request on files ends, over the state that the blocks read as.
use Rattle.std.specs.Prelude.{◌≡◌, ℕ, ◌⊎◌, List, Some, Result, Ok, Err}
use Rattle.rio_base.specs.declared.places.Ino.{Ino}
use Rattle.rio_base.specs.declared.places.VolumeShape.{VolumeShape}
use Rattle.rio_base.specs.Blocks.{BlockWords, Seen}
use Rattle.rio_base.specs.Volume.{Kept}
use Rattle.rio_base.specs.NodeKinds.{free_kind, region_kind}
use Rattle.rio_requests.specs.declared.answered.Answered.{Answered}
use Rattle.rio_requests.specs.declared.reply.Reply.{Reply}
use Rattle.rio_requests.specs.declared.reply.Reply.TheVariants.{Ok as Done, Number, Bytes, Stat, Names as NamesOf, Err as RefusedBy}
use Rattle.rio_model.specs.declared.state.State.{State}
use Rattle.rio_model.specs.Held.{Held, held_of}
use Rattle.rio_model.specs.NodeChanges.{UsesLowest}
use Rattle.rio_requests.specs.Parts.{PartOf}
use Rattle.rio_model.specs.Placed.{volume_layout}
use Rattle.rio_model.specs.VolumeReads.{ReadsAs}
use Rattle.rio_model.specs.VolumeReady.{LeavesInUse, Ready, StandsReady}
use Rattle.request_ends.specs.declared.failures.FileFail.{FileFail}
use Rattle.request_ends.specs.declared.failures.FileFail.TheVariants.{Refused, Fault, Stopped, Memory}

-- ---- what a call supposes

-- the volume keeps all its rules, so that it reads as some state; names of cached pages are right, nothing in use is loose,
-- and no update is open
pub record CanServe (shape : VolumeShape) (x : Seen) (k : Kept) : Type 0 where
  pub ready : Ready shape x k
  pub state : State
  pub reads : ReadsAs shape x.words state

-- ---- what it leaves

-- each region holds the words that it held; one that is new has no undo record
pub record Spares (h k : ℕ → Held) : Type 0 where
  pub each : (i : ℕ) → (k i).kind ≡ region_kind → (k i ≡ h i) ⊎ (((h i).kind ≡ free_kind) × ((k i).word 3 ≡ 0))

-- a call that was not stopped: the blocks read as state t, and those that are used beside the ones of before are the lowest
-- that were free
pub record Left (shape : VolumeShape) (f : BlockWords) (y : Seen) (j : Kept) (t : State) : Type 0 where
  pub ready : Ready shape y j
  pub reads : ReadsAs shape y.words t
  pub spares : Spares (held_of shape f) (held_of shape y.words)
  pub lowest : UsesLowest shape f y.words

-- a call that was: what stands reads as state t, and may be started again
pub record Stands (shape : VolumeShape) (y : Seen) (j : Kept) (t : State) : Type 0 where
  pub ready : StandsReady shape y j
  pub reads : ReadsAs shape j.standing t

-- ends of a request that answers `a` in state s. x and k are before it, y and j after it. `says` is what an answer comes to
-- as a reply, and `leads` which states a fault after so many bytes may leave. A refusal and want of memory leave all that is
-- in use as it was
abbrev pub FileEnds : {T : Type 0} → (T → Reply → Type 0) → VolumeShape → Seen → Kept → Seen → Kept → State → Answered → (ℕ → State → Type 0) → Result T FileFail → Type 0
FileEnds says shape x k y j s a leads (Ok value) = ((reply : Reply) × (a.reply ≡ Some reply) × says value reply) × Left shape x.words y j a.next
FileEnds says shape x k y j s a leads (Err (Refused c)) = (a.reply ≡ Some (RefusedBy c)) × (a.next ≡ s) × LeavesInUse (volume_layout shape x.words) x k y j
FileEnds says shape x k y j s a leads (Err (Fault n)) = (t : State) × leads n t × Left shape x.words y j t
FileEnds says shape x k y j s a leads (Err Stopped) = (t : State) × PartOf s a leads t × Stands shape y j t
FileEnds says shape x k y j s a leads (Err Memory) = LeavesInUse (volume_layout shape x.words) x k y j

-- ---- what answers come to

abbrev pub SaysDone : {T : Type 0} → T → Reply → Type 0
SaysDone value reply = reply ≡ Done

abbrev pub SaysIno : Ino → Reply → Type 0
SaysIno i reply = reply ≡ Number i.0

-- what is answered beside it
abbrev pub SaysNumber : {T : Type 0} → ℕ → T → Reply → Type 0
SaysNumber n value reply = reply ≡ Number n

abbrev pub SaysCount : ℕ → Reply → Type 0
SaysCount n reply = reply ≡ Number n

abbrev pub SaysBytes : List ℕ → Reply → Type 0
SaysBytes bytes reply = reply ≡ Bytes bytes

abbrev pub SaysStat : Ino × ℕ × ℕ → Reply → Type 0
SaysStat value reply = reply ≡ Stat value.0 value.1 value.2

abbrev pub SaysNames : List (List ℕ) → Reply → Type 0
SaysNames names reply = reply ≡ NamesOf names
