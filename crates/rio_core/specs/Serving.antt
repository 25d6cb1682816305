-- What a running core holds, and how a request ends that it serves.
use Rattle.std.specs.Prelude.{◌≡◌, ◌+◌, ◌*◌, false, Some, Result, Ok, Err}
use Rattle.rio_base.specs.declared.failures.Stopped.{Stopped as MachineStopped}
use Rattle.rio_base.specs.declared.places.VolumeShape.{VolumeShape}
use Rattle.rio_base.specs.Blocks.{Health, Seen}
use Rattle.rio_base.specs.Volume.{Below, Kept}
use Rattle.rio_model.specs.declared.state.State.{State}
use Rattle.rio_model.specs.Held.{held_of}
use Rattle.rio_model.specs.VolumeReads.{ReadsAs}
use Rattle.rio_model.specs.VolumeReady.{Ready}
use Rattle.rio_requests.specs.Crash.{crashed}
use Rattle.rio_requests.specs.Parts.{IsPart}
use Rattle.rio_requests.specs.Run.{Step}
use Rattle.rio_requests.specs.declared.reply.Reply.{Reply}
use Rattle.rio_requests.specs.declared.reply.Reply.TheVariants.{Fault}
use Rattle.rio_requests.specs.declared.request.Request.{Request}
use Rattle.request_ends.specs.Ends.{Stands}
use Rattle.vista_region.specs.Marks.{Marks}
use Rattle.line_loop.specs.Protocol.{Answering as Answers}
use Rattle.rio_core.specs.Lines.{core_protocol}
use Rattle.rio_core.specs.Regions.{RegionsHeld}

-- ---- a running core

-- the blocks read as what a stop leaves of s, and its regions and transactions are as the regions' words say
pub record Serves (shape : VolumeShape) (x : Seen) (k : Kept) (marks : Marks) (s : State) : Type 0 where
  pub ready : Ready shape x k
  pub reads : ReadsAs shape x.words (crashed s)
  pub regions : RegionsHeld (held_of shape x.words) marks s

-- a core holds s: so it serves it, the machine is not stopped, and memory has as many pages as s has, 512 words each
pub record Holds (shape : VolumeShape) (x : Seen) (k : Kept) (h : Health) (b : Below) (marks : Marks) (s : State) : Type 0 where
  pub serves : Serves shape x k marks s
  pub running : h.stopped ≡ false
  pub pages : 512 * s.pages ≡ b.memory.protected + b.memory.scratch
  pub scratch : 512 * s.scratch ≡ b.memory.scratch

-- ---- how a request ends

-- on the volume: y and j are after it, and the table then has these rows. Stopped, what a stop leaves of a part stands
abbrev pub RequestEnds : VolumeShape → Seen → Kept → Marks → State → Request → Result Reply MachineStopped → Type 0
RequestEnds shape y j marks s r (Ok reply) = (t : State) × Step s (Some r) reply t × Serves shape y j marks t
RequestEnds shape y j marks s r (Err stopped) = (t : State) × IsPart s r t × Stands shape y j (crashed t)

-- a reply that tells of a device fault
abbrev pub TellsFault : Result Reply MachineStopped → Type 0
TellsFault (Ok (Fault done)) = Unit {0}
TellsFault _ = ⊥

-- how a request ends that a server of state s answers. `holds` and `stands` tell of the server afterwards which state it
-- holds, and where it is stopped which state stands
abbrev pub Answering : (State → Type 0) → (State → Type 0) → State → Request → Result Reply MachineStopped → Type 0
Answering holds stands s r answer = Answers core_protocol holds stands s r answer
