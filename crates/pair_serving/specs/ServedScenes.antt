-- Lines served over a pair of files: from which scene to which they lead, and what they leave of the disk.
use Rattle.std.specs.Prelude.{◌≡◌, ◌≢◌, ℕ, true, List, All}
use Rattle.rio_base.specs.Failures.{Rose}
use Rattle.rio_model.specs.declared.state.State.{State}
use Rattle.rio_requests.specs.Crash.{crashed}
use Rattle.rio_requests.specs.declared.request.Request.TheVariants.{Flush}
use Rattle.request_codec.specs.Form.{Form}
use Rattle.request_codec.specs.Lines.{lines}
use Rattle.line_loop.specs.LinesEnds.{loop_end, trap_of}
use Rattle.line_loop.specs.declared.ends.LinesEnd.{LinesEnd}
use Rattle.line_loop.specs.declared.ends.ServeEnd.{ServeEnd}
use Rattle.line_loop.specs.declared.ends.ServeEnd.TheVariants.{End, SourceFault, SinkFault, InputLimit, Memory, Stopped}
use Rattle.line_loop.specs.ServeRun.{RunEnds}
use Rattle.rio_core.specs.Lines.{core_protocol}
use Rattle.pair_files.specs.Scenes.{Scene}

-- t is what a stop leaves of u
abbrev pub IsLeftOf : State → State → Type 0
IsLeftOf t u = t ≡ crashed u

-- a served run from a to b. The state of b is what a stop leaves of the one that the replies lead to; and where the machine
-- was stopped, of a part of the request that met the stop
abbrev pub RunsFrom : Scene → ServeEnd → Scene → Type 0
RunsFrom a end b = RunEnds core_protocol (IsLeftOf b.state) (IsLeftOf b.state) a.state end a.streams.left b.streams.left a.streams.written b.streams.written a.health a.below b.health b.below

-- the bytes that it took
abbrev pub taken_in : (a : Scene) (end : ServeEnd) (b : Scene) → RunsFrom a end b → List ℕ
taken_in a End b run = run.2.taken
taken_in a SourceFault b run = run.2.taken
taken_in a SinkFault b run = run.2.taken
taken_in a InputLimit b run = run.2.taken
taken_in a Memory b run = run.2.taken
taken_in a Stopped b run = run.3.taken

-- no line of these bytes is a flush
abbrev pub AsksNoFlush : List ℕ → Type 0
AsksNoFlush bytes = All (λ line. (count : ℕ) → Form line (Flush count) → ⊥) (lines bytes)

-- lines were served from scene a to scene b
pub record Served (a : Scene) (end : LinesEnd) (b : Scene) : Type 0 where
  pub run : RunsFrom a (loop_end end) b
  -- where there is a frame for each block, lines of which none is a flush leave the disk, and what is pending on it, as it was
  pub quiet : a.below.roomy ≡ true → AsksNoFlush (taken_in a (loop_end end) b run) → b.below.home ≡ a.below.home
  pub source_fault : loop_end end ≡ SourceFault → Rose a.streams.source_faults b.streams.source_faults
  pub sink_fault : loop_end end ≡ SinkFault → Rose a.streams.sink_faults b.streams.sink_faults
  pub steady : loop_end end ≢ SinkFault → b.streams.sink_faults ≡ a.streams.sink_faults
  pub stopped : loop_end end ≡ Stopped → b.health.stopped ≡ true
  -- a trap is told exactly where the machine has one as it stopped
  pub trapped : loop_end end ≡ Stopped → b.below.causes.trapped ≡ trap_of end
