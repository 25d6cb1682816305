-- Runs that were served over a core, as scenes over its machine.
use Rattle.std.proofs.Common.{◌≡◌, ◌≢◌, true, List, [], length, refl, sym, subst, ap, ◌∙◌}
use Rattle.std.specs.Prelude.{Option, Some, None, option_map}
use Rattle.rio_base.specs.declared.places.VolumeShape.{VolumeShape}
use Rattle.rio_base.specs.declared.places.WordAt.{WordAt}
use Rattle.rio_base.specs.Blocks.{Health, Seen}
use Rattle.rio_base.specs.Failures.{Rose}
use Rattle.rio_base.specs.Machine.{Contents, Running}
use Rattle.rio_base.specs.Volume.{Below, Kept, Settled}
use Rattle.rio_model.specs.declared.state.State.{State}
use Rattle.rio_model.specs.declared.txn.Txn.{Txn}
use Rattle.rio_model.specs.Standing.{StandsFor}
use Rattle.rio_requests.proofs.WentRules.{went_none}
use Rattle.rio_requests.specs.Crash.{crashed, undo_all}
use Rattle.request_ends.specs.Ends.{Stands}
use Rattle.vista_region.specs.Marks.{Marks}
use Rattle.cached_pages.specs.Caches.{CacheSound, Tells, cache_below, cache_health, cache_kept, cache_seen}
use Rattle.page_cache.specs.Settled.{cache_settled}
use Rattle.cached_pages.specs.declared.tables.CacheTables.{CacheTables}
use Rattle.line_loop.specs.declared.ends.ServeEnd.{ServeEnd}
use Rattle.line_loop.specs.declared.ends.ServeEnd.TheVariants.{End, SourceFault, SinkFault, InputLimit, Memory, Stopped}
use Rattle.line_loop.specs.ServeRun.{RunEnds}
use Rattle.line_loop.proofs.Running.{nothing_served}
use Rattle.rio_core.specs.Lines.{core_protocol}
use Rattle.rio_core.specs.Serving.{Holds}
use Rattle.pair_files.proofs.StageRules.{booted_served}
use Rattle.pair_files.specs.Scenes.{IsBooted, LastsBelow, Scene, Streams, scene_of}
use Rattle.rio_core.proofs.Machines.{holds_fits, recovered_holds, stands_held, stands_stopped}
use Rattle.pair_serving.proofs.Quiet.{run_quiet}
use Rattle.rio_core.proofs.Sizes.{FitsMemory, fits_then, keeps_then, part_keeps, run_keeps}
use Rattle.line_loop.specs.LinesEnds.{told_end}
use Rattle.pair_serving.specs.ServedScenes.{IsLeftOf, RunsFrom, Served}
use Rattle.line_loop.specs.declared.ends.LinesEnd.TheVariants.{Ended}

-- ---- a core over the cache that a reboot left

pub booted_holds : (shape : VolumeShape) (c : Contents) (r : Running) (t : CacheTables) (s : State) → IsBooted shape c r t s → Holds shape (cache_seen c) (cache_kept c t) (cache_health c r) (cache_below c r) [] s
booted_holds shape c r t s h = recovered_holds shape c r t s h.reads h.ready h.recovered h.running h.pages h.scratch

-- without transactions a stop leaves all as it is
idle_crashed : (s : State) → s.txns ≡ [] → crashed s ≡ s
idle_crashed s idle = ap (λ (ts : List Txn). record s { nodes = undo_all ts s.nodes; txns = [] }) idle ∙ (λ j. record s { txns = sym idle j })

-- ---- the state that is left

-- a run from s over streams that were p and are q
abbrev pub RunOver : (State → Type 0) → (State → Type 0) → State → ServeEnd → Streams → Streams → Health → Below → Health → Below → Type 0
RunOver holds stands s end p q h b i c = RunEnds core_protocol holds stands s end p.left q.left p.written q.written h b i c

-- what is left of it, and that memory and disk stand for that
abbrev pub LeavesState : Contents → Running → State → ServeEnd → Streams → Streams → Health → Below → Health → Below → Type 0
LeavesState m r s end p q h b i c = (t : State) × RunOver (IsLeftOf t) (IsLeftOf t) s end p q h b i c × StandsFor m (length r.scratch) t

-- x and k are the volume afterwards, and marks its table of transactions; m and r are its machine
pub run_leaves : (m : Contents) (r : Running) (shape : VolumeShape) (x : Seen) (k : Kept) (marks : Marks) (s : State) (end : ServeEnd) (p q : Streams) (h : Health) (b : Below) (i : Health) (c : Below)
    → Settled x k → r.protected ≡ length m.words → Tells m r x i c k → FitsMemory s b
    → RunOver (Holds shape x k i c marks) (λ t. Stands shape x k (crashed t)) s end p q h b i c → LeavesState m r s end p q h b i c
run_leaves m r shape x k marks s End p q h b i c settled size tells fits (u, holds, serves, went) =
    (crashed u, (u, refl, serves, went), stands_held m r shape x i c k marks u settled size tells (fits_then s u b c fits (run_keeps s _ _ u serves.run.replied.run) went.lasts.memory) holds)
run_leaves m r shape x k marks s SourceFault p q h b i c settled size tells fits (u, holds, serves, went) =
    (crashed u, (u, refl, serves, went), stands_held m r shape x i c k marks u settled size tells (fits_then s u b c fits (run_keeps s _ _ u serves.run.replied.run) went.lasts.memory) holds)
run_leaves m r shape x k marks s SinkFault p q h b i c settled size tells fits (u, holds, serves, went) =
    (crashed u, (u, refl, serves, went), stands_held m r shape x i c k marks u settled size tells (fits_then s u b c fits (run_keeps s _ _ u serves.run.replied.run) went.lasts.memory) holds)
run_leaves m r shape x k marks s InputLimit p q h b i c settled size tells fits (u, holds, serves, went) =
    (crashed u, (u, refl, serves, went), stands_held m r shape x i c k marks u settled size tells (fits_then s u b c fits (run_keeps s _ _ u serves.run.replied.run) went.lasts.memory) holds)
run_leaves m r shape x k marks s Memory p q h b i c settled size tells fits (u, holds, serves, went) =
    (crashed u, (u, refl, serves, went), stands_held m r shape x i c k marks u settled size tells (fits_then s u b c fits (run_keeps s _ _ u serves.run.replied.run) went.lasts.memory) holds)
run_leaves m r shape x k marks s Stopped p q h b i c settled size tells fits (mid, request, u, stop, part, stands, g, d, went, on) = (
  crashed u,
  (mid, request, u, stop, part, refl, g, d, went, on),
  stands_stopped m r shape x i c k u size tells (fits_then s u b c fits (keeps_then s mid u (run_keeps s _ _ mid stop.replied.run) (part_keeps mid request u part)) (on.lasts.memory ∙ went.lasts.memory)) stands,
)

-- ---- scenes

-- what else is told of an end
pub record EndsSo (end : ServeEnd) (p q : Streams) (i : Health) : Type 0 where
  pub source_fault : end ≡ SourceFault → Rose p.source_faults q.source_faults
  pub sink_fault : end ≡ SinkFault → Rose p.sink_faults q.sink_faults
  pub steady : end ≢ SinkFault → q.sink_faults ≡ p.sink_faults
  pub stopped : end ≡ Stopped → i.stopped ≡ true

-- no wild store trapped, where the machine stopped
ended_by : (a : Scene) (end : ServeEnd) (b : Scene) → RunsFrom a end b → EndsSo end a.streams b.streams b.health → (end ≡ Stopped → b.below.causes.trapped ≡ None) → Served a (Ended end) b
ended_by a end b run so none = record { run = run; quiet = run_quiet a end b run; source_fault = so.source_fault; sink_fault = so.sink_fault; steady = so.steady; stopped = so.stopped; trapped = none }

-- t is the place of the store that trapped
served_by : (a : Scene) (end : ServeEnd) (t : Option WordAt) (b : Scene) → RunsFrom a end b → EndsSo end a.streams b.streams b.health → b.below.causes.trapped ≡ option_map (λ at. at.0) t → Served a (told_end end t) b
served_by a Stopped (Some at) b run so trapped = record { run = run; quiet = run_quiet a Stopped b run; source_fault = so.source_fault; sink_fault = so.sink_fault; steady = so.steady; stopped = so.stopped; trapped = λ e. trapped }
served_by a Stopped None b run so trapped = ended_by a Stopped b run so (λ e. trapped)
served_by a End t b run so trapped = ended_by a End b run so (λ e. cc)
served_by a SourceFault t b run so trapped = ended_by a SourceFault b run so (λ e. cc)
served_by a SinkFault t b run so trapped = ended_by a SinkFault b run so (λ e. cc)
served_by a InputLimit t b run so trapped = ended_by a InputLimit b run so (λ e. cc)
served_by a Memory t b run so trapped = ended_by a Memory b run so (λ e. cc)

-- a run over a core, of which a is the scene before, is one from a to a scene on the core's machine, which tells what trapped
pub served_stands : (m : Contents) (r : Running) (shape : VolumeShape) (x : Seen) (k : Kept) (marks : Marks) (a : Scene) (end : ServeEnd) (trap : Option WordAt) (q : Streams) (i : Health) (c : Below)
    → Settled x k → r.protected ≡ length m.words → Tells m r x i c k → FitsMemory a.state a.below → EndsSo end a.streams q i
    → RunOver (Holds shape x k i c marks) (λ t. Stands shape x k (crashed t)) a.state end a.streams q a.health a.below i c
    → r.trapped ≡ option_map (λ at. at.0) trap → (t : State) × Served a (told_end end trap) (scene_of t m r q) × StandsFor m (length r.scratch) t
served_stands m r shape x k marks a end trap q i c settled size tells fits so run trapped =
    (left.0, served_by a end trap (scene_of left.0 m r q) on_machine (record { source_fault = so.source_fault; sink_fault = so.sink_fault; steady = so.steady; stopped = λ e. sym (ap (λ (h : Health). h.stopped) tells.health) ∙ so.stopped e }) trapped, left.2)
  where
    left : LeavesState m r a.state end a.streams q a.health a.below i c
    left = run_leaves m r shape x k marks a.state end a.streams q a.health a.below i c settled size tells fits run

    on_machine : RunsFrom a end (scene_of left.0 m r q)
    on_machine = subst (λ (d : Below). RunOver (IsLeftOf left.0) (IsLeftOf left.0) a.state end a.streams q a.health a.below (cache_health m r) d) tells.below
        (subst (λ (h : Health). RunOver (IsLeftOf left.0) (IsLeftOf left.0) a.state end a.streams q a.health a.below h c) tells.health left.1)

-- what lasts of a core lasts of its machine
pub lasts_told : (m : Contents) (r : Running) (x : Seen) (k : Kept) (h : Health) (b : Below) (i : Health) (c : Below) → Tells m r x i c k → LastsBelow h b i c → LastsBelow h b (cache_health m r) (cache_below m r)
lasts_told m r x k h b i c tells lasts = subst (λ (d : Below). LastsBelow h b (cache_health m r) d) tells.below (subst (λ (g : Health). LastsBelow h b g c) tells.health lasts)

-- ---- nothing was served

served_nothing : (a : Scene) → a.state ≡ crashed a.state → Served a (Ended Memory) a
unfolding nothing_served
served_nothing a left = ended_by a Memory a (a.state, left, nothing_served core_protocol a.state a.streams.left a.streams.written, went_none a.health a.below)
    (record { source_fault = λ e. cc; sink_fault = λ e. cc; steady = λ e. refl; stopped = λ e. cc }) (λ e. cc)

-- over the cache that a reboot left
pub unserved : (shape : VolumeShape) (m : Contents) (r : Running) (tables : CacheTables) (s : State) (p : Streams) → IsBooted shape m r tables s → CacheSound m (length r.scratch) tables → r.protected ≡ length m.words → Tells m r (cache_seen m) (cache_health m r) (cache_below m r) (cache_kept m tables)
    → (t : State) × Served (scene_of s m r p) (Ended Memory) (scene_of t m r p) × StandsFor m (length r.scratch) t
unserved shape m r tables s p booted sound size tells =
    (s, served_nothing (scene_of s m r p) (sym idle), subst (StandsFor m (length r.scratch)) idle (stands_held m r shape (cache_seen m) (cache_health m r) (cache_below m r) (cache_kept m tables) [] s (cache_settled m (length r.scratch) tables sound) size tells (holds_fits shape (cache_seen m) (cache_kept m tables) (cache_health m r) (cache_below m r) [] s holds (booted_served shape m r tables s booted).version) holds))
  where
    idle : crashed s ≡ s
    idle = idle_crashed s booted.reads.reads.idle

    holds : Holds shape (cache_seen m) (cache_kept m tables) (cache_health m r) (cache_below m r) [] s
    holds = booted_holds shape m r tables s booted
