-- One boot on a machine: how it ends, what it does to the machine, and what the core over it holds.
use Rattle.std.specs.Prelude.{◌≡◌, ◌⊎◌, ℕ, ◌/◌, ◌++◌, true, List, [], ◌∷◌, map, Option, Some, None}
use Rattle.rio_base.specs.Machine.{Contents, Running}
use Rattle.rio_base.specs.declared.places.VolumeShape.{VolumeShape}
use Rattle.rio_base.specs.Blocks.{Causes, Health}
use Rattle.rio_base.specs.Failures.{RoseBy}
use Rattle.rio_base.specs.Volume.{Below, LimitLasts}
use Rattle.rio_model.specs.declared.state.State.{State}
use Rattle.rio_requests.specs.Crash.{crashed}
use Rattle.rio_requests.specs.declared.reply.Reply.{Reply}
use Rattle.rio_requests.specs.declared.request.Request.{Request}
use Rattle.rio_requests.specs.Parts.{IsPart}
use Rattle.rio_requests.specs.Went.{StoppedOn, Went}
use Rattle.cached_pages.specs.Caches.{cache_below, cache_health, cache_kept, cache_seen}
use Rattle.cached_pages.specs.declared.tables.CacheTables.{CacheTables}
use Rattle.request_ends.specs.Ends.{Stands}
use Rattle.vista_region.specs.Marks.{Marks}
use Rattle.warm_reboot.specs.declared.report.BootFail.{BootFail}
use Rattle.warm_reboot.specs.declared.report.BootFail.TheVariants.{Fault, Stopped}
use Rattle.rio_core.specs.Serving.{Holds}
use Rattle.boots.specs.declared.transcript.BootEnd.{BootEnd}
use Rattle.boots.specs.declared.transcript.BootEnd.TheVariants.{BootFault, Served, Stopped as BootStopped}
use Rattle.boots.specs.declared.transcript.BootRun.{BootRun}
use Rattle.boots.specs.Legal.{AreFirst, BootEnds, LeadTo, boot_faults, replies_of, requests_of}

-- ---- a core over a machine with these tables

-- the core has this shape and this table of open transactions
abbrev pub CoreHolds : VolumeShape → Contents → Running → CacheTables → Marks → State → Type 0
CoreHolds shape c r tables marks s = Holds shape (cache_seen c) (cache_kept c tables) (cache_health c r) (cache_below c r) marks s

-- what a stop leaves of this state
abbrev pub CoreStands : VolumeShape → Contents → CacheTables → State → Type 0
CoreStands shape c tables s = Stands shape (cache_seen c) (cache_kept c tables) (crashed s)

-- ---- requests over a server

-- these requests were answered: they lead from s to t, and took the machine below from h and b to i and c
pub record AreAnswered (s : State) (answered : List (Request × Reply)) (t : State) (h : Health) (b : Below) (i : Health) (c : Below) : Type 0 where
  pub leads : LeadTo s answered t
  pub went : Went (map Some (requests_of answered)) (replies_of answered) h b i c

-- request r met a stop after those that were answered, and t is what it led to
pub record MeetsStop (s : State) (requests : List Request) (answered : List (Request × Reply)) (r : Request) (t : State) (h : Health) (b : Below) (i : Health) (c : Below) : Type 0 where
  pub first : AreFirst (requests_of answered ++ r ∷ []) requests
  pub mid : State
  pub health : Health
  pub below : Below
  pub before : AreAnswered s answered mid h b health below
  pub part : IsPart mid r t
  pub stopped : StoppedOn r health below i c

-- all were answered, or one met a stop. `holds` and `stands` tell which state the server holds then, and which stands
abbrev pub ServesThese : (State → Type 0) → (State → Type 0) → State → List Request → List (Request × Reply) → Option Request → Health → Below → Health → Below → Type 0
ServesThese holds stands s requests answered None h b i c = (t : State) × holds t × (requests_of answered ≡ requests) × AreAnswered s answered t h b i c
ServesThese holds stands s requests answered (Some r) h b i c = (t : State) × stands t × MeetsStop s requests answered r t h b i c

-- ---- a boot

-- a stop was given, or a wild store is armed on a protected word
abbrev pub MayStop : Causes → Type 0
MayStop c = (c.stop_set ≡ true) ⊎ ((at : ℕ) × (c.armed ≡ Some at) × (c.protected (at / 512) ≡ true))

-- a boot of these requests leads from s to t. The machine was h and b, and is i and c
pub record RunsBoot (s : State) (requests : List Request) (run : BootRun) (t : State) (h : Health) (b : Below) (i : Health) (c : Below) : Type 0 where
  pub ends : BootEnds run.end run.stopped_on (MayStop b.causes) s requests run.answered t
  pub counted : RoseBy (boot_faults run) h.faults i.faults
  pub limit : LimitLasts b.limit c.limit
  pub memory : c.memory ≡ b.memory

-- a boot that answered these requests, and stopped on this one, if any
abbrev pub end_by : Option Request → BootEnd
end_by None = Served
end_by (Some r) = BootStopped

abbrev pub run_served : List (Request × Reply) → Option Request → BootRun
run_served answered stopped = record { answered = answered; stopped_on = stopped; end = end_by stopped }

-- a boot that ended so before any request
abbrev pub none_served : BootEnd → BootRun
none_served end = record { answered = []; stopped_on = None; end = end }

-- what a boot did whose reboot failed so
abbrev pub EndsUnbooted : BootFail → BootRun → Type 0
EndsUnbooted Fault run = run ≡ none_served BootFault
EndsUnbooted Stopped run = run ≡ none_served BootStopped
EndsUnbooted _ run = ⊥
