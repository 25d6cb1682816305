-- Legal transcripts of a plan of boots. Every reply is the one that the definition gives, and each boot finds the files and
-- regions after all requests that were answered before, the one that met a stop being absent, whole or a leading part.
use Rattle.std.specs.Prelude.{ℕ, ◌≡◌, ◌⊎◌, ◌+◌, ◌<◌, ◌≤◌, ◌++◌, ◌∷◌, Option, Some, length, map, sum, All, Any, List, [], None}
use Rattle.std.specs.FinMap.{get}
use Rattle.std.specs.List.{range_with_len}
use Rattle.rio_base.specs.Image.{image_pages}
use Rattle.rio_base.specs.declared.places.VolumeShape.{VolumeShape}
use Rattle.rio_model.specs.declared.node.Node.{Node}
use Rattle.rio_model.specs.declared.node.Node.TheVariants.{File}
use Rattle.rio_model.specs.declared.state.State.{State}
use Rattle.rio_model.specs.Censuses.{IsCensus}
use Rattle.rio_model.specs.Fresh.{fresh_state}
use Rattle.rio_requests.specs.declared.reply.Reply.{Reply}
use Rattle.rio_requests.specs.declared.request.Request.{Request}
use Rattle.rio_requests.specs.Crash.{crashed}
use Rattle.rio_requests.specs.Parts.{IsPart}
use Rattle.rio_requests.specs.Requests.{IsRequest}
use Rattle.rio_requests.specs.Run.{Run}
use Rattle.rio_requests.specs.Went.{faults_in}
use Rattle.line_loop.specs.Strikes.{IsProtected, IsStrike}
use Rattle.boots.specs.declared.plan.BootPlan.{BootPlan}
use Rattle.boots.specs.declared.plan.LivePlan.{LivePlan}
use Rattle.boots.specs.declared.transcript.BootEnd.{BootEnd}
use Rattle.boots.specs.declared.transcript.BootEnd.TheVariants.{Served, Stopped, BootFault}
use Rattle.boots.specs.declared.transcript.BootRun.{BootRun}
use Rattle.boots.specs.declared.transcript.Transcript.{Transcript}

-- ---- how many bytes the files of a state have

-- the bytes of a node, which has some if it is a file
abbrev pub bytes_in : Option Node → ℕ
bytes_in (Some (File bytes)) = length bytes
bytes_in _ = 0

-- the sum of their sizes
abbrev pub file_bytes : State → ℕ
file_bytes s = sum (map (λ i. bytes_in (get s.nodes i)) (range_with_len 1 s.shape.inodes))

-- ---- plans that can be run

-- the volume of a plan
abbrev pub plan_shape : LivePlan → VolumeShape
plan_shape plan = record { version = 1; blocks = plan.blocks; inodes = plan.inodes }

-- over a memory of so many words: requests are within their forms, an armed store is on a word of memory, and calls are counted
-- from 1
pub record IsBootPlan (words : ℕ) (plan : BootPlan) : Type 0 where
  pub requests : All IsRequest plan.requests
  pub armed : (step at value : ℕ) → plan.arm ≡ Some (step, at, value) → at < words
  pub calls : All (λ n. 1 ≤ n) plan.fail

-- ---- requests and their replies

abbrev pub requests_of : List (Request × Reply) → List Request
requests_of answered = map (λ (pair : Request × Reply). pair.0) answered

abbrev pub replies_of : List (Request × Reply) → List Reply
replies_of answered = map (λ (pair : Request × Reply). pair.1) answered

-- from s, these requests with their replies lead to t
abbrev pub LeadTo : State → List (Request × Reply) → State → Type 0
LeadTo s answered t = Run s (map Some (requests_of answered)) (replies_of answered) t

-- these requests are the first of those
abbrev pub AreFirst : List Request → List Request → Type 0
AreFirst front requests = (rest : List Request) × (requests ≡ front ++ rest)

-- ---- why a machine stops

-- the plan sets a stop, or arms a wild store on a protected word
abbrev pub SetsStop : State → BootPlan → Type 0
SetsStop s plan = ((most : ℕ) × (plan.stop_after ≡ Some most)) ⊎ ((step : ℕ) × (at : ℕ) × (value : ℕ) × (plan.arm ≡ Some (step, at, value)) × IsProtected s at)

-- ---- one boot, from state s to state t. `set` is that its plan sets a stop

-- all requests were answered. Transactions that are open then are undone
pub record ServesAll (s : State) (requests : List Request) (answered : List (Request × Reply)) (t : State) : Type 0 where
  pub whole : requests_of answered ≡ requests
  pub last : State
  pub leads : LeadTo s answered last
  pub left : t ≡ crashed last

-- request r met the stop, after the requests that were answered. Nothing of it stands, all, or a leading part
pub record StopsOn (set : Type 0) (s : State) (requests : List Request) (answered : List (Request × Reply)) (r : Request) (t : State) : Type 0 where
  pub first : AreFirst (requests_of answered ++ r ∷ []) requests
  pub mid : State
  pub leads : LeadTo s answered mid
  pub last : State
  pub part : IsPart mid r last
  pub left : t ≡ crashed last
  pub cause : set ⊎ Any (IsStrike s) (requests_of answered ++ r ∷ [])

-- it ended before any request
pub record ServesNone (s : State) (answered : List (Request × Reply)) (t : State) : Type 0 where
  pub none : answered ≡ []
  pub same : t ≡ s

-- by how it ended, and the request that it stopped on
abbrev pub BootEnds : BootEnd → Option Request → Type 0 → State → List Request → List (Request × Reply) → State → Type 0
BootEnds Served None set s requests answered t = ServesAll s requests answered t
BootEnds Stopped (Some r) set s requests answered t = StopsOn set s requests answered r t
BootEnds Stopped None set s requests answered t = ServesNone s answered t × set
BootEnds BootFault None set s requests answered t = ServesNone s answered t
BootEnds _ (Some r) set s requests answered t = ⊥

-- how many device faults it tells of: by its replies, and by its end
abbrev pub fault_of_end : BootEnd → ℕ
fault_of_end BootFault = 1
fault_of_end _ = 0

abbrev pub boot_faults : BootRun → ℕ
boot_faults run = faults_in (replies_of run.answered) + fault_of_end run.end

-- a boot with this plan may do this, and leave t. Each device fault is a call of the disk that was to fail
pub record BootLeads (s : State) (plan : BootPlan) (run : BootRun) (t : State) : Type 0 where
  pub ends : BootEnds run.end run.stopped_on (SetsStop s plan) s plan.requests run.answered t
  pub faults : boot_faults run ≤ length plan.fail

-- ---- many boots

-- each begins where the one before it ended
abbrev pub BootsLead : State → List BootPlan → List BootRun → State → Type 0
BootsLead s [] [] t = t ≡ s
BootsLead s (plan ∷ plans) (run ∷ runs) t = (mid : State) × BootLeads s plan run mid × BootsLead mid plans runs t
BootsLead s [] (run ∷ runs) t = ⊥
BootsLead s (plan ∷ plans) [] t = ⊥

-- ---- a plan and its transcript

-- a volume with the root alone
abbrev pub first_state : LivePlan → State
first_state plan = fresh_state (plan_shape plan) (image_pages plan.frames plan.scratch) plan.scratch

-- the boots lead from a fresh volume to one that is counted so
pub record Legal (plan : LivePlan) (transcript : Transcript) : Type 0 where
  pub last : State
  pub boots : BootsLead (first_state plan) plan.boots transcript.boots last
  pub census : IsCensus last transcript.last
  pub bytes : transcript.bytes ≡ file_bytes last
