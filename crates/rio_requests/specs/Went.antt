-- What requests do to a server's health and to the machine below, and how a request stops the machine.
use Rattle.std.specs.Prelude.{◌≡◌, ◌≤◌, ◌+◌, ◌/◌, ℕ, true, false, List, [], ◌∷◌, length, Option, Some, None, ◌⊎◌}
use Rattle.rio_base.specs.Blocks.{Causes, Health}
use Rattle.rio_base.specs.Failures.{RoseBy}
use Rattle.rio_base.specs.Volume.{Below, LimitLasts, Quiet, StopCause}
use Rattle.rio_requests.specs.declared.reply.Reply.{Reply}
use Rattle.rio_requests.specs.declared.reply.Reply.TheVariants.{Ok as Done, Fault}
use Rattle.rio_requests.specs.declared.request.Request.{Request}
use Rattle.rio_requests.specs.declared.request.Request.TheVariants.{Sync, Txns, Flush, Wild, Arm}

-- ---- replies that tell of a device fault

abbrev pub fault_of : Reply → ℕ
fault_of (Fault done) = 1
fault_of _ = 0

abbrev pub faults_in : List Reply → ℕ
faults_in [] = 0
faults_in (reply ∷ replies) = fault_of reply + faults_in replies

-- ---- requests by what they do below

-- any request but a flush
abbrev pub NoFlush : Request → Type 0
NoFlush (Flush count) = ⊥
NoFlush _ = Unit {0}

-- none of these is a flush
abbrev pub NoFlushes : List (Option Request) → Type 0
NoFlushes [] = Unit {0}
NoFlushes (None ∷ requests) = NoFlushes requests
NoFlushes (Some request ∷ requests) = NoFlush request × NoFlushes requests

-- one that may ask the machine for a step. A wild store is none
abbrev pub MakesSteps : Request → Type 0
MakesSteps Sync = ⊥
MakesSteps Txns = ⊥
MakesSteps (Wild at value) = ⊥
MakesSteps (Arm step at value) = ⊥
MakesSteps _ = Unit {0}

-- ---- the armed store

-- the place that is armed once a request has this reply, if none has fallen
abbrev pub armed_by : Option Request → Reply → Option ℕ → Option ℕ
armed_by (Some (Arm step at value)) Done o = Some at
armed_by _ _ o = o

-- and once these requests have these replies: the place that was armed last
abbrev pub last_armed : Option ℕ → List (Option Request) → List Reply → Option ℕ
last_armed o (request ∷ requests) (reply ∷ replies) = last_armed (armed_by request reply o) requests replies
last_armed o _ _ = o

-- ---- what requests did that were answered

-- what any number of calls leave so, a wild store now or armed too: only what is armed and what trapped may differ besides
-- the disk
pub record LastsBelow (old new : Below) : Type 0 where
  pub written : old.writes ≤ new.writes
  pub roomy : new.roomy ≡ old.roomy
  pub around : new.around ≡ old.around
  pub stop_set : new.causes.stop_set ≡ old.causes.stop_set
  pub protected : new.causes.protected ≡ old.causes.protected
  pub memory : new.memory ≡ old.memory
  pub limit : LimitLasts old.limit new.limit

-- The faults rose by as many as the replies tell of; what lasts below lasted; nothing stopped or trapped; what is armed, if
-- anything still is, was armed last; and where none is a flush and there is a frame for each block, nothing was written
pub record Went (requests : List (Option Request)) (replies : List Reply) (s : Health) (old : Below) (t : Health) (new : Below) : Type 0 where
  pub replied : length replies ≡ length requests
  pub later : s.faults ≤ t.faults
  pub counted : RoseBy (faults_in replies) s.faults t.faults
  pub lasts : LastsBelow old new
  pub running : t.stopped ≡ s.stopped
  pub trapped : new.causes.trapped ≡ old.causes.trapped
  pub armed : (new.causes.armed ≡ None) ⊎ (new.causes.armed ≡ last_armed old.causes.armed requests replies)
  pub quiet : NoFlushes requests → Quiet old new

-- ---- a request that was not

-- why it stopped the machine: it is a wild store on a protected word; or it made steps, and an armed store trapped or a stop
-- was given
abbrev pub Halting : Request → Causes → Causes → Type 0
Halting r old new = ((at : ℕ) × (value : ℕ) × (r ≡ Wild at value) × (old.protected (at / 512) ≡ true) × (new.trapped ≡ Some at)) ⊎ (MakesSteps r × StopCause old new false true)

-- request r found the machine running and left it stopped
pub record StoppedOn (r : Request) (s : Health) (old : Below) (t : Health) (new : Below) : Type 0 where
  pub ran : s.stopped ≡ false
  pub stopped : t.stopped ≡ true
  pub later : s.faults ≤ t.faults
  pub lasts : LastsBelow old new
  pub armed : (new.causes.armed ≡ old.causes.armed) ⊎ (new.causes.armed ≡ None)
  pub cause : Halting r old.causes new.causes
  pub quiet : NoFlush r → Quiet old new
