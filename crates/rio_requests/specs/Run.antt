-- Runs: requests with their replies, one after another.
use Rattle.std.specs.Prelude.{◌≡◌, ℕ, List, [], ◌∷◌, Option, Some, None, ◌⊎◌}
use Rattle.rio_model.specs.declared.state.State.{State}
use Rattle.rio_model.specs.declared.refusal.Refusal.TheVariants.{BadRequest, NoMemory}
use Rattle.rio_requests.specs.declared.request.Request.{Request}
use Rattle.rio_requests.specs.declared.request.Request.TheVariants.{Sync, Range, Put, Alloc, Free, Commit, Abort, Flush, Wild, Arm}
use Rattle.rio_requests.specs.declared.reply.Reply.{Reply}
use Rattle.rio_requests.specs.declared.reply.Reply.TheVariants.{Fault}
use Rattle.rio_requests.specs.Answers.{answer_of}
use Rattle.rio_requests.specs.Parts.{FaultStep}
use Rattle.rio_requests.specs.Answer.{refusal_reply}

-- the requests that may find no memory
abbrev pub MayLackMemory : Request → Type 0
MayLackMemory Sync = ⊥
MayLackMemory (Range path off len) = ⊥
MayLackMemory (Put path off bytes) = ⊥
MayLackMemory (Alloc path units) = ⊥
MayLackMemory (Free path at) = ⊥
MayLackMemory (Commit path) = ⊥
MayLackMemory (Abort path) = ⊥
MayLackMemory (Flush count) = ⊥
MayLackMemory (Wild at value) = ⊥
MayLackMemory (Arm step at value) = ⊥
MayLackMemory _ = Unit {0}

-- the reply is the answer
abbrev pub Answers : State → Request → Reply → State → Type 0
Answers s request reply t = answer_of s request ≡ record { next = t; reply = Some reply }

-- there was no memory for it, and nothing changed
abbrev pub LacksMemory : State → Request → Reply → State → Type 0
LacksMemory s request reply t = MayLackMemory request × (reply ≡ refusal_reply NoMemory) × (t ≡ s)

-- a device fault cut it off after so many bytes
abbrev pub Faults : State → Request → Reply → State → Type 0
Faults s request reply t = (k : ℕ) × (reply ≡ Fault k) × FaultStep s request k t

-- from s, this reply to this request leads to t; what is no request is refused as a bad one
abbrev pub Step : State → Option Request → Reply → State → Type 0
Step s (Some request) reply t = Answers s request reply t ⊎ LacksMemory s request reply t ⊎ Faults s request reply t
Step s None reply t = (reply ≡ refusal_reply BadRequest) × (t ≡ s)

-- from s, these replies to these requests lead to t
abbrev pub Run : State → List (Option Request) → List Reply → State → Type 0
Run s [] [] t = t ≡ s
Run s (request ∷ requests) (reply ∷ replies) t = (mid : State) × Step s request reply mid × Run mid requests replies t
Run s [] (reply ∷ replies) t = ⊥
Run s (request ∷ requests) [] t = ⊥
