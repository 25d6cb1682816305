-- Wild stores on protected words, and how they stop the machine.
use Rattle.std.specs.Prelude.{◌≡◌, ◌<◌, ◌*◌, ◌-◌, ◌⊎◌, ℕ, List, All, Option, Some, None}
use Rattle.rio_model.specs.declared.state.State.{State}
use Rattle.rio_requests.specs.Went.{MakesSteps, last_armed}
use Rattle.rio_requests.specs.declared.reply.Reply.{Reply}
use Rattle.rio_requests.specs.declared.request.Request.{Request}
use Rattle.rio_requests.specs.declared.request.Request.TheVariants.{Arm, Wild}
use Rattle.request_codec.specs.Form.{Form}
use Rattle.request_codec.specs.Lines.{lines}
use Rattle.line_loop.specs.declared.ends.LinesEnd.{LinesEnd}
use Rattle.line_loop.specs.declared.ends.LinesEnd.TheVariants.{Ended, Trapped}

-- a word of memory is protected
abbrev pub IsProtected : State → ℕ → Type 0
IsProtected s at = at < 512 * (s.pages - s.scratch)

-- a wild store on a protected word, now or armed
abbrev pub IsStrike : State → Request → Type 0
IsStrike s (Wild at value) = IsProtected s at
IsStrike s (Arm step at value) = IsProtected s at
IsStrike s _ = ⊥

-- no line of this input asks for one
abbrev pub AsksNoStrike : State → List ℕ → Type 0
AsksNoStrike s input = All (λ line. (r : Request) → Form line r → IsStrike s r → ⊥) (lines input)

-- ---- the request that the machine stopped on

-- the wild store that trapped at this place is the request, or was armed last, by requests with these replies, and fell at a
-- step of the request
abbrev pub Fell : ℕ → List (Option Request) → List Reply → Request → Type 0
Fell at requests replies r = ((value : ℕ) × (r ≡ Wild at value)) ⊎ (MakesSteps r × (last_armed None requests replies ≡ Some at))

-- what stopped the machine on request r, by the end that is told: a wild store on a protected word, or the stop that it was
-- given, which comes at a step. Nothing was armed before the requests with these replies
abbrev pub StopsBy : LinesEnd → State → List (Option Request) → List Reply → Request → Type 0
StopsBy (Trapped at) s requests replies r = IsProtected s at.0 × Fell at.0 requests replies r
StopsBy (Ended end) s requests replies r = MakesSteps r
