-- The parts of which answers are made.
use Rattle.std.specs.Prelude.{ℕ, List, Option, Some, None, Result, Ok, Err}
use Rattle.rio_model.specs.declared.node.Node.{Node}
use Rattle.rio_model.specs.declared.node.Node.TheVariants.{Dir, File, Region}
use Rattle.rio_model.specs.declared.state.State.{State}
use Rattle.rio_model.specs.Refusals.{refusal_number}
use Rattle.rio_model.specs.declared.refusal.Refusal.TheVariants.{NotFound, IsADirectory, IsARegion}
use Rattle.rio_model.specs.declared.refusal.Refusal.{Refusal}
use Rattle.rio_requests.specs.declared.reply.Reply.{Reply}
use Rattle.rio_requests.specs.declared.reply.Reply.TheVariants.{Err as Refused}
use Rattle.rio_requests.specs.declared.answered.Answered.{Answered}

-- the reply of a refusal
abbrev pub refusal_reply : Refusal → Reply
refusal_reply r = Refused (refusal_number r)

-- refused by this number: nothing changes
abbrev pub refused_by : State → ℕ → Answered
refused_by s number = record { next = s; reply = Some (Refused number) }

-- refused: nothing changes
abbrev pub refused : State → Refusal → Answered
refused s r = refused_by s (refusal_number r)

-- answered, and the state after it
abbrev pub answered : State → Reply → Answered
answered s reply = record { next = s; reply = Some reply }

-- what a request on a file's bytes comes to
abbrev pub on_file : State → Option Node → (List ℕ → Answered) → Answered
on_file s (Some (File bytes)) go = go bytes
on_file s (Some Dir) go = refused s IsADirectory
on_file s (Some (Region r)) go = refused s IsARegion
on_file s None go = refused s NotFound

-- what a request comes to at the inode that a walk ended at
abbrev pub at_inode : State → Result ℕ ℕ → (ℕ → Answered) → Answered
at_inode s (Ok i) go = go i
at_inode s (Err number) go = refused_by s number
