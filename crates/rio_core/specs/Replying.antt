-- What the outcome of a call on files is as a reply.
use Rattle.std.specs.Prelude.{◌≡◌, List, Result, Ok, Err}
use Rattle.rio_base.specs.declared.places.Ino.{Ino}
use Rattle.rio_base.specs.declared.failures.Stopped.{Stopped as MachineStopped}
use Rattle.request_ends.specs.declared.failures.FileFail.{FileFail}
use Rattle.request_ends.specs.declared.failures.FileFail.TheVariants.{Refused, Fault, Stopped, Memory}
use Rattle.rio_requests.specs.declared.reply.Reply.{Reply}
use Rattle.rio_requests.specs.declared.reply.Reply.TheVariants.{Err as RefusedBy, Fault as Faulted, Inos}
use Rattle.rio_requests.specs.Answer.{refusal_reply}
use Rattle.rio_model.specs.declared.refusal.Refusal.TheVariants.{NoMemory}

-- want of memory is a refusal; a stop has no reply
abbrev pub RepliesFail : FileFail → Result Reply MachineStopped → Type 0
RepliesFail (Refused c) told = told ≡ Ok (RefusedBy c)
RepliesFail (Fault done) told = told ≡ Ok (Faulted done)
RepliesFail Memory told = told ≡ Ok (refusal_reply NoMemory)
RepliesFail Stopped (Ok reply) = ⊥
RepliesFail Stopped (Err e) = Unit {0}

abbrev pub Replies : {T : Type 0} → (T → Reply → Type 0) → Result T FileFail → Result Reply MachineStopped → Type 0
Replies says (Ok value) told = (reply : Reply) × (told ≡ Ok reply) × says value reply
Replies says (Err fail) told = RepliesFail fail told

-- the open transactions, unless there was no memory for the list
abbrev pub TellsTxns : {E : Type 0} → Result (List Ino) E → Reply → Type 0
TellsTxns (Ok inos) reply = reply ≡ Inos inos
TellsTxns (Err e) reply = reply ≡ refusal_reply NoMemory
