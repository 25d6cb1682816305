-- A reply tells a fault, or there is none for a stop, just where the call on files says so.
use Rattle.rio_core.proofs.Common.{◌≡◌, ◌∙◌, ℕ, List, refl, ap, subst, IsErr, IsErrOf, Ino, Reply, Bytes, FileFail, Refused, Fault, Memory}
use Rattle.std.specs.Prelude.{Result, Ok, Err}
use Rattle.rio_base.specs.declared.failures.Stopped.{Stopped as MachineStopped}
use Rattle.rio_base.specs.Blocks.{EndsBy, Health}
use Rattle.rio_base.proofs.Rules.{ends_by_as}
use Rattle.rio_requests.specs.declared.reply.Reply.TheVariants.{Ok as Done, Number, Stat, Names, Inos, Err as RefusedBy, Fault as Faulted}
use Rattle.request_ends.specs.Failures.{Faulted as FileFaulted}
use Rattle.request_ends.specs.declared.failures.FileFail.TheVariants.{Stopped}
use Rattle.rio_core.specs.Replying.{Replies}
use Rattle.rio_core.specs.Serving.{TellsFault}

-- no value is told by a fault
abbrev pub NeverFault : {T : Type 0} → (T → Reply → Type 0) → Type 0
NeverFault {T = T} says = (v : T) (n : ℕ) → says v (Faulted n) → ⊥

-- ---- what values are told by

pub no_done : {n : ℕ} → Faulted n ≡ Done → ⊥
no_done e = cc

pub no_number : {n i : ℕ} → Faulted n ≡ Number i → ⊥
no_number e = cc

pub no_bytes : {n : ℕ} {bytes : List ℕ} → Faulted n ≡ Bytes bytes → ⊥
no_bytes e = cc

pub no_stat : {n : ℕ} {ino : Ino} {kind size : ℕ} → Faulted n ≡ Stat ino kind size → ⊥
no_stat e = cc

pub no_names : {n : ℕ} {names : List (List ℕ)} → Faulted n ≡ Names names → ⊥
no_names e = cc

-- ---- replies

no_fault : (T : Type 0) (says : T → Reply → Type 0) (v : T) (reply : Reply) → NeverFault says → says v reply → TellsFault (Ok reply) → ⊥
no_fault T says v Done never told f = f
no_fault T says v (Number n) never told f = f
no_fault T says v (Bytes bytes) never told f = f
no_fault T says v (Stat ino kind size) never told f = f
no_fault T says v (Names names) never told f = f
no_fault T says v (Inos inodes) never told f = f
no_fault T says v (RefusedBy c) never told f = f
no_fault T says v (Faulted n) never told f = never v n told

fault_told : (T : Type 0) (says : T → Reply → Type 0) (q : Result T FileFail) (p : Result Reply MachineStopped) → NeverFault says → Replies says q p → TellsFault p → FileFaulted q
fault_told T says (Ok v) p never (reply, is, told) f = absurd (no_fault T says v reply never told (subst TellsFault is f))
fault_told T says (Err (Refused c)) p never is f = absurd (subst TellsFault is f)
fault_told T says (Err (Fault n)) p never is f = (n, refl)
fault_told T says (Err Memory) p never is f = absurd (subst TellsFault is f)
fault_told T says (Err Stopped) (Ok reply) never is f = absurd is
fault_told T says (Err Stopped) (Err e) never is f = absurd f

not_err : (p : Result Reply MachineStopped) (reply : Reply) → p ≡ Ok reply → IsErr p → ⊥
not_err p reply is e = cc

stop_told : (T : Type 0) (says : T → Reply → Type 0) (q : Result T FileFail) (p : Result Reply MachineStopped) → Replies says q p → IsErr p → IsErrOf q Stopped
stop_told T says (Ok v) p (reply, is, told) e = absurd (not_err p reply is e)
stop_told T says (Err (Refused c)) p is e = absurd (not_err p (RefusedBy c) is e)
stop_told T says (Err (Fault n)) p is e = absurd (not_err p (Faulted n) is e)
stop_told T says (Err Memory) p is e = absurd (not_err p (RefusedBy 31) is e)
stop_told T says (Err Stopped) p is e = refl

told_stop : (T : Type 0) (says : T → Reply → Type 0) (q : Result T FileFail) (p : Result Reply MachineStopped) → Replies says q p → IsErrOf q Stopped → IsErr p
told_stop T says (Ok v) p is e = cc
told_stop T says (Err (Refused c)) p is e = cc
told_stop T says (Err (Fault n)) p is e = cc
told_stop T says (Err Memory) p is e = cc
told_stop T says (Err Stopped) (Ok reply) is e = absurd is
told_stop T says (Err Stopped) (Err s) is e = refl

pub reply_ends : {T : Type 0} (says : T → Reply → Type 0) (s t : Health) (q : Result T FileFail) (p : Result Reply MachineStopped) → NeverFault says → Replies says q p → EndsBy s t (FileFaulted q) (IsErrOf q Stopped) → EndsBy s t (TellsFault p) (IsErr p)
reply_ends {T = T} says s t q p never told ends = ends_by_as s t (FileFaulted q) (IsErrOf q Stopped) (TellsFault p) (IsErr p) (fault_told T says q p never told) (stop_told T says q p told) (told_stop T says q p told) ends

-- a reply comes only where the call was not stopped
pub not_stopped : {T : Type 0} (says : T → Reply → Type 0) (q : Result T FileFail) (p : Result Reply MachineStopped) → Replies says q p → (IsErr p → ⊥) → IsErrOf q Stopped → ⊥
not_stopped {T = T} says q p told on stop = on (told_stop T says q p told stop)

-- ---- a failure that is told

told_as : {T : Type 0} (r : Result T FileFail) (fail : FileFail) → r ≡ Err fail → FileFaulted {T = ℕ} (Err fail) → FileFaulted r
told_as r fail is (n, faulted) = (n, let told : fail ≡ Fault n = cc faulted in is ∙ ap Err told)

pub fail_ends : {T : Type 0} (s t : Health) (r : Result T FileFail) (fail : FileFail) (p : Result Reply MachineStopped) → r ≡ Err fail → (TellsFault p → FileFaulted {T = ℕ} (Err fail)) → (IsErr p → fail ≡ Stopped) → (fail ≡ Stopped → IsErr p) → EndsBy s t (FileFaulted r) (IsErrOf r Stopped) → EndsBy s t (TellsFault p) (IsErr p)
fail_ends s t r fail p is fault stop stopped ends = ends_by_as s t (FileFaulted r) (IsErrOf r Stopped) (TellsFault p) (IsErr p) (λ f. told_as r fail is (fault f)) (λ e. is ∙ ap Err (stop e)) (λ e. stopped (let told : fail ≡ Stopped = cc (is, e) in told)) ends
