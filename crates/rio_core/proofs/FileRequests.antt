-- How a request on files ends, by how the call on files does over what a stop leaves of the state.
use Rattle.rio_core.proofs.Common.{◌≡◌, ℕ, List, refl, sym, ap, subst, ◌∙◌, inl, inr, VolumeShape, Seen, Kept, State, volume_layout, LeavesInUse, Answered, Reply, Request, answer_of, crashed, FaultStep, Stands, FileFail, Refused, Fault, Memory, Marks}
use Rattle.std.specs.Prelude.{Result, Ok, Err, Option, Some}
use Rattle.rio_base.specs.declared.failures.Stopped.{Stopped as MachineStopped}
use Rattle.rio_model.specs.States.{open_inodes}
use Rattle.rio_requests.specs.declared.reply.Reply.TheVariants.{Err as RefusedBy}
use Rattle.rio_requests.specs.declared.request.Request.TheVariants.{Mkdir, Create, Region as MakeRegion, Write, Read, Truncate, Unlink, Rmdir, Rename, Stat as StatOf, List as ListOf}
use Rattle.rio_requests.specs.Crash.{OpenRegions}
use Rattle.rio_requests.specs.Requests.{OnFiles}
use Rattle.rio_requests.proofs.CrashFiles.{answer_beside, fault_crashed, files_crashed, files_leave, part_crashed}
use Rattle.rio_requests.proofs.CrashRules.{LeavesOpen, leaves_itself}
use Rattle.rio_requests.specs.Parts.{LeadStep, PartOf}
use Rattle.rio_requests.specs.Run.{MayLackMemory}
use Rattle.request_ends.specs.Ends.{FileEnds, Left}
use Rattle.request_ends.proofs.EndRules.{left_same}
use Rattle.request_ends.specs.declared.failures.FileFail.TheVariants.{Stopped}
use Rattle.rio_core.specs.Replying.{Replies}
use Rattle.rio_core.specs.Serving.{RequestEnds, Serves}
use Rattle.rio_core.specs.Lines.{ByName}
use Rattle.rio_core.proofs.FileSteps.{files_held}
use Rattle.rio_core.proofs.RegionEnds.{held_serves, serves_held}

-- a value is told by one reply alone
abbrev pub OneReply : {T : Type 0} → (T → Reply → Type 0) → Type 0
OneReply {T = T} says = (v : T) (a b : Reply) → says v a → says v b → a ≡ b

-- ---- what is served afterwards

open_in : (shape : VolumeShape) (x : Seen) (k : Kept) (marks : Marks) (s : State) → Serves shape x k marks s → OpenRegions s
open_in shape x k marks s serves = serves.regions.open_regions

-- t is served where a stop leaves of it what the call left, and the transactions of s stay open in it
pub left_serves : (shape : VolumeShape) (x : Seen) (k : Kept) (y : Seen) (j : Kept) (marks : Marks) (s t : State) → Serves shape x k marks s → Left shape x.words y j (crashed t) → LeavesOpen s t → Serves shape y j marks t
left_serves shape x k y j marks s t serves left leaves = held_serves shape y j marks t left.ready (files_held shape x.words y.words marks s t (serves_held shape x k marks s serves) left.reads left.spares leaves)

-- s is, where all that is in use stays
pub same_serves : (shape : VolumeShape) (x : Seen) (k : Kept) (y : Seen) (j : Kept) (marks : Marks) (s : State) → Serves shape x k marks s → LeavesInUse (volume_layout shape x.words) x k y j → Serves shape y j marks s
same_serves shape x k y j marks s serves leaves = left_serves shape x k y j marks s s serves (left_same shape x k y j (crashed s) serves.ready leaves serves.reads) (leaves_itself s)

-- ---- the answer

-- an answer whose reply is known, and whose next state
answered_by : (a : Answered) (reply : Reply) → a.reply ≡ Some reply → a ≡ record { next = a.next; reply = Some reply }
answered_by a reply is = ap (λ (r : Option Reply). record { next = a.next; reply = r }) is

-- what a call answers over what a stop leaves of s is the answer over s
same_reply : (s : State) (r : Request) (o : Option Reply) → OpenRegions s → OnFiles r → (answer_beside (crashed s) (open_inodes s) r).reply ≡ o → (answer_of s r).reply ≡ o
same_reply s r o opened on is = sym (ap (λ (a : Answered). a.reply) (files_crashed s r opened on)) ∙ is

same_next : (s : State) (r : Request) → OpenRegions s → OnFiles r → (answer_beside (crashed s) (open_inodes s) r).next ≡ crashed (answer_of s r).next
same_next s r opened on = ap (λ (a : Answered). a.next) (files_crashed s r opened on)

served_reply : (s : State) (r : Request) (reply : Reply) → OpenRegions s → OnFiles r → (answer_beside (crashed s) (open_inodes s) r).reply ≡ Some reply → answer_of s r ≡ record { next = (answer_of s r).next; reply = Some reply }
served_reply s r reply opened on is = answered_by (answer_of s r) reply (same_reply s r (Some reply) opened on is)

-- a fault leaves of a request on files what a stop may leave of it
fault_leads : (s : State) (r : Request) (k : ℕ) (u : State) → OnFiles r → FaultStep s r k u → LeadStep s r k u
fault_leads s (Mkdir path) k u on f = f
fault_leads s (Create path) k u on f = f
fault_leads s (MakeRegion path pages undo) k u on f = f
fault_leads s (Write path off bytes) k u on f = f
fault_leads s (Read path off len) k u on f = f
fault_leads s (Truncate path len) k u on f = f
fault_leads s (Unlink path) k u on f = f
fault_leads s (Rmdir path) k u on f = f
fault_leads s (Rename path to) k u on f = f
fault_leads s (StatOf path) k u on f = f
fault_leads s (ListOf path) k u on f = f
fault_leads s _ k u on f = absurd on

part_leads : (s : State) (r : Request) (a : Answered) (u : State) → OnFiles r → PartOf s a (FaultStep s r) u → PartOf s a (LeadStep s r) u
part_leads s r a u on (inl none) = inl none
part_leads s r a u on (inr (inl whole)) = inr (inl whole)
part_leads s r a u on (inr (inr (k, f))) = inr (inr (k, fault_leads s r k u on f))

-- ---- the request

ends_as : (T : Type 0) (says : T → Reply → Type 0) (shape : VolumeShape) (x : Seen) (k : Kept) (y : Seen) (j : Kept) (marks : Marks) (s : State) (r : Request) (q : Result T FileFail) (p : Result Reply MachineStopped) → OneReply says → MayLackMemory r → OnFiles r → Serves shape x k marks s
    → FileEnds says shape x k y j (crashed s) (answer_beside (crashed s) (open_inodes s) r) (FaultStep (crashed s) r) q → Replies says q p → RequestEnds shape y j marks s r p
ends_as T says shape x k y j marks s r (Ok v) p one may on serves h (reply, is, told) =
    let opened = open_in shape x k marks s serves in
    let said = h.0.1 ∙ ap Some (one v h.0.0 reply h.0.2 told) in
    let left = subst (Left shape x.words y j) (same_next s r opened on) h.1 in
    subst (RequestEnds shape y j marks s r) (sym is) ((answer_of s r).next, inl (served_reply s r reply opened on said), left_serves shape x k y j marks s (answer_of s r).next serves left (files_leave s r opened on))
ends_as T says shape x k y j marks s r (Err (Refused c)) p one may on serves h is =
    let opened = open_in shape x k marks s serves in
    let same = left_same shape x k y j (crashed s) serves.ready h.2 serves.reads in
    let left = subst (Left shape x.words y j) (sym h.1 ∙ same_next s r opened on) same in
    subst (RequestEnds shape y j marks s r) (sym is) ((answer_of s r).next, inl (served_reply s r (RefusedBy c) opened on h.0), left_serves shape x k y j marks s (answer_of s r).next serves left (files_leave s r opened on))
ends_as T says shape x k y j marks s r (Err (Fault n)) p one may on serves (u, leads, left) is =
    let step = fault_crashed s r (open_in shape x k marks s serves) on n u leads in
    subst (RequestEnds shape y j marks s r) (sym is) (step.0, inr (inr (n, refl, step.1)), left_serves shape x k y j marks s step.0 serves (subst (Left shape x.words y j) step.2 left) step.3)
ends_as T says shape x k y j marks s r (Err Memory) p one may on serves h is =
    subst (RequestEnds shape y j marks s r) (sym is) (s, inr (inl (may, refl, refl)), same_serves shape x k y j marks s serves h)
ends_as T says shape x k y j marks s r (Err Stopped) (Ok reply) one may on serves h is = absurd is
ends_as T says shape x k y j marks s r (Err Stopped) (Err e) one may on serves (u, part, stands) is =
    let step = part_crashed s r (open_in shape x k marks s serves) on u (part_leads (crashed s) r (answer_beside (crashed s) (open_inodes s) r) u on part) in
    (step.0, step.1, subst (Stands shape y j) step.2 stands)

pub request_ends : {T : Type 0} (says : T → Reply → Type 0) (shape : VolumeShape) (x : Seen) (k : Kept) (y : Seen) (j : Kept) (marks : Marks) (s : State) (r : Request) (q : Result T FileFail) (p : Result Reply MachineStopped) → OneReply says → MayLackMemory r → OnFiles r → Serves shape x k marks s
    → FileEnds says shape x k y j (crashed s) (answer_beside (crashed s) (open_inodes s) r) (FaultStep (crashed s) r) q → Replies says q p → RequestEnds shape y j marks s r p
request_ends {T = T} says shape x k y j marks s r q p one may on serves h told = ends_as T says shape x k y j marks s r q p one may on serves h told

-- ---- without a call

-- there was no memory for it
pub lacks_memory : (shape : VolumeShape) (x : Seen) (k : Kept) (marks : Marks) (s : State) (r : Request) → MayLackMemory r → Serves shape x k marks s → RequestEnds shape x k marks s r (Ok (RefusedBy 31))
lacks_memory shape x k marks s r may serves = (s, inr (inl (may, refl, refl)), serves)

-- ---- what is left where no arm of a match is taken

pub record MakesNone (r : Request) : Type 0 where
  pub mkdir : (path : List ℕ) → r ≡ Mkdir path → ⊥
  pub create : (path : List ℕ) → r ≡ Create path → ⊥
  pub region : (path : List ℕ) (pages undo : ℕ) → r ≡ MakeRegion path pages undo → ⊥
  pub write : (path : List ℕ) (off : ℕ) (bytes : List ℕ) → r ≡ Write path off bytes → ⊥
  pub read : (path : List ℕ) (off : ℕ) (len : ℕ) → r ≡ Read path off len → ⊥
  pub truncate : (path : List ℕ) (len : ℕ) → r ≡ Truncate path len → ⊥
  pub stat : (path : List ℕ) → r ≡ StatOf path → ⊥

pub left_by_name : (r : Request) → MakesNone r → OnFiles r → ByName r
left_by_name (Mkdir path) none on = absurd (none.mkdir path refl)
left_by_name (Create path) none on = absurd (none.create path refl)
left_by_name (MakeRegion path pages undo) none on = absurd (none.region path pages undo refl)
left_by_name (Write path off bytes) none on = absurd (none.write path off bytes refl)
left_by_name (Read path off len) none on = absurd (none.read path off len refl)
left_by_name (Truncate path len) none on = absurd (none.truncate path len refl)
left_by_name (StatOf path) none on = absurd (none.stat path refl)
left_by_name (Unlink path) none on = tt
left_by_name (Rmdir path) none on = tt
left_by_name (Rename path to) none on = tt
left_by_name (ListOf path) none on = tt
left_by_name _ none on = on

pub record NamesNone (r : Request) : Type 0 where
  pub unlink : (path : List ℕ) → r ≡ Unlink path → ⊥
  pub rmdir : (path : List ℕ) → r ≡ Rmdir path → ⊥
  pub rename : (path : List ℕ) (to : List ℕ) → r ≡ Rename path to → ⊥
  pub list : (path : List ℕ) → r ≡ ListOf path → ⊥

pub none_by_name : (r : Request) → NamesNone r → ByName r → ⊥
none_by_name (Unlink path) none on = none.unlink path refl
none_by_name (Rmdir path) none on = none.rmdir path refl
none_by_name (Rename path to) none on = none.rename path to refl
none_by_name (ListOf path) none on = none.list path refl
none_by_name _ none on = on
