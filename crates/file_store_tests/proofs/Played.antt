-- How requests of the tests end: another may follow, or the volume is started again.
use Rattle.std.proofs.Common.{◌≡◌, ℕ, Bool, refl, subst, sym, arith}
use Rattle.std.specs.Prelude.{◌↔◌, Result, Ok, Err, IsErr, IsErrOf, None, OnOk}
use Rattle.rio_base.specs.declared.failures.Stopped.{Stopped as MachineStopped}
use Rattle.rio_base.specs.declared.places.VolumeShape.{VolumeShape}
use Rattle.rio_base.specs.Blocks.{BlockWords, Caches, Health, Looks, Seen}
use Rattle.rio_base.specs.Rules.{true_false}
use Rattle.rio_base.specs.Volume.{Below, Kept, Passes}
use Rattle.rio_requests.specs.declared.answered.Answered.{Answered}
use Rattle.rio_requests.specs.declared.reply.Reply.{Reply}
use Rattle.rio_model.specs.declared.state.State.{State}
use Rattle.rio_model.specs.Fresh.{fresh_state}
use Rattle.rio_model.specs.VolumeReads.{ReadsAs}
use Rattle.rio_model.specs.VolumeReady.{Ready}
use Rattle.node_pages.proofs.LookingUpRules.{can_look_up, looked_low}
use Rattle.node_pages.proofs.OrderRules.{leaves_looked}
use Rattle.request_ends.specs.declared.failures.FileFail.{FileFail}
use Rattle.request_ends.specs.declared.failures.FileFail.TheVariants.{Refused, Fault, Stopped, Memory}
use Rattle.request_ends.proofs.EndRules.{can_after}
use Rattle.request_ends.specs.Ends.{CanServe, FileEnds}
use Rattle.file_tree.specs.Memos.{InStep}
use Rattle.file_tree.specs.declared.memo.Memo.{Memo}
use Rattle.request_ends.proofs.Unchanged.{can_again}
use Rattle.test_objects.specs.TestVolumes.{IsFresh}
use Rattle.file_store_tests.specs.Playing.{CanStart, Follows, FollowsHeld}

start_as : (T : Type 0) (says : T → Reply → Type 0) (shape : VolumeShape) (x : Seen) (k : Kept) (y : Seen) (j : Kept) (s : State) (a : Answered) (leads : ℕ → State → Type 0) (r : Result T FileFail) → FileEnds says shape x k y j s a leads r → IsErrOf r Stopped → CanStart shape y j
start_as T says shape x k y j s a leads (Ok v) h stopped = absurd cc
start_as T says shape x k y j s a leads (Err (Refused c)) h stopped = absurd cc
start_as T says shape x k y j s a leads (Err (Fault n)) h stopped = absurd cc
start_as T says shape x k y j s a leads (Err Stopped) (t, part, stands) stopped = record { ready = stands.ready; state = t; reads = stands.reads }
start_as T says shape x k y j s a leads (Err Memory) h stopped = absurd cc

-- a request that is answered, or stopped
pub follows_end : {T : Type 0} (says : T → Reply → Type 0) (shape : VolumeShape) (x : Seen) (k : Kept) (y : Seen) (j : Kept) (a : State → Answered) (leads : State → ℕ → State → Type 0) (r : Result T FileFail) (q : Result Bool MachineStopped) → CanServe shape x k → ((s : State) → ReadsAs shape x.words s → FileEnds says shape x k y j s (a s) (leads s) r) → (IsErr q ↔ IsErrOf r Stopped) → Follows shape y j q
follows_end says shape x k y j a leads r (Ok due) can h tells = record { ok = can_after says shape x k y j a leads r can h (λ stopped. true_false (sym (tells.1 stopped))); err = tt }
follows_end {T = T} says shape x k y j a leads r (Err stop) can h tells = record { ok = tt; err = start_as T says shape x k y j can.state (a can.state) (leads can.state) r (h can.state can.reads) (tells.0 refl) }

pub follows_ok : {T : Type 0} (shape : VolumeShape) (x : Seen) (k : Kept) (v : T) → CanServe shape x k → Follows {T = T} shape x k (Ok v)
follows_ok shape x k v can = record { ok = can; err = tt }

-- a look at the bitmap leaves a volume that may be asked again
pub can_counted : (shape : VolumeShape) (s t : Health) (o n : Below) (x y : Seen) (k j : Kept) → CanServe shape x k → Looks x y → Caches x y 1 None → Passes s o k t n j → CanServe shape y j
can_counted shape s t o n x y k j can looks caches passes =
    can_again shape x k y j can (leaves_looked shape s t o n x y k j can.ready (looked_low shape x y 1 (can_look_up shape x can.ready.order.has_shape can.ready.order.mapped can.ready.order.named) (omega arith) looks caches) passes) looks.words

-- a fresh volume may be asked, and one that is started again
pub fresh_can : (shape : VolumeShape) (x : Seen) (k : Kept) → IsFresh shape x k → CanServe shape x k
fresh_can shape x k fresh = record { ready = fresh.ready; state = fresh_state shape 0 0; reads = fresh.reads }

pub started_can : (shape : VolumeShape) (x : Seen) (k : Kept) (y : Seen) (j : Kept) → CanStart shape x k → Ready shape y j → y.words ≡ k.standing → CanServe shape y j
started_can shape x k y j start ready words = record { ready = ready; state = start.state; reads = subst (λ (f : BlockWords). ReadsAs shape f start.state) (sym words) start.reads }

-- ---- with a memo

held_on : {P : Type 0} (T : Type 0) (r : Result T FileFail) (q : Result Bool MachineStopped) → (IsErr q ↔ IsErrOf r Stopped) → ((IsErrOf r Stopped → ⊥) → P) → OnOk q P
held_on T r (Ok due) tells on = on (λ stopped. true_false (sym (tells.1 stopped)))
held_on T r (Err stop) tells on = tt

-- a request that is answered, or stopped
pub held_end : {T : Type 0} (says : T → Reply → Type 0) (shape : VolumeShape) (x : Seen) (k : Kept) (y : Seen) (j : Kept) (memo : Memo) (a : State → Answered) (leads : State → ℕ → State → Type 0) (r : Result T FileFail) (q : Result Bool MachineStopped) → CanServe shape x k → ((s : State) → ReadsAs shape x.words s → FileEnds says shape x k y j s (a s) (leads s) r) → ((IsErrOf r Stopped → ⊥) → InStep shape y.words memo) → (IsErr q ↔ IsErrOf r Stopped) → FollowsHeld shape y j memo q
held_end {T = T} says shape x k y j memo a leads r q can h on tells = record { follows = follows_end says shape x k y j a leads r q can h tells; in_step = held_on T r q tells on }

pub held_ok : {T : Type 0} (shape : VolumeShape) (x : Seen) (k : Kept) (memo : Memo) (v : T) → CanServe shape x k → InStep shape x.words memo → FollowsHeld {T = T} shape x k memo (Ok v)
held_ok shape x k memo v can step = record { follows = follows_ok shape x k v can; in_step = step }

-- a look that leaves all words leaves a memo in step
pub held_looked : {T : Type 0} (shape : VolumeShape) (x y : Seen) (j : Kept) (memo : Memo) (v : T) → CanServe shape y j → y.words ≡ x.words → InStep shape x.words memo → FollowsHeld {T = T} shape y j memo (Ok v)
held_looked shape x y j memo v can same step = held_ok shape y j memo v can (subst (λ (f : BlockWords). InStep shape f memo) (sym same) step)
