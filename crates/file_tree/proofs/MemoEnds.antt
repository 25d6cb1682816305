-- What is held in memory is in step with the blocks after a request, however it ends, unless the machine is stopped.
use Rattle.request_ends.proofs.Common.{◌≡◌, ℕ, Bool, true, false, cond, List, refl, sym, ap, ◌∙◌, Result, Ok, Err, Some, IsErrOf, nat_lt, true_false, get, VolumeShape, BlockWords, Seen, Kept, Node, State, Answered, Reply, answered, refused, with_room, with_new, make_new, ReadsAs, reads_agree, free_count, Number}
use Rattle.std.specs.Prelude.{is_err}
use Rattle.rio_requests.specs.declared.reply.Reply.TheVariants.{Err as RefusedBy}
use Rattle.rio_model.specs.declared.refusal.Refusal.TheVariants.{NoSpace}
use Rattle.request_ends.specs.Ends.{FileEnds}
use Rattle.file_tree.specs.Memos.{InStep, StayThere}
use Rattle.request_ends.specs.declared.failures.FileFail.{FileFail}
use Rattle.request_ends.specs.declared.failures.FileFail.TheVariants.{Refused, Fault, Stopped, Memory}
use Rattle.file_tree.specs.declared.memo.Memo.{Memo}
use Rattle.file_tree.proofs.MemoSteps.{kept_step}

-- ---- requests of which nothing is told

-- names stay, and nodes do
pub record SameUse (s t : State) : Type 0 where
  pub names : t.names ≡ s.names
  pub nodes : StayThere s t

pub use_same : (s t : State) → t ≡ s → SameUse s t
use_same s t same = record { names = ap (λ (u : State). u.names) same; nodes = λ j none. ap (λ (u : State). get u.nodes j) (sym same) ∙ none }

-- what was in step before a request is so after it, where it changes no names and takes no node away
untold_as : (T : Type 0) (says : T → Reply → Type 0) (shape : VolumeShape) (x : Seen) (k : Kept) (y : Seen) (j : Kept) (s : State) (a : Answered) (leads : ℕ → State → Type 0) (m : Memo) (r : Result T FileFail) → InStep shape x.words m → ReadsAs shape x.words s → ((c : ℕ) (t : State) → leads c t → SameUse s t) → (is_err r ≡ false → SameUse s a.next) → FileEnds says shape x k y j s a leads r → (IsErrOf r Stopped → ⊥) → InStep shape y.words m
untold_as T says shape x k y j s a leads m (Ok v) h was parts all ends on = let same = all refl in kept_step shape x.words y.words s a.next m h was ends.1.reads same.names same.nodes
untold_as T says shape x k y j s a leads m (Err (Refused c)) h was parts all ends on = kept_step shape x.words y.words s s m h was (reads_agree shape x.words y.words s was ends.2.words) refl (λ j none. none)
untold_as T says shape x k y j s a leads m (Err (Fault c)) h was parts all ends on = let same = parts c ends.0 ends.1 in kept_step shape x.words y.words s ends.0 m h was ends.2.reads same.names same.nodes
untold_as T says shape x k y j s a leads m (Err Stopped) h was parts all ends on = absurd (on refl)
untold_as T says shape x k y j s a leads m (Err Memory) h was parts all ends on = kept_step shape x.words y.words s s m h was (reads_agree shape x.words y.words s was ends.words) refl (λ j none. none)

pub step_untold : {T : Type 0} (says : T → Reply → Type 0) (shape : VolumeShape) (x : Seen) (k : Kept) (y : Seen) (j : Kept) (s : State) (a : Answered) (leads : ℕ → State → Type 0) (m : Memo) (r : Result T FileFail) → InStep shape x.words m → ReadsAs shape x.words s → ((c : ℕ) (t : State) → leads c t → SameUse s t) → SameUse s a.next → FileEnds says shape x k y j s a leads r → (IsErrOf r Stopped → ⊥) → InStep shape y.words m
step_untold {T = T} says shape x k y j s a leads m r h was parts all ends on = untold_as T says shape x k y j s a leads m r h was parts (λ e. all) ends on

-- or where it is not done
pub step_failed : {T : Type 0} (says : T → Reply → Type 0) (shape : VolumeShape) (x : Seen) (k : Kept) (y : Seen) (j : Kept) (s : State) (a : Answered) (leads : ℕ → State → Type 0) (m : Memo) (r : Result T FileFail) → is_err r ≡ true → InStep shape x.words m → ReadsAs shape x.words s → ((c : ℕ) (t : State) → leads c t → SameUse s t) → FileEnds says shape x k y j s a leads r → (IsErrOf r Stopped → ⊥) → InStep shape y.words m
step_failed {T = T} says shape x k y j s a leads m r err h was parts ends on = untold_as T says shape x k y j s a leads m r h was parts (λ ok. absurd (true_false (sym err ∙ ok))) ends on

-- no part of a request that leaves none
pub none_same : (s : State) (c : ℕ) (t : State) → (c ≡ 0) × (t ≡ s) → SameUse s t
none_same s c t none = use_same s t none.1

-- ---- requests that are done

-- it answered, and its state is what the blocks read as
pub record WasDone {T : Type 0} (says : T → Reply → Type 0) (shape : VolumeShape) (g : BlockWords) (a : Answered) : Type 0 where
  pub value : T
  pub reply : Reply
  pub told : a.reply ≡ Some reply
  pub said : says value reply
  pub reads : ReadsAs shape g a.next

done_as : (T : Type 0) (says : T → Reply → Type 0) (shape : VolumeShape) (x : Seen) (k : Kept) (y : Seen) (j : Kept) (s : State) (a : Answered) (leads : ℕ → State → Type 0) (r : Result T FileFail) → is_err r ≡ false → FileEnds says shape x k y j s a leads r → WasDone says shape y.words a
done_as T says shape x k y j s a leads (Ok v) ok ends = record { value = v; reply = ends.0.0; told = ends.0.1; said = ends.0.2; reads = ends.1.reads }
done_as T says shape x k y j s a leads (Err e) ok ends = absurd (true_false ok)

pub was_done : {T : Type 0} (says : T → Reply → Type 0) (shape : VolumeShape) (x : Seen) (k : Kept) (y : Seen) (j : Kept) (s : State) (a : Answered) (leads : ℕ → State → Type 0) (r : Result T FileFail) → is_err r ≡ false → FileEnds says shape x k y j s a leads r → WasDone says shape y.words a
was_done {T = T} says shape x k y j s a leads r ok ends = done_as T says shape x k y j s a leads r ok ends

-- ---- the state after a request that answers so

number_refused : (i c : ℕ) (reply : Reply) → reply ≡ Number i → Some (RefusedBy c) ≡ Some reply → ⊥
number_refused i c reply is e = cc

room_by : (s : State) (a : Answered) (reply : Reply) (b : Bool) → (cond b (refused s NoSpace) a).reply ≡ Some reply → (Some (RefusedBy 11) ≡ Some reply → ⊥) → (cond b (refused s NoSpace) a).next ≡ a.next
room_by s a reply true told other = absurd (other told)
room_by s a reply false told other = refl

pub room_next : (s : State) (wants : ℕ) (a : Answered) (reply : Reply) → (with_room s wants a).reply ≡ Some reply → (Some (RefusedBy 11) ≡ Some reply → ⊥) → (with_room s wants a).next ≡ a.next
room_next s wants a reply told other = room_by s a reply (nat_lt (free_count s) wants) told other

pub new_next : (s : State) (dir : ℕ) (name : List ℕ) (i : ℕ) (n : Node) (reply : Reply) → (make_new s dir name n (Some i)).reply ≡ Some reply → reply ≡ Number i → (make_new s dir name n (Some i)).next ≡ with_new s dir name i n
new_next s dir name i n reply told said = room_next s _ (answered (with_new s dir name i n) (Number i)) reply told (number_refused i 11 reply said)
