-- What may follow the end of a request on files.
use Rattle.request_ends.proofs.Common.{ℕ, ap, inl, refl, Result, Ok, Err, IsErrOf, VolumeShape, Seen, Kept, Answered, Reply, State, Held, volume_layout, held_of_agree, reads_agree, ReadsAs, LeavesInUse, Ready, ready_left}
use Rattle.rio_model.proofs.LowestBlocks.{bits_agree, lowest_same}
use Rattle.request_ends.specs.Ends.{CanServe, FileEnds, Left}
use Rattle.request_ends.specs.declared.failures.FileFail.{FileFail}
use Rattle.request_ends.specs.declared.failures.FileFail.TheVariants.{Refused, Fault, Stopped, Memory}

can_left : (shape : VolumeShape) (x : Seen) (k : Kept) (y : Seen) (j : Kept) → CanServe shape x k → LeavesInUse (volume_layout shape x.words) x k y j → CanServe shape y j
can_left shape x k y j can leaves = record { ready = ready_left shape x k y j can.ready leaves; state = can.state; reads = reads_agree shape x.words y.words can.state can.reads leaves.words }

can_as : (T : Type 0) (says : T → Reply → Type 0) (shape : VolumeShape) (x : Seen) (k : Kept) (y : Seen) (j : Kept) (s : State) (a : Answered) (leads : ℕ → State → Type 0) (r : Result T FileFail) → CanServe shape x k → FileEnds says shape x k y j s a leads r → (IsErrOf r Stopped → ⊥) → CanServe shape y j
can_as T says shape x k y j s a leads (Ok v) can h unstopped = record { ready = h.1.ready; state = a.next; reads = h.1.reads }
can_as T says shape x k y j s a leads (Err (Refused c)) can h unstopped = can_left shape x k y j can h.2
can_as T says shape x k y j s a leads (Err (Fault n)) can h unstopped = record { ready = h.2.ready; state = h.0; reads = h.2.reads }
can_as T says shape x k y j s a leads (Err Stopped) can h unstopped = absurd (unstopped refl)
can_as T says shape x k y j s a leads (Err Memory) can h unstopped = can_left shape x k y j can h

-- another request, where this one was not stopped
pub can_after : {T : Type 0} (says : T → Reply → Type 0) (shape : VolumeShape) (x : Seen) (k : Kept) (y : Seen) (j : Kept) (a : State → Answered) (leads : State → ℕ → State → Type 0) (r : Result T FileFail) → CanServe shape x k → ((s : State) → ReadsAs shape x.words s → FileEnds says shape x k y j s (a s) (leads s) r) → (IsErrOf r Stopped → ⊥) → CanServe shape y j
can_after {T = T} says shape x k y j a leads r can h unstopped = can_as T says shape x k y j can.state (a can.state) (leads can.state) r can (h can.state can.reads) unstopped

-- a call that left all in use as it was left the state
pub left_same : (shape : VolumeShape) (x : Seen) (k : Kept) (y : Seen) (j : Kept) (s : State) → Ready shape x k → LeavesInUse (volume_layout shape x.words) x k y j → ReadsAs shape x.words s → Left shape x.words y j s
left_same shape x k y j s ready leaves reads = record {
  ready = ready_left shape x k y j ready leaves;
  reads = reads_agree shape x.words y.words s reads leaves.words;
  spares = record { each = λ i region. inl (ap (λ (h : ℕ → Held). h i) (held_of_agree shape x.words y.words ready.order.mapped leaves.words)) };
  lowest = lowest_same shape x.words y.words (bits_agree shape x.words y.words ready.order.mapped.laid.shape_fits leaves.words.low);
}
