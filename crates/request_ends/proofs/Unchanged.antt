-- Calls that only look: the volume can serve as before, and a request that ends there left everything as it was.
use Rattle.request_ends.proofs.Common.{◌≡◌, ℕ, refl, sym, ap, subst, ◌∙◌, inl, Ok, Err, Some, VolumeShape, BlockWords, Health, Looks, Seen, HasShape, Below, Kept, Passes, Settled, Answered, Reply, State, volume_layout, ReadsAs, AllNamed, LeavesInUse, Ready, firm_on, ready_left, Held, held_of_agree, reads_agree}
use Rattle.node_pages.proofs.OrderRules.{agrees_trans, stands_left, stands_ready_left}
use Rattle.request_ends.specs.Ends.{CanServe, FileEnds, Left, Spares, Stands}
use Rattle.request_ends.specs.declared.failures.FileFail.TheVariants.{Fault, Stopped}
use Rattle.rio_model.proofs.LowestBlocks.{bits_agree, lowest_same}

-- a call that looks leaves all that is in use
pub leaves_read : (shape : VolumeShape) (s t : Health) (o n : Below) (x y : Seen) (k j : Kept) → Ready shape x k → Looks x y → HasShape shape y → AllNamed (volume_layout shape x.words) y → Passes s o k t n j → LeavesInUse (volume_layout shape x.words) x k y j
leaves_read shape s t o n x y k j h looks has_shape named passes = record {
  words = record { low = λ b w low. ap (λ (f : BlockWords). f b w) looks.words; owned = λ i u own w. ap (λ (f : BlockWords). f (((volume_layout shape x.words).node i).block u) w) looks.words };
  standing = record { low = λ b w low. ap (λ (f : BlockWords). f b w) passes.standing; owned = λ i u own w. ap (λ (f : BlockWords). f (((volume_layout shape x.words).node i).block u) w) passes.standing };
  has_shape = has_shape;
  named = named;
  firm = firm_on (volume_layout shape x.words) k j h.order.firm passes.firm;
  idle = passes.updating ∙ h.idle;
}

pub can_again : (shape : VolumeShape) (x : Seen) (k : Kept) (y : Seen) (j : Kept) → CanServe shape x k → LeavesInUse (volume_layout shape x.words) x k y j → y.words ≡ x.words → CanServe shape y j
can_again shape x k y j can leaves words = record {
  ready = ready_left shape x k y j can.ready leaves;
  state = can.state;
  reads = subst (λ f. ReadsAs shape f can.state) (sym words) can.reads;
}

-- two such calls, one after the other
pub leaves_then : (shape : VolumeShape) (x : Seen) (k : Kept) (y : Seen) (j : Kept) (z : Seen) (l : Kept) → LeavesInUse (volume_layout shape x.words) x k y j → y.words ≡ x.words → LeavesInUse (volume_layout shape y.words) y j z l → LeavesInUse (volume_layout shape x.words) x k z l
leaves_then shape x k y j z l a words b =
    let c : LeavesInUse (volume_layout shape x.words) y j z l = subst (λ f. LeavesInUse (volume_layout shape f) y j z l) words b in
    record {
      words = agrees_trans (volume_layout shape x.words) x.words y.words z.words a.words c.words;
      standing = agrees_trans (volume_layout shape x.words) k.standing j.standing l.standing a.standing c.standing;
      has_shape = c.has_shape;
      named = c.named;
      firm = c.firm;
      idle = c.idle;
    }

-- ---- calls that prepared a change, and made none

spares_same : (h k : ℕ → Held) → k ≡ h → Spares h k
spares_same h k e = record { each = λ i region. inl (ap (λ (x : ℕ → Held). x i) e) }

pub left_planned : (shape : VolumeShape) (x : Seen) (k : Kept) (y : Seen) (j : Kept) (s : State) → Ready shape x k → LeavesInUse (volume_layout shape x.words) x k y j → ReadsAs shape x.words s → Left shape x.words y j s
left_planned shape x k y j s ready leaves reads = record {
  ready = ready_left shape x k y j ready leaves;
  reads = reads_agree shape x.words y.words s reads leaves.words;
  spares = spares_same _ _ (held_of_agree shape x.words y.words ready.order.mapped leaves.words);
  lowest = lowest_same shape x.words y.words (bits_agree shape x.words y.words ready.order.mapped.laid.shape_fits leaves.words.low);
}

pub stands_planned : (shape : VolumeShape) (x : Seen) (k : Kept) (y : Seen) (j : Kept) (s : State) → Ready shape x k → Settled x k → LeavesInUse (volume_layout shape x.words) x k y j → ReadsAs shape x.words s → Stands shape y j s
stands_planned shape x k y j s ready settled leaves reads = record {
  ready = stands_ready_left shape x k y j ready settled leaves;
  reads = reads_agree shape x.words j.standing s reads (stands_left shape x k y j ready settled leaves);
}

-- ---- requests that end there

pub ends_looked : {T : Type 0} (says : T → Reply → Type 0) (value : T) (shape : VolumeShape) (x : Seen) (k : Kept) (y : Seen) (j : Kept) (s : State) (a : Answered) (leads : ℕ → State → Type 0) → Ready shape x k → LeavesInUse (volume_layout shape x.words) x k y j → ReadsAs shape x.words s → a.next ≡ s → (reply : Reply) × (a.reply ≡ Some reply) × says value reply → FileEnds says shape x k y j s a leads (Ok value)
ends_looked says value shape x k y j s a leads ready leaves reads same reply = (reply, left_planned shape x k y j a.next ready leaves (subst (ReadsAs shape x.words) (sym same) reads))

pub ends_failed : {T : Type 0} (says : T → Reply → Type 0) (shape : VolumeShape) (x : Seen) (k : Kept) (y : Seen) (j : Kept) (s : State) (a : Answered) (leads : ℕ → State → Type 0) → Ready shape x k → LeavesInUse (volume_layout shape x.words) x k y j → ReadsAs shape x.words s → leads 0 s → FileEnds {T = T} says shape x k y j s a leads (Err (Fault 0))
ends_failed says shape x k y j s a leads ready leaves reads none = (s, none, left_planned shape x k y j s ready leaves reads)

pub ends_halted : {T : Type 0} (says : T → Reply → Type 0) (shape : VolumeShape) (x : Seen) (k : Kept) (y : Seen) (j : Kept) (s : State) (a : Answered) (leads : ℕ → State → Type 0) → Ready shape x k → Settled x k → LeavesInUse (volume_layout shape x.words) x k y j → ReadsAs shape x.words s → FileEnds {T = T} says shape x k y j s a leads (Err Stopped)
ends_halted says shape x k y j s a leads ready settled leaves reads = (s, inl refl, stands_planned shape x k y j s ready settled leaves reads)
