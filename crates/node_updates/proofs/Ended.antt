-- How a request on files ends, by how its one update ends.
use Rattle.request_ends.proofs.Common.{◌≡◌, ℕ, ◌≤◌, false, List, map, refl, sym, subst, ◌∙◌, arith, inl, inr, Ok, Err, Some, None, true_false, PageName, VolumeShape, FirmOutside, SameOutside, BlockWords, Seen, reserved, Firm, Kept, Settled, Answered, Reply, State, held_of, volume_layout, Owned, Agrees, held_of_agree, reads_agree, ReadsAs, LeavesInUse, Ready, firm_on, ready_order, InOrder}
use Rattle.std.specs.Prelude.{Bool, true, Option}
use Rattle.rio_base.specs.declared.failures.VolFail.TheVariants.{Fault as VolFault, Stopped as VolStopped}
use Rattle.rio_model.proofs.LowestBlocks.{bits_agree, lowest_on}
use Rattle.rio_model.specs.NodeChanges.{UsesLowest}
use Rattle.node_pages.proofs.OrderRules.{order_agree, order_left, stands_left}
use Rattle.node_updates.specs.Changes.{AllApplied, IsFreed, IsTouchedBy, change_update}
use Rattle.node_updates.specs.Committing.{Commits, Touched}
use Rattle.request_ends.specs.Ends.{FileEnds, Spares}
use Rattle.node_updates.specs.declared.changes.NodeChange.{NodeChange}
use Rattle.request_ends.specs.declared.failures.FileFail.TheVariants.{Fault, Stopped}
use Rattle.node_updates.proofs.Steps.{MayBeMetadata, order_start}
use Rattle.request_ends.proofs.Unchanged.{left_planned}

-- what an update comes to that is made of blocks f, under names z: blocks g read as state t, in the lowest free blocks, and
-- no freed block is in use
pub record Reaches (shape : VolumeShape) (f : BlockWords) (z : Seen) (j : Kept) (changes : List NodeChange) (g : BlockWords) (t : State) : Type 0 where
  pub order : InOrder shape g z j
  pub reads : ReadsAs shape g t
  pub spares : Spares (held_of shape f) (held_of shape g)
  pub lowest : UsesLowest shape f g
  pub out : (b : ℕ) → IsFreed changes b → Owned (volume_layout shape g) b → ⊥
  pub above : (b : ℕ) → IsFreed changes b → reserved shape ≤ b

-- ---- the update is made

agrees_made : (shape : VolumeShape) (f : BlockWords) (z : Seen) (j : Kept) (changes : List NodeChange) (g : BlockWords) (t : State) (w : BlockWords) → Reaches shape f z j changes g t → SameOutside (IsFreed changes) g w → Agrees (volume_layout shape g) g w
agrees_made shape f z j changes g t w r same = record {
  low = λ b x low. same.others b x (λ freed. (let above = r.above b freed in omega (arith, above, low)));
  owned = λ i s own x. same.others _ x (λ freed. r.out _ freed (record { node = i; slot = s; owns = own; is = refl }));
}

firm_made : (shape : VolumeShape) (f : BlockWords) (z : Seen) (j l : Kept) (changes : List NodeChange) (g : BlockWords) (t : State) → Reaches shape f z j changes g t → FirmOutside (IsFreed changes) j l → InOrder shape g z l
firm_made shape f z j l changes g t r firm = record {
  has_shape = r.order.has_shape;
  mapped = r.order.mapped;
  named = r.order.named;
  firm = record {
    low = λ b low. still b (r.order.firm.low b low) (λ freed. (let above = r.above b freed in omega (arith, above, low)));
    owned = λ i s own. still _ (r.order.firm.owned i s own) (λ freed. r.out _ freed (record { node = i; slot = s; owns = own; is = refl }));
  };
}
  where
    still : (b : ℕ) → j.loose b ≡ false → (IsFreed changes b → ⊥) → l.loose b ≡ false
    still b was none = by (l.loose b) refl
      where
        by : (x : Bool) → l.loose b ≡ x → x ≡ false
        by false e = refl
        by true e = absurd (true_false (sym (firm.loose b none e) ∙ was))

pub ends_made : {T : Type 0} (says : T → Reply → Type 0) (value : T) (shape : VolumeShape) (x : Seen) (k : Kept) (y : Seen) (j : Kept) (changes : List NodeChange) (z : Seen) (l : Kept) (s : State) (a : Answered) (leads : ℕ → State → Type 0) → ((g : BlockWords) → AllApplied shape (map change_update changes) y.words g → Reaches shape x.words z j changes g a.next) → Commits {T = Unit {0}} shape changes y j z l (Ok tt) → (reply : Reply) × (a.reply ≡ Some reply) × says value reply → FileEnds says shape x k z l s a leads (Ok value)
ends_made says value shape x k y j changes z l s a leads reach ((m, same), idle) replies = (
  replies,
  record {
    ready = ready_order shape z l (order_agree shape m.made z.words z l (firm_made shape x.words z j l changes m.made a.next r m.firm) agrees) idle;
    reads = reads_agree shape m.made z.words a.next r.reads agrees;
    spares = subst (λ h. Spares (held_of shape x.words) h) (sym (held_of_agree shape m.made z.words r.order.mapped agrees)) r.spares;
    lowest = lowest_on shape x.words m.made z.words r.lowest (bits_agree shape m.made z.words r.order.mapped.laid.shape_fits agrees.low);
  },
)
  where
    r : Reaches shape x.words z j changes m.made a.next
    r = reach m.made m.applied

    agrees : Agrees (volume_layout shape m.made) m.made z.words
    agrees = agrees_made shape x.words z j changes m.made a.next z.words r same

-- ---- it is not made: names are right, and nothing reads or stands otherwise

-- what the update caches may be cached so
abbrev pub MayTouch : VolumeShape → BlockWords → List NodeChange → Type 0
MayTouch shape f changes = (c : ℕ) (name : Option PageName) → IsTouchedBy changes c name → (name ≡ None) × MayBeMetadata (volume_layout shape f) c

order_touched : (shape : VolumeShape) (x : Seen) (k : Kept) (y : Seen) (j : Kept) (changes : List NodeChange) (z : Seen) (l : Kept) → Ready shape x k → LeavesInUse (volume_layout shape x.words) x k y j → Touched shape changes y z → MayTouch shape x.words changes → Firm j l → InOrder shape x.words z l
order_touched shape x k y j changes z l ready leaves touched allowed firm =
    let h = order_start shape x.words (IsTouchedBy changes) y z j (order_left shape x k y j ready leaves) touched.has_shape allowed touched.caches in
    record { has_shape = h.has_shape; mapped = h.mapped; named = h.named; firm = firm_on _ j l h.firm firm }

leaves_touched : (shape : VolumeShape) (x : Seen) (k : Kept) (y : Seen) (j : Kept) (changes : List NodeChange) (z : Seen) (l : Kept) → Ready shape x k → LeavesInUse (volume_layout shape x.words) x k y j → Touched shape changes y z → MayTouch shape x.words changes → z.words ≡ y.words → l.standing ≡ j.standing → Firm j l → l.updating ≡ false → LeavesInUse (volume_layout shape x.words) x k z l
leaves_touched shape x k y j changes z l ready leaves touched allowed words standing firm idle =
    let h = order_touched shape x k y j changes z l ready leaves touched allowed firm in
    record {
      words = subst (λ f. Agrees (volume_layout shape x.words) x.words f) (sym words) leaves.words;
      standing = subst (λ f. Agrees (volume_layout shape x.words) k.standing f) (sym standing) leaves.standing;
      has_shape = h.has_shape;
      named = h.named;
      firm = h.firm;
      idle = idle;
    }

pub ends_fault : {T : Type 0} (says : T → Reply → Type 0) (shape : VolumeShape) (x : Seen) (k : Kept) (y : Seen) (j : Kept) (changes : List NodeChange) (z : Seen) (l : Kept) (s : State) (a : Answered) (leads : ℕ → State → Type 0) → Ready shape x k → LeavesInUse (volume_layout shape x.words) x k y j → ReadsAs shape x.words s → Touched shape changes y z → MayTouch shape x.words changes → Commits {T = Unit {0}} shape changes y j z l (Err VolFault) → leads 0 s → FileEnds {T = T} says shape x k z l s a leads (Err (Fault 0))
ends_fault says shape x k y j changes z l s a leads ready leaves reads touched allowed (words, standing, firm, idle) none = (s, none, left_planned shape x k z l s ready (leaves_touched shape x k y j changes z l ready leaves touched allowed words standing firm idle) reads)

-- ---- it is stopped: all of it stands, or nothing

pub ends_stopped : {T : Type 0} (says : T → Reply → Type 0) (shape : VolumeShape) (x : Seen) (k : Kept) (y : Seen) (j : Kept) (changes : List NodeChange) (z : Seen) (l : Kept) (s : State) (a : Answered) (leads : ℕ → State → Type 0) → Ready shape x k → Settled x k → LeavesInUse (volume_layout shape x.words) x k y j → ReadsAs shape x.words s → Touched shape changes y z → MayTouch shape x.words changes → ((g : BlockWords) → AllApplied shape (map change_update changes) y.words g → Reaches shape x.words z j changes g a.next) → Commits {T = Unit {0}} shape changes y j z l (Err VolStopped) → FileEnds {T = T} says shape x k z l s a leads (Err Stopped)
ends_stopped says shape x k y j changes z l s a leads ready settled leaves reads touched allowed reach (inl (standing, firm)) =
    let agrees = subst (λ f. Agrees (volume_layout shape x.words) x.words f) (sym standing) (stands_left shape x k y j ready settled leaves) in (
      s,
      inl refl,
      record {
        ready = order_agree shape x.words l.standing z l (order_touched shape x k y j changes z l ready leaves touched allowed firm) agrees;
        reads = reads_agree shape x.words l.standing s reads agrees;
      },
    )
ends_stopped says shape x k y j changes z l s a leads ready settled leaves reads touched allowed reach (inr m) = (
  a.next,
  inr (inl refl),
  record {
    ready = order_agree shape m.made l.standing z l (firm_made shape x.words z j l changes m.made a.next r m.firm) agrees;
    reads = reads_agree shape m.made l.standing a.next r.reads agrees;
  },
)
  where
    r : Reaches shape x.words z j changes m.made a.next
    r = reach m.made m.applied

    agrees : Agrees (volume_layout shape m.made) m.made l.standing
    agrees = agrees_made shape x.words z j changes m.made a.next l.standing r m.stands
