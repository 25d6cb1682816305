-- A request of one update while it is planned: the volume serves on, how the request ends where a call fails, that what is planned
-- can be committed, and what a commit of it comes to.
use Rattle.request_ends.proofs.Common.{◌≡◌, ◌≤◌, ◌<◌, ◌∙◌, ℕ, List, length, arith, refl, sym, ap, subst, Result, Ok, Err, VolFail, VolumeShape, Health, Seen, Below, Kept, Passes, Settled, Answered, Reply, State, answered, Held, held_of, placed_at, volume_layout, held_of_agree, reads_agree, ReadsAs, LeavesInUse, Ready, can_look_up, leaves_looked, leaves_trans, ready_left, NoneDone}
use Rattle.rio_base.specs.declared.failures.ReadFail.{ReadFail}
use Rattle.node_pages.specs.LookingUp.{CanLookUp, LooksUp}
use Rattle.node_updates.specs.Committing.{Commits, Touched}
use Rattle.request_ends.specs.Ends.{CanServe, FileEnds}
use Rattle.request_ends.specs.Failures.{fail_of_read, fail_of_vol}
use Rattle.node_updates.specs.Planned.{LeadsBy, Planned, told}
use Rattle.node_updates.specs.declared.changes.NodeChange.{NodeChange}
use Rattle.request_ends.specs.declared.failures.FileFail.{FileFail}
use Rattle.request_ends.proofs.AnsweredAt.{FailsBy, ends_look, fails_read}
use Rattle.node_updates.proofs.Forgotten.{forgets_committed}
use Rattle.region_view.proofs.UsedInodes.{kind_held, used_ino}
use Rattle.node_updates.proofs.Requested.{OrdersAll, ReachesAll, Requested, can_commit, committed, ends_committed, ends_uncommitted}

-- ---- after calls that only prepare

pub can_still : {shape : VolumeShape} {x : Seen} {k : Kept} {y : Seen} {j : Kept} → CanServe shape x k → LeavesInUse (volume_layout shape x.words) x k y j → CanServe shape y j
can_still {shape = shape} {x = x} {k = k} {y = y} {j = j} can leaves = record { ready = ready_left shape x k y j can.ready leaves; state = can.state; reads = reads_agree shape x.words y.words can.state can.reads leaves.words }

pub still : {shape : VolumeShape} {x : Seen} {k : Kept} {y : Seen} {j : Kept} → CanServe shape x k → LeavesInUse (volume_layout shape x.words) x k y j → held_of shape x.words ≡ held_of shape y.words
still {shape = shape} {x = x} {y = y} can leaves = sym (held_of_agree shape x.words y.words can.ready.order.mapped leaves.words)

-- a node's kind after calls that only prepare
pub kind_still : (shape : VolumeShape) (x : Seen) (k : Kept) (y : Seen) (j : Kept) (i : ℕ) → Ready shape x k → LeavesInUse (volume_layout shape x.words) x k y j → 0 < (held_of shape x.words i).kind → 0 < (placed_at y.words i).kind
kind_still shape x k y j i ready leaves used =
    let same = ap (λ (h : ℕ → Held). (h i).kind) (held_of_agree shape x.words y.words ready.order.mapped leaves.words) in
    let now = kind_held shape y.words i (used_ino shape x.words i used) in
    omega (arith, used, same, now)

pub used_still : {shape : VolumeShape} {x : Seen} {k : Kept} {y : Seen} {j : Kept} (i : ℕ) → CanServe shape x k → LeavesInUse (volume_layout shape x.words) x k y j → 0 < (held_of shape x.words i).kind → 0 < (placed_at y.words i).kind
used_still {shape = shape} {x = x} {k = k} {y = y} {j = j} i can leaves used = kind_still shape x k y j i can.ready leaves used

pub look_still : {shape : VolumeShape} {x : Seen} {k : Kept} → CanServe shape x k → CanLookUp shape x
look_still {shape = shape} {x = x} can = can_look_up shape x can.ready.order.has_shape can.ready.order.mapped can.ready.order.named

pub looked : {shape : VolumeShape} {x : Seen} {k : Kept} {y : Seen} {j : Kept} {s t : Health} {o n : Below} → CanServe shape x k → LooksUp shape x y → Passes s o k t n j → LeavesInUse (volume_layout shape x.words) x k y j
looked {shape = shape} {x = x} {k = k} {y = y} {j = j} {s = s} {t = t} {o = o} {n = n} can looks passes = leaves_looked shape s t o n x y k j can.ready looks passes

pub leaves_on : {shape : VolumeShape} {x : Seen} {k : Kept} {y : Seen} {j : Kept} {z : Seen} {l : Kept} → CanServe shape x k → LeavesInUse (volume_layout shape x.words) x k y j → LeavesInUse (volume_layout shape y.words) y j z l → LeavesInUse (volume_layout shape x.words) x k z l
leaves_on {shape = shape} {x = x} {k = k} {y = y} {j = j} {z = z} {l = l} can first second = leaves_trans shape x k y j z l can.ready first second

-- ---- a call fails

-- it failed so, and the request by it
abbrev pub FailsAs : {T : Type 0} → Result T FileFail → FileFail → Type 0
FailsAs r e = (d : FileFail) × (r ≡ Err d) × (d ≡ e)

pub ends_planning : {T : Type 0} {shape : VolumeShape} {x : Seen} {k : Kept} {y : Seen} {j : Kept} (says : T → Reply → Type 0) (s : State) (a : Answered) (r : Result T FileFail) (e : FileFail) → FailsAs r e → CanServe shape x k → Settled x k → LeavesInUse (volume_layout shape x.words) x k y j → ReadsAs shape x.words s → FailsBy s a e → FileEnds says shape x k y j s a (NoneDone s) r
ends_planning {shape = shape} {x = x} {k = k} {y = y} {j = j} says s a r e fell can settled leaves reads fails = ends_look says shape x k y j s a (NoneDone s) r e fell.0 fell.1 fell.2 can.ready settled leaves reads (refl, refl) fails

pub ends_unread : {T : Type 0} {shape : VolumeShape} {x : Seen} {k : Kept} {y : Seen} {j : Kept} (says : T → Reply → Type 0) (s : State) (a : Answered) (r : Result T FileFail) (e : ReadFail) → FailsAs r (fail_of_read e) → CanServe shape x k → Settled x k → LeavesInUse (volume_layout shape x.words) x k y j → ReadsAs shape x.words s → FileEnds says shape x k y j s a (NoneDone s) r
ends_unread says s a r e fell can settled leaves reads = ends_planning says s a r (fail_of_read e) fell can settled leaves reads (fails_read s a e)

-- ---- it is committed

pub planned : {shape : VolumeShape} {x : Seen} {k : Kept} {y : Seen} {j : Kept} {items changes : List NodeChange} → items ≡ changes → length changes ≤ 3 → Requested shape x k y j changes → ((z : Seen) → OrdersAll shape x k y j z changes) → Planned shape x y j items
planned {shape = shape} {x = x} {k = k} {y = y} {j = j} {items = items} {changes = changes} is few h orders = record {
  has_shape = h.leaves.has_shape;
  idle = h.leaves.idle;
  can = can_commit shape x k y j items changes is few h;
  forgets = λ z l commits touched gone. forgets_committed shape x k y j z l items changes (Ok tt) tt refl is (committed shape x k y j z l items changes (Ok tt) is h commits touched) (orders z) gone;
}

-- by the state that the changes come to
pub planned_reached : {shape : VolumeShape} {x : Seen} {k : Kept} {y : Seen} {j : Kept} {items changes : List NodeChange} → items ≡ changes → length changes ≤ 3 → Requested shape x k y j changes → (t : State) → ((z : Seen) → ReachesAll shape x k y j z changes t) → Planned shape x y j items
planned_reached is few h t reach = planned is few h (λ z pre g applied. (reach z pre g applied).order)

pub leads : {shape : VolumeShape} {x : Seen} {k : Kept} {y : Seen} {j : Kept} {items changes : List NodeChange} (reply : Reply) (s : State) (a : Answered) (t : State) → items ≡ changes → Requested shape x k y j changes → ((z : Seen) → ReachesAll shape x k y j z changes t) → a ≡ answered t reply → ReadsAs shape x.words s → LeadsBy reply shape x k y j s a items
leads {shape = shape} {x = x} {k = k} {y = y} {j = j} {items = items} {changes = changes} reply s a t is h reach done reads = record { ends = by }
  where
    by : (z : Seen) (l : Kept) (r : Result (Unit {0}) VolFail) → Commits shape items y j z l r → Touched shape items y z → FileEnds (λ (u : Unit {0}) said. said ≡ reply) shape x k z l s a (NoneDone s) (told r)
    by z l (Ok u) commits touched = ends_committed (λ (v : Unit {0}) said. said ≡ reply) u shape x k y j z l changes (Ok u) u s a t reply (NoneDone s) refl (committed shape x k y j z l items changes (Ok u) is h commits touched) (reach z) done refl
    by z l (Err e) commits touched = ends_uncommitted (λ (v : Unit {0}) said. said ≡ reply) shape x k y j z l changes (Err e) (Err (fail_of_vol e)) e (fail_of_vol e) s a t reply (NoneDone s) refl refl refl (committed shape x k y j z l items changes (Err e) is h commits touched) (reach z) done reads (refl, refl)

-- the commit answered, and the request as it did
pub ends_told : (reply : Reply) (shape : VolumeShape) (x : Seen) (k : Kept) (y : Seen) (j : Kept) (s : State) (a : Answered) (r : Result (Unit {0}) VolFail) (q : Result (Unit {0}) FileFail) → q ≡ told r → FileEnds (λ u said. said ≡ reply) shape x k y j s a (NoneDone s) (told r) → FileEnds (λ u said. said ≡ reply) shape x k y j s a (NoneDone s) q
ends_told reply shape x k y j s a r q is h = subst (λ (v : Result (Unit {0}) FileFail). FileEnds (λ u said. said ≡ reply) shape x k y j s a (NoneDone s) v) (sym is) h

pub told_err : (r : Result (Unit {0}) VolFail) (q : Result (Unit {0}) FileFail) (e : VolFail) → r ≡ Err e → FailsAs q (fail_of_vol e) → q ≡ told r
told_err r q e re fell = fell.1 ∙ ap Err fell.2 ∙ sym (ap (λ (v : Result (Unit {0}) VolFail). told v) re)
