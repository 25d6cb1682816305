-- A plan of a directory as it stands when all of a request is prepared, and the change that it is once the update is made.
use Rattle.request_ends.proofs.Common.{◌≡◌, ℕ, ◌<◌, true, false, Option, refl, sym, subst, ◌∙◌, inl, inr, PageName, VolumeShape, used_bit, CachesBy, BlockWords, Seen, IsIno, Kept, Held, held_of, Available, Slot, AtPage, AtTable, Placed, HasSlot, placed_at, volume_layout, Applied, Bears, LeavesInUse, NamedNode, Ready, IsMapped, InOrder, IsEdited}
use Rattle.directories.specs.Plans.{MayBeMade, PlansDir, dir_update}
use Rattle.directories.specs.declared.changes.DirChange.{DirChange}
use Rattle.directories.proofs.MakingOrder.{plan_edits}
use Rattle.std.proofs.Common.{None}
use Rattle.directories.proofs.MakingRules.{may_begin}
use Rattle.node_updates.proofs.Steps.{MayBeMetadata, Steps, dir_step}

-- x is the volume before the request, y and j are it when all is prepared
pub record Stood (shape : VolumeShape) (x y : Seen) (j : Kept) (d : ℕ) (becomes : Held → Held → Type 0) (c : DirChange) : Type 0 where
  -- the blocks over which it was planned, and the volume after that call
  pub was : BlockWords
  pub seen : Seen
  pub kept : Kept
  pub plan : PlansDir shape was seen kept d becomes c
  pub same : held_of shape was d ≡ held_of shape x.words d
  pub bits : (b : ℕ) → b < shape.blocks → used_bit shape x.words b ≡ used_bit shape was b
  pub may : MayBeMade shape (placed_at was d) plan.node d seen.words y.words
  pub firm : (s : Slot) → HasSlot plan.node s → j.loose (plan.node.block s) ≡ false
  pub unnamed : (s : Slot) → HasSlot plan.node s → y.cached (plan.node.block s) ≡ true → y.names (plan.node.block s) ≡ None

-- right after its call. x0 is before the request, x and k are before the call
pub stood_now : (shape : VolumeShape) (x0 x : Seen) (k : Kept) (y : Seen) (j : Kept) (d : ℕ) (becomes : Held → Held → Type 0) (c : DirChange) → Ready shape x k → LeavesInUse (volume_layout shape x.words) x k y j → IsIno shape d → held_of shape x.words d ≡ held_of shape x0.words d → ((b : ℕ) → b < shape.blocks → used_bit shape x0.words b ≡ used_bit shape x.words b) → PlansDir shape x.words y j d becomes c → Stood shape x0 y j d becomes c
stood_now shape x0 x k y j d becomes c ready leaves ino same bits plan = record {
  was = x.words;
  seen = y;
  kept = j;
  plan = plan;
  same = same;
  bits = bits;
  may = may_begin shape x k y j d becomes c plan ino ready leaves;
  firm = plan.firm;
  unnamed = plan.unnamed;
}

-- ---- names once the update's blocks are cached

-- what is cached anew has no name
pub unnamed_cached : (bears : ℕ → Option PageName → Type 0) (y z : Seen) (b : ℕ) → ((c : ℕ) (name : Option PageName) → bears c name → name ≡ None) → CachesBy bears y z → (y.cached b ≡ true → y.names b ≡ None) → z.cached b ≡ true → z.names b ≡ None
unnamed_cached bears y z b none caches was on = elim (caches.each b on) [ inl kept ↦ kept.1 ∙ was kept.0 | inr new ↦ none b _ new ]

bears_none : (d : ℕ) (n : Placed) (s : Slot) (name : Option PageName) → n.kind ≡ 1 → name ≡ None → Bears d n s name
bears_none d n (AtTable k) name dir none = none
bears_none d n (AtPage p) name dir none = subst (Bears d n (AtPage p)) (sym none) dir

pub stood_named : (shape : VolumeShape) (x y : Seen) (j : Kept) (d : ℕ) (becomes : Held → Held → Type 0) (c : DirChange) (bears : ℕ → Option PageName → Type 0) (z : Seen) (h : Stood shape x y j d becomes c) → ((b : ℕ) (name : Option PageName) → bears b name → name ≡ None) → CachesBy bears y z → NamedNode d h.plan.node z
stood_named shape x y j d becomes c bears z h none caches s has on = bears_none d h.plan.node s _ h.plan.is_dir (unnamed_cached bears y z _ none caches (h.unnamed s has) on)

-- ---- the plan made, on blocks g in which the directory still holds what it held

pub stood_step : (shape : VolumeShape) (x y : Seen) (j : Kept) (d : ℕ) (becomes : Held → Held → Type 0) (c : DirChange) (bears : ℕ → Option PageName → Type 0) (z : Seen) (g k : BlockWords) (h : Stood shape x y j d becomes c) → ((b : ℕ) (name : Option PageName) → bears b name → name ≡ None) → CachesBy bears y z → InOrder shape g z j → held_of shape g d ≡ held_of shape x.words d → MayBeMade shape (placed_at h.was d) h.plan.node d h.seen.words g → Applied shape (dir_update c) g k → Steps shape g k d z j × becomes (held_of shape x.words d) (held_of shape k d)
stood_step shape x y j d becomes c bears z g k h none caches order still may a =
    let made = dir_step shape h.was h.seen h.kept d becomes c g k z j h.plan order (still ∙ sym h.same) may (stood_named shape x y j d becomes c bears z h none caches) h.firm a in
    (made.0, subst (λ o. becomes o (held_of shape k d)) h.same made.1)

-- ---- what an update of it touches may be cached without a name

pub stood_touched : (shape : VolumeShape) (x y : Seen) (j : Kept) (d : ℕ) (becomes : Held → Held → Type 0) (c : DirChange) (h : Stood shape x y j d becomes c) → IsMapped shape y.words → IsIno shape d → (b : ℕ) → IsEdited c.edits b → MayBeMetadata (volume_layout shape y.words) b
stood_touched shape x y j d becomes c h mapped ino b on = by (plan_edits shape h.was h.seen h.kept d becomes c h.plan b on)
  where
    by : (t : Slot) × HasSlot h.plan.node t × (h.plan.node.block t ≡ b) → MayBeMetadata (volume_layout shape y.words) b
    by (t, has, at) = subst (MayBeMetadata (volume_layout shape y.words)) at (from (h.may.from t has))
      where
        from : Available (volume_layout shape y.words) d (h.plan.node.block t) → MayBeMetadata (volume_layout shape y.words) (h.plan.node.block t)
        from (inl (u, own, e)) = inr (inr (d, u, record { ino = ino; slot = own }, e, bears_none d (placed_at y.words d) u None (h.may.lies.kind ∙ h.plan.was_dir) refl))
        from (inr free) = inr (inl free)
