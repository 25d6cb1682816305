-- Laws of plans: one that is made sets its directory's rows, and another one may still be made after it.
use Rattle.std.specs.Prelude.{◌≡◌, ℕ}
use Rattle.directories.proofs.Common.{VolumeShape, BlockWords, Seen, Held, held_of, Change, Slot, Placed, HasSlot, placed_at, volume_layout, AtPage, AtTable, Layout, IsFree, IsMapped, ◌≡◌, ◌≢◌, ℕ, ◌-◌, ◌/◌, ◌<◌, ◌≤◌, refl, sym, ap, subst, ◌∙◌, arith, inl, inr, cases_eq, IsIno, reserved, Kept, held_there, mapped_replaced, lays_self, Applied, LeavesInUse, Ready}
use Rattle.rio_model.specs.NodeChanges.{Available, BitsFollow, Replaces, Without}
use Rattle.rio_model.specs.Placed.{Lies, Owned, SamePlaced}
use Rattle.rio_base.specs.Bitmap.{used_bit}
use Rattle.rio_base.specs.Layout.{half}
use Rattle.rio_model.proofs.NodeChangeRules.{held_here, lays_replaced, node_here, node_there}
use Rattle.rio_model.proofs.PlacedRules.{with_placed, SameLayout, above_no_bitmap, direct_of, first_table, has_back, has_same, inode_low, later_of, lays_agree, lays_same, lies_of, lies_self, owned_back, table_of}
use Rattle.rio_model.proofs.UpdateRules.{turned, turned_bits, turned_held}
use Rattle.rio_model.specs.Updates.{Turns, Update}
use Rattle.directories.specs.Plans.{MayBeMade, PlansDir, dir_update}
use Rattle.directories.specs.declared.changes.DirChange.{DirChange}

-- blocks k are blocks g with the rows of directory d changed: every other node holds what it held
pub record SetsDir (shape : VolumeShape) (g k : BlockWords) (d : ℕ) (becomes : Held → Held → Type 0) : Type 0 where
  pub mapped : IsMapped shape k
  pub own : becomes (held_of shape g d) (held_of shape k d)
  pub others : (j : ℕ) → (j ≡ d → ⊥) → held_of shape k j ≡ held_of shape g j

-- ---- two descriptions of one node

same_trans : (n m o : Placed) → SamePlaced n m → SamePlaced m o → SamePlaced n o
same_trans n m o a b = record {
  kind = b.kind ∙ a.kind;
  size = λ used. b.size (omega (arith, used, a.kind)) ∙ a.size used;
  blocks = λ s has. b.blocks s (has_same n m s a has) ∙ a.blocks s has;
}

-- what says a node says it by each description of it
lies_as : (f : BlockWords) (i : ℕ) (n m : Placed) → 0 < n.kind → SamePlaced n m → Lies f i m → Lies f i n
lies_as f i n m used e h = lies_of f i n (h.kind ∙ e.kind) (h.size (omega (arith, used, e.kind)) ∙ e.size used)
    (λ p few has. direct_of f i m p h few (has_same n m (AtPage p) e has) ∙ e.blocks (AtPage p) has)
    (λ k has. table_of f i m k h (has_same n m (AtTable k) e has) ∙ e.blocks (AtTable k) has)
    (λ p past has. ap (λ b. half (f b ((p - 24) / 2)) p) (sym (e.blocks (AtTable 0) (first_table n p has past))) ∙ later_of f i m p h past (has_same n m (AtPage p) e has) ∙ e.blocks (AtPage p) has)

-- ---- an update that turns a node is a change of it, on any blocks that say the node

turned_change : (shape : VolumeShape) (n m : Placed) (u : Update) (g k : BlockWords) → 0 < n.kind → SamePlaced n (placed_at g u.ino) → Turns shape n m u → m.kind ≡ 1 → ((s : Slot) → HasSlot m s → Available (volume_layout shape g) u.ino (m.block s)) → Applied shape u g k → Change (volume_layout shape g) g k u.ino m
turned_change shape n m u g k used same turns dir from a = record {
  ino = turns.ino;
  does = record { lies = does.lies; beside = does.beside; elsewhere = λ b w away other old new. does.elsewhere b w away other (without_old b old) new };
  bits = record {
    gained = λ s has none. bits.gained s has (without_old _ none);
    lost = λ s has gone. ap (used_bit shape k) (at s has) ∙ bits.lost s (back s has) (subst (Without m) (at s has) gone);
    kept = λ s t hs ht e. ap (used_bit shape k) (at s hs) ∙ bits.kept s t (back s hs) ht (sym (at s hs) ∙ e) ∙ sym (ap (used_bit shape g) (at s hs));
    others = λ b within old new. bits.others b within (without_old b old) new;
  };
  fits = turns.new_fits;
  root = λ root. dir;
  from = from;
}
  where
    does : Replaces shape g k u.ino n m
    does = turned shape n m u g k turns (lies_as g u.ino n (placed_at g u.ino) used same (lies_self g u.ino)) a

    bits : BitsFollow shape g k n m
    bits = turned_bits shape n m u g k turns a

    back : (s : Slot) → HasSlot (placed_at g u.ino) s → HasSlot n s
    back s has = has_back n (placed_at g u.ino) s same has

    at : (s : Slot) → HasSlot (placed_at g u.ino) s → (placed_at g u.ino).block s ≡ n.block s
    at s has = same.blocks s (back s has)

    without_old : (b : ℕ) → Without (placed_at g u.ino) b → Without n b
    without_old b none s has e = none s (has_same n (placed_at g u.ino) s same has) (same.blocks s has ∙ e)

-- ---- a plan that is made

pub plan_change : (shape : VolumeShape) (f : BlockWords) (y : Seen) (j : Kept) (d : ℕ) (becomes : Held → Held → Type 0) (c : DirChange) (g k : BlockWords) (p : PlansDir shape f y j d becomes c) → MayBeMade shape (placed_at f d) p.node d y.words g → Applied shape (dir_update c) g k → Change (volume_layout shape g) g k d p.node
plan_change shape f y j d becomes c g k p may a =
    subst (λ i. Change (volume_layout shape g) g k i p.node) p.dir
    (turned_change shape (placed_at f d) p.node (dir_update c) g k (let dir = p.was_dir in omega (arith, dir)) (subst (λ i. SamePlaced (placed_at f d) (placed_at g i)) (sym p.dir) may.lies) p.turns p.is_dir (subst (λ i. (s : Slot) → HasSlot p.node s → Available (volume_layout shape g) i (p.node.block s)) (sym p.dir) may.from) a)

pub plan_made : (shape : VolumeShape) (f : BlockWords) (y : Seen) (j : Kept) (d : ℕ) (becomes : Held → Held → Type 0) (c : DirChange) (g k : BlockWords) (p : PlansDir shape f y j d becomes c) → IsMapped shape g → held_of shape g d ≡ held_of shape f d → MayBeMade shape (placed_at f d) p.node d y.words g → Applied shape (dir_update c) g k → SetsDir shape g k d becomes
plan_made shape f y j d becomes c g k p mapped still may a =
    let change = plan_change shape f y j d becomes c g k p may a in
    let now : held_of shape k d ≡ p.holds = held_here shape g k d p.node mapped change ∙ turned_held shape (placed_at f d) p.node (dir_update c) g k p.turns a ∙ p.made g may.same in
    record {
      mapped = mapped_replaced shape g k d p.node mapped change;
      own = subst (λ h. becomes h (held_of shape k d)) (sym still) (subst (becomes (held_of shape f d)) (sym now) p.does);
      others = λ i away. held_there shape g k d p.node mapped change i away;
    }

-- ---- another change before it

-- blocks of two nodes are apart
abbrev pub DisjointNodes : Placed → Placed → Type 0
DisjointNodes a b = (s t : Slot) → HasSlot a s → HasSlot b t → a.block s ≢ b.block t

-- a plan may still be made after a change of another node that has none of its blocks
pub may_still : (shape : VolumeShape) (n m a : Placed) (d i : ℕ) (f g k : BlockWords) → IsMapped shape g → Change (volume_layout shape g) g k i a → IsIno shape d → d ≢ i → DisjointNodes a m → MayBeMade shape n m d f g → MayBeMade shape n m d f k
may_still shape n m a d i f g k mapped change ino away apart may = record {
  lies = same_trans n (placed_at g d) (placed_at k d) may.lies still;
  same = λ s has w. block_still s has w ∙ may.same s has w;
  from = λ s has. by s has (may.from s has);
}
  where
    l : Layout
    l = volume_layout shape g

    layout : SameLayout (with_placed l i a) (volume_layout shape k)
    layout = lays_same (with_placed l i a) k (lays_replaced l g k i a mapped.laid (lays_self shape g) change)

    still : SamePlaced (placed_at g d) (placed_at k d)
    still = subst (λ (o : Placed). SamePlaced o (placed_at k d)) (node_there l i a d away) (layout.each d ino)

    without_old : (s : Slot) → HasSlot m s → Without (placed_at g i) (m.block s)
    without_old s has t own e = old (may.from s has)
      where
        old : Available l d (m.block s) → ⊥
        old (inl (u, mine, at)) = away (sym (mapped.laid.once.each i d t u (record { ino = change.ino; slot = own }) (record { ino = ino; slot = mine }) (e ∙ sym at)).0)
        old (inr free) = free.free (record { node = i; slot = t; owns = record { ino = change.ino; slot = own }; is = e })

    from_reserved : (s : Slot) → HasSlot m s → (reserved shape ≤ m.block s)
    from_reserved s has = low (may.from s has)
      where
        low : Available l d (m.block s) → reserved shape ≤ m.block s
        low (inl (u, mine, at)) = subst (λ b. reserved shape ≤ b) at (mapped.laid.numbers.each d ino u mine).0
        low (inr free) = free.from

    block_still : (s : Slot) → HasSlot m s → (w : ℕ) → k (m.block s) w ≡ g (m.block s) w
    block_still s has w =
        let above = from_reserved s has in
        change.does.elsewhere _ w (above_no_bitmap shape _ above) (λ e. let low = inode_low shape i mapped.laid.shape_fits change.ino in omega (arith, above, low, e)) (without_old s has) (λ t on e. apart t s on has e)

    by : (s : Slot) → HasSlot m s → Available l d (m.block s) → Available (volume_layout shape k) d (m.block s)
    by s has (inl (u, mine, at)) = inl (u, has_same (placed_at g d) (placed_at k d) u still mine, still.blocks u mine ∙ at)
    by s has (inr free) = inr (record { from = free.from; to = free.to; free = λ own. none (owned_back (with_placed l i a) (volume_layout shape k) (m.block s) layout own) })
      where
        none : Owned (with_placed l i a) (m.block s) → ⊥
        none o = elim (cases_eq o.node i) [
          | inl here ↦ apart o.slot s (subst (λ (x : Placed). HasSlot x o.slot) (ap (with_placed l i a).node here ∙ node_here l i a) o.owns.slot) has (sym (ap (λ (x : Placed). x.block o.slot) (ap (with_placed l i a).node here ∙ node_here l i a)) ∙ o.is)
          | inr other ↦ free.free (record { node = o.node; slot = o.slot; owns = record { ino = o.owns.ino; slot = subst (λ (x : Placed). HasSlot x o.slot) (node_there l i a o.node other) o.owns.slot }; is = sym (ap (λ (x : Placed). x.block o.slot) (node_there l i a o.node other)) ∙ o.is })
        ]

-- what the plan's call leaves it may be made on
pub may_begin : (shape : VolumeShape) (x : Seen) (k : Kept) (y : Seen) (j : Kept) (d : ℕ) (becomes : Held → Held → Type 0) (c : DirChange) (p : PlansDir shape x.words y j d becomes c) → IsIno shape d → Ready shape x k → LeavesInUse (volume_layout shape x.words) x k y j → MayBeMade shape (placed_at x.words d) p.node d y.words y.words
may_begin shape x k y j d becomes c p ino ready leaves = record { lies = same.each d ino; same = λ s has w. refl; from = λ s has. by (p.node.block s) (p.from s has) }
  where
    l : Layout
    l = volume_layout shape x.words

    same : SameLayout l (volume_layout shape y.words)
    same = lays_same l y.words (lays_agree l x.words y.words ready.order.mapped.laid.shape_fits (lays_self shape x.words) leaves.words)

    by : (b : ℕ) → Available l d b → Available (volume_layout shape y.words) d b
    by b (inl (t, has, e)) = inl (t, has_same _ _ t (same.each d ino) has, (same.each d ino).blocks t has ∙ e)
    by b (inr free) = inr (record { from = free.from; to = free.to; free = λ own. free.free (owned_back l (volume_layout shape y.words) b same own) })

-- and still after another call that only prepares, where the blocks that it takes read as they did
pub may_after : (shape : VolumeShape) (n m : Placed) (d : ℕ) (f : BlockWords) (x : Seen) (k : Kept) (y : Seen) (j : Kept) → IsIno shape d → IsMapped shape x.words → LeavesInUse (volume_layout shape x.words) x k y j → ((s : Slot) → HasSlot m s → IsFree (volume_layout shape x.words) (m.block s) → (w : ℕ) → y.words (m.block s) w ≡ x.words (m.block s) w) → MayBeMade shape n m d f x.words → MayBeMade shape n m d f y.words
may_after shape n m d f x k y j ino mapped leaves spared may = record {
  lies = same_trans n (placed_at x.words d) (placed_at y.words d) may.lies (same.each d ino);
  same = λ s has w. kept s has w (may.from s has) ∙ may.same s has w;
  from = λ s has. by (m.block s) (may.from s has);
}
  where
    l : Layout
    l = volume_layout shape x.words

    same : SameLayout l (volume_layout shape y.words)
    same = lays_same l y.words (lays_agree l x.words y.words mapped.laid.shape_fits (lays_self shape x.words) leaves.words)

    kept : (s : Slot) → HasSlot m s → (w : ℕ) → Available l d (m.block s) → y.words (m.block s) w ≡ x.words (m.block s) w
    kept s has w (inl (t, own, e)) = subst (λ b. y.words b w ≡ x.words b w) e (leaves.words.owned d t (record { ino = ino; slot = own }) w)
    kept s has w (inr free) = spared s has free w

    by : (b : ℕ) → Available l d b → Available (volume_layout shape y.words) d b
    by b (inl (t, has, e)) = inl (t, has_same _ _ t (same.each d ino) has, (same.each d ino).blocks t has ∙ e)
    by b (inr free) = inr (record { from = free.from; to = free.to; free = λ own. free.free (owned_back l (volume_layout shape y.words) b same own) })
