-- Changes of nodes made one after the other in one update: what each makes of its node, and that names of cached pages stay
-- right from one to the next.
use Rattle.request_ends.proofs.Common.{◌≡◌, ◌≢◌, ℕ, ◌*◌, ◌<◌, ◌≤◌, ◌⊎◌, Bool, true, false, List, [], Option, refl, sym, ap, subst, ◌∙◌, arith, inl, inr, nat_lt, nat_tests, Block, Held, held, held_of, same_held, AllByRecursion, Contains, PageName, VolumeShape, CachesBy, BlockWords, Seen, IsIno, HasShape, reserved, Kept, numbers, Available, Change, Slot, AtPage, AtTable, Placed, HasSlot, Layout, volume_layout, placed_at, Owns, IsFree, lays_same, lays_self, lies_self, node_fits, SamePlaced, Applied, AllNamed, Bears, NamedNode, IsMapped, NodeFits, InOrder, IsEdited}
use Rattle.directories.specs.Plans.{MayBeMade, PlansDir, dir_update}
use Rattle.directories.proofs.MakingRules.{plan_change, plan_made}
use Rattle.directories.specs.declared.changes.DirChange.{DirChange}
use Rattle.std.proofs.Common.{None}
use Rattle.std.specs.Prelude.{◌&&◌, ◌%◌, cond, map}
use Rattle.rio_model.proofs.NodeChangeRules.{held_here, held_there, lays_replaced, node_there}
use Rattle.node_pages.specs.Changes.{word_edit}
use Rattle.rio_base.proofs.BlockSets.{caches_by_refl}
use Rattle.rio_base.specs.Rules.{firm_refl}
use Rattle.inode_table.specs.Inodes.{inode_words}
use Rattle.rio_model.proofs.PlacedRules.{with_placed}
use Rattle.rio_model.proofs.UpdateRules.{turned, turned_bits}
use Rattle.rio_model.specs.Updates.{EditsNode, Turns, Update}
use Rattle.rio_model.specs.VolumeRules.{IsLaid}
use Rattle.node_pages.proofs.OrderRules.{order_changed}
use Rattle.node_updates.proofs.EmptyHeld.{empty_held}
use Rattle.node_updates.specs.Changes.{IsGone, IsMade, change_update}
use Rattle.node_updates.specs.declared.changes.NodeChange.{NodeChange}

-- ---- names under what an update has cached

-- a block that may be newly cached without a name: reserved, free, or some node's that bears none
abbrev pub MayBeMetadata : Layout → ℕ → Type 0
MayBeMetadata l c = (c < reserved l.shape) ⊎ IsFree l c ⊎ ((i : ℕ) × (s : Slot) × Owns l i s × ((l.node i).block s ≡ c) × Bears i (l.node i) s None)

pub all_touched : (l : Layout) (bears : ℕ → Option PageName → Type 0) (y z : Seen) → IsLaid l → ((c : ℕ) (name : Option PageName) → bears c name → (name ≡ None) × MayBeMetadata l c) → CachesBy bears y z → AllNamed l y → AllNamed l z
all_touched l bears y z laid allowed caches h = record { each = λ i ino s has on. by i ino s has (caches.each _ on) }
  where
    at : (i : ℕ) (ino : IsIno l.shape i) (s : Slot) (has : HasSlot (l.node i) s) → (z.names ((l.node i).block s) ≡ None) × MayBeMetadata l ((l.node i).block s) → Bears i (l.node i) s (z.names ((l.node i).block s))
    at i ino s has (none, inl low) = absurd (let from = (laid.numbers.each i ino s has).0 in omega (arith, from, low))
    at i ino s has (none, inr (inl free)) = absurd (free.free (record { node = i; slot = s; owns = record { ino = ino; slot = has }; is = refl }))
    at i ino s has (none, inr (inr (j, t, own, e, bears))) =
        let one = laid.once.each j i t s own (record { ino = ino; slot = has }) e in
        subst (Bears i (l.node i) s) (sym none) (subst (λ u. Bears i (l.node i) u None) one.1 (subst (λ x. Bears x (l.node x) t None) one.0 bears))

    by : (i : ℕ) (ino : IsIno l.shape i) (s : Slot) (has : HasSlot (l.node i) s) → ((y.cached ((l.node i).block s) ≡ true) × (z.names ((l.node i).block s) ≡ y.names ((l.node i).block s))) ⊎ bears ((l.node i).block s) (z.names ((l.node i).block s)) → Bears i (l.node i) s (z.names ((l.node i).block s))
    by i ino s has (inl kept) = subst (Bears i (l.node i) s) (sym kept.1) (h.each i ino s has kept.0)
    by i ino s has (inr b) = at i ino s has (allowed _ _ b)

-- the start: nothing is changed yet, and the update's blocks are cached
pub order_start : (shape : VolumeShape) (f : BlockWords) (bears : ℕ → Option PageName → Type 0) (y z : Seen) (j : Kept) → InOrder shape f y j → HasShape shape z → ((c : ℕ) (name : Option PageName) → bears c name → (name ≡ None) × MayBeMetadata (volume_layout shape f) c) → CachesBy bears y z → InOrder shape f z j
order_start shape f bears y z j h has_shape allowed caches = record {
  has_shape = has_shape;
  mapped = h.mapped;
  named = all_touched (volume_layout shape f) bears y z h.mapped.laid allowed caches h.named;
  firm = h.firm;
}

-- one change of a node whose cached blocks bear their names
pub order_step : (shape : VolumeShape) (f g : BlockWords) (i : ℕ) (m : Placed) (z : Seen) (j : Kept) → InOrder shape f z j → Change (volume_layout shape f) f g i m → NamedNode i m z → ((s : Slot) → HasSlot m s → j.loose (m.block s) ≡ false) → InOrder shape g z j
order_step shape f g i m z j h change named firm = order_changed shape f g i m [] z j z j h change named firm (λ b on. absurd (none b on)) h.has_shape (caches_by_refl _ z) (firm_refl j)
  where
    none : (b : ℕ) → IsEdited [] b → ⊥
    none b (e, (t, few, at), is) = omega (arith, few)

-- ---- a change that an update makes

pub node_change : (shape : VolumeShape) (m : Placed) (u : Update) (g h : BlockWords) → Turns shape (placed_at g u.ino) m u → (u.ino ≡ 1 → m.kind ≡ 1) → ((s : Slot) → HasSlot m s → Available (volume_layout shape g) u.ino (m.block s)) → Applied shape u g h → Change (volume_layout shape g) g h u.ino m
node_change shape m u g h turns root from a = record {
  ino = turns.ino;
  does = turned shape (placed_at g u.ino) m u g h turns (lies_self g u.ino) a;
  bits = turned_bits shape (placed_at g u.ino) m u g h turns a;
  fits = turns.new_fits;
  root = root;
  from = from;
}

-- a node that has no blocks
abbrev pub bare : ℕ → Placed
bare kind = record { kind = kind; size = 0; block = λ s. 0 }

pub bare_none : (kind : ℕ) (s : Slot) → HasSlot (bare kind) s → ⊥
bare_none kind (AtPage p) has = let within = has.within in omega (arith, within)
bare_none kind (AtTable k) has = let within = has.within in omega (arith, within)

pub free_none : (g : BlockWords) (i : ℕ) (s : Slot) → (placed_at g i).kind ≡ 0 → HasSlot (placed_at g i) s → ⊥
free_none g i s free has = let used = has.used in omega (arith, used, free)

bare_fits : (shape : VolumeShape) (kind : ℕ) → kind ≤ 2 → NodeFits shape (bare kind)
bare_fits shape kind few = record {
  kind = omega (arith, few);
  size = λ used. record { most = omega arith; directory = λ dir. omega arith; region = λ region. omega (arith, region, few); region_pages = λ region. omega (arith, region, few) };
  from = λ s has. absurd (bare_none kind s has);
  to = λ s has. absurd (bare_none kind s has);
  apart = λ s t hs ht e. absurd (bare_none kind s hs);
}

no_block : (b : ℕ) → Contains (numbers []) b → ⊥
no_block b (t, few, at) = omega (arith, few)

-- a node is made in a free inode
pub made_turns : (shape : VolumeShape) (g : BlockWords) (i kind : ℕ) (c : NodeChange) → IsMapped shape g → IsMade i kind c → IsIno shape i → (placed_at g i).kind ≡ 0 → kind ≤ 2 → Turns shape (placed_at g i) (bare kind) (change_update c)
unfolding inode_words
made_turns shape g i kind c mapped made ino free few = record {
  shape_fits = mapped.laid.shape_fits;
  ino = subst (IsIno shape) (sym made.ino) ino;
  old_fits = node_fits (volume_layout shape g) i mapped.laid ino;
  new_fits = bare_fits shape kind few;
  gains = λ s has. absurd (bare_none kind s has);
  loses = λ s has. absurd (free_none g i s free has);
  taken = λ b on. absurd (no_block b (subst (λ bs. Contains (numbers bs) b) made.taken on));
  freed = λ b on. absurd (no_block b (subst (λ bs. Contains (numbers bs) b) made.freed on));
  edits = subst (λ es. AllByRecursion (EditsNode (bare kind)) (map word_edit es)) (sym made.edits) tt;
  kind = made.kind_is;
  size = made.size;
  direct = λ p low has. absurd (bare_none kind (AtPage p) has);
  indirect = λ k has. absurd (bare_none kind (AtTable k) has);
  later = λ f lies p past has. absurd (bare_none kind (AtPage p) has);
}

-- a node goes, and all its blocks with it
pub gone_turns : (shape : VolumeShape) (g : BlockWords) (i : ℕ) (blocks : List Block) (c : NodeChange) → IsMapped shape g → IsGone i blocks c → IsIno shape i → ((s : Slot) → HasSlot (placed_at g i) s → Contains (numbers blocks) ((placed_at g i).block s)) → ((b : ℕ) → Contains (numbers blocks) b → (s : Slot) × HasSlot (placed_at g i) s × ((placed_at g i).block s ≡ b)) → Turns shape (placed_at g i) (bare 0) (change_update c)
unfolding inode_words
gone_turns shape g i blocks c mapped gone ino all own = record {
  shape_fits = mapped.laid.shape_fits;
  ino = subst (IsIno shape) (sym gone.ino) ino;
  old_fits = node_fits (volume_layout shape g) i mapped.laid ino;
  new_fits = bare_fits shape 0 (omega arith);
  gains = λ s has. absurd (bare_none 0 s has);
  loses = λ s has. inr (subst (λ bs. Contains (numbers bs) ((placed_at g i).block s)) (sym gone.freed) (all s has));
  taken = λ b on. absurd (no_block b (subst (λ bs. Contains (numbers bs) b) gone.taken on));
  freed = λ b on. (own b (subst (λ bs. Contains (numbers bs) b) gone.freed on), λ s has. absurd (bare_none 0 s has));
  edits = subst (λ es. AllByRecursion (EditsNode (bare 0)) (map word_edit es)) (sym gone.edits) tt;
  kind = gone.kind_is;
  size = gone.size;
  direct = λ p low has. absurd (bare_none 0 (AtPage p) has);
  indirect = λ k has. absurd (bare_none 0 (AtTable k) has);
  later = λ f lies p past has. absurd (bare_none 0 (AtPage p) has);
}

-- ---- steps

-- what a step leaves: names are right, and every other node holds what it held
pub record Steps (shape : VolumeShape) (g h : BlockWords) (i : ℕ) (z : Seen) (j : Kept) : Type 0 where
  pub order : InOrder shape h z j
  pub others : (x : ℕ) → x ≢ i → held_of shape h x ≡ held_of shape g x
  pub lies : (x : ℕ) → IsIno shape x → x ≢ i → SamePlaced (placed_at g x) (placed_at h x)

pub step_of : (shape : VolumeShape) (g h : BlockWords) (i : ℕ) (m : Placed) (z : Seen) (j : Kept) → InOrder shape g z j → Change (volume_layout shape g) g h i m → NamedNode i m z → ((s : Slot) → HasSlot m s → j.loose (m.block s) ≡ false) → Steps shape g h i z j
step_of shape g h i m z j order change named firm = record {
  order = order_step shape g h i m z j order change named firm;
  others = λ x away. held_there shape g h i m order.mapped change x away;
  lies = λ x ino away. subst (λ (n : Placed). SamePlaced n (placed_at h x)) (node_there (volume_layout shape g) i m x away) ((lays_same (with_placed (volume_layout shape g) i m) h (lays_replaced (volume_layout shape g) g h i m order.mapped.laid (lays_self shape g) change)).each x ino);
}

pub bare_held : (h : BlockWords) (kind : ℕ) → held h (bare kind) ≡ empty_held kind
bare_held h kind = same_held _ _ refl size (λ y. word y)
  where
    size : (held h (bare kind)).size ≡ 0
    size = both (nat_lt 0 kind)
      where
        both : (b : Bool) → ◌≡◌ {A = ℕ} (cond b 0 0) 0
        both true = refl
        both false = refl

    word : (y : ℕ) → (held h (bare kind)).word y ≡ 0
    word y = let none : (nat_lt 0 kind && nat_lt (8 * y) 0) ≡ false = grind (arith, nat_tests) in ap (λ b. cond b (h 0 (y % 512)) 0) none

-- a node made
pub made_step : (shape : VolumeShape) (g h : BlockWords) (i kind : ℕ) (c : NodeChange) (z : Seen) (j : Kept) → InOrder shape g z j → IsMade i kind c → IsIno shape i → i ≢ 1 → (placed_at g i).kind ≡ 0 → kind ≤ 2 → Applied shape (change_update c) g h → Steps shape g h i z j × (held_of shape h i ≡ empty_held kind)
made_step shape g h i kind c z j order made ino other free few a = (
  step_of shape g h i (bare kind) z j order change (λ s has on. absurd (bare_none kind s has)) (λ s has. absurd (bare_none kind s has)),
  held_here shape g h i (bare kind) order.mapped change ∙ bare_held h kind,
)
  where
    change : Change (volume_layout shape g) g h i (bare kind)
    change = subst (λ x. Change (volume_layout shape g) g h x (bare kind)) made.ino
        (node_change shape (bare kind) (change_update c) g h (subst (λ x. Turns shape (placed_at g x) (bare kind) (change_update c)) (sym made.ino) (made_turns shape g i kind c order.mapped made ino free few)) (λ root. absurd (other (sym made.ino ∙ root))) (λ s has. absurd (bare_none kind s has)) a)

-- a node gone
pub gone_step : (shape : VolumeShape) (g h : BlockWords) (i : ℕ) (blocks : List Block) (c : NodeChange) (z : Seen) (j : Kept) → InOrder shape g z j → IsGone i blocks c → IsIno shape i → i ≢ 1 → ((s : Slot) → HasSlot (placed_at g i) s → Contains (numbers blocks) ((placed_at g i).block s)) → ((b : ℕ) → Contains (numbers blocks) b → (s : Slot) × HasSlot (placed_at g i) s × ((placed_at g i).block s ≡ b)) → Applied shape (change_update c) g h → Steps shape g h i z j × (held_of shape h i ≡ empty_held 0)
gone_step shape g h i blocks c z j order gone ino other all own a = (
  step_of shape g h i (bare 0) z j order change (λ s has on. absurd (bare_none 0 s has)) (λ s has. absurd (bare_none 0 s has)),
  held_here shape g h i (bare 0) order.mapped change ∙ bare_held h 0,
)
  where
    change : Change (volume_layout shape g) g h i (bare 0)
    change = subst (λ x. Change (volume_layout shape g) g h x (bare 0)) gone.ino
        (node_change shape (bare 0) (change_update c) g h (subst (λ x. Turns shape (placed_at g x) (bare 0) (change_update c)) (sym gone.ino) (gone_turns shape g i blocks c order.mapped gone ino all own)) (λ root. absurd (other (sym gone.ino ∙ root))) (λ s has. absurd (bare_none 0 s has)) a)

-- rows of a directory changed by a plan that may be made
pub dir_step : (shape : VolumeShape) (f : BlockWords) (y : Seen) (k : Kept) (d : ℕ) (becomes : Held → Held → Type 0) (c : DirChange) (g h : BlockWords) (z : Seen) (j : Kept) (p : PlansDir shape f y k d becomes c) → InOrder shape g z j → held_of shape g d ≡ held_of shape f d → MayBeMade shape (placed_at f d) p.node d y.words g → NamedNode d p.node z → ((s : Slot) → HasSlot p.node s → j.loose (p.node.block s) ≡ false) → Applied shape (dir_update c) g h → Steps shape g h d z j × becomes (held_of shape f d) (held_of shape h d)
dir_step shape f y k d becomes c g h z j p order still may named firm a = (
  step_of shape g h d p.node z j order (plan_change shape f y k d becomes c g h p may a) named firm,
  subst (λ x. becomes x (held_of shape h d)) still (plan_made shape f y k d becomes c g h p order.mapped still may a).own,
)
