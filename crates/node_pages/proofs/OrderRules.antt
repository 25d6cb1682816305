-- What a call that prepares a change leaves in order, and what an update of one node leaves so.
use Rattle.node_pages.proofs.Common.{◌≡◌, ℕ, ◌<◌, ◌⊎◌, Bool, true, false, List, refl, sym, ap, subst, ◌∙◌, arith, inl, inr, Option, None, cases_eq, PageName, VolumeShape, CachesBy, BlockWords, Health, Seen, IsIno, inode_block, HasShape, reserved, Below, Firm, Kept, Passes, Settled, lays_replaced, node_here, node_there, Change, Slot, AtTable, Placed, HasSlot, Layout, volume_layout, Owns, IsFree, Agrees, with_placed, SameLayout, has_same, inode_low, lays_same, lays_self, stands_agree, AllNamed, Bears, LeavesInUse, NamedNode, Ready, IsLaid}
use Rattle.rio_model.proofs.NodeChangeRules.{laid_replaced, mapped_replaced}
use Rattle.rio_model.proofs.NamedRules.{bears_same, named_layout}
use Rattle.rio_model.proofs.PlacedRules.{has_back, lays_agree, mapped_agree}
use Rattle.rio_model.specs.Placed.{SamePlaced}
use Rattle.rio_model.specs.VolumeReady.{Firmly, InOrder, StandsReady}
use Rattle.node_pages.specs.LookingUp.{LooksUp}
use Rattle.node_pages.proofs.LookingUpRules.{named_on}
use Rattle.node_pages.specs.Staging.{Beside}
use Rattle.node_pages.specs.Updating.{IsEdited, IsUpdated, TableOrFree}
use Rattle.node_pages.specs.declared.changes.Edit.{Edit}

-- ---- ready, and in order

pub ready_order : (shape : VolumeShape) (x : Seen) (k : Kept) → InOrder shape x.words x k → k.updating ≡ false → Ready shape x k
ready_order shape x k h idle = record { order = h; idle = idle }

-- ---- the same layout

pub firm_layout : (l : Layout) (g : BlockWords) (k : Kept) → SameLayout l (volume_layout l.shape g) → Firmly l k → Firmly (volume_layout l.shape g) k
firm_layout l g k e h = record {
  low = h.low;
  owned = λ i s own.
      let same = e.each i own.ino in
      let was = has_back (l.node i) _ s same own.slot in
      ap k.loose (same.blocks s was) ∙ h.owned i s (record { ino = own.ino; slot = was });
}

-- by words that agree on the blocks in use
pub order_agree : (shape : VolumeShape) (f g : BlockWords) (y : Seen) (j : Kept) → InOrder shape f y j → Agrees (volume_layout shape f) f g → InOrder shape g y j
order_agree shape f g y j h a =
    let l = volume_layout shape f in
    let same = lays_same l g (lays_agree l f g h.mapped.laid.shape_fits (lays_self shape f) a) in
    record {
      has_shape = h.has_shape;
      mapped = mapped_agree shape f g h.mapped a;
      named = named_layout l g y same h.named;
      firm = firm_layout l g j same h.firm;
    }

pub agrees_refl : (l : Layout) (f : BlockWords) → Agrees l f f
agrees_refl l f = record { low = λ b w low. refl; owned = λ i s own w. refl }

pub agrees_trans : (l : Layout) (f g h : BlockWords) → Agrees l f g → Agrees l g h → Agrees l f h
agrees_trans l f g h a b = record {
  low = λ c w low. b.low c w low ∙ a.low c w low;
  owned = λ i s own w. b.owned i s own w ∙ a.owned i s own w;
}

-- ---- a call that prepares a change

pub order_left : (shape : VolumeShape) (x : Seen) (k : Kept) (y : Seen) (j : Kept) → Ready shape x k → LeavesInUse (volume_layout shape x.words) x k y j → InOrder shape x.words y j
order_left shape x k y j h m = record { has_shape = m.has_shape; mapped = h.order.mapped; named = m.named; firm = m.firm }

-- leaves the volume ready
pub ready_left : (shape : VolumeShape) (x : Seen) (k : Kept) (y : Seen) (j : Kept) → Ready shape x k → LeavesInUse (volume_layout shape x.words) x k y j → Ready shape y j
ready_left shape x k y j h m = ready_order shape y j (order_agree shape x.words y.words y j (order_left shape x k y j h m) m.words) m.idle

-- what stands agrees with what read before
pub stands_left : (shape : VolumeShape) (x : Seen) (k : Kept) (y : Seen) (j : Kept) → Ready shape x k → Settled x k → LeavesInUse (volume_layout shape x.words) x k y j → Agrees (volume_layout shape x.words) x.words j.standing
stands_left shape x k y j h settled m = agrees_trans (volume_layout shape x.words) x.words k.standing j.standing (stands_agree (volume_layout shape x.words) x k settled h.idle h.order.firm) m.standing

-- and ready to be started again
pub stands_ready_left : (shape : VolumeShape) (x : Seen) (k : Kept) (y : Seen) (j : Kept) → Ready shape x k → Settled x k → LeavesInUse (volume_layout shape x.words) x k y j → StandsReady shape y j
stands_ready_left shape x k y j h settled m = order_agree shape x.words j.standing y j (order_left shape x k y j h m) (stands_left shape x k y j h settled m)

pub leaves_refl : (shape : VolumeShape) (x : Seen) (k : Kept) → Ready shape x k → LeavesInUse (volume_layout shape x.words) x k x k
leaves_refl shape x k h = record { words = agrees_refl _ x.words; standing = agrees_refl _ k.standing; has_shape = h.order.has_shape; named = h.order.named; firm = h.order.firm; idle = h.idle }

not_true : (a b : Bool) → (a ≡ true → b ≡ true) → b ≡ false → a ≡ false
not_true true b f e = sym (f refl) ∙ e
not_true false b f e = refl

pub firm_on : (l : Layout) (k j : Kept) → Firmly l k → Firm k j → Firmly l j
firm_on l k j h f = record {
  low = λ b low. not_true (j.loose b) (k.loose b) (f.loose b) (h.low b low);
  owned = λ i s own. not_true (j.loose ((l.node i).block s)) (k.loose ((l.node i).block s)) (f.loose _) (h.owned i s own);
}

-- a call that only looks up
pub leaves_looked : (shape : VolumeShape) (s t : Health) (o n : Below) (x y : Seen) (k j : Kept) → Ready shape x k → LooksUp shape x y → Passes s o k t n j → LeavesInUse (volume_layout shape x.words) x k y j
leaves_looked shape s t o n x y k j h looks passes = record {
  words = record { low = λ b w low. ap (λ (f : BlockWords). f b w) looks.looks.words; owned = λ i t own w. ap (λ (f : BlockWords). f (((volume_layout shape x.words).node i).block t) w) looks.looks.words };
  standing = record { low = λ b w low. ap (λ (f : BlockWords). f b w) passes.standing; owned = λ i t own w. ap (λ (f : BlockWords). f (((volume_layout shape x.words).node i).block t) w) passes.standing };
  has_shape = looks.still.has_shape;
  named = named_on shape x y h.order.mapped h.order.named looks;
  firm = firm_on _ k j h.order.firm passes.firm;
  idle = passes.updating ∙ h.idle;
}

-- a call that changes free blocks alone
pub leaves_beside : (shape : VolumeShape) (inside : ℕ → Type 0) (x : Seen) (k : Kept) (y : Seen) (j : Kept) → Ready shape x k → ((b : ℕ) → inside b → IsFree (volume_layout shape x.words) b) → Beside inside x k y j → j.updating ≡ false → LeavesInUse (volume_layout shape x.words) x k y j
leaves_beside shape inside x k y j h free b idle = record {
  words = record { low = λ c w low. b.words.others c w (low_out c low); owned = λ i s own w. b.words.others _ w (own_out i s own) };
  standing = record { low = λ c w low. b.standing.others c w (low_out c low); owned = λ i s own w. b.standing.others _ w (own_out i s own) };
  has_shape = record {
    sizes = h.order.has_shape.sizes;
    count = b.count ∙ h.order.has_shape.count;
    unnamed = λ c low on. let was = kept c (low_out c low) on in was.1 ∙ h.order.has_shape.unnamed c low was.0;
  };
  named = record { each = λ i ino s has on. let was = kept _ (own_out i s (record { ino = ino; slot = has })) on in subst (Bears i (l.node i) s) (sym was.1) (h.order.named.each i ino s has was.0) };
  firm = record {
    low = λ c low. not_true (j.loose c) (k.loose c) (b.firm.loose c (low_out c low)) (h.order.firm.low c low);
    owned = λ i s own. not_true (j.loose ((l.node i).block s)) (k.loose ((l.node i).block s)) (b.firm.loose _ (own_out i s own)) (h.order.firm.owned i s own);
  };
  idle = idle;
}
  where
    l : Layout
    l = volume_layout shape x.words

    low_out : (c : ℕ) → c < reserved shape → inside c → ⊥
    low_out c low on = let from = (free c on).from in omega (arith, from, low)

    own_out : (i : ℕ) (s : Slot) → Owns l i s → inside ((l.node i).block s) → ⊥
    own_out i s own on = (free ((l.node i).block s) on).free (record { node = i; slot = s; owns = own; is = refl })

    kept : (c : ℕ) → (inside c → ⊥) → y.cached c ≡ true → (x.cached c ≡ true) × (y.names c ≡ x.names c)
    kept c out on = elim (b.caches.each c on) [ inl was ↦ was | inr in_set ↦ absurd (out in_set) ]

-- one such call and then another
pub leaves_trans : (shape : VolumeShape) (x : Seen) (k : Kept) (y : Seen) (j : Kept) (z : Seen) (i : Kept) → Ready shape x k → LeavesInUse (volume_layout shape x.words) x k y j → LeavesInUse (volume_layout shape y.words) y j z i → LeavesInUse (volume_layout shape x.words) x k z i
leaves_trans shape x k y j z i h a b = record {
  words = agrees_trans l x.words y.words z.words a.words (back y.words z.words b.words);
  standing = agrees_trans l k.standing j.standing i.standing a.standing (back j.standing i.standing b.standing);
  has_shape = b.has_shape;
  named = record {
    each = λ p ino s has on.
        let at = same_at p ino s has in
        bears_back p ino s has (b.named.each p ino s (has_on p ino s has) (subst (λ c. z.cached c ≡ true) (sym at) on));
  };
  firm = record { low = b.firm.low; owned = λ p s own. ap i.loose (sym (same_at p own.ino s own.slot)) ∙ b.firm.owned p s (record { ino = own.ino; slot = has_on p own.ino s own.slot }) };
  idle = b.idle;
}
  where
    l : Layout
    l = volume_layout shape x.words

    m : Layout
    m = volume_layout shape y.words

    same : SameLayout l m
    same = lays_same l y.words (lays_agree l x.words y.words h.order.mapped.laid.shape_fits (lays_self shape x.words) a.words)

    has_on : (p : ℕ) → IsIno shape p → (s : Slot) → HasSlot (l.node p) s → HasSlot (m.node p) s
    has_on p ino s has = has_same (l.node p) (m.node p) s (same.each p ino) has

    same_at : (p : ℕ) → IsIno shape p → (s : Slot) → HasSlot (l.node p) s → (m.node p).block s ≡ (l.node p).block s
    same_at p ino s has = (same.each p ino).blocks s has

    bears_back : (p : ℕ) → (ino : IsIno shape p) → (s : Slot) → (has : HasSlot (l.node p) s) → Bears p (m.node p) s (z.names ((m.node p).block s)) → Bears p (l.node p) s (z.names ((l.node p).block s))
    bears_back p ino s has h = subst (λ c. Bears p (l.node p) s (z.names c)) (same_at p ino s has) (bears_same p (m.node p) (l.node p) s _ (turned_round p ino has.used) (has_on p ino s has).used h)
      where
        turned_round : (p : ℕ) → (ino : IsIno shape p) → 0 < (l.node p).kind → SamePlaced (m.node p) (l.node p)
        turned_round p ino used = record { kind = sym (same.each p ino).kind; size = λ u. sym ((same.each p ino).size used); blocks = λ t ht. sym ((same.each p ino).blocks t (has_back (l.node p) (m.node p) t (same.each p ino) ht)) }

    back : (f g : BlockWords) → Agrees m f g → Agrees l f g
    back f g h = record {
      low = h.low;
      owned = λ p s own w. ap (λ c. g c w) (sym (same_at p own.ino s own.slot)) ∙ h.owned p s (record { ino = own.ino; slot = has_on p own.ino s own.slot }) w ∙ ap (λ c. f c w) (same_at p own.ino s own.slot);
    }

all_cached : (l : Layout) (i : ℕ) (edits : List Edit) (y z : Seen) → IsLaid l → IsIno l.shape i → TableOrFree l i edits → CachesBy (IsUpdated i edits) y z → AllNamed l y → AllNamed l z
all_cached l i edits y z laid ino tables caches h = record { each = λ j jno s has on. by j jno s has (caches.each _ on) }
  where
    low_out : (j : ℕ) (s : Slot) (b : ℕ) → Owns l j s → b < reserved l.shape → (l.node j).block s ≡ b → ⊥
    low_out j s b own low e = let from = (laid.numbers.each j own.ino s own.slot).0 in omega (arith, from, low, e)

    in_edit : (j : ℕ) (s : Slot) (name : Option PageName) → Owns l j s → IsEdited edits ((l.node j).block s) → name ≡ None → Bears j (l.node j) s name
    in_edit j s name own on none = elim (tables _ on) [
      | inl free ↦ absurd (free.free (record { node = j; slot = s; owns = own; is = refl }))
      | inr tab ↦ (let once = laid.once.each j i s (AtTable tab.0) own tab.1 (sym tab.2) in subst (λ t. Bears j (l.node j) t name) (sym once.1) none)
    ]

    by : (j : ℕ) (jno : IsIno l.shape j) (s : Slot) (has : HasSlot (l.node j) s) → ((y.cached ((l.node j).block s) ≡ true) × (z.names ((l.node j).block s) ≡ y.names ((l.node j).block s))) ⊎ IsUpdated i edits ((l.node j).block s) (z.names ((l.node j).block s)) → Bears j (l.node j) s (z.names ((l.node j).block s))
    by j jno s has (inl kept) = subst (Bears j (l.node j) s) (sym kept.1) (h.each j jno s has kept.0)
    by j jno s has (inr (inl one, none)) = absurd (low_out j s 1 (record { ino = jno; slot = has }) (omega arith) one)
    by j jno s has (inr (inr (inl inode), none)) = absurd (low_out j s (inode_block i) (record { ino = jno; slot = has }) (inode_low l.shape i laid.shape_fits ino) inode)
    by j jno s has (inr (inr (inr edited), none)) = in_edit j s _ (record { ino = jno; slot = has }) edited none

-- the layout as it was is still in order
pub order_touched : (shape : VolumeShape) (f : BlockWords) (i : ℕ) (edits : List Edit) (y : Seen) (j : Kept) (z : Seen) (k : Kept) → IsIno shape i → InOrder shape f y j → TableOrFree (volume_layout shape f) i edits → HasShape shape z → CachesBy (IsUpdated i edits) y z → Firm j k → InOrder shape f z k
order_touched shape f i edits y j z k ino h tables has_shape caches firm = record {
  has_shape = has_shape;
  mapped = h.mapped;
  named = all_cached (volume_layout shape f) i edits y z h.mapped.laid ino tables caches h.named;
  firm = firm_on _ j k h.firm firm;
}

all_with : (l : Layout) (i : ℕ) (m : Placed) (y : Seen) → AllNamed l y → NamedNode i m y → AllNamed (with_placed l i m) y
all_with l i m y h named = record {
  each = λ j ino. elim (cases_eq j i) [
    | inl same ↦ subst (λ (n : Placed). NamedNode j n y) (sym (ap (with_placed l i m).node same ∙ node_here l i m)) (subst (λ x. NamedNode x m y) (sym same) named)
    | inr away ↦ subst (λ (n : Placed). NamedNode j n y) (sym (node_there l i m j away)) (h.each j ino)
  ];
}

firm_with : (l : Layout) (i : ℕ) (m : Placed) (k : Kept) → Firmly l k → ((s : Slot) → HasSlot m s → k.loose (m.block s) ≡ false) → Firmly (with_placed l i m) k
firm_with l i m k h firm = record {
  low = h.low;
  owned = λ j s own. elim (cases_eq j i) [
    | inl same ↦ by_node ((with_placed l i m).node j) m s (ap (with_placed l i m).node same ∙ node_here l i m) own.slot firm
    | inr away ↦ by_node ((with_placed l i m).node j) (l.node j) s (node_there l i m j away) own.slot (λ t has. h.owned j t (record { ino = own.ino; slot = has }))
  ];
}
  where
    by_node : (n p : Placed) (s : Slot) → n ≡ p → HasSlot n s → ((t : Slot) → HasSlot p t → k.loose (p.block t) ≡ false) → k.loose (n.block s) ≡ false
    by_node n p s e has all = ap (λ (q : Placed). k.loose (q.block s)) e ∙ all s (subst (λ (q : Placed). HasSlot q s) e has)

-- and so is the changed one, by words with the change
pub order_changed : (shape : VolumeShape) (f g : BlockWords) (i : ℕ) (m : Placed) (edits : List Edit) (y : Seen) (j : Kept) (z : Seen) (k : Kept) → InOrder shape f y j → Change (volume_layout shape f) f g i m → NamedNode i m y → ((s : Slot) → HasSlot m s → j.loose (m.block s) ≡ false) → ((b : ℕ) → IsEdited edits b → (t : ℕ) × HasSlot m (AtTable t) × (m.block (AtTable t) ≡ b)) → HasShape shape z → CachesBy (IsUpdated i edits) y z → Firm j k → InOrder shape g z k
order_changed shape f g i m edits y j z k h change named loose tables has_shape caches firm =
    let l = with_placed (volume_layout shape f) i m in
    let laid = laid_replaced (volume_layout shape f) f g i m h.mapped.laid change in
    let same = lays_same l g (lays_replaced (volume_layout shape f) f g i m h.mapped.laid (lays_self shape f) change) in
    record {
      has_shape = has_shape;
      mapped = mapped_replaced shape f g i m h.mapped change;
      named = named_layout l g z same (all_cached l i edits y z laid change.ino (λ b on. inr (own b (tables b on))) caches (all_with (volume_layout shape f) i m y h.named named));
      firm = firm_layout l g k same (firm_on l j k (firm_with (volume_layout shape f) i m j h.firm loose) firm);
    }
  where
    own : (b : ℕ) → ((t : ℕ) × HasSlot m (AtTable t) × (m.block (AtTable t) ≡ b)) → (t : ℕ) × Owns (with_placed (volume_layout shape f) i m) i (AtTable t) × (((with_placed (volume_layout shape f) i m).node i).block (AtTable t) ≡ b)
    own b (t, has, e) = (t, record { ino = change.ino; slot = subst (λ (n : Placed). HasSlot n (AtTable t)) (sym (node_here (volume_layout shape f) i m)) has }, ap (λ (n : Placed). n.block (AtTable t)) (node_here (volume_layout shape f) i m) ∙ e)
