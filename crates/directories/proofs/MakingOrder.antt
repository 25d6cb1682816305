-- A volume in order stays so while a plan is made: its blocks are touched, and the directory is then the planned one.
use Rattle.directories.proofs.Common.{◌≡◌, ◌≢◌, ℕ, zero, suc, ◌<◌, ◌≤◌, ◌⊎◌, true, false, List, [], ◌∷◌, map, sym, ap, subst, ◌∙◌, arith, inl, inr, Option, None, Contains, cases_eq, PageName, VolumeShape, CachesBy, BlockWords, Seen, IsIno, inode_block, HasShape, reserved, Firm, Kept, Held, mapped_replaced, Change, Slot, AtPage, AtTable, Placed, HasSlot, Layout, volume_layout, Owns, lays_self, AllNamed, Bears, Firmly, numbers, word_edit, firm_on, IsEdited, IsUpdated, Edit}
use Rattle.std.specs.List.{AllByRecursion}
use Rattle.rio_model.proofs.NodeChangeRules.{laid_replaced, lays_replaced, node_here, node_there}
use Rattle.rio_model.proofs.PlacedRules.{with_placed, inode_low, lays_same}
use Rattle.rio_model.specs.Updates.{EditsNode}
use Rattle.rio_model.specs.VolumeRules.{IsLaid}
use Rattle.node_pages.proofs.OrderRules.{firm_layout}
use Rattle.rio_model.proofs.NamedRules.{named_layout}
use Rattle.rio_model.specs.VolumeReady.{InOrder}
use Rattle.node_pages.specs.Updating.{CanUpdate}
use Rattle.directories.specs.Plans.{PlansDir}
use Rattle.directories.specs.declared.changes.DirChange.{DirChange}

-- a block without a name bears what a directory's may bear
bears_none : (d : ℕ) (n : Placed) (s : Slot) (name : Option PageName) → n.kind ≡ 1 → name ≡ None → Bears d n s name
bears_none d n (AtTable k) name dir none = none
bears_none d n (AtPage p) name dir none = subst (Bears d n (AtPage p)) (sym none) dir

-- what the touches of a plan cache: blocks of the directory alone, and reserved ones
dir_cached : (l : Layout) (d : ℕ) (edits : List Edit) (y z : Seen) → IsLaid l → IsIno l.shape d → (l.node d).kind ≡ 1 → ((b : ℕ) → IsEdited edits b → (t : Slot) × HasSlot (l.node d) t × ((l.node d).block t ≡ b)) → CachesBy (IsUpdated d edits) y z → AllNamed l y → AllNamed l z
dir_cached l d edits y z laid ino dir in_node caches h = record { each = λ j jno s has on. by j jno s has (caches.each _ on) }
  where
    low_out : (j : ℕ) (s : Slot) (b : ℕ) → Owns l j s → b < reserved l.shape → (l.node j).block s ≡ b → ⊥
    low_out j s b own low e = let from = (laid.numbers.each j own.ino s own.slot).0 in omega (arith, from, low, e)

    in_edit : (j : ℕ) (s : Slot) (name : Option PageName) → Owns l j s → IsEdited edits ((l.node j).block s) → name ≡ None → Bears j (l.node j) s name
    in_edit j s name own on none =
        let at = in_node _ on in
        let once = laid.once.each j d s at.0 own (record { ino = ino; slot = at.1 }) (sym at.2) in
        bears_none j (l.node j) s name (ap (λ i. (l.node i).kind) once.0 ∙ dir) none

    by : (j : ℕ) (jno : IsIno l.shape j) (s : Slot) (has : HasSlot (l.node j) s) → ((y.cached ((l.node j).block s) ≡ true) × (z.names ((l.node j).block s) ≡ y.names ((l.node j).block s))) ⊎ IsUpdated d edits ((l.node j).block s) (z.names ((l.node j).block s)) → Bears j (l.node j) s (z.names ((l.node j).block s))
    by j jno s has (inl kept) = subst (Bears j (l.node j) s) (sym kept.1) (h.each j jno s has kept.0)
    by j jno s has (inr (inl one, none)) = absurd (low_out j s 1 (record { ino = jno; slot = has }) (omega arith) one)
    by j jno s has (inr (inr (inl inode), none)) = absurd (low_out j s (inode_block d) (record { ino = jno; slot = has }) (inode_low l.shape d laid.shape_fits ino) inode)
    by j jno s has (inr (inr (inr edited), none)) = in_edit j s _ (record { ino = jno; slot = has }) edited none

-- the layout with the planned directory, before anything is touched
named_with : (l : Layout) (d : ℕ) (m : Placed) (y : Seen) → AllNamed l y → m.kind ≡ 1 → ((s : Slot) → HasSlot m s → y.cached (m.block s) ≡ true → y.names (m.block s) ≡ None) → AllNamed (with_placed l d m) y
named_with l d m y h dir none = record { each = λ j ino s has on. by j ino s has on (cases_eq j d) }
  where
    here : (n : Placed) (j : ℕ) (s : Slot) → n ≡ m → HasSlot n s → y.cached (n.block s) ≡ true → Bears j n s (y.names (n.block s))
    here n j s e has on = subst (λ (o : Placed). Bears j o s (y.names (o.block s))) (sym e) (bears_none j m s _ dir (none s (subst (λ (o : Placed). HasSlot o s) e has) (subst (λ (o : Placed). y.cached (o.block s) ≡ true) e on)))

    there : (n : Placed) (j : ℕ) (s : Slot) → n ≡ l.node j → IsIno l.shape j → HasSlot n s → y.cached (n.block s) ≡ true → Bears j n s (y.names (n.block s))
    there n j s e ino has on = subst (λ (o : Placed). Bears j o s (y.names (o.block s))) (sym e) (h.each j ino s (subst (λ (o : Placed). HasSlot o s) e has) (subst (λ (o : Placed). y.cached (o.block s) ≡ true) e on))

    by : (j : ℕ) → IsIno l.shape j → (s : Slot) → HasSlot ((with_placed l d m).node j) s → y.cached (((with_placed l d m).node j).block s) ≡ true → (j ≡ d) ⊎ (j ≢ d) → Bears j ((with_placed l d m).node j) s (y.names (((with_placed l d m).node j).block s))
    by j ino s has on (inl same) = here ((with_placed l d m).node j) j s (ap (with_placed l d m).node same ∙ node_here l d m) has on
    by j ino s has on (inr away) = there ((with_placed l d m).node j) j s (node_there l d m j away) ino has on

firm_with : (l : Layout) (d : ℕ) (m : Placed) (k : Kept) → Firmly l k → ((s : Slot) → HasSlot m s → k.loose (m.block s) ≡ false) → Firmly (with_placed l d m) k
firm_with l d m k h firm = record {
  low = h.low;
  owned = λ j s own. elim (cases_eq j d) [
    | inl same ↦ by_node ((with_placed l d m).node j) m s (ap (with_placed l d m).node same ∙ node_here l d m) own.slot firm
    | inr away ↦ by_node ((with_placed l d m).node j) (l.node j) s (node_there l d m j away) own.slot (λ t has. h.owned j t (record { ino = own.ino; slot = has }))
  ];
}
  where
    by_node : (n p : Placed) (s : Slot) → n ≡ p → HasSlot n s → ((t : Slot) → HasSlot p t → k.loose (p.block t) ≡ false) → k.loose (n.block s) ≡ false
    by_node n p s e has all = ap (λ (q : Placed). k.loose (q.block s)) e ∙ all s (subst (λ (q : Placed). HasSlot q s) e has)

-- blocks f in order as y reads them; z has the blocks of a plan touched, and g is f with the plan made: then g is in order
pub order_made : (shape : VolumeShape) (f g : BlockWords) (d : ℕ) (m : Placed) (edits : List Edit) (y : Seen) (j : Kept) (z : Seen) (k : Kept) → InOrder shape f y j → Change (volume_layout shape f) f g d m → m.kind ≡ 1 → ((s : Slot) → HasSlot m s → y.cached (m.block s) ≡ true → y.names (m.block s) ≡ None) → ((s : Slot) → HasSlot m s → j.loose (m.block s) ≡ false) → ((b : ℕ) → IsEdited edits b → (t : Slot) × HasSlot m t × (m.block t ≡ b)) → HasShape shape z → CachesBy (IsUpdated d edits) y z → Firm j k → InOrder shape g z k
order_made shape f g d m edits y j z k h change dir unnamed loose in_node has_shape caches firm =
    let l = with_placed (volume_layout shape f) d m in
    let laid = laid_replaced (volume_layout shape f) f g d m h.mapped.laid change in
    let same = lays_same l g (lays_replaced (volume_layout shape f) f g d m h.mapped.laid (lays_self shape f) change) in
    record {
      has_shape = has_shape;
      mapped = mapped_replaced shape f g d m h.mapped change;
      named = named_layout l g z same (dir_cached l d edits y z laid change.ino (ap (λ (n : Placed). n.kind) at ∙ dir) (λ b on. own b (in_node b on)) caches (named_with (volume_layout shape f) d m y h.named dir unnamed));
      firm = firm_layout l g k same (firm_on l j k (firm_with (volume_layout shape f) d m j h.firm loose) firm);
    }
  where
    at : (with_placed (volume_layout shape f) d m).node d ≡ m
    at = node_here (volume_layout shape f) d m

    own : (b : ℕ) → ((t : Slot) × HasSlot m t × (m.block t ≡ b)) → (t : Slot) × HasSlot ((with_placed (volume_layout shape f) d m).node d) t × (((with_placed (volume_layout shape f) d m).node d).block t ≡ b)
    own b (t, has, e) = (t, subst (λ (n : Placed). HasSlot n t) (sym at) has, ap (λ (n : Placed). n.block t) at ∙ e)

-- ---- what a plan's edits are of

edits_node : (m : Placed) (es : List Edit) (e : Edit) → AllByRecursion (EditsNode m) (map word_edit es) → Contains es e → (t : Slot) × HasSlot m t × (m.block t ≡ e.block.0)
edits_node m [] e all (k, few, is) = absurd (omega (arith, few))
edits_node m (d ∷ es) e all (zero, few, is) = subst (λ (x : Edit). (t : Slot) × HasSlot m t × (m.block t ≡ x.block.0)) is all.0
edits_node m (d ∷ es) e all (suc k, few, is) = edits_node m es e all.1 (k, omega (arith, few), is)

-- blocks that the directory is to have
pub plan_edits : (shape : VolumeShape) (f : BlockWords) (y : Seen) (j : Kept) (d : ℕ) (becomes : Held → Held → Type 0) (c : DirChange) (p : PlansDir shape f y j d becomes c) → (b : ℕ) → IsEdited c.edits b → (t : Slot) × HasSlot p.node t × (p.node.block t ≡ b)
plan_edits shape f y j d becomes c p b (e, on, at) = let node = edits_node p.node c.edits e p.turns.edits on in (node.0, node.1, node.2 ∙ at)

-- so it can be made
pub plan_applies : (shape : VolumeShape) (f : BlockWords) (y : Seen) (j : Kept) (d : ℕ) (becomes : Held → Held → Type 0) (c : DirChange) → PlansDir shape f y j d becomes c → CanUpdate shape c.edits (numbers c.taken) (numbers c.freed)
plan_applies shape f y j d becomes c p = record {
  words = p.words;
  from = λ e on. (let at = edits_node p.node c.edits e p.turns.edits on in subst (λ b. reserved shape ≤ b) at.2 (p.turns.new_fits.from at.0 at.1));
  to = λ e on. (let at = edits_node p.node c.edits e p.turns.edits on in subst (λ b. b < shape.blocks) at.2 (p.turns.new_fits.to at.0 at.1));
  taken = λ b on. (let at = (p.turns.taken b on).0 in subst (λ x. x < shape.blocks) at.2 (p.turns.new_fits.to at.0 at.1));
  freed = λ b on. (let at = (p.turns.freed b on).0 in subst (λ x. x < shape.blocks) at.2 (p.turns.old_fits.to at.0 at.1));
  apart = λ b taken freed. (let at = (p.turns.taken b taken).0 in (p.turns.freed b freed).1 at.0 at.1 at.2);
}
