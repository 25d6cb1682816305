-- Blocks that are forgotten: those that a change of a node frees, which are all that no node has any more.
use Rattle.file_pages.proofs.Common.{◌≡◌, ◌≢◌, ℕ, ◌≤◌, sym, ap, subst, ◌∙◌, inl, inr, Contains, cases_eq, VolumeShape, BlockWords, Seen, IsIno, Kept, numbers, Inode, same_old, lays_replaced, node_here, node_there, Change, Slot, Placed, HasSlot, placed_at, Layout, volume_layout, Owned, Owns, with_placed, SameLayout, has_same, lays_same, lays_self, Turns, lays_beside}
use Rattle.rio_model.proofs.GrowthRules.{grown_has}
use Rattle.rio_model.proofs.PlacedRules.{owned_on}
use Rattle.rio_model.specs.Updates.{Update}
use Rattle.node_pages.specs.Changes.{PlansFor, given_node, planned_node, size_update}
use Rattle.node_pages.specs.Staging.{Forgets, Uncached}
use Rattle.file_pages.specs.Preparing.{Prepared}
use Rattle.node_pages.specs.declared.changes.SizeChange.{SizeChange}
use Rattle.node_pages.proofs.Given.{given_of}

-- a block of l that no node has in k, where l but for node i is p, and k is p with node i as m, is one that the update frees
pub lost_freed : (l p k : Layout) (i : ℕ) (m : Placed) (u : Update) (b : ℕ) → SameLayout l p → SameLayout (with_placed p i m) k → IsIno p.shape i → Turns p.shape (l.node i) m u → Owned l b → (Owned k b → ⊥) → Contains u.freed b
lost_freed l p k i m u b same changed ino turns o out = elim (cases_eq o.node i) [
  | inl own ↦ here own
  | inr away ↦ absurd (there away)
]
  where
    still : (j : ℕ) (s : Slot) → Owns (with_placed p i m) j s → ((with_placed p i m).node j).block s ≡ b → ⊥
    still j s own is = out (owned_on (with_placed p i m) k b changed (record { node = j; slot = s; owns = own; is = is }))

    there : o.node ≢ i → ⊥
    there away =
        let each = same.each o.node o.owns.ino in
        let put_is = node_there p i m o.node away in
        still o.node o.slot
        (record { ino = subst (λ sh. IsIno sh o.node) (sym same.shape) o.owns.ino; slot = subst (λ (n : Placed). HasSlot n o.slot) (sym put_is) (has_same (l.node o.node) (p.node o.node) o.slot each o.owns.slot) })
        (ap (λ (n : Placed). n.block o.slot) put_is ∙ each.blocks o.slot o.owns.slot ∙ o.is)

    kept : (s t : Slot) → HasSlot m t → m.block t ≡ (l.node i).block s → (l.node i).block s ≡ b → ⊥
    kept s t has is at =
        let put_is = node_here p i m in
        still i t (record { ino = ino; slot = subst (λ (n : Placed). HasSlot n t) (sym put_is) has }) (ap (λ (n : Placed). n.block t) put_is ∙ is ∙ at)

    here : o.node ≡ i → Contains u.freed b
    here own =
        let has : HasSlot (l.node i) o.slot = subst (λ j. HasSlot (l.node j) o.slot) own o.owns.slot in
        let at : (l.node i).block o.slot ≡ b = sym (ap (λ j. (l.node j).block o.slot) own) ∙ o.is in
        elim (turns.loses o.slot has) [
          | inl t ↦ absurd (kept o.slot t.0 t.1 t.2 at)
          | inr on ↦ subst (Contains u.freed) at on
        ]

-- a prepared change is made, and then nothing in use differs: where the blocks that it frees are not cached, none is that
-- lost its node
pub prepared_forgets : (shape : VolumeShape) (f : BlockWords) (y : Seen) (j : Kept) (i : ℕ) (m : Placed) (c : SizeChange) (g : BlockWords) (w : Seen) → Prepared shape f y j i m c → Change (volume_layout shape y.words) y.words g i m → SameLayout (volume_layout shape g) (volume_layout shape w.words) → Uncached (Contains (numbers c.freed)) w → Forgets (volume_layout shape f) (volume_layout shape w.words) w
prepared_forgets shape f y j i m c g w h change last gone = λ b lost. gone b (lost_freed before p (volume_layout shape g) i m (size_update i c) b stored made h.ino h.turns lost.0 (λ o. lost.1 (owned_on (volume_layout shape g) (volume_layout shape w.words) b last o)))
  where
    before : Layout
    before = volume_layout shape f

    p : Layout
    p = volume_layout shape y.words

    stored : SameLayout before p
    stored = lays_same before y.words (lays_beside before i f y.words h.mapped.laid (lays_self shape f) h.beside)

    made : SameLayout (with_placed p i m) (volume_layout shape g)
    made = lays_same (with_placed p i m) g (lays_replaced p y.words g i m h.ready.order.mapped.laid (lays_self shape y.words) change)

-- a node that grows loses no block
pub grown_frees : (shape : VolumeShape) (f : BlockWords) (i : ℕ) (given : Inode) (len : ℕ) (c : SizeChange) → PlansFor f i given → given.size ≤ len → Turns shape (placed_at f i) (planned_node f i given len c) (size_update i c) → (b : ℕ) → Contains (numbers c.freed) b → ⊥
grown_frees shape f i given len c plans grows turns b on =
    let at = turns.freed b on in
    let has = (given_of f i given plans).on at.0.0 at.0.1 in
    at.1 at.0.0 (grown_has (given_node f i given) len (numbers c.taken) at.0.0 grows has) (same_old (given_node f i given) len (numbers c.taken) at.0.0 has ∙ at.0.2)
