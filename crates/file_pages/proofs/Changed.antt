-- A change of size that was made: what file i holds then, and that every other node holds what it held. Before it pages of
-- node i, and free blocks, may have been stored to.
use Rattle.file_pages.proofs.Common.{◌≡◌, ◌≢◌, ℕ, List, [], ◌∷◌, map, sym, ap, subst, ◌∙◌, inl, inr, AllByRecursion, VolumeShape, used_bit, BlockWords, IsIno, numbers, Held, held, held_bytes, Change, SetsFile, Slot, AtPage, AtTable, Placed, HasSlot, placed_at, Layout, volume_layout, AgreesBeside, has_same, lays_same, lays_self, owned_back, table_page, Applied, Turns, WordEdit, edited, IsMapped, lays_beside, mapped_beside}
use Rattle.rio_model.proofs.HeldRules.{held_agree}
use Rattle.rio_model.proofs.LowestBlocks.{bits_agree, lowest_applied}
use Rattle.rio_model.proofs.NodeChangeRules.{held_here, held_there, mapped_replaced}
use Rattle.rio_model.specs.NodeChanges.{AreLowest, Available, BitsFollow, Without}
use Rattle.rio_model.specs.Placed.{Lies, SamePlaced}
use Rattle.rio_model.proofs.PlacedRules.{Lays, has_back, lies_same}
use Rattle.rio_model.proofs.UpdateRules.{edited_out, turned, turned_bits, turned_held}
use Rattle.rio_model.proofs.WordRules.{held_beside}
use Rattle.node_pages.specs.Changes.{EditsTable, size_update, word_edit}
use Rattle.node_pages.specs.declared.changes.Edit.{Edit}
use Rattle.node_pages.specs.declared.changes.SizeChange.{SizeChange}

-- the change is one of the node as the blocks say it when it is made
pub changed : (shape : VolumeShape) (f g k : BlockWords) (i : ℕ) (m : Placed) (c : SizeChange) → IsMapped shape f → IsIno shape i → AgreesBeside (volume_layout shape f) i f g → Turns shape (placed_at f i) m (size_update i c) → (i ≡ 1 → m.kind ≡ 1) → ((s : Slot) → HasSlot m s → Available (volume_layout shape f) i (m.block s)) → Applied shape (size_update i c) g k → Change (volume_layout shape g) g k i m
changed shape f g k i m c h ino beside turns root from a = record {
  ino = ino;
  does = (let r = turned shape (placed_at f i) m (size_update i c) g k turns lies a in record { lies = r.lies; beside = r.beside; elsewhere = λ b w away other old new. r.elsewhere b w away other (without_old b old) new });
  bits = record {
    gained = λ s has none. bits.gained s has (without_old _ none);
    lost = λ s has gone. ap (used_bit shape k) (at s has) ∙ bits.lost s (back s has) (subst (Without m) (at s has) gone);
    kept = λ s t hs ht e. ap (used_bit shape k) (at s hs) ∙ bits.kept s t (back s hs) ht (sym (at s hs) ∙ e) ∙ sym (ap (used_bit shape g) (at s hs));
    others = λ b within old new. bits.others b within (without_old b old) new;
  };
  fits = turns.new_fits;
  root = root;
  from = λ s has. available_now _ (from s has);
}
  where
    l : Layout
    l = volume_layout shape f

    lays : Lays l g
    lays = lays_beside l i f g h.laid (lays_self shape f) beside

    lies : Lies g i (placed_at f i)
    lies = lays.each i ino

    same : SamePlaced (placed_at f i) (placed_at g i)
    same = lies_same g i (placed_at f i) lies

    bits : BitsFollow shape g k (placed_at f i) m
    bits = turned_bits shape (placed_at f i) m (size_update i c) g k turns a

    back : (s : Slot) → HasSlot (placed_at g i) s → HasSlot (placed_at f i) s
    back s has = has_back (placed_at f i) (placed_at g i) s same has

    at : (s : Slot) → HasSlot (placed_at g i) s → (placed_at g i).block s ≡ (placed_at f i).block s
    at s has = same.blocks s (back s has)

    without_old : (b : ℕ) → Without (placed_at g i) b → Without (placed_at f i) b
    without_old b none s has e = none s (has_same (placed_at f i) (placed_at g i) s same has) (same.blocks s has ∙ e)

    available_now : (b : ℕ) → Available l i b → Available (volume_layout shape g) i b
    available_now b (inl (t, has, e)) = inl (t, has_same (placed_at f i) (placed_at g i) t same has, same.blocks t has ∙ e)
    available_now b (inr free) = inr (record { from = free.from; to = free.to; free = λ own. free.free (owned_back l (volume_layout shape g) b (lays_same l g lays) own) })

no_page : (shape : VolumeShape) (m : Placed) (p : ℕ) (es : List Edit) → ((s t : Slot) → HasSlot m s → HasSlot m t → m.block s ≡ m.block t → s ≡ t) → HasSlot m (AtPage p) → AllByRecursion (EditsTable m) es → AllByRecursion (λ (e : WordEdit). e.block ≢ m.block (AtPage p)) (map word_edit es)
no_page shape m p [] apart has each = tt
no_page shape m p (e ∷ es) apart has each = ((λ same. table_page each.0.0.0 p (apart (AtTable each.0.0.0) (AtPage p) each.0.0.1 has (each.0.0.2 ∙ same))), no_page shape m p es apart has each.1)

-- edits of tables leave the pages what they hold
pub tables_held : (shape : VolumeShape) (n m : Placed) (i : ℕ) (c : SizeChange) (g k : BlockWords) → Turns shape n m (size_update i c) → AllByRecursion (EditsTable m) c.edits → Applied shape (size_update i c) g k → held k m ≡ held g m
tables_held shape n m i c g k turns tables a = turned_held shape n m (size_update i c) g k turns a ∙ held_agree g (edited g (map word_edit c.edits)) m (λ p has w. edited_out (map word_edit c.edits) g _ w (no_page shape m p c.edits turns.new_fits.apart has tables))

pub file_changed : (shape : VolumeShape) (f g k : BlockWords) (i : ℕ) (m : Placed) (c : SizeChange) → IsMapped shape f → AgreesBeside (volume_layout shape f) i f g → Change (volume_layout shape g) g k i m → Turns shape (placed_at f i) m (size_update i c) → AllByRecursion (EditsTable m) c.edits → AreLowest shape f (numbers c.taken) → Applied shape (size_update i c) g k → m.kind ≡ 2 → SetsFile shape f k i (held_bytes (held g m))
file_changed shape f g k i m c h beside change turns tables lowest a kind =
    let mapped = mapped_beside shape i f g h beside in
    let own = held_here shape g k i m mapped change in
    record {
      mapped = mapped_replaced shape g k i m mapped change;
      kind = ap (λ (d : Held). d.kind) own ∙ kind;
      own = ap held_bytes (own ∙ tables_held shape (placed_at f i) m i c g k turns tables a);
      others = λ j away. held_there shape g k i m mapped change j away ∙ held_beside shape i f g h beside j away;
      lowest = lowest_applied shape f g k (size_update i c) h.laid.shape_fits (bits_agree shape f g h.laid.shape_fits beside.low) lowest a;
    }
