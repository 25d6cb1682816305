-- Laws of updates: what the edits and the stored inode of an update leave where, and that an update which says a node is a
-- change of it.
use Rattle.rio_model.proofs.Common.{◌≡◌, ◌≢◌, ℕ, zero, suc, ◌+◌, ◌-◌, ◌*◌, ◌/◌, ◌%◌, ◌<◌, ◌≤◌, ◌==◌, ◌&&◌, ◌⊎◌, Bool, true, false, cond, List, [], ◌∷◌, ◌++◌, refl, sym, ap, ◌∙◌, arith, inl, inr, nat_lt, not, slice_index, cases_eq, nat_tests, VolumeShape, BlockWords, inode_block, inode_word, IsIno, reserved, put}
use Rattle.std.proofs.Common.{◌^◌}
use Rattle.std.specs.List.{AllByRecursion}
use Rattle.rio_base.specs.Layout.{inode_place, half}
use Rattle.rio_base.specs.Shapes.{IsShape}
use Rattle.rio_model.specs.Held.{held}
use Rattle.rio_model.proofs.HeldRules.{held_agree}
use Rattle.rio_model.specs.NodeChanges.{Without, Replaces, BitsFollow}
use Rattle.rio_model.specs.Placed.{Slot, AtPage, AtTable, Placed, HasSlot, Lies}
use Rattle.rio_model.proofs.PlacedRules.{first_table, lies_of, inode_low, inode_no_bitmap, above_no_bitmap}
use Rattle.rio_model.specs.Updates.{WordEdit, edited, run_edits, with_inode, Update, Applied, EditsNode, Turns}
use Rattle.rio_model.specs.VolumeRules.{bitmap_bits, NodeFits}
use Rattle.rio_model.proofs.WordRules.{itself, put_other, put_beside, put_here, run_same_but}

-- ---- an inode stored

pub inode_stored : (f : BlockWords) (i : ℕ) (words : List ℕ) (w : ℕ) → w < 16 → inode_word (with_inode f i words) i w ≡ slice_index words w
inode_stored f i words w few =
    let place : (inode_place i + w) - inode_place i ≡ w = omega arith in
    let both : ((inode_block i == inode_block i) && (not (nat_lt (inode_place i + w) (inode_place i)) && nat_lt (inode_place i + w) (inode_place i + 16))) ≡ true = ap (λ b. b && (not (nat_lt (inode_place i + w) (inode_place i)) && nat_lt (inode_place i + w) (inode_place i + 16))) (itself (inode_block i)) ∙ within (inode_place i) w few in
    ap (λ b. cond b (slice_index words ((inode_place i + w) - inode_place i)) (f (inode_block i) (inode_place i + w))) both ∙ ap (slice_index words) place
  where
    within : (p w : ℕ) → w < 16 → (not (nat_lt (p + w) p) && nat_lt (p + w) (p + 16)) ≡ true
    within p w few = grind (arith, nat_tests, few)

pub inode_beside : (f : BlockWords) (i : ℕ) (words : List ℕ) (b w : ℕ) → (w < inode_place i) ⊎ (inode_place i + 16 ≤ w) → with_inode f i words b w ≡ f b w
inode_beside f i words b w out = by_case (b == inode_block i) (beyond (inode_place i) w out)
  where
    beyond : (p w : ℕ) → (w < p) ⊎ (p + 16 ≤ w) → (not (nat_lt w p) && nat_lt w (p + 16)) ≡ false
    beyond p w (inl low) = grind (arith, nat_tests, low)
    beyond p w (inr high) = grind (arith, nat_tests, high)

    by_case : (t : Bool) → (not (nat_lt w (inode_place i)) && nat_lt w (inode_place i + 16)) ≡ false → cond (t && (not (nat_lt w (inode_place i)) && nat_lt w (inode_place i + 16))) (slice_index words (w - inode_place i)) (f b w) ≡ f b w
    by_case true e = ap (λ t. cond t (slice_index words (w - inode_place i)) (f b w)) e
    by_case false e = refl

pub inode_elsewhere : (f : BlockWords) (i : ℕ) (words : List ℕ) (b w : ℕ) → b ≢ inode_block i → with_inode f i words b w ≡ f b w
inode_elsewhere f i words b w away = (run_same_but f (inode_block i) (inode_place i) 16 words).others b w away

-- ---- edits

-- a block that no edit is in
pub edited_out : (edits : List WordEdit) (f : BlockWords) (b w : ℕ) → AllByRecursion (λ (e : WordEdit). e.block ≢ b) edits → edited f edits b w ≡ f b w
edited_out [] f b w out = refl
edited_out (e ∷ edits) f b w out = edited_out edits (put f e.block e.word e.value) b w out.1 ∙ put_other f e.block e.word e.value b w (λ same. out.0 (sym same))

-- edits are made one list after the other
pub edited_on : (first : List WordEdit) (second : List WordEdit) (f : BlockWords) → edited f (first ++ second) ≡ edited (edited f first) second
edited_on [] second f = refl
edited_on (e ∷ first) second f = edited_on first second (put f e.block e.word e.value)

pub run_out : (count first : ℕ) (f : BlockWords) (b : ℕ) (value : ℕ → ℕ) (c x : ℕ) → (c ≢ b) ⊎ ((x < first) ⊎ (first + count ≤ x)) → edited f (run_edits b value first count) c x ≡ f c x
run_out zero first f b value c x out = refl
run_out (suc count) first f b value c x (inl away) = run_out count (first + 1) (put f b first (value first)) b value c x (inl away) ∙ put_other f b first (value first) c x away
run_out (suc count) first f b value c x (inr (inl low)) = run_out count (first + 1) (put f b first (value first)) b value c x (inr (inl (omega (arith, low)))) ∙ put_beside f b first (value first) c x (λ e. omega (arith, low, e))
run_out (suc count) first f b value c x (inr (inr high)) = run_out count (first + 1) (put f b first (value first)) b value c x (inr (inr (omega (arith, high)))) ∙ put_beside f b first (value first) c x (λ e. omega (arith, high, e))

pub run_in : (count first : ℕ) (f : BlockWords) (b : ℕ) (value : ℕ → ℕ) (x : ℕ) → first ≤ x → x < first + count → edited f (run_edits b value first count) b x ≡ value x
run_in zero first f b value x low high = absurd (omega (arith, low, high))
run_in (suc count) first f b value x low high = elim (cases_eq x first) [
  | inl here ↦ run_out count (first + 1) (put f b first (value first)) b value b x (inr (inl (omega (arith, here)))) ∙ ap (put f b first (value first) b) here ∙ put_here f b first (value first) ∙ ap value (sym here)
  | inr away ↦ run_in count (first + 1) (put f b first (value first)) b value x (omega (arith, low, away)) (omega (arith, high))
]

pub run_edits_node : (m : Placed) (b : ℕ) (value : ℕ → ℕ) (count first : ℕ) → ((s : Slot) × HasSlot m s × (m.block s ≡ b)) → AllByRecursion (EditsNode m) (run_edits b value first count)
run_edits_node m b value zero first has = tt
run_edits_node m b value (suc count) first has = (has, run_edits_node m b value count (first + 1) has)

-- ---- two numbers in a word

pub low_half : (a b p : ℕ) → p % 2 ≡ 0 → a < 2 ^ 32 → half (a + 2 ^ 32 * b) p ≡ a
unfolding half
low_half a b p at fits = let even : (p % 2 == 0) ≡ true = grind (arith, nat_tests, at) in ap (λ t. cond t ((a + 2 ^ 32 * b) % 2 ^ 32) ((a + 2 ^ 32 * b) / 2 ^ 32 % 2 ^ 32)) even ∙ low_of a b fits
  where
    low_of : (x y : ℕ) → x < 2 ^ 32 → (x + 2 ^ 32 * y) % 2 ^ 32 ≡ x
    low_of x y h = omega (arith, h)

pub high_half : (a b p : ℕ) → p % 2 ≡ 1 → a < 2 ^ 32 → b < 2 ^ 32 → half (a + 2 ^ 32 * b) p ≡ b
unfolding half
high_half a b p at low fits = let odd : (p % 2 == 0) ≡ false = grind (arith, nat_tests, at) in ap (λ t. cond t ((a + 2 ^ 32 * b) % 2 ^ 32) ((a + 2 ^ 32 * b) / 2 ^ 32 % 2 ^ 32)) odd ∙ high_of a b low fits
  where
    high_of : (x y : ℕ) → x < 2 ^ 32 → y < 2 ^ 32 → (x + 2 ^ 32 * y) / 2 ^ 32 % 2 ^ 32 ≡ y
    high_of x y h k = omega (arith, h, k)

-- ---- an update that says a node

edits_low : (shape : VolumeShape) (m : Placed) (b : ℕ) (edits : List WordEdit) → NodeFits shape m → b < reserved shape → AllByRecursion (EditsNode m) edits → AllByRecursion (λ (e : WordEdit). e.block ≢ b) edits
edits_low shape m b [] fits low each = tt
edits_low shape m b (e ∷ edits) fits low each = ((λ same. let from = fits.from each.0.0 each.0.1 in let at = each.0.2 in omega (arith, from, low, same, at)), edits_low shape m b edits fits low each.1)

edits_without : (m : Placed) (b : ℕ) (edits : List WordEdit) → Without m b → AllByRecursion (EditsNode m) edits → AllByRecursion (λ (e : WordEdit). e.block ≢ b) edits
edits_without m b [] none each = tt
edits_without m b (e ∷ edits) none each = ((λ same. none each.0.0 each.0.1 (each.0.2 ∙ same)), edits_without m b edits none each.1)

-- a word of a block past the reserved ones is what the edits leave
update_above : (shape : VolumeShape) (u : Update) (f g : BlockWords) (b w : ℕ) → IsShape shape → IsIno shape u.ino → Applied shape u f g → reserved shape ≤ b → g b w ≡ edited f u.edits b w
update_above shape u f g b w h ino a above = a.words b w (above_no_bitmap shape b above) ∙ inode_elsewhere (edited f u.edits) u.ino u.inode b w (λ e. let low = inode_low shape u.ino h ino in omega (arith, low, above, e))

update_inode : (shape : VolumeShape) (u : Update) (f g : BlockWords) (w : ℕ) → IsShape shape → IsIno shape u.ino → Applied shape u f g → w < 16 → inode_word g u.ino w ≡ slice_index u.inode w
update_inode shape u f g w h ino a few = a.words _ _ (inode_no_bitmap shape u.ino h ino) ∙ inode_stored (edited f u.edits) u.ino u.inode w few

pub turned_lies : (shape : VolumeShape) (n m : Placed) (u : Update) (f g : BlockWords) → Turns shape n m u → Lies f u.ino n → Applied shape u f g → Lies g u.ino m
turned_lies shape n m u f g h lies a = lies_of g u.ino m (word 0 (omega arith) ∙ h.kind) (word 1 (omega arith) ∙ h.size)
    (λ p few has. ap (λ w. half w p) (word (2 + p / 2) (omega (arith, few))) ∙ h.direct p few has)
    (λ k has. ap (λ w. half w 0) (word 14 (omega arith)) ∙ h.indirect k has)
    (λ p past has. ap (λ w. half w p) (update_above shape u f g _ _ h.shape_fits h.ino a (h.new_fits.from (AtTable 0) (first_table m p has past))) ∙ h.later f lies p past has)
  where
    word : (w : ℕ) → w < 16 → inode_word g u.ino w ≡ slice_index u.inode w
    word w few = update_inode shape u f g w h.shape_fits h.ino a few

pub turned : (shape : VolumeShape) (n m : Placed) (u : Update) (f g : BlockWords) → Turns shape n m u → Lies f u.ino n → Applied shape u f g → Replaces shape f g u.ino n m
turned shape n m u f g h lies a = record {
  lies = turned_lies shape n m u f g h lies a;
  beside = λ w out. a.words (inode_block u.ino) w (inode_no_bitmap shape u.ino h.shape_fits h.ino) ∙ inode_beside (edited f u.edits) u.ino u.inode (inode_block u.ino) w out ∙ edited_out u.edits f (inode_block u.ino) w (edits_low shape m (inode_block u.ino) u.edits h.new_fits (inode_low shape u.ino h.shape_fits h.ino) h.edits);
  elsewhere = λ b w bitmap inode old new. a.words b w bitmap ∙ inode_elsewhere (edited f u.edits) u.ino u.inode b w inode ∙ edited_out u.edits f b w (edits_without m b u.edits new h.edits);
}

pub turned_bits : (shape : VolumeShape) (n m : Placed) (u : Update) (f g : BlockWords) → Turns shape n m u → Applied shape u f g → BitsFollow shape f g n m
turned_bits shape n m u f g h a = record {
  gained = λ s has none. elim (h.gains s has) [ inl old ↦ absurd (none old.0 old.1 old.2) | inr new ↦ a.taken _ new ];
  lost = λ s has gone. elim (h.loses s has) [ inl still ↦ absurd (gone still.0 still.1 still.2) | inr free ↦ a.freed _ free ];
  kept = λ s t hs ht e. a.others _ (bit s hs) (λ z. (h.taken _ z).1 s hs refl) (λ z. (h.freed _ z).1 t ht (sym e));
  others = λ b within old new. a.others b within (λ z. gone_from m b new (h.taken b z).0) (λ z. gone_from n b old (h.freed b z).0);
}
  where
    bit : (s : Slot) → HasSlot n s → n.block s < bitmap_bits shape
    bit s has = let to = h.old_fits.to s has in let most = h.shape_fits.blocks_to in omega (arith, to, most)

    gone_from : (p : Placed) (b : ℕ) → Without p b → ((s : Slot) × HasSlot p s × (p.block s ≡ b)) → ⊥
    gone_from p b none (s, has, e) = none s has e

-- and the node then holds what the edits leave in its pages
pub turned_held : (shape : VolumeShape) (n m : Placed) (u : Update) (f g : BlockWords) → Turns shape n m u → Applied shape u f g → held g m ≡ held (edited f u.edits) m
turned_held shape n m u f g h a = held_agree (edited f u.edits) g m (λ p has w. update_above shape u f g _ w h.shape_fits h.ino a (h.new_fits.from (AtPage p) has))
