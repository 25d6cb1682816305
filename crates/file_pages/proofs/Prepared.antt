-- A change of a file's size that is prepared, and what each exit of its update leaves.
use Rattle.file_pages.proofs.Common.{◌≡◌, ℕ, zero, suc, ◌<◌, ◌≤◌, ◌⊎◌, true, false, List, [], ◌∷◌, refl, sym, ap, subst, ◌∙◌, arith, inl, inr, Option, None, Some, Result, Ok, Err, IsErrOf, AllByRecursion, Contains, PageName, VolFail, VolumeShape, CachesBy, BlockWords, Seen, IsIno, HasShape, Firm, Kept, Settled, numbers, Inode, ResizePart, resized, few_tables, same_old, shrunk_has, held, held_bytes, held_of, Change, SetsFile, Slot, AtPage, AtTable, Placed, HasSlot, placed_at, volume_layout, Agrees, Applied, stands_agree, Bears, LeavesInUse, Ready, IsMapped, beside_agrees}
use Rattle.rio_base.specs.declared.failures.VolFail.TheVariants.{Fault as VolFault, Stopped as VolStopped}
use Rattle.rio_model.proofs.WordRules.{file_beside}
use Rattle.node_pages.specs.Changes.{EditsTable, PlansFor, Shrinks, given_node, planned_node, size_update}
use Rattle.file_pages.specs.Files.{SetsBoth, StopsAs, file_bytes}
use Rattle.file_pages.specs.Preparing.{Committed, IsEither, Prepared, SizeLeaves}
use Rattle.node_pages.proofs.OrderRules.{order_agree, order_changed, order_touched, ready_left, ready_order}
use Rattle.rio_model.specs.VolumeReady.{InOrder}
use Rattle.rio_model.proofs.PlacedRules.{root_ino}
use Rattle.file_pages.specs.Touching.{CanChange}
use Rattle.node_pages.specs.Updating.{IsEdited, IsUpdated}
use Rattle.node_pages.specs.declared.changes.Edit.{Edit}
use Rattle.node_pages.specs.declared.changes.SizeChange.{SizeChange}
use Rattle.node_pages.specs.declared.failures.SizeFail.{SizeFail}
use Rattle.node_pages.specs.declared.failures.SizeFail.TheVariants.{NoSpace, TooLarge, Fault, Stopped, Memory}
use Rattle.node_pages.specs.Failures.{size_handed}
use Rattle.file_pages.proofs.Changed.{changed, file_changed}
use Rattle.node_pages.proofs.Given.{Given, given_of}
use Rattle.file_pages.proofs.Left.{both_left, sets_on, stops_left}

each_edit : (P : Edit → Type 0) (es : List Edit) (e : Edit) → AllByRecursion P es → Contains es e → P e
each_edit P [] e all (k, few, is) = absurd (omega (arith, few))
each_edit P (d ∷ es) e all (zero, few, is) = subst P is all.0
each_edit P (d ∷ es) e all (suc k, few, is) = each_edit P es e all.1 (k, omega (arith, few), is)

not_root : (shape : VolumeShape) (f : BlockWords) (i : ℕ) → IsMapped shape f → (placed_at f i).kind ≡ 2 → i ≡ 1 → ⊥
not_root shape f i h kind root = let one = (h.laid.kinds.each 1 (root_ino shape h.laid.shape_fits)).1 refl in let two = sym (ap (λ x. (placed_at f x).kind) root) ∙ kind in omega (arith, one, two)

pub prepared_can : (shape : VolumeShape) (f : BlockWords) (y : Seen) (j : Kept) (i : ℕ) (m : Placed) (c : SizeChange) → Prepared shape f y j i m c → CanChange shape y c
prepared_can shape f y j i m c h = record {
  makes = record {
    words = λ e on. (edit e on).1;
    from = λ e on. let at = (edit e on).0.2 in let low = h.turns.new_fits.from _ (edit e on).0.1 in omega (arith, at, low);
    to = λ e on. let at = (edit e on).0.2 in let high = h.turns.new_fits.to _ (edit e on).0.1 in omega (arith, at, high);
    taken = λ b on. let at = (h.turns.taken b on).0 in subst (λ (x : ℕ). x < shape.blocks) at.2 (h.turns.new_fits.to at.0 at.1);
    freed = λ b on. let at = (h.turns.freed b on).0 in subst (λ (x : ℕ). x < shape.blocks) at.2 (h.turns.old_fits.to at.0 at.1);
    apart = λ b on off. let at = (h.turns.freed b off).0 in (h.turns.taken b on).1 at.0 at.1 at.2;
  };
  one = λ d e ond one. sym (edit d ond).0.2 ∙ ap (λ k. m.block (AtTable k)) (zero_at d ond ∙ sym (zero_at e one)) ∙ (edit e one).0.2;
  unnamed = λ e on cached. let at = (edit e on).0 in ap y.names (sym at.2) ∙ h.named (AtTable at.0) at.1 (ap y.cached at.2 ∙ cached);
}
  where
    edit : (e : Edit) → Contains c.edits e → EditsTable m e
    edit e on = each_edit (EditsTable m) c.edits e h.tables on

    zero_at : (e : Edit) (on : Contains c.edits e) → (edit e on).0.0 ≡ 0
    zero_at e on = (few_tables m.size (edit e on).0.0 (edit e on).0.1.within).0

pub edited_table : (m : Placed) (es : List Edit) (b : ℕ) → AllByRecursion (EditsTable m) es → IsEdited es b → (t : ℕ) × HasSlot m (AtTable t) × (m.block (AtTable t) ≡ b)
edited_table m es b all (e, on, at) = let is = (each_edit (EditsTable m) es e all on).0 in (is.0, is.1, is.2 ∙ at)

-- words with the change made: the file, and the volume in order
pub change_of : (shape : VolumeShape) (f : BlockWords) (y : Seen) (j : Kept) (i : ℕ) (m : Placed) (c : SizeChange) (k : BlockWords) → Prepared shape f y j i m c → Applied shape (size_update i c) y.words k → Change (volume_layout shape y.words) y.words k i m
change_of shape f y j i m c k h a = changed shape f y.words k i m c h.mapped h.ino h.beside h.turns (λ root. absurd (not_root shape f i h.mapped h.was_file root)) h.from a

pub made_file : (shape : VolumeShape) (f : BlockWords) (y : Seen) (j : Kept) (i : ℕ) (m : Placed) (c : SizeChange) (k : BlockWords) → Prepared shape f y j i m c → Applied shape (size_update i c) y.words k → SetsFile shape f k i (held_bytes (held y.words m))
made_file shape f y j i m c k h a = file_changed shape f y.words k i m c h.mapped h.beside (change_of shape f y j i m c k h a) h.turns h.tables h.lowest a h.file

pub made_order : (shape : VolumeShape) (f : BlockWords) (y : Seen) (j : Kept) (i : ℕ) (m : Placed) (c : SizeChange) (k : BlockWords) (z : Seen) (l : Kept) → Prepared shape f y j i m c → Applied shape (size_update i c) y.words k → HasShape shape z → CachesBy (IsUpdated i c.edits) y z → Firm j l → InOrder shape k z l
made_order shape f y j i m c k z l h a has_shape caches firm = order_changed shape y.words k i m c.edits y j z l h.ready.order (change_of shape f y j i m c k h a) h.named h.firm (λ b on. edited_table m c.edits b h.tables on) has_shape caches firm

-- words without it
pub kept_order : (shape : VolumeShape) (f : BlockWords) (y : Seen) (j : Kept) (i : ℕ) (m : Placed) (c : SizeChange) (z : Seen) (l : Kept) → Prepared shape f y j i m c → HasShape shape z → CachesBy (IsUpdated i c.edits) y z → Firm j l → InOrder shape y.words z l
kept_order shape f y j i m c z l h has_shape caches firm = order_touched shape y.words i c.edits y j z l h.ino h.ready.order h.old_tables has_shape caches firm

pub kept_file : (shape : VolumeShape) (f : BlockWords) (y : Seen) (j : Kept) (i : ℕ) (m : Placed) (c : SizeChange) → Prepared shape f y j i m c → SetsFile shape f y.words i (held_bytes (held y.words (placed_at f i)))
kept_file shape f y j i m c h = file_beside shape f y.words i h.mapped h.ino h.was_file h.beside

stood : (shape : VolumeShape) (f : BlockWords) (y : Seen) (j : Kept) (i : ℕ) (m : Placed) (c : SizeChange) → Prepared shape f y j i m c → Agrees (volume_layout shape y.words) y.words j.standing
stood shape f y j i m c h = stands_agree (volume_layout shape y.words) y j h.settled h.ready.idle h.ready.order.firm

-- ---- the exits

pub exit_fault : (shape : VolumeShape) (f : BlockWords) (y : Seen) (j : Kept) (i : ℕ) (m : Placed) (c : SizeChange) (z : Seen) (l : Kept) → Prepared shape f y j i m c → z.words ≡ y.words → l.standing ≡ j.standing → l.updating ≡ false → HasShape shape z → CachesBy (IsUpdated i c.edits) y z → Firm j l → SetsBoth shape f z l i (held_bytes (held y.words (placed_at f i))) × Ready shape z l
exit_fault shape f y j i m c z l h words standing idle has_shape caches firm = (
  record {
    reads = subst (λ k. SetsFile shape f k i (held_bytes (held y.words (placed_at f i)))) (sym words) (kept_file shape f y j i m c h);
    stands = subst (λ k. SetsFile shape f k i (held_bytes (held y.words (placed_at f i)))) (sym standing) (sets_on shape f y.words j.standing i (held_bytes (held y.words (placed_at f i))) (kept_file shape f y j i m c h) (stood shape f y j i m c h));
  },
  ready_order shape z l (subst (λ k. InOrder shape k z l) (sym words) (kept_order shape f y j i m c z l h has_shape caches firm)) idle,
)

pub exit_stopped : (shape : VolumeShape) (f : BlockWords) (y : Seen) (j : Kept) (i : ℕ) (m : Placed) (c : SizeChange) (z : Seen) (l : Kept) (part : List ℕ → Type 0) → Prepared shape f y j i m c → (l.standing ≡ j.standing) ⊎ Applied shape (size_update i c) y.words l.standing → part (held_bytes (held y.words (placed_at f i))) → part (held_bytes (held y.words m)) → HasShape shape z → CachesBy (IsUpdated i c.edits) y z → Firm j l → StopsAs shape f z l i part
exit_stopped shape f y j i m c z l part h (inl same) old new has_shape caches firm = record {
  bytes = held_bytes (held y.words (placed_at f i));
  is = old;
  stands = subst (λ k. SetsFile shape f k i (held_bytes (held y.words (placed_at f i)))) (sym same) (sets_on shape f y.words j.standing i (held_bytes (held y.words (placed_at f i))) (kept_file shape f y j i m c h) (stood shape f y j i m c h));
  ready = subst (λ k. InOrder shape k z l) (sym same) (order_agree shape y.words j.standing z l (kept_order shape f y j i m c z l h has_shape caches firm) (stood shape f y j i m c h));
}
exit_stopped shape f y j i m c z l part h (inr made) old new has_shape caches firm = record {
  bytes = held_bytes (held y.words m);
  is = new;
  stands = made_file shape f y j i m c l.standing h made;
  ready = made_order shape f y j i m c l.standing z l h made has_shape caches firm;
}

pub exit_done : (shape : VolumeShape) (f : BlockWords) (y : Seen) (j : Kept) (i : ℕ) (m : Placed) (c : SizeChange) (z : Seen) (l : Kept) → Prepared shape f y j i m c → Applied shape (size_update i c) y.words z.words → l.standing ≡ z.words → l.updating ≡ false → HasShape shape z → CachesBy (IsUpdated i c.edits) y z → Firm j l → SetsBoth shape f z l i (held_bytes (held y.words m)) × Ready shape z l
exit_done shape f y j i m c z l h a standing idle has_shape caches firm = (
  record {
    reads = made_file shape f y j i m c z.words h a;
    stands = subst (λ k. SetsFile shape f k i (held_bytes (held y.words m))) (sym standing) (made_file shape f y j i m c z.words h a);
  },
  ready_order shape z l (made_order shape f y j i m c z.words z l h a has_shape caches firm) idle,
)

-- ---- a shrink

bears_smaller : (i : ℕ) (n m : Placed) (s : Slot) (name : Option PageName) → m.kind ≡ n.kind → m.size ≤ n.size → Bears i n s name → Bears i m s name
bears_smaller i n m (AtTable k) name kind less h = h
bears_smaller i n m (AtPage p) None kind less h = kind ∙ h
bears_smaller i n m (AtPage p) (Some name) kind less h = ((λ dir. h.0 (sym kind ∙ dir)), record { file = h.1.file; index = h.1.index; size_from = (let from = h.1.size_from in omega (arith, from, less)) })

pub shrink_prepared : (shape : VolumeShape) (x : Seen) (k : Kept) (y : Seen) (j : Kept) (i : ℕ) (given : Inode) (len : ℕ) (c : SizeChange) → IsIno shape i → Ready shape x k → Settled y j → LeavesInUse (volume_layout shape x.words) x k y j → PlansFor x.words i given → (placed_at x.words i).kind ≡ 2 → given.kind ≡ 2 → given.size ≡ (placed_at x.words i).size → len ≤ given.size → Shrinks shape x.words i given len c → Prepared shape x.words y j i (planned_node x.words i given len c) c
shrink_prepared shape x k y j i given len c ino ready settled leaves plans was_file file size less h = record {
  ino = ino;
  mapped = ready.order.mapped;
  was_file = was_file;
  ready = ready_left shape x k y j ready leaves;
  settled = settled;
  beside = beside_agrees (volume_layout shape x.words) i x.words y.words ino leaves.words;
  turns = h.turns;
  file = file;
  from = λ s has. inl (s, back s has, sym (same s has));
  tables = subst (AllByRecursion (EditsTable m)) (sym h.edits) tt;
  named = λ s has on. subst (λ b. Bears i m s (y.names b)) (sym (same s has)) (bears_smaller i (placed_at x.words i) m s _ (file ∙ sym was_file) (omega (arith, less, size)) (leaves.named.each i ino s (back s has) (subst (λ b. y.cached b ≡ true) (same s has) on)));
  firm = λ s has. ap j.loose (same s has) ∙ leaves.firm.owned i s (record { ino = ino; slot = back s has });
  old_tables = λ b on. absurd (none on.0 (subst (λ es. Contains es on.0) h.edits on.1));
  lowest = (0, h.taken);
}
  where
    m : Placed
    m = planned_node x.words i given len c

    g : Given x.words i given
    g = given_of x.words i given plans

    in_given : (s : Slot) → HasSlot m s → HasSlot (given_node x.words i given) s
    in_given s has = shrunk_has (given_node x.words i given) len s less (record { used = has.used; within = has.within })

    back : (s : Slot) → HasSlot m s → HasSlot (placed_at x.words i) s
    back s has = g.back s (in_given s has)

    same : (s : Slot) → HasSlot m s → m.block s ≡ (placed_at x.words i).block s
    same s has = same_old (given_node x.words i given) len (numbers c.taken) s (in_given s has)

    none : (e : Edit) → Contains [] e → ⊥
    none e (k, few, is) = omega (arith, few)

-- ---- the call that makes the change, by how it ends

pub committed_done : (shape : VolumeShape) (f : BlockWords) (y : Seen) (j : Kept) (i : ℕ) (m : Placed) (c : SizeChange) (z : Seen) (l : Kept) → Applied shape (size_update i c) y.words z.words × (l.standing ≡ z.words) × (l.updating ≡ false) → HasShape shape z → CachesBy (IsUpdated i c.edits) y z → Firm j l → Prepared shape f y j i m c → SetsBoth shape f z l i (held_bytes (held y.words m)) × Ready shape z l
committed_done shape f y j i m c z l ok has_shape caches firm h = exit_done shape f y j i m c z l h ok.0 ok.1 ok.2 has_shape caches firm

committed_as : (T : Type 0) (shape : VolumeShape) (f : BlockWords) (y : Seen) (j : Kept) (i : ℕ) (m : Placed) (c : SizeChange) (z : Seen) (l : Kept) (e : VolFail) → (e ≡ VolFault → (l.updating ≡ false) × (z.words ≡ y.words) × (l.standing ≡ j.standing)) → (l.standing ≡ j.standing) ⊎ Applied shape (size_update i c) y.words l.standing → HasShape shape z → CachesBy (IsUpdated i c.edits) y z → Firm j l → Prepared shape f y j i m c → Committed {T = T} shape f y m z l i (Err (size_handed e))
committed_as T shape f y j i m c z l VolFault fault stopped has_shape caches firm h = let at = fault refl in exit_fault shape f y j i m c z l h at.1 at.2 at.0 has_shape caches firm
committed_as T shape f y j i m c z l VolStopped fault stopped has_shape caches firm h = exit_stopped shape f y j i m c z l (IsEither (held_bytes (held y.words (placed_at f i))) (held_bytes (held y.words m))) h stopped (inl refl) (inr refl) has_shape caches firm

pub committed_err : {T U : Type 0} (shape : VolumeShape) (f : BlockWords) (y : Seen) (j : Kept) (i : ℕ) (m : Placed) (c : SizeChange) (z : Seen) (l : Kept) (r : Result U VolFail) (e : VolFail) (q : Result T SizeFail) (d : SizeFail) → r ≡ Err e → q ≡ Err d → d ≡ size_handed e → (IsErrOf r VolFault → (l.updating ≡ false) × (z.words ≡ y.words) × (l.standing ≡ j.standing)) → (l.standing ≡ j.standing) ⊎ Applied shape (size_update i c) y.words l.standing → HasShape shape z → CachesBy (IsUpdated i c.edits) y z → Firm j l → Prepared shape f y j i m c → Committed shape f y m z l i q
committed_err {T = T} shape f y j i m c z l r e q d re qd de fault stopped has_shape caches firm h = subst (λ x. Committed shape f y m z l i x) (sym (qd ∙ ap Err de)) (committed_as T shape f y j i m c z l e (λ is. fault (subst (λ x. IsErrOf x VolFault) (sym (re ∙ ap Err is)) refl)) stopped has_shape caches firm h)

-- a call whose one failure is the stop
pub committed_stop : {T : Type 0} (shape : VolumeShape) (f : BlockWords) (y : Seen) (j : Kept) (i : ℕ) (m : Placed) (c : SizeChange) (z : Seen) (l : Kept) (q : Result T SizeFail) (d : SizeFail) → q ≡ Err d → d ≡ Stopped → (l.standing ≡ j.standing) ⊎ Applied shape (size_update i c) y.words l.standing → HasShape shape z → CachesBy (IsUpdated i c.edits) y z → Firm j l → Prepared shape f y j i m c → Committed shape f y m z l i q
committed_stop {T = T} shape f y j i m c z l q d qd de stopped has_shape caches firm h = subst (λ x. Committed shape f y m z l i x) (sym (qd ∙ ap Err de)) (committed_as T shape f y j i m c z l VolStopped (λ is. absurd (no_fault is)) stopped has_shape caches firm h)
  where
    no_fault : VolStopped ≡ VolFault → ⊥
    no_fault is = cc

-- ---- a call on a file, by how it ends

leaves_as : (T : Type 0) (shape : VolumeShape) (x : Seen) (k : Kept) (y : Seen) (j : Kept) (i len : ℕ) (e : SizeFail) → Ready shape x k → Settled x k → (held_of shape x.words i).kind ≡ 2 → LeavesInUse (volume_layout shape x.words) x k y j → SizeLeaves {T = T} shape x k y j i len (Err e)
leaves_as T shape x k y j i len NoSpace h settled kind m = m
leaves_as T shape x k y j i len TooLarge h settled kind m = m
leaves_as T shape x k y j i len Fault h settled kind m = (both_left shape x k y j i h settled kind m, ready_left shape x k y j h m)
leaves_as T shape x k y j i len Stopped h settled kind m = stops_left shape x k y j i (ResizePart (file_bytes shape x.words i) len) h settled kind m (inl refl)
leaves_as T shape x k y j i len Memory h settled kind m = m

-- nothing was done
pub leaves_err : {T : Type 0} (shape : VolumeShape) (x : Seen) (k : Kept) (y : Seen) (j : Kept) (i len : ℕ) (q : Result T SizeFail) (d : SizeFail) → q ≡ Err d → Ready shape x k → Settled x k → (held_of shape x.words i).kind ≡ 2 → LeavesInUse (volume_layout shape x.words) x k y j → SizeLeaves shape x k y j i len q
leaves_err {T = T} shape x k y j i len q d qd h settled kind m = subst (λ r. SizeLeaves shape x k y j i len r) (sym qd) (leaves_as T shape x k y j i len d h settled kind m)

-- the change was refused or stopped
stops_either : (shape : VolumeShape) (f : BlockWords) (z : Seen) (l : Kept) (i len : ℕ) (old new : List ℕ) → old ≡ file_bytes shape f i → new ≡ resized (file_bytes shape f i) len → StopsAs shape f z l i (IsEither old new) → StopsAs shape f z l i (ResizePart (file_bytes shape f i) len)
stops_either shape f z l i len old new o n h = record { bytes = h.bytes; is = elim h.is [ inl was ↦ inl (was ∙ o) | inr now ↦ inr (now ∙ n) ]; stands = h.stands; ready = h.ready }

made_as : (T U : Type 0) (shape : VolumeShape) (x : Seen) (k : Kept) (y : Seen) (m : Placed) (z : Seen) (l : Kept) (i len : ℕ) (e : SizeFail) → held_bytes (held y.words (placed_at x.words i)) ≡ file_bytes shape x.words i → held_bytes (held y.words m) ≡ resized (file_bytes shape x.words i) len → Committed {T = U} shape x.words y m z l i (Err e) → SizeLeaves {T = T} shape x k z l i len (Err e)
made_as T U shape x k y m z l i len NoSpace old new c = absurd c
made_as T U shape x k y m z l i len TooLarge old new c = absurd c
made_as T U shape x k y m z l i len Memory old new c = absurd c
made_as T U shape x k y m z l i len Fault old new c = (subst (SetsBoth shape x.words z l i) old c.0, c.1)
made_as T U shape x k y m z l i len Stopped old new c = stops_either shape x.words z l i len _ _ old new c

pub made_err : {T U : Type 0} (shape : VolumeShape) (x : Seen) (k : Kept) (y : Seen) (m : Placed) (z : Seen) (l : Kept) (i len : ℕ) (r : Result U SizeFail) (e : SizeFail) (q : Result T SizeFail) (d : SizeFail) → r ≡ Err e → q ≡ Err d → d ≡ e → held_bytes (held y.words (placed_at x.words i)) ≡ file_bytes shape x.words i → held_bytes (held y.words m) ≡ resized (file_bytes shape x.words i) len → Committed shape x.words y m z l i r → SizeLeaves shape x k z l i len q
made_err {T = T} {U = U} shape x k y m z l i len r e q d re qd de old new c = subst (λ p. SizeLeaves shape x k z l i len p) (sym (qd ∙ ap Err de)) (made_as T U shape x k y m z l i len e old new (subst (λ p. Committed shape x.words y m z l i p) re c))

pub made_ok : {T : Type 0} (shape : VolumeShape) (f : BlockWords) (y : Seen) (m : Placed) (z : Seen) (l : Kept) (i : ℕ) (r : Result T SizeFail) (v : T) → r ≡ Ok v → Committed shape f y m z l i r → SetsBoth shape f z l i (held_bytes (held y.words m)) × Ready shape z l
made_ok {T = T} shape f y m z l i r v rv c = of_ok (subst (λ p. Committed shape f y m z l i p) rv c)
  where
    of_ok : Committed {T = T} shape f y m z l i (Ok v) → SetsBoth shape f z l i (held_bytes (held y.words m)) × Ready shape z l
    of_ok h = h

pub made_all : {T : Type 0} (shape : VolumeShape) (x : Seen) (k : Kept) (y : Seen) (m : Placed) (z : Seen) (l : Kept) (i len : ℕ) (r : Result T SizeFail) → held_bytes (held y.words (placed_at x.words i)) ≡ file_bytes shape x.words i → held_bytes (held y.words m) ≡ resized (file_bytes shape x.words i) len → Committed shape x.words y m z l i r → SizeLeaves shape x k z l i len r
made_all shape x k y m z l i len (Ok v) old new c = (subst (SetsBoth shape x.words z l i) new c.0, c.1)
made_all {T = T} shape x k y m z l i len (Err e) old new c = made_as T T shape x k y m z l i len e old new c
