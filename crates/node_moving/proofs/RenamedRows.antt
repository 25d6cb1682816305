-- Rows that are given another name: what is answered, that the changes can be made, and the state that they come to. x and k
-- are before the request, w and p, u and q, y and j after one call after the other that only prepares.
use Rattle.request_ends.proofs.Common.{◌≡◌, ◌≢◌, ℕ, ◌+◌, ◌<◌, ◌≤◌, false, cond, List, [], ◌∷◌, refl, sym, ap, subst, ◌∙◌, arith, Result, Err, IsErrOf, nat_lt, nat_tests, Block, VolumeShape, free_blocks, BlockWords, Seen, IsIno, Kept, Settled, numbers, State, answered, Held, held_of, IsName, placed_at, volume_layout, free_count, held_of_agree, ReadsAs, LeavesInUse, Ready, TreeRule, differs, wanted_blocks, node_blocks, leaves_trans, ready_left, reads_agree, SizeFail, NoSpace, TooLarge, row_wanted, with_room, refused_by}
use Rattle.directories.specs.Plans.{PlansDir}
use Rattle.directories.specs.Rows.{HasRow, IsEntry}
use Rattle.directories.specs.declared.changes.DirChange.{DirChange}
use Rattle.directories.specs.RowChanges.{AddsRow, RemovesRow, ReplacesRow, SetsRow}
use Rattle.rio_model.proofs.WordRules.{itself}
use Rattle.std.specs.Prelude.{length}
use Rattle.rio_base.specs.Bitmap.{used_bit}
use Rattle.rio_model.proofs.LowestBlocks.{bits_agree}
use Rattle.rio_requests.specs.declared.reply.Reply.TheVariants.{Ok as Done}
use Rattle.rio_requests.specs.Answers.{move_row, moved, replaced}
use Rattle.node_updates.specs.Changes.{IsGone, of_dir}
use Rattle.request_ends.specs.Failures.{fail_of_size}
use Rattle.node_updates.specs.Planned.{LeadsBy, Planned}
use Rattle.file_tree.proofs.ReadTrees.{rows_fit}
use Rattle.node_moving.proofs.TreeMoves.{tree_moved, tree_replaced}
use Rattle.node_moving.specs.WalkRules.{OutOfReach}
use Rattle.file_tree.specs.Walks.{IsRow}
use Rattle.node_updates.specs.declared.changes.NodeChange.{NodeChange}
use Rattle.file_tree.specs.declared.walking.Row.{Row}
use Rattle.request_ends.proofs.AnsweredAt.{FailsBy}
use Rattle.node_updates.proofs.Ended.{Reaches}
use Rattle.region_view.proofs.UsedInodes.{used_ino}
use Rattle.file_tree.proofs.LookedAt.{dir_read, leaf_read, no_row, row_read}
use Rattle.node_updates.proofs.LowestTaken.{bare_lower, lowest_each, stood_lower}
use Rattle.node_updates.proofs.Planning.{kind_still, leads, planned, planned_reached}
use Rattle.node_moving.proofs.ReachedGone.{less_removed, less_replaced, less_set, order_renamed, reaches_renamed}
use Rattle.file_tree.proofs.FreeFound.{root_held}
use Rattle.node_moving.proofs.ReachedMoves.{order_moved, reaches_across, reaches_moved, reaches_within}
use Rattle.node_updates.proofs.Requested.{OrdersAll, ReachesAll, Requested, dir_ino, dir_may, gone_may}
use Rattle.file_tree.proofs.RowRoom.{fails_add, row_room}
use Rattle.node_updates.proofs.Stood.{Stood, stood_now}
use Rattle.node_moving.proofs.StoodAfter.{stood_after}

-- ---- what is answered

no_blocks : (n : ℕ) → nat_lt n 0 ≡ false
no_blocks n = grind (arith, nat_tests)

-- within a directory no block is wanted
move_within : (s : State) (d : ℕ) (a b : List ℕ) (i : ℕ) → move_row s d a d b i ≡ answered (moved s d a d b i) Done
move_within s d a b i =
    ap (λ t. with_room s (cond t 0 (row_wanted s d)) (answered (moved s d a d b i) Done)) (itself d)
    ∙ ap (λ t. cond t (refused_by s 11) (answered (moved s d a d b i) Done)) (no_blocks (free_count s))

move_two : (s : State) (d : ℕ) (a : List ℕ) (e : ℕ) (b : List ℕ) (i : ℕ) → d ≢ e → move_row s d a e b i ≡ with_room s (row_wanted s e) (answered (moved s d a e b i) Done)
move_two s d a e b i two = ap (λ t. with_room s (cond t 0 (row_wanted s e)) (answered (moved s d a e b i) Done)) (differs d e two)

move_room : (shape : VolumeShape) (f : BlockWords) (s : State) (d : ℕ) (a : List ℕ) (e : ℕ) (b : List ℕ) (i : ℕ) → ReadsAs shape f s → d ≢ e → (held_of shape f e).kind ≡ 1 → wanted_blocks (held_of shape f e).size ((held_of shape f e).size + 64) ≤ length (free_blocks shape f) → move_row s d a e b i ≡ answered (moved s d a e b i) Done
move_room shape f s d a e b i reads two dir enough = move_two s d a e b i two ∙ row_room shape f s e (answered (moved s d a e b i) Done) reads dir enough

-- no row could be planned there
pub fails_move : {T : Type 0} (shape : VolumeShape) (f : BlockWords) (s : State) (d : ℕ) (a : List ℕ) (e : ℕ) (b : List ℕ) (i : ℕ) (r : Result T SizeFail) (v : SizeFail) → r ≡ Err v → ReadsAs shape f s → d ≢ e → (held_of shape f e).kind ≡ 1 → (IsErrOf r NoSpace → length (free_blocks shape f) < wanted_blocks (held_of shape f e).size ((held_of shape f e).size + 64)) → (IsErrOf r TooLarge → ⊥) → FailsBy s (move_row s d a e b i) (fail_of_size v)
fails_move shape f s d a e b i r v is reads two dir few large = subst (λ c. FailsBy s c (fail_of_size v)) (sym (move_two s d a e b i two)) (fails_add shape f s e (answered (moved s d a e b i) Done) r v is reads dir few large)

-- ---- the names stay a tree

moved_tree : (shape : VolumeShape) (f : BlockWords) (s : State) (a : List ℕ) (row : Row) (e : ℕ) (b : List ℕ) → ReadsAs shape f s → IsRow shape f a row → (held_of shape f e).kind ≡ 1 → ((n : ℕ) → HasRow (held_of shape f e) b n → ⊥) → OutOfReach s row.ino.0 e → TreeRule (moved s row.dir.0 a e b row.ino.0)
moved_tree shape f s a row e b reads is dir none apart = tree_moved s row.dir.0 a e b row.ino.0 reads.tree (row_read shape f s row.dir.0 row.slot a row.ino.0 reads is.dir is.entry) (dir_read shape f s e reads dir) (no_row shape f s e b reads none) apart

-- two rows that name nodes which are no directories
pub record OverLeaf (shape : VolumeShape) (f : BlockWords) (a b : List ℕ) (from to : Row) : Type 0 where
  pub old : IsRow shape f a from
  pub over : IsRow shape f b to
  pub other : from.ino.0 ≢ to.ino.0
  pub leaf : (held_of shape f from.ino.0).kind ≢ 1
  pub leaf_to : (held_of shape f to.ino.0).kind ≢ 1

replaced_tree : (shape : VolumeShape) (f : BlockWords) (s : State) (a b : List ℕ) (from to : Row) → ReadsAs shape f s → OverLeaf shape f a b from to → TreeRule (replaced s from.dir.0 a to.dir.0 b from.ino.0 to.ino.0)
replaced_tree shape f s a b from to reads h = tree_replaced s from.dir.0 a to.dir.0 b from.ino.0 to.ino.0 (rows_fit _ s reads.reads reads.entries) reads.tree (row_read shape f s from.dir.0 from.slot a from.ino.0 reads h.old.dir h.old.entry) (row_read shape f s to.dir.0 to.slot b to.ino.0 reads h.over.dir h.over.entry) h.other (leaf_read shape f s from.ino.0 reads h.leaf) (leaf_read shape f s to.ino.0 reads h.leaf_to)

-- a directory is not the node that goes
leaf_apart : (shape : VolumeShape) (f : BlockWords) (n d : ℕ) → (held_of shape f n).kind ≢ 1 → (held_of shape f d).kind ≡ 1 → n ≢ d
leaf_apart shape f n d leaf dir same = leaf (ap (λ i. (held_of shape f i).kind) same ∙ dir)

-- ---- after calls that only prepare

pub held_left : (shape : VolumeShape) (x : Seen) (k : Kept) (y : Seen) (j : Kept) → Ready shape x k → LeavesInUse (volume_layout shape x.words) x k y j → held_of shape y.words ≡ held_of shape x.words
held_left shape x k y j ready leaves = held_of_agree shape x.words y.words ready.order.mapped leaves.words

held_at : (shape : VolumeShape) (x : Seen) (k : Kept) (y : Seen) (j : Kept) (n : ℕ) → Ready shape x k → LeavesInUse (volume_layout shape x.words) x k y j → held_of shape y.words n ≡ held_of shape x.words n
held_at shape x k y j n ready leaves = ap (λ (h : ℕ → Held). h n) (held_left shape x k y j ready leaves)

-- and the bits of the bitmap before it
bits_left : (shape : VolumeShape) (x : Seen) (k : Kept) (y : Seen) (j : Kept) → Ready shape x k → LeavesInUse (volume_layout shape x.words) x k y j → (b : ℕ) → b < shape.blocks → used_bit shape x.words b ≡ used_bit shape y.words b
bits_left shape x k y j ready leaves b within = sym (bits_agree shape x.words y.words ready.order.mapped.laid.shape_fits leaves.words.low b within)

-- blocks that were listed before a call that only looks
listed_on : (blocks : List Block) (n : ℕ) (w y : Seen) → y.words ≡ w.words → numbers blocks ≡ node_blocks (placed_at w.words n) → numbers blocks ≡ node_blocks (placed_at y.words n)
listed_on blocks n w y words listed = listed ∙ sym (ap (λ (f : BlockWords). node_blocks (placed_at f n)) words)

-- ---- a new name in its slot

pub record RenamedRow (shape : VolumeShape) (x : Seen) (k : Kept) (y : Seen) (j : Kept) (row : Row) (b : List ℕ) (c : DirChange) : Type 0 where
  pub ready : Ready shape x k
  pub settled : Settled x k
  pub leaves : LeavesInUse (volume_layout shape x.words) x k y j
  pub plan : PlansDir shape x.words y j row.dir.0 (SetsRow row.slot b row.ino.0) c
  pub dir : (held_of shape x.words row.dir.0).kind ≡ 1

renamed_stood : (shape : VolumeShape) (x : Seen) (k : Kept) (y : Seen) (j : Kept) (row : Row) (b : List ℕ) (c : DirChange) → RenamedRow shape x k y j row b c → Stood shape x y j row.dir.0 (SetsRow row.slot b row.ino.0) c
renamed_stood shape x k y j row b c h = stood_now shape x x k y j row.dir.0 (SetsRow row.slot b row.ino.0) c h.ready h.leaves (dir_ino shape x.words row.dir.0 h.dir) refl (λ b within. refl) h.plan

renamed_requested : (shape : VolumeShape) (x : Seen) (k : Kept) (y : Seen) (j : Kept) (row : Row) (b : List ℕ) (c : DirChange) → RenamedRow shape x k y j row b c → Requested shape x k y j (of_dir c ∷ [])
renamed_requested shape x k y j row b c h = record {
  ready = h.ready;
  settled = h.settled;
  leaves = h.leaves;
  may = (dir_may shape x y j row.dir.0 (SetsRow row.slot b row.ino.0) c (ready_left shape x k y j h.ready h.leaves).order.mapped (dir_ino shape x.words row.dir.0 h.dir) (renamed_stood shape x k y j row b c h), tt);
  lowest = lowest_each shape x.words (of_dir c ∷ []) (stood_lower shape x y j row.dir.0 (SetsRow row.slot b row.ino.0) c (renamed_stood shape x k y j row b c h), tt);
}

renamed_reaches : (shape : VolumeShape) (x : Seen) (k : Kept) (y : Seen) (j : Kept) (z : Seen) (row : Row) (a b : List ℕ) (c : DirChange) (s : State) → RenamedRow shape x k y j row b c → ReadsAs shape x.words s → IsRow shape x.words a row → IsName b → ((n : ℕ) → HasRow (held_of shape x.words row.dir.0) b n → ⊥) → OutOfReach s row.ino.0 row.dir.0 → ReachesAll shape x k y j z (of_dir c ∷ []) (moved s row.dir.0 a row.dir.0 b row.ino.0)
renamed_reaches shape x k y j z row a b c s h reads is named none apart pre g applied =
    reaches_renamed shape x k y j z s row.dir.0 row.slot a b row.ino.0 c g pre reads (renamed_stood shape x k y j row b c h) is.dir is.entry named (no_row shape x.words s row.dir.0 b reads none) (moved_tree shape x.words s a row row.dir.0 b reads is is.dir none apart) applied

renamed_order : (shape : VolumeShape) (x : Seen) (k : Kept) (y : Seen) (j : Kept) (z : Seen) (row : Row) (b : List ℕ) (c : DirChange) → RenamedRow shape x k y j row b c → OrdersAll shape x k y j z (of_dir c ∷ [])
renamed_order shape x k y j z row b c h pre g applied = order_renamed shape x k y j z row.dir.0 row.slot b row.ino.0 c g pre (renamed_stood shape x k y j row b c h) applied

pub renamed_planned : {shape : VolumeShape} {x : Seen} {k : Kept} {y : Seen} {j : Kept} {row : Row} {b : List ℕ} {c : DirChange} {items : List NodeChange} → RenamedRow shape x k y j row b c → items ≡ of_dir c ∷ [] → Planned shape x y j items
renamed_planned {shape = shape} {x = x} {k = k} {y = y} {j = j} {row = row} {b = b} {c = c} h is = planned is (omega arith) (renamed_requested shape x k y j row b c h) (λ z. renamed_order shape x k y j z row b c h)

pub renamed_leads : {shape : VolumeShape} {x : Seen} {k : Kept} {y : Seen} {j : Kept} {row : Row} {b : List ℕ} {c : DirChange} {items : List NodeChange} (s : State) (a : List ℕ) → RenamedRow shape x k y j row b c → items ≡ of_dir c ∷ [] → ReadsAs shape x.words s → IsRow shape x.words a row → IsName b → ((n : ℕ) → HasRow (held_of shape x.words row.dir.0) b n → ⊥) → OutOfReach s row.ino.0 row.dir.0 → LeadsBy Done shape x k y j s (move_row s row.dir.0 a row.dir.0 b row.ino.0) items
renamed_leads {shape = shape} {x = x} {k = k} {y = y} {j = j} {row = row} {b = b} {c = c} s a h is reads row_is named none apart =
    leads Done s (move_row s row.dir.0 a row.dir.0 b row.ino.0) (moved s row.dir.0 a row.dir.0 b row.ino.0) is (renamed_requested shape x k y j row b c h) (λ z. renamed_reaches shape x k y j z row a b c s h reads row_is named none apart) (move_within s row.dir.0 a b row.ino.0) reads

-- ---- to another directory

pub record MovedRow (shape : VolumeShape) (x : Seen) (k : Kept) (w : Seen) (p : Kept) (y : Seen) (j : Kept) (row : Row) (e : ℕ) (b : List ℕ) (c m : DirChange) : Type 0 where
  pub ready : Ready shape x k
  pub settled : Settled x k
  pub leaves : LeavesInUse (volume_layout shape x.words) x k w p
  pub later : LeavesInUse (volume_layout shape w.words) w p y j
  pub goes : PlansDir shape x.words w p row.dir.0 (RemovesRow row.slot) c
  pub comes : PlansDir shape w.words y j e (AddsRow b row.ino.0) m
  pub dir : (held_of shape x.words row.dir.0).kind ≡ 1
  pub to : (held_of shape x.words e).kind ≡ 1

-- a row that goes, and another call later
removed_stood : (shape : VolumeShape) (x : Seen) (k : Kept) (w : Seen) (p : Kept) (y : Seen) (j : Kept) (d slot : ℕ) (c : DirChange) → Ready shape x k → LeavesInUse (volume_layout shape x.words) x k w p → LeavesInUse (volume_layout shape w.words) w p y j → IsIno shape d → PlansDir shape x.words w p d (RemovesRow slot) c → Stood shape x y j d (RemovesRow slot) c
removed_stood shape x k w p y j d slot c ready leaves later ino plan =
    let now : Stood shape x w p d (RemovesRow slot) c = stood_now shape x x k w p d (RemovesRow slot) c ready leaves ino refl (λ b within. refl) plan in
    stood_after shape x w p y j d (RemovesRow slot) c now (ready_left shape x k w p ready leaves) later ino (less_removed shape x w p d slot c now ino)

moved_goes : (shape : VolumeShape) (x : Seen) (k : Kept) (w : Seen) (p : Kept) (y : Seen) (j : Kept) (row : Row) (e : ℕ) (b : List ℕ) (c m : DirChange) → MovedRow shape x k w p y j row e b c m → Stood shape x y j row.dir.0 (RemovesRow row.slot) c
moved_goes shape x k w p y j row e b c m h = removed_stood shape x k w p y j row.dir.0 row.slot c h.ready h.leaves h.later (dir_ino shape x.words row.dir.0 h.dir) h.goes

moved_comes : (shape : VolumeShape) (x : Seen) (k : Kept) (w : Seen) (p : Kept) (y : Seen) (j : Kept) (row : Row) (e : ℕ) (b : List ℕ) (c m : DirChange) → MovedRow shape x k w p y j row e b c m → Stood shape x y j e (AddsRow b row.ino.0) m
moved_comes shape x k w p y j row e b c m h = stood_now shape x w p y j e (AddsRow b row.ino.0) m (ready_left shape x k w p h.ready h.leaves) h.later (dir_ino shape x.words e h.to) (held_at shape x k w p e h.ready h.leaves) (bits_left shape x k w p h.ready h.leaves) h.comes

moved_requested : (shape : VolumeShape) (x : Seen) (k : Kept) (w : Seen) (p : Kept) (y : Seen) (j : Kept) (row : Row) (e : ℕ) (b : List ℕ) (c m : DirChange) → MovedRow shape x k w p y j row e b c m → Requested shape x k y j (of_dir c ∷ of_dir m ∷ [])
moved_requested shape x k w p y j row e b c m h =
    let leaves = leaves_trans shape x k w p y j h.ready h.leaves h.later in
    let mapped = (ready_left shape x k y j h.ready leaves).order.mapped in
    record {
      ready = h.ready;
      settled = h.settled;
      leaves = leaves;
      may = (dir_may shape x y j row.dir.0 (RemovesRow row.slot) c mapped (dir_ino shape x.words row.dir.0 h.dir) (moved_goes shape x k w p y j row e b c m h), (dir_may shape x y j e (AddsRow b row.ino.0) m mapped (dir_ino shape x.words e h.to) (moved_comes shape x k w p y j row e b c m h), tt));
      lowest = lowest_each shape x.words (of_dir c ∷ of_dir m ∷ []) (stood_lower shape x y j row.dir.0 (RemovesRow row.slot) c (moved_goes shape x k w p y j row e b c m h), (stood_lower shape x y j e (AddsRow b row.ino.0) m (moved_comes shape x k w p y j row e b c m h), tt));
    }

moved_reaches : (shape : VolumeShape) (x : Seen) (k : Kept) (w : Seen) (p : Kept) (y : Seen) (j : Kept) (z : Seen) (row : Row) (e : ℕ) (a b : List ℕ) (c m : DirChange) (s : State) → MovedRow shape x k w p y j row e b c m → row.dir.0 ≢ e → ReadsAs shape x.words s → IsRow shape x.words a row → IsName b → ((n : ℕ) → HasRow (held_of shape x.words e) b n → ⊥) → OutOfReach s row.ino.0 e → ReachesAll shape x k y j z (of_dir c ∷ of_dir m ∷ []) (moved s row.dir.0 a e b row.ino.0)
moved_reaches shape x k w p y j z row e a b c m s h two reads is named none apart pre g applied =
    let dno = dir_ino shape x.words row.dir.0 h.dir in
    let goes = moved_goes shape x k w p y j row e b c m h in
    reaches_moved shape x k y j z s row.dir.0 row.slot a e b row.ino.0 c m g pre reads goes (moved_comes shape x k w p y j row e b c m h) (less_removed shape x y j row.dir.0 row.slot c goes dno) dno (dir_ino shape x.words e h.to) two is.dir h.to is.entry named (no_row shape x.words s e b reads none) (moved_tree shape x.words s a row e b reads is h.to none apart) applied

moved_order : (shape : VolumeShape) (x : Seen) (k : Kept) (w : Seen) (p : Kept) (y : Seen) (j : Kept) (z : Seen) (row : Row) (e : ℕ) (b : List ℕ) (c m : DirChange) → MovedRow shape x k w p y j row e b c m → row.dir.0 ≢ e → OrdersAll shape x k y j z (of_dir c ∷ of_dir m ∷ [])
moved_order shape x k w p y j z row e b c m h two pre g applied =
    let dno = dir_ino shape x.words row.dir.0 h.dir in
    let goes = moved_goes shape x k w p y j row e b c m h in
    order_moved shape x k y j z row.dir.0 row.slot e b row.ino.0 c m g pre goes (moved_comes shape x k w p y j row e b c m h) (less_removed shape x y j row.dir.0 row.slot c goes dno) dno (dir_ino shape x.words e h.to) two applied

pub moved_planned : {shape : VolumeShape} {x : Seen} {k : Kept} {w : Seen} {p : Kept} {y : Seen} {j : Kept} {row : Row} {e : ℕ} {b : List ℕ} {c m : DirChange} {items : List NodeChange} → MovedRow shape x k w p y j row e b c m → items ≡ of_dir c ∷ of_dir m ∷ [] → row.dir.0 ≢ e → Planned shape x y j items
moved_planned {shape = shape} {x = x} {k = k} {w = w} {p = p} {y = y} {j = j} {row = row} {e = e} {b = b} {c = c} {m = m} h is two = planned is (omega arith) (moved_requested shape x k w p y j row e b c m h) (λ z. moved_order shape x k w p y j z row e b c m h two)

-- there was room for it
pub moved_leads : {shape : VolumeShape} {x : Seen} {k : Kept} {w : Seen} {p : Kept} {y : Seen} {j : Kept} {row : Row} {e : ℕ} {b : List ℕ} {c m : DirChange} {items : List NodeChange} (s : State) (a : List ℕ) → MovedRow shape x k w p y j row e b c m → items ≡ of_dir c ∷ of_dir m ∷ [] → row.dir.0 ≢ e → wanted_blocks (held_of shape w.words e).size ((held_of shape w.words e).size + 64) ≤ length (free_blocks shape w.words) → ReadsAs shape x.words s → IsRow shape x.words a row → IsName b → ((n : ℕ) → HasRow (held_of shape x.words e) b n → ⊥) → OutOfReach s row.ino.0 e → LeadsBy Done shape x k y j s (move_row s row.dir.0 a e b row.ino.0) items
moved_leads {shape = shape} {x = x} {k = k} {w = w} {p = p} {y = y} {j = j} {row = row} {e = e} {b = b} {c = c} {m = m} s a h is two space reads row_is named none apart =
    leads Done s (move_row s row.dir.0 a e b row.ino.0) (moved s row.dir.0 a e b row.ino.0) is (moved_requested shape x k w p y j row e b c m h) (λ z. moved_reaches shape x k w p y j z row e a b c m s h two reads row_is named none apart)
    (move_room shape w.words s row.dir.0 a e b row.ino.0 (reads_agree shape x.words w.words s reads h.leaves.words) two (ap (λ (i : Held). i.kind) (held_at shape x k w p e h.ready h.leaves) ∙ h.to) space) reads

-- ---- over a row of the same directory

pub record WithinRow (shape : VolumeShape) (x : Seen) (k : Kept) (w : Seen) (p : Kept) (y : Seen) (j : Kept) (from to : Row) (blocks : List Block) (c : DirChange) (m : NodeChange) : Type 0 where
  pub ready : Ready shape x k
  pub settled : Settled x k
  pub leaves : LeavesInUse (volume_layout shape x.words) x k w p
  pub later : LeavesInUse (volume_layout shape w.words) w p y j
  pub words : y.words ≡ w.words
  pub plan : PlansDir shape x.words w p to.dir.0 (ReplacesRow to.slot from.ino.0 from.slot) c
  pub listed : numbers blocks ≡ node_blocks (placed_at w.words to.ino.0)
  pub gone : IsGone to.ino.0 blocks m
  pub dir : (held_of shape x.words to.dir.0).kind ≡ 1
  pub used : 0 < (held_of shape x.words to.ino.0).kind

within_stood : (shape : VolumeShape) (x : Seen) (k : Kept) (w : Seen) (p : Kept) (y : Seen) (j : Kept) (from to : Row) (blocks : List Block) (c : DirChange) (m : NodeChange) → WithinRow shape x k w p y j from to blocks c m → Stood shape x y j to.dir.0 (ReplacesRow to.slot from.ino.0 from.slot) c
within_stood shape x k w p y j from to blocks c m h =
    let ino = dir_ino shape x.words to.dir.0 h.dir in
    let now : Stood shape x w p to.dir.0 (ReplacesRow to.slot from.ino.0 from.slot) c = stood_now shape x x k w p to.dir.0 (ReplacesRow to.slot from.ino.0 from.slot) c h.ready h.leaves ino refl (λ b within. refl) h.plan in
    stood_after shape x w p y j to.dir.0 (ReplacesRow to.slot from.ino.0 from.slot) c now (ready_left shape x k w p h.ready h.leaves) h.later ino (less_replaced shape x w p to.dir.0 to.slot from.ino.0 from.slot c now ino)

within_requested : (shape : VolumeShape) (x : Seen) (k : Kept) (w : Seen) (p : Kept) (y : Seen) (j : Kept) (from to : Row) (blocks : List Block) (c : DirChange) (m : NodeChange) → WithinRow shape x k w p y j from to blocks c m → Requested shape x k y j (of_dir c ∷ m ∷ [])
within_requested shape x k w p y j from to blocks c m h =
    let leaves = leaves_trans shape x k w p y j h.ready h.leaves h.later in
    let mapped = (ready_left shape x k y j h.ready leaves).order.mapped in
    record {
      ready = h.ready;
      settled = h.settled;
      leaves = leaves;
      may = (dir_may shape x y j to.dir.0 (ReplacesRow to.slot from.ino.0 from.slot) c mapped (dir_ino shape x.words to.dir.0 h.dir) (within_stood shape x k w p y j from to blocks c m h), (gone_may shape y to.ino.0 blocks m mapped (used_ino shape x.words to.ino.0 h.used) h.gone (kind_still shape x k y j to.ino.0 h.ready leaves h.used) (listed_on blocks to.ino.0 w y h.words h.listed), tt));
      lowest = lowest_each shape x.words (of_dir c ∷ m ∷ []) (stood_lower shape x y j to.dir.0 (ReplacesRow to.slot from.ino.0 from.slot) c (within_stood shape x k w p y j from to blocks c m h), (bare_lower shape x.words m h.gone.taken, tt));
    }

within_reaches : (shape : VolumeShape) (x : Seen) (k : Kept) (w : Seen) (p : Kept) (y : Seen) (j : Kept) (z : Seen) (a b : List ℕ) (from to : Row) (blocks : List Block) (c : DirChange) (m : NodeChange) (s : State) → WithinRow shape x k w p y j from to blocks c m → from.dir.0 ≡ to.dir.0 → ReadsAs shape x.words s → OverLeaf shape x.words a b from to → ReachesAll shape x k y j z (of_dir c ∷ m ∷ []) (replaced s from.dir.0 a to.dir.0 b from.ino.0 to.ino.0)
within_reaches shape x k w p y j z a b from to blocks c m s h one reads rows pre g applied =
    subst (λ d. Reaches shape x.words z j (of_dir c ∷ m ∷ []) g (replaced s d a to.dir.0 b from.ino.0 to.ino.0)) (sym one)
    (reaches_within shape x k y j z s to.dir.0 from.slot to.slot a b from.ino.0 to.ino.0 blocks c m g pre reads (within_stood shape x k w p y j from to blocks c m h) h.gone (listed_on blocks to.ino.0 w y h.words h.listed) (dir_ino shape x.words to.dir.0 h.dir) (used_ino shape x.words to.ino.0 h.used) h.dir (subst (λ d. IsEntry (held_of shape x.words d) from.slot a from.ino.0) one rows.old.entry) rows.over.entry rows.other rows.leaf_to h.used
    (leaf_apart shape x.words to.ino.0 1 rows.leaf_to (root_held shape x.words h.ready.order.mapped)) (leaf_apart shape x.words to.ino.0 to.dir.0 rows.leaf_to h.dir)
    (subst (λ d. TreeRule (replaced s d a to.dir.0 b from.ino.0 to.ino.0)) one (replaced_tree shape x.words s a b from to reads rows)) applied)

pub within_leads : {shape : VolumeShape} {x : Seen} {k : Kept} {w : Seen} {p : Kept} {y : Seen} {j : Kept} {from to : Row} {blocks : List Block} {c : DirChange} {m : NodeChange} {items : List NodeChange} (s : State) (a b : List ℕ) → WithinRow shape x k w p y j from to blocks c m → items ≡ of_dir c ∷ m ∷ [] → from.dir.0 ≡ to.dir.0 → ReadsAs shape x.words s → OverLeaf shape x.words a b from to → LeadsBy Done shape x k y j s (answered (replaced s from.dir.0 a to.dir.0 b from.ino.0 to.ino.0) Done) items
within_leads {shape = shape} {x = x} {k = k} {w = w} {p = p} {y = y} {j = j} {from = from} {to = to} {blocks = blocks} {c = c} {m = m} s a b h is one reads rows =
    leads Done s (answered (replaced s from.dir.0 a to.dir.0 b from.ino.0 to.ino.0) Done) (replaced s from.dir.0 a to.dir.0 b from.ino.0 to.ino.0) is (within_requested shape x k w p y j from to blocks c m h) (λ z. within_reaches shape x k w p y j z a b from to blocks c m s h one reads rows) refl reads

pub within_planned : {shape : VolumeShape} {x : Seen} {k : Kept} {w : Seen} {p : Kept} {y : Seen} {j : Kept} {from to : Row} {blocks : List Block} {c : DirChange} {m : NodeChange} {items : List NodeChange} (s : State) (a b : List ℕ) → WithinRow shape x k w p y j from to blocks c m → items ≡ of_dir c ∷ m ∷ [] → from.dir.0 ≡ to.dir.0 → ReadsAs shape x.words s → OverLeaf shape x.words a b from to → Planned shape x y j items
within_planned {shape = shape} {x = x} {k = k} {w = w} {p = p} {y = y} {j = j} {from = from} {to = to} {blocks = blocks} {c = c} {m = m} s a b h is one reads rows =
    planned_reached is (omega arith) (within_requested shape x k w p y j from to blocks c m h) (replaced s from.dir.0 a to.dir.0 b from.ino.0 to.ino.0) (λ z. within_reaches shape x k w p y j z a b from to blocks c m s h one reads rows)

-- ---- over a row of another directory

pub record AcrossRow (shape : VolumeShape) (x : Seen) (k : Kept) (w : Seen) (p : Kept) (u : Seen) (q : Kept) (y : Seen) (j : Kept) (from to : Row) (b : List ℕ) (blocks : List Block) (c m : DirChange) (v : NodeChange) : Type 0 where
  pub ready : Ready shape x k
  pub settled : Settled x k
  pub leaves : LeavesInUse (volume_layout shape x.words) x k w p
  pub later : LeavesInUse (volume_layout shape w.words) w p u q
  pub last : LeavesInUse (volume_layout shape u.words) u q y j
  pub words : y.words ≡ u.words
  pub goes : PlansDir shape x.words w p from.dir.0 (RemovesRow from.slot) c
  pub comes : PlansDir shape w.words u q to.dir.0 (SetsRow to.slot b from.ino.0) m
  pub listed : numbers blocks ≡ node_blocks (placed_at u.words to.ino.0)
  pub gone : IsGone to.ino.0 blocks v
  pub dir : (held_of shape x.words from.dir.0).kind ≡ 1
  pub to_dir : (held_of shape x.words to.dir.0).kind ≡ 1
  pub used : 0 < (held_of shape x.words to.ino.0).kind

across_later : (shape : VolumeShape) (x : Seen) (k : Kept) (w : Seen) (p : Kept) (u : Seen) (q : Kept) (y : Seen) (j : Kept) (from to : Row) (b : List ℕ) (blocks : List Block) (c m : DirChange) (v : NodeChange) → AcrossRow shape x k w p u q y j from to b blocks c m v → LeavesInUse (volume_layout shape w.words) w p y j
across_later shape x k w p u q y j from to b blocks c m v h = leaves_trans shape w p u q y j (ready_left shape x k w p h.ready h.leaves) h.later h.last

across_goes : (shape : VolumeShape) (x : Seen) (k : Kept) (w : Seen) (p : Kept) (u : Seen) (q : Kept) (y : Seen) (j : Kept) (from to : Row) (b : List ℕ) (blocks : List Block) (c m : DirChange) (v : NodeChange) → AcrossRow shape x k w p u q y j from to b blocks c m v → Stood shape x y j from.dir.0 (RemovesRow from.slot) c
across_goes shape x k w p u q y j from to b blocks c m v h = removed_stood shape x k w p y j from.dir.0 from.slot c h.ready h.leaves (across_later shape x k w p u q y j from to b blocks c m v h) (dir_ino shape x.words from.dir.0 h.dir) h.goes

across_comes : (shape : VolumeShape) (x : Seen) (k : Kept) (w : Seen) (p : Kept) (u : Seen) (q : Kept) (y : Seen) (j : Kept) (from to : Row) (b : List ℕ) (blocks : List Block) (c m : DirChange) (v : NodeChange) → AcrossRow shape x k w p u q y j from to b blocks c m v → Stood shape x y j to.dir.0 (SetsRow to.slot b from.ino.0) m
across_comes shape x k w p u q y j from to b blocks c m v h =
    let ino = dir_ino shape x.words to.dir.0 h.to_dir in
    let then_ready = ready_left shape x k w p h.ready h.leaves in
    let now : Stood shape x u q to.dir.0 (SetsRow to.slot b from.ino.0) m = stood_now shape x w p u q to.dir.0 (SetsRow to.slot b from.ino.0) m then_ready h.later ino (held_at shape x k w p to.dir.0 h.ready h.leaves) (bits_left shape x k w p h.ready h.leaves) h.comes in
    stood_after shape x u q y j to.dir.0 (SetsRow to.slot b from.ino.0) m now (ready_left shape w p u q then_ready h.later) h.last ino (less_set shape x u q to.dir.0 to.slot b from.ino.0 m now ino)

across_requested : (shape : VolumeShape) (x : Seen) (k : Kept) (w : Seen) (p : Kept) (u : Seen) (q : Kept) (y : Seen) (j : Kept) (from to : Row) (b : List ℕ) (blocks : List Block) (c m : DirChange) (v : NodeChange) → AcrossRow shape x k w p u q y j from to b blocks c m v → Requested shape x k y j (of_dir c ∷ of_dir m ∷ v ∷ [])
across_requested shape x k w p u q y j from to b blocks c m v h =
    let leaves = leaves_trans shape x k w p y j h.ready h.leaves (across_later shape x k w p u q y j from to b blocks c m v h) in
    let mapped = (ready_left shape x k y j h.ready leaves).order.mapped in
    let first = dir_may shape x y j from.dir.0 (RemovesRow from.slot) c mapped (dir_ino shape x.words from.dir.0 h.dir) (across_goes shape x k w p u q y j from to b blocks c m v h) in
    let second = dir_may shape x y j to.dir.0 (SetsRow to.slot b from.ino.0) m mapped (dir_ino shape x.words to.dir.0 h.to_dir) (across_comes shape x k w p u q y j from to b blocks c m v h) in
    let third = gone_may shape y to.ino.0 blocks v mapped (used_ino shape x.words to.ino.0 h.used) h.gone (kind_still shape x k y j to.ino.0 h.ready leaves h.used) (listed_on blocks to.ino.0 u y h.words h.listed) in
    record {
      ready = h.ready;
      settled = h.settled;
      leaves = leaves;
      may = (first, (second, (third, tt)));
      lowest = lowest_each shape x.words (of_dir c ∷ of_dir m ∷ v ∷ []) (stood_lower shape x y j from.dir.0 (RemovesRow from.slot) c (across_goes shape x k w p u q y j from to b blocks c m v h), (stood_lower shape x y j to.dir.0 (SetsRow to.slot b from.ino.0) m (across_comes shape x k w p u q y j from to b blocks c m v h), (bare_lower shape x.words v h.gone.taken, tt)));
    }

across_reaches : (shape : VolumeShape) (x : Seen) (k : Kept) (w : Seen) (p : Kept) (u : Seen) (q : Kept) (y : Seen) (j : Kept) (z : Seen) (a b : List ℕ) (from to : Row) (blocks : List Block) (c m : DirChange) (v : NodeChange) (s : State) → AcrossRow shape x k w p u q y j from to b blocks c m v → from.dir.0 ≢ to.dir.0 → ReadsAs shape x.words s → OverLeaf shape x.words a b from to → ReachesAll shape x k y j z (of_dir c ∷ of_dir m ∷ v ∷ []) (replaced s from.dir.0 a to.dir.0 b from.ino.0 to.ino.0)
across_reaches shape x k w p u q y j z a b from to blocks c m v s h two reads rows pre g applied =
    let dno = dir_ino shape x.words from.dir.0 h.dir in
    let goes = across_goes shape x k w p u q y j from to b blocks c m v h in
    reaches_across shape x k y j z s from.dir.0 from.slot a to.dir.0 to.slot b from.ino.0 to.ino.0 blocks c m v g pre reads goes (across_comes shape x k w p u q y j from to b blocks c m v h) (less_removed shape x y j from.dir.0 from.slot c goes dno) h.gone (listed_on blocks to.ino.0 u y h.words h.listed) dno (dir_ino shape x.words to.dir.0 h.to_dir) (used_ino shape x.words to.ino.0 h.used) two h.dir h.to_dir rows.old.entry rows.over.entry rows.other rows.leaf_to h.used
    (leaf_apart shape x.words to.ino.0 1 rows.leaf_to (root_held shape x.words h.ready.order.mapped)) (leaf_apart shape x.words to.ino.0 from.dir.0 rows.leaf_to h.dir) (leaf_apart shape x.words to.ino.0 to.dir.0 rows.leaf_to h.to_dir)
    (replaced_tree shape x.words s a b from to reads rows) applied

pub across_leads : {shape : VolumeShape} {x : Seen} {k : Kept} {w : Seen} {p : Kept} {u : Seen} {q : Kept} {y : Seen} {j : Kept} {from to : Row} {b : List ℕ} {blocks : List Block} {c m : DirChange} {v : NodeChange} {items : List NodeChange} (s : State) (a : List ℕ) → AcrossRow shape x k w p u q y j from to b blocks c m v → items ≡ of_dir c ∷ of_dir m ∷ v ∷ [] → from.dir.0 ≢ to.dir.0 → ReadsAs shape x.words s → OverLeaf shape x.words a b from to → LeadsBy Done shape x k y j s (answered (replaced s from.dir.0 a to.dir.0 b from.ino.0 to.ino.0) Done) items
across_leads {shape = shape} {x = x} {k = k} {w = w} {p = p} {u = u} {q = q} {y = y} {j = j} {from = from} {to = to} {b = b} {blocks = blocks} {c = c} {m = m} {v = v} s a h is two reads rows =
    leads Done s (answered (replaced s from.dir.0 a to.dir.0 b from.ino.0 to.ino.0) Done) (replaced s from.dir.0 a to.dir.0 b from.ino.0 to.ino.0) is (across_requested shape x k w p u q y j from to b blocks c m v h) (λ z. across_reaches shape x k w p u q y j z a b from to blocks c m v s h two reads rows) refl reads

pub across_planned : {shape : VolumeShape} {x : Seen} {k : Kept} {w : Seen} {p : Kept} {u : Seen} {q : Kept} {y : Seen} {j : Kept} {from to : Row} {b : List ℕ} {blocks : List Block} {c m : DirChange} {v : NodeChange} {items : List NodeChange} (s : State) (a : List ℕ) → AcrossRow shape x k w p u q y j from to b blocks c m v → items ≡ of_dir c ∷ of_dir m ∷ v ∷ [] → from.dir.0 ≢ to.dir.0 → ReadsAs shape x.words s → OverLeaf shape x.words a b from to → Planned shape x y j items
across_planned {shape = shape} {x = x} {k = k} {w = w} {p = p} {u = u} {q = q} {y = y} {j = j} {from = from} {to = to} {b = b} {blocks = blocks} {c = c} {m = m} {v = v} s a h is two reads rows =
    planned_reached is (omega arith) (across_requested shape x k w p u q y j from to b blocks c m v h) (replaced s from.dir.0 a to.dir.0 b from.ino.0 to.ino.0) (λ z. across_reaches shape x k w p u q y j z a b from to blocks c m v s h two reads rows)
