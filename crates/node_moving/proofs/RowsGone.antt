-- A row and its node removed in one update: that the changes can be made, and the state that they come to.
use Rattle.request_ends.proofs.Common.{◌≡◌, ◌≢◌, ℕ, ◌<◌, List, [], ◌∷◌, arith, refl, sym, ap, subst, ◌∙◌, Some, get, Block, VolumeShape, BlockWords, Seen, Kept, Settled, numbers, State, held_of, placed_at, volume_layout, ReadsAs, LeavesInUse, Ready, TreeRule, node_blocks, leaves_trans, ready_left}
use Rattle.directories.specs.Plans.{PlansDir}
use Rattle.directories.specs.Rows.{IsEntry}
use Rattle.directories.specs.declared.changes.DirChange.{DirChange}
use Rattle.rio_requests.specs.Answers.{without}
use Rattle.directories.specs.RowChanges.{RemovesRow}
use Rattle.node_updates.specs.Changes.{IsGone, of_dir}
use Rattle.file_tree.proofs.RowReads.{bare_names, by_each, sound_of}
use Rattle.node_moving.proofs.TreeMoves.{tree_without}
use Rattle.node_updates.specs.declared.changes.NodeChange.{NodeChange}
use Rattle.region_view.proofs.UsedInodes.{used_ino}
use Rattle.file_tree.proofs.LookedAt.{row_read}
use Rattle.node_updates.proofs.LowestTaken.{bare_lower, lowest_each, stood_lower}
use Rattle.node_updates.proofs.Planning.{kind_still}
use Rattle.node_moving.proofs.ReachedGone.{less_removed, reaches_gone}
use Rattle.node_updates.proofs.Requested.{ReachesAll, Requested, dir_ino, dir_may, gone_may}
use Rattle.node_updates.proofs.Stood.{Stood, stood_now}
use Rattle.node_moving.proofs.StoodAfter.{stood_after}

-- the row of slot `slot` of directory d and node i, prepared. w and p are when the row is planned, before the node's blocks
-- are listed
pub record GoneRow (shape : VolumeShape) (x : Seen) (k : Kept) (w : Seen) (p : Kept) (y : Seen) (j : Kept) (d slot : ℕ) (name : List ℕ) (i : ℕ) (blocks : List Block) (c : DirChange) (m : NodeChange) : Type 0 where
  pub ready : Ready shape x k
  pub leaves : LeavesInUse (volume_layout shape x.words) x k w p
  pub later : LeavesInUse (volume_layout shape w.words) w p y j
  pub words : y.words ≡ w.words
  pub plan : PlansDir shape x.words w p d (RemovesRow slot) c
  pub listed : numbers blocks ≡ node_blocks (placed_at w.words i)
  pub gone : IsGone i blocks m
  pub dir : (held_of shape x.words d).kind ≡ 1
  pub entry : IsEntry (held_of shape x.words d) slot name i
  pub used : 0 < (held_of shape x.words i).kind
  pub bare : (held_of shape x.words i).kind ≡ 1 → (held_of shape x.words i).size ≡ 0

gone_stood : (shape : VolumeShape) (x : Seen) (k : Kept) (w : Seen) (p : Kept) (y : Seen) (j : Kept) (d slot : ℕ) (name : List ℕ) (i : ℕ) (blocks : List Block) (c : DirChange) (m : NodeChange) → GoneRow shape x k w p y j d slot name i blocks c m → Stood shape x y j d (RemovesRow slot) c
gone_stood shape x k w p y j d slot name i blocks c m h =
    let ino = dir_ino shape x.words d h.dir in
    let now : Stood shape x w p d (RemovesRow slot) c = stood_now shape x x k w p d (RemovesRow slot) c h.ready h.leaves ino refl (λ b within. refl) h.plan in
    stood_after shape x w p y j d (RemovesRow slot) c now (ready_left shape x k w p h.ready h.leaves) h.later ino (less_removed shape x w p d slot c now ino)

gone_leaves : (shape : VolumeShape) (x : Seen) (k : Kept) (w : Seen) (p : Kept) (y : Seen) (j : Kept) (d slot : ℕ) (name : List ℕ) (i : ℕ) (blocks : List Block) (c : DirChange) (m : NodeChange) → GoneRow shape x k w p y j d slot name i blocks c m → LeavesInUse (volume_layout shape x.words) x k y j
gone_leaves shape x k w p y j d slot name i blocks c m h = leaves_trans shape x k w p y j h.ready h.leaves h.later

-- blocks listed over w are those over y
gone_listed : (shape : VolumeShape) (x : Seen) (k : Kept) (w : Seen) (p : Kept) (y : Seen) (j : Kept) (d slot : ℕ) (name : List ℕ) (i : ℕ) (blocks : List Block) (c : DirChange) (m : NodeChange) → GoneRow shape x k w p y j d slot name i blocks c m → numbers blocks ≡ node_blocks (placed_at y.words i)
gone_listed shape x k w p y j d slot name i blocks c m h = h.listed ∙ sym (ap (λ (f : BlockWords). node_blocks (placed_at f i)) h.words)

pub gone_requested : (shape : VolumeShape) (x : Seen) (k : Kept) (w : Seen) (p : Kept) (y : Seen) (j : Kept) (d slot : ℕ) (name : List ℕ) (i : ℕ) (blocks : List Block) (c : DirChange) (m : NodeChange) → Settled x k → GoneRow shape x k w p y j d slot name i blocks c m → Requested shape x k y j (of_dir c ∷ m ∷ [])
gone_requested shape x k w p y j d slot name i blocks c m settled h =
    let leaves = gone_leaves shape x k w p y j d slot name i blocks c m h in
    let mapped = (ready_left shape x k y j h.ready leaves).order.mapped in
    record {
      ready = h.ready;
      settled = settled;
      leaves = leaves;
      may = (dir_may shape x y j d (RemovesRow slot) c mapped (dir_ino shape x.words d h.dir) (gone_stood shape x k w p y j d slot name i blocks c m h), (gone_may shape y i blocks m mapped (used_ino shape x.words i h.used) h.gone (kind_still shape x k y j i h.ready leaves h.used) (gone_listed shape x k w p y j d slot name i blocks c m h), tt));
      lowest = lowest_each shape x.words (of_dir c ∷ m ∷ []) (stood_lower shape x y j d (RemovesRow slot) c (gone_stood shape x k w p y j d slot name i blocks c m h), (bare_lower shape x.words m h.gone.taken, tt));
    }

pub gone_reaches : (shape : VolumeShape) (x : Seen) (k : Kept) (w : Seen) (p : Kept) (y : Seen) (j : Kept) (z : Seen) (d slot : ℕ) (name : List ℕ) (i : ℕ) (blocks : List Block) (c : DirChange) (m : NodeChange) (s : State) → GoneRow shape x k w p y j d slot name i blocks c m → ReadsAs shape x.words s → ReachesAll shape x k y j z (of_dir c ∷ m ∷ []) (without s d name i)
gone_reaches shape x k w p y j z d slot name i blocks c m s h reads pre g applied =
    reaches_gone shape x k y j z s d slot name i blocks c m g pre reads (gone_stood shape x k w p y j d slot name i blocks c m h) h.gone (gone_listed shape x k w p y j d slot name i blocks c m h) (dir_ino shape x.words d h.dir) (used_ino shape x.words i h.used) h.dir h.entry h.used h.bare tree root away applied
  where
    row : get s.names (d, name) ≡ Some i
    row = row_read shape x.words s d slot name i reads h.dir h.entry

    tree : TreeRule (without s d name i)
    tree = tree_without s d name i reads.tree row (λ n. bare_names (held_of shape x.words i) s i ((by_each (held_of shape x.words) s (sound_of shape x.words s reads)).each i) h.bare n)

    root : i ≢ 1
    root same = reads.tree.root d name (row ∙ ap Some same)

    -- a directory that has a row is not one without rows
    away : i ≢ d
    away same =
        let size : (held_of shape x.words d).size ≡ 0 = subst (λ n. (held_of shape x.words n).size ≡ 0) same (h.bare (subst (λ n. (held_of shape x.words n).kind ≡ 1) (sym same) h.dir)) in
        let within = h.entry.within in
        omega (arith, size, within)
