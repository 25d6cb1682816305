-- A node and its row, made in one update: that the changes can be made, and the state that they come to.
use Rattle.request_ends.proofs.Common.{◌≡◌, ℕ, ◌+◌, ◌<◌, ◌⊎◌, List, [], ◌∷◌, refl, sym, ap, subst, ◌∙◌, arith, inl, inr, Result, Err, IsErrOf, Some, VolumeShape, BlockWords, Seen, IsIno, Kept, Settled, State, answered, with_new, held_of, IsName, volume_layout, ReadsAs, LeavesInUse, Ready, ready_left, make_new, row_wanted, with_room, Number, free_blocks, wanted_blocks, SizeFail, NoSpace, TooLarge}
use Rattle.directories.specs.Plans.{PlansDir}
use Rattle.directories.specs.Rows.{HasRow}
use Rattle.directories.specs.declared.changes.DirChange.{DirChange}
use Rattle.directories.specs.RowChanges.{AddsRow}
use Rattle.std.specs.Prelude.{length}
use Rattle.rio_requests.specs.Answers.{new_blocks, empty_node}
use Rattle.request_ends.specs.Failures.{fail_of_size}
use Rattle.request_ends.proofs.AnsweredAt.{FailsBy}
use Rattle.node_updates.specs.Changes.{IsMade, of_dir}
use Rattle.node_updates.specs.declared.changes.NodeChange.{NodeChange}
use Rattle.file_tree.proofs.LookedAt.{no_row}
use Rattle.node_updates.proofs.LowestTaken.{bare_lower, lowest_each, stood_lower}
use Rattle.node_making.proofs.ReachedMade.{reaches_made}
use Rattle.node_updates.proofs.Requested.{ReachesAll, Requested, dir_ino, dir_may, made_may}
use Rattle.file_tree.proofs.RowRoom.{fails_add}
use Rattle.node_updates.proofs.Stood.{Stood, stood_now}

-- row c of directory d and node m of inode i, prepared
pub record NewRow (shape : VolumeShape) (x : Seen) (k : Kept) (y : Seen) (j : Kept) (d : ℕ) (name : List ℕ) (i kind : ℕ) (c : DirChange) (m : NodeChange) : Type 0 where
  pub ready : Ready shape x k
  pub leaves : LeavesInUse (volume_layout shape x.words) x k y j
  pub plan : PlansDir shape x.words y j d (AddsRow name i) c
  pub made : IsMade i kind m
  pub dir : (held_of shape x.words d).kind ≡ 1
  pub ino : IsIno shape i
  pub free : (held_of shape x.words i).kind ≡ 0
  pub which : (kind ≡ 1) ⊎ (kind ≡ 2)
  pub is_name : IsName name
  pub absent : (n : ℕ) → HasRow (held_of shape x.words d) name n → ⊥

new_stood : (shape : VolumeShape) (x : Seen) (k : Kept) (y : Seen) (j : Kept) (d : ℕ) (name : List ℕ) (i kind : ℕ) (c : DirChange) (m : NodeChange) → NewRow shape x k y j d name i kind c m → Stood shape x y j d (AddsRow name i) c
new_stood shape x k y j d name i kind c m h = stood_now shape x x k y j d (AddsRow name i) c h.ready h.leaves (dir_ino shape x.words d h.dir) refl (λ b within. refl) h.plan

pub new_requested : (shape : VolumeShape) (x : Seen) (k : Kept) (y : Seen) (j : Kept) (d : ℕ) (name : List ℕ) (i kind : ℕ) (c : DirChange) (m : NodeChange) → Settled x k → NewRow shape x k y j d name i kind c m → Requested shape x k y j (of_dir c ∷ m ∷ [])
new_requested shape x k y j d name i kind c m settled h =
    let mapped = (ready_left shape x k y j h.ready h.leaves).order.mapped in
    record {
      ready = h.ready;
      settled = settled;
      leaves = h.leaves;
      may = (dir_may shape x y j d (AddsRow name i) c mapped (dir_ino shape x.words d h.dir) (new_stood shape x k y j d name i kind c m h), (made_may shape y i kind m mapped h.ino h.made, tt));
      lowest = lowest_each shape x.words (of_dir c ∷ m ∷ []) (stood_lower shape x y j d (AddsRow name i) c (new_stood shape x k y j d name i kind c m h), (bare_lower shape x.words m h.made.taken, tt));
    }

pub new_reaches : (shape : VolumeShape) (x : Seen) (k : Kept) (y : Seen) (j : Kept) (z : Seen) (d : ℕ) (name : List ℕ) (i kind : ℕ) (c : DirChange) (m : NodeChange) (s : State) → NewRow shape x k y j d name i kind c m → ReadsAs shape x.words s → ReachesAll shape x k y j z (of_dir c ∷ m ∷ []) (with_new s d name i (empty_node kind))
new_reaches shape x k y j z d name i kind c m s h reads p g applied =
    reaches_made shape x k y j z s d name i kind c m g p reads (new_stood shape x k y j d name i kind c m h) h.made (dir_ino shape x.words d h.dir) h.ino h.dir h.free h.which h.is_name (no_row shape x.words s d name reads h.absent) applied

-- ---- the blocks that it needs

no_blocks : (kind : ℕ) → (kind ≡ 1) ⊎ (kind ≡ 2) → new_blocks (empty_node kind) ≡ 0
no_blocks kind (inl is) = ap (λ k. new_blocks (empty_node k)) is
no_blocks kind (inr is) = ap (λ k. new_blocks (empty_node k)) is

-- an empty node takes none: those of the row are all
pub new_needs : (s : State) (d : ℕ) (name : List ℕ) (i kind : ℕ) → (kind ≡ 1) ⊎ (kind ≡ 2) → make_new s d name (empty_node kind) (Some i) ≡ with_room s (row_wanted s d) (answered (with_new s d name i (empty_node kind)) (Number i))
new_needs s d name i kind which = ap (λ n. with_room s n (answered (with_new s d name i (empty_node kind)) (Number i))) (ap (λ n. n + row_wanted s d) (no_blocks kind which) ∙ none)
  where
    none : 0 + row_wanted s d ≡ row_wanted s d
    none = omega arith

pub fails_new : {T : Type 0} (shape : VolumeShape) (f : BlockWords) (s : State) (d : ℕ) (name : List ℕ) (i kind : ℕ) (r : Result T SizeFail) (e : SizeFail) → (kind ≡ 1) ⊎ (kind ≡ 2) → r ≡ Err e → ReadsAs shape f s → (held_of shape f d).kind ≡ 1 → (IsErrOf r NoSpace → length (free_blocks shape f) < wanted_blocks (held_of shape f d).size ((held_of shape f d).size + 64)) → (IsErrOf r TooLarge → ⊥) → FailsBy s (make_new s d name (empty_node kind) (Some i)) (fail_of_size e)
fails_new shape f s d name i kind r e which re reads dir few large = subst (λ a. FailsBy s a (fail_of_size e)) (sym (new_needs s d name i kind which)) (fails_add shape f s d (answered (with_new s d name i (empty_node kind)) (Number i)) r e re reads dir few large)
