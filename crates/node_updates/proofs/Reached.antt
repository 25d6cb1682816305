-- What the changes of a request suppose once all is prepared and its blocks are touched, and what is reached by them.
use Rattle.request_ends.proofs.Common.{◌≡◌, ◌≢◌, ℕ, ◌⊎◌, List, map, ap, inl, inr, None, PageName, VolumeShape, BlockWords, Seen, Kept, State, Held, held_of, volume_layout, held_of_agree, ReadsAs, LeavesInUse, Ready, IsMapped, ready_left, InOrder}
use Rattle.std.specs.Prelude.{Option}
use Rattle.rio_model.proofs.LowestBlocks.{bits_agree}
use Rattle.rio_model.specs.NodeChanges.{UsesLowest}
use Rattle.node_updates.specs.Changes.{AllApplied, IsTouchedBy, change_update}
use Rattle.node_updates.specs.Committing.{Touched}
use Rattle.node_updates.specs.declared.changes.NodeChange.{NodeChange}
use Rattle.node_updates.proofs.Ended.{Reaches}
use Rattle.node_updates.proofs.Fitting.{AllFit, freed_above, freed_out, may_touch}
use Rattle.node_updates.proofs.LowestTaken.{TakesLowest, uses_lowest}
use Rattle.node_updates.proofs.Steps.{order_start}

-- x and k are before the request, y and j are the volume once all is prepared, and z once the update has touched its blocks
pub record Prepared (shape : VolumeShape) (x : Seen) (k : Kept) (y : Seen) (j : Kept) (z : Seen) (changes : List NodeChange) : Type 0 where
  pub ready : Ready shape x k
  pub leaves : LeavesInUse (volume_layout shape x.words) x k y j
  pub touched : Touched shape changes y z
  pub fits : AllFit shape y.words changes
  pub lowest : TakesLowest shape x.words changes

pub mapped_now : (shape : VolumeShape) (x : Seen) (k : Kept) (y : Seen) (j : Kept) (z : Seen) (changes : List NodeChange) → Prepared shape x k y j z changes → IsMapped shape y.words
mapped_now shape x k y j z changes p = (ready_left shape x k y j p.ready p.leaves).order.mapped

-- names are right, with the update's blocks cached
pub order_now : (shape : VolumeShape) (x : Seen) (k : Kept) (y : Seen) (j : Kept) (z : Seen) (changes : List NodeChange) → Prepared shape x k y j z changes → InOrder shape y.words z j
order_now shape x k y j z changes p =
    let now = ready_left shape x k y j p.ready p.leaves in
    order_start shape y.words (IsTouchedBy changes) y z j now.order p.touched.has_shape (may_touch shape y.words changes now.order.mapped p.fits) p.touched.caches

pub held_now : (shape : VolumeShape) (x : Seen) (k : Kept) (y : Seen) (j : Kept) (z : Seen) (changes : List NodeChange) → Prepared shape x k y j z changes → (n : ℕ) → held_of shape y.words n ≡ held_of shape x.words n
held_now shape x k y j z changes p n = ap (λ (h : ℕ → Held). h n) (held_of_agree shape x.words y.words p.ready.order.mapped p.leaves.words)

pub unnamed_touch : (changes : List NodeChange) (b : ℕ) (name : Option PageName) → IsTouchedBy changes b name → name ≡ None
unnamed_touch changes b name t = t.1

-- the blocks that are used once they are made
pub lowest_now : (shape : VolumeShape) (x : Seen) (k : Kept) (y : Seen) (j : Kept) (z : Seen) (changes : List NodeChange) (g : BlockWords) → Prepared shape x k y j z changes → AllApplied shape (map change_update changes) y.words g → UsesLowest shape x.words g
lowest_now shape x k y j z changes g p applied = uses_lowest shape x.words y.words g changes p.ready.order.mapped.laid.shape_fits (bits_agree shape x.words y.words p.ready.order.mapped.laid.shape_fits p.leaves.words.low) p.fits p.lowest applied

-- what is reached, once its parts are known
pub reached : (shape : VolumeShape) (x : Seen) (k : Kept) (y : Seen) (j : Kept) (z : Seen) (changes : List NodeChange) (g : BlockWords) (t : State) → Prepared shape x k y j z changes → AllApplied shape (map change_update changes) y.words g → InOrder shape g z j → ReadsAs shape g t → ((n : ℕ) → (held_of shape g n ≡ held_of shape x.words n) ⊎ ((held_of shape g n).kind ≢ 3)) → Reaches shape x.words z j changes g t
reached shape x k y j z changes g t p applied order reads stays = record {
  order = order;
  reads = reads;
  spares = record { each = λ n region. elim (stays n) [ inl same ↦ inl same | inr other ↦ absurd (other region) ] };
  lowest = lowest_now shape x k y j z changes g p applied;
  out = freed_out shape y.words g changes (mapped_now shape x k y j z changes p) order.mapped p.fits applied;
  above = freed_above shape y.words changes (mapped_now shape x k y j z changes p) p.fits;
}
