-- A request of one update: what is known of it once all is prepared, that its changes can be made, and how it ends by how
-- the call does that makes them. x and k are before the request, y and j when all is prepared, z and l after that call.
use Rattle.request_ends.proofs.Common.{◌≡◌, ℕ, ◌<◌, ◌≤◌, true, List, [], ◌∷◌, map, zero, suc, refl, sym, ap, subst, ◌∙◌, arith, inl, inr, Result, Ok, Err, None, Contains, VolFail, Block, VolumeShape, BlockWords, Seen, IsIno, Kept, Settled, numbers, Answered, Reply, State, answered, Held, held_of, Slot, AtPage, AtTable, Placed, HasSlot, Owns, Agrees, placed_at, volume_layout, SameLayout, lays_agree, lays_same, lays_self, owned_below, owned_on, SamePlaced, ReadsAs, Bears, LeavesInUse, Ready, IsMapped, node_blocks, ready_left, InOrder, Edit}
use Rattle.directories.proofs.MakingOrder.{plan_edits, plan_applies}
use Rattle.directories.specs.declared.changes.DirChange.{DirChange}
use Rattle.std.specs.Prelude.{length}
use Rattle.rio_base.specs.declared.failures.VolFail.TheVariants.{Fault as VolFault, Stopped as VolStopped}
use Rattle.rio_model.proofs.PlacedRules.{owns_back}
use Rattle.node_updates.specs.Changes.{AllApplied, CanCommit, CanMakeNode, IsGone, IsMade, change_update, of_dir}
use Rattle.node_updates.specs.Committing.{Commits, Touched}
use Rattle.request_ends.specs.Ends.{FileEnds}
use Rattle.request_ends.specs.Failures.{fail_of_vol}
use Rattle.node_updates.specs.declared.changes.NodeChange.{NodeChange}
use Rattle.request_ends.specs.declared.failures.FileFail.{FileFail}
use Rattle.node_updates.proofs.Blocks.{gone_fits, made_fits, stood_fits}
use Rattle.node_updates.proofs.Ended.{MayTouch, Reaches, ends_fault, ends_made, ends_stopped}
use Rattle.node_updates.proofs.Fitting.{AllFit, Fits, may_touch}
use Rattle.region_view.proofs.UsedInodes.{used_ino}
use Rattle.node_updates.proofs.LowestTaken.{TakesLowest}
use Rattle.node_updates.proofs.Reached.{Prepared}
use Rattle.node_updates.proofs.Steps.{MayBeMetadata}
use Rattle.node_updates.proofs.Stood.{Stood}

-- ---- changes that can be made

-- the inode of a directory
pub dir_ino : (shape : VolumeShape) (f : BlockWords) (d : ℕ) → (held_of shape f d).kind ≡ 1 → IsIno shape d
dir_ino shape f d dir = used_ino shape f d (omega (arith, dir))

-- a change that is prepared over the volume y, and that its update can make there
pub record MayMake (shape : VolumeShape) (y : Seen) (c : NodeChange) : Type 0 where
  pub fits : Fits shape y.words c
  pub can : CanMakeNode shape y c

abbrev pub AllMay : VolumeShape → Seen → List NodeChange → Type 0
AllMay shape y [] = Unit {0}
AllMay shape y (c ∷ changes) = MayMake shape y c × AllMay shape y changes

-- a directory's, that stood while later ones were planned
pub dir_may : (shape : VolumeShape) (x y : Seen) (j : Kept) (d : ℕ) (becomes : Held → Held → Type 0) (c : DirChange) → IsMapped shape y.words → IsIno shape d → Stood shape x y j d becomes c → MayMake shape y (of_dir c)
dir_may shape x y j d becomes c mapped ino h = record {
  fits = stood_fits shape x y j d becomes c mapped ino h;
  can = record {
    fits = record {
      ino = subst (IsIno shape) (sym h.plan.dir) ino;
      can = plan_applies shape h.was h.seen h.kept d becomes c h.plan;
    };
    few = h.plan.few;
    unnamed = λ e on. unnamed e (plan_edits shape h.was h.seen h.kept d becomes c h.plan e.block.0 (e, on, refl));
  };
}
  where
    unnamed : (e : Edit) → (t : Slot) × HasSlot h.plan.node t × (h.plan.node.block t ≡ e.block.0) → y.cached e.block.0 ≡ true → y.names e.block.0 ≡ None
    unnamed e (t, has, at) on = subst (λ b. y.names b ≡ None) at (h.unnamed t has (subst (λ b. y.cached b ≡ true) (sym at) on))

no_edit : (e : Edit) → Contains [] e → ⊥
no_edit e (t, few, at) = omega (arith, few)

-- one that edits no word of its blocks
bare_may : (shape : VolumeShape) (y : Seen) (c : NodeChange) → IsMapped shape y.words → c.edits ≡ [] → Fits shape y.words c → MayMake shape y c
bare_may shape y c mapped none fits = record {
  fits = fits;
  can = record {
    fits = record {
      ino = fits.ino;
      can = record {
        words = λ e on. absurd (away e on);
        from = λ e on. absurd (away e on);
        to = λ e on. absurd (away e on);
        taken = λ b on. (fits.takes b on).to;
        freed = λ b on. owned_below (volume_layout shape y.words) b mapped.laid.numbers (fits.frees b on);
        apart = λ b on off. (fits.takes b on).free (fits.frees b off);
      };
    };
    few = record { table = 0; first = 0; second = 0; each = λ e on. absurd (away e on) };
    unnamed = λ e on. absurd (away e on);
  };
}
  where
    away : (e : Edit) → Contains c.edits e → ⊥
    away e on = no_edit e (subst (λ es. Contains es e) none on)

pub made_may : (shape : VolumeShape) (y : Seen) (i kind : ℕ) (c : NodeChange) → IsMapped shape y.words → IsIno shape i → IsMade i kind c → MayMake shape y c
made_may shape y i kind c mapped ino made = bare_may shape y c mapped made.edits (made_fits shape y.words i kind c ino made)

pub gone_may : (shape : VolumeShape) (y : Seen) (i : ℕ) (blocks : List Block) (c : NodeChange) → IsMapped shape y.words → IsIno shape i → IsGone i blocks c → 0 < (placed_at y.words i).kind → numbers blocks ≡ node_blocks (placed_at y.words i) → MayMake shape y c
gone_may shape y i blocks c mapped ino gone used is = bare_may shape y c mapped gone.edits (gone_fits shape y.words i blocks c ino gone used is)

all_fit : (shape : VolumeShape) (y : Seen) (changes : List NodeChange) → AllMay shape y changes → AllFit shape y.words changes
all_fit shape y [] all = tt
all_fit shape y (c ∷ changes) all = (all.0.fits, all_fit shape y changes all.1)

may_of : (shape : VolumeShape) (y : Seen) (changes : List NodeChange) (c : NodeChange) → AllMay shape y changes → Contains changes c → MayMake shape y c
may_of shape y [] c all (t, few, at) = absurd (omega (arith, few))
may_of shape y (d ∷ changes) c all (zero, few, at) = subst (MayMake shape y) at all.0
may_of shape y (d ∷ changes) c all (suc t, few, at) = may_of shape y changes c all.1 (t, omega (arith, few), at)

-- ---- all is prepared

pub record Requested (shape : VolumeShape) (x : Seen) (k : Kept) (y : Seen) (j : Kept) (changes : List NodeChange) : Type 0 where
  pub ready : Ready shape x k
  pub settled : Settled x k
  pub leaves : LeavesInUse (volume_layout shape x.words) x k y j
  pub may : AllMay shape y changes
  pub lowest : TakesLowest shape x.words changes

-- what the call asks that makes the changes. `items` is the list that it is given
pub can_commit : (shape : VolumeShape) (x : Seen) (k : Kept) (y : Seen) (j : Kept) (items changes : List NodeChange) → items ≡ changes → length changes ≤ 3 → Requested shape x k y j changes → CanCommit shape y items
can_commit shape x k y j items changes is few h = subst (CanCommit shape y) (sym is) (record { few = few; each = λ c on. (may_of shape y changes c h.may on).can })

-- what may be cached over the blocks as they are when all is prepared may be so over them as they were
may_before : (shape : VolumeShape) (f g : BlockWords) (b : ℕ) → IsMapped shape f → Agrees (volume_layout shape f) f g → MayBeMetadata (volume_layout shape g) b → MayBeMetadata (volume_layout shape f) b
may_before shape f g b mapped agrees h = by h
  where
    same : SameLayout (volume_layout shape f) (volume_layout shape g)
    same = lays_same (volume_layout shape f) g (lays_agree (volume_layout shape f) f g mapped.laid.shape_fits (lays_self shape f) agrees)

    bears : (i : ℕ) (n m : Placed) (s : Slot) → SamePlaced n m → Bears i m s None → Bears i n s None
    bears i n m (AtTable t) e on = on
    bears i n m (AtPage p) e on = sym e.kind ∙ on

    by : MayBeMetadata (volume_layout shape g) b → MayBeMetadata (volume_layout shape f) b
    by (inl low) = inl low
    by (inr (inl free)) = inr (inl (record { from = free.from; to = free.to; free = λ own. free.free (owned_on (volume_layout shape f) (volume_layout shape g) b same own) }))
    by (inr (inr (i, s, own, at, on))) =
        let was : Owns (volume_layout shape f) i s = owns_back (volume_layout shape f) (volume_layout shape g) i s same own in
        let one : SamePlaced (placed_at f i) (placed_at g i) = same.each i was.ino in
        inr (inr (i, s, was, sym (one.blocks s was.slot) ∙ at, bears i (placed_at f i) (placed_at g i) s one on))

touch_before : (shape : VolumeShape) (x : Seen) (k : Kept) (y : Seen) (j : Kept) (changes : List NodeChange) → Requested shape x k y j changes → MayTouch shape x.words changes
touch_before shape x k y j changes h c name on =
    let may = may_touch shape y.words changes (ready_left shape x k y j h.ready h.leaves).order.mapped (all_fit shape y changes h.may) c name on in
    (may.0, may_before shape x.words y.words c h.ready.order.mapped h.leaves.words may.1)

-- ---- the call that makes the changes

pub record Committed (shape : VolumeShape) (x : Seen) (k : Kept) (y : Seen) (j : Kept) (z : Seen) (l : Kept) (changes : List NodeChange) (r : Result (Unit {0}) VolFail) : Type 0 where
  pub request : Requested shape x k y j changes
  pub commits : Commits shape changes y j z l r
  pub touched : Touched shape changes y z

pub committed : (shape : VolumeShape) (x : Seen) (k : Kept) (y : Seen) (j : Kept) (z : Seen) (l : Kept) (items changes : List NodeChange) (r : Result (Unit {0}) VolFail) → items ≡ changes → Requested shape x k y j changes → Commits shape items y j z l r → Touched shape items y z → Committed shape x k y j z l changes r
committed shape x k y j z l items changes r is h commits touched = record {
  request = h;
  commits = subst (λ cs. Commits shape cs y j z l r) is commits;
  touched = subst (λ cs. Touched shape cs y z) is touched;
}

-- what the changes come to: blocks that read as state t
abbrev pub ReachesAll : VolumeShape → Seen → Kept → Seen → Kept → Seen → List NodeChange → State → Type 0
ReachesAll shape x k y j z changes t = Prepared shape x k y j z changes → (g : BlockWords) → AllApplied shape (map change_update changes) y.words g → Reaches shape x.words z j changes g t

-- and blocks in which names of cached pages are right
abbrev pub OrdersAll : VolumeShape → Seen → Kept → Seen → Kept → Seen → List NodeChange → Type 0
OrdersAll shape x k y j z changes = Prepared shape x k y j z changes → (g : BlockWords) → AllApplied shape (map change_update changes) y.words g → InOrder shape g z j

pub prepared : (shape : VolumeShape) (x : Seen) (k : Kept) (y : Seen) (j : Kept) (z : Seen) (changes : List NodeChange) → Requested shape x k y j changes → Touched shape changes y z → Prepared shape x k y j z changes
prepared shape x k y j z changes h touched = record { ready = h.ready; leaves = h.leaves; touched = touched; fits = all_fit shape y changes h.may; lowest = h.lowest }

-- ---- how the request ends

-- it made them
pub ends_committed : {T : Type 0} (says : T → Reply → Type 0) (value : T) (shape : VolumeShape) (x : Seen) (k : Kept) (y : Seen) (j : Kept) (z : Seen) (l : Kept) (changes : List NodeChange) (r : Result (Unit {0}) VolFail) (u : Unit {0}) (s : State) (a : Answered) (t : State) (reply : Reply) (leads : ℕ → State → Type 0) → r ≡ Ok u → Committed shape x k y j z l changes r → ReachesAll shape x k y j z changes t → a ≡ answered t reply → says value reply → FileEnds says shape x k z l s a leads (Ok value)
ends_committed {T = T} says value shape x k y j z l changes r u s a t reply leads re h reach is told =
    subst (λ (b : Answered). FileEnds says shape x k z l s b leads (Ok value)) (sym is)
    (ends_made says value shape x k y j changes z l s (answered t reply) leads (reach (prepared shape x k y j z changes h.request h.touched)) (subst (λ (v : Result (Unit {0}) VolFail). Commits shape changes y j z l v) re h.commits) (reply, refl, told))

-- or not
uncommitted : (T : Type 0) (says : T → Reply → Type 0) (shape : VolumeShape) (x : Seen) (k : Kept) (y : Seen) (j : Kept) (z : Seen) (l : Kept) (changes : List NodeChange) (e : VolFail) (s t : State) (reply : Reply) (leads : ℕ → State → Type 0) → Requested shape x k y j changes → Touched shape changes y z → Commits {T = Unit {0}} shape changes y j z l (Err e) → ReachesAll shape x k y j z changes t → ReadsAs shape x.words s → leads 0 s → FileEnds says shape x k z l s (answered t reply) leads (Err (fail_of_vol e))
uncommitted T says shape x k y j z l changes VolFault s t reply leads h touched commits reach reads none = ends_fault says shape x k y j changes z l s (answered t reply) leads h.ready h.leaves reads touched (touch_before shape x k y j changes h) commits none
uncommitted T says shape x k y j z l changes VolStopped s t reply leads h touched commits reach reads none = ends_stopped says shape x k y j changes z l s (answered t reply) leads h.ready h.settled h.leaves reads touched (touch_before shape x k y j changes h) (reach (prepared shape x k y j z changes h touched)) commits

pub ends_uncommitted : {T : Type 0} (says : T → Reply → Type 0) (shape : VolumeShape) (x : Seen) (k : Kept) (y : Seen) (j : Kept) (z : Seen) (l : Kept) (changes : List NodeChange) (r : Result (Unit {0}) VolFail) (q : Result T FileFail) (e : VolFail) (d : FileFail) (s : State) (a : Answered) (t : State) (reply : Reply) (leads : ℕ → State → Type 0) → r ≡ Err e → q ≡ Err d → d ≡ fail_of_vol e → Committed shape x k y j z l changes r → ReachesAll shape x k y j z changes t → a ≡ answered t reply → ReadsAs shape x.words s → leads 0 s → FileEnds says shape x k z l s a leads q
ends_uncommitted {T = T} says shape x k y j z l changes r q e d s a t reply leads re qd de h reach is reads none =
    subst (λ (v : Result T FileFail). FileEnds says shape x k z l s a leads v) (sym (qd ∙ ap Err de))
    (subst (λ (b : Answered). FileEnds says shape x k z l s b leads (Err (fail_of_vol e))) (sym is)
    (uncommitted T says shape x k y j z l changes e s t reply leads h.request h.touched (subst (λ (v : Result (Unit {0}) VolFail). Commits shape changes y j z l v) re h.commits) reach reads none))
