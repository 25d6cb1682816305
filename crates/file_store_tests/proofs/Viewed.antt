-- Views of regions: one that comes to stand on a region, and one whose volume is started again.
use Rattle.std.proofs.Common.{◌≡◌, ℕ, ◌*◌, ◌/◌, Bool, false, Some, List, refl, sym, ap, subst, ◌∙◌, arith}
use Rattle.std.specs.Prelude.{Option}
use Rattle.std.specs.Global.{Vec}
use Rattle.test_objects.specs.declared.list_volume.ListVolume.{ListVolume}
use Rattle.rio_base.specs.declared.places.VolumeShape.{VolumeShape}
use Rattle.rio_base.specs.Blocks.{BlockWords, Seen}
use Rattle.test_objects.specs.ListVolumes.{IsRestarted, ListSound, flat, list_kept, list_seen, mark_of}
use Rattle.rio_base.specs.Regions.{RegionContent}
use Rattle.rio_base.specs.Rules.{true_false}
use Rattle.rio_base.specs.Volume.{Kept}
use Rattle.rio_model.specs.Heap.{IsSoundRegion, OfBlocks}
use Rattle.rio_model.specs.Held.{held_of}
use Rattle.rio_model.specs.Undo.{UndoRecord, before_by, live}
use Rattle.rio_model.proofs.UndoRules.{no_records}
use Rattle.rio_model.specs.Placed.{placed_at, volume_layout}
use Rattle.rio_model.specs.VolumeReady.{Firmly}
use Rattle.rio_model.specs.VolumeRules.{IsMapped}
use Rattle.inode_table.specs.declared.inode.Inode.{Inode}
use Rattle.inode_table.specs.Inodes.{IsInode}
use Rattle.request_ends.specs.Ends.{CanServe}
use Rattle.region_view.specs.Views.{OnRegion}
use Rattle.vista_region.specs.Ends.{Fits}
use Rattle.vista_region.specs.Marks.{Marks, set_mark}

-- a region that is stood on keeps its format
pub view_sound : (s t : VolumeShape) (x : Seen) (k : Kept) (y : Seen) (j : Kept) (i n : ℕ) → CanServe s x k → t ≡ s → y.words ≡ x.words → OnRegion t y j i n → IsSoundRegion n (held_of t y.words i).word
view_sound s t x k y j i n can shape words on = by t y.words shape words on.region on.size
  where
    by : (q : VolumeShape) (g : BlockWords) → q ≡ s → g ≡ x.words → (held_of q g i).kind ≡ 3 → (held_of q g i).size ≡ 8 * n → IsSoundRegion n (held_of q g i).word
    by q g same_shape same kind size =
        let was : (held_of s x.words i).kind ≡ 3 = subst (λ (f : BlockWords). (held_of s f i).kind ≡ 3) same (subst (λ (x : VolumeShape). (held_of x g i).kind ≡ 3) same_shape kind) in
        let many : (held_of q g i).size / 8 ≡ n = omega (arith, size) in
        subst (λ m. IsSoundRegion m (held_of q g i).word) many (subst (λ (x : VolumeShape). IsSoundRegion ((held_of x g i).size / 8) (held_of x g i).word) (sym same_shape) (subst (λ (f : BlockWords). IsSoundRegion ((held_of s f i).size / 8) (held_of s f i).word) (sym same) (can.reads.regions.each i was)))

-- a transaction begins on a region that has none
pub begun_fits : (old new : Marks) (i m n : ℕ) (f g : RegionContent) → new ≡ set_mark old i (Some false) → m ≡ n → g ≡ f → f 3 ≡ 0 → IsSoundRegion n f → Fits new i m g
begun_fits old new i m n f g put count words head sound = subst (λ k. Fits new i k g) (sym count) (subst (λ (w : RegionContent). Fits new i n w) (sym words) fits)
  where
    fits : Fits new i n f
    fits = record {
      region = sound.region;
      closed = λ e. no_records n f sound.region head;
      heap = λ e. subst (λ l. OfBlocks l (f 2)) (ap (λ (rs : List UndoRecord). before_by rs (live f)) (no_records n f sound.region head)) sound.heap;
    }

-- ---- its volume is started again: what reads is what read, since all of it stands

pub on_again : (shape : VolumeShape) (stop_after : Option ℕ) (v w : ListVolume) (i words : ℕ) → ListSound v → OnRegion shape (list_seen v) (list_kept v) i words → IsRestarted stop_after v w → OnRegion shape (list_seen w) (list_kept w) i words
on_again shape stop_after v w i words sound h again = record {
  ready = record {
    order = record {
      has_shape = record { sizes = h.ready.order.has_shape.sizes; count = again.count ∙ h.ready.order.has_shape.count; unnamed = λ b low on. refl };
      mapped = subst (IsMapped shape) (sym now) h.ready.order.mapped;
      named = record { each = λ j ino s has on. absurd (true_false (sym on)) };
      firm = subst (λ f. Firmly (volume_layout shape f) (list_kept w)) (sym now) (record { low = λ b low. ap (λ (l : Vec Bool). mark_of l.items b) again.loose ∙ h.ready.order.firm.low b low; owned = λ j s own. ap (λ (l : Vec Bool). mark_of l.items ((placed_at (list_seen v).words j).block s)) again.loose ∙ h.ready.order.firm.owned j s own });
    };
    idle = again.idle;
  };
  ino = h.ino;
  region = subst (λ f. (held_of shape f i).kind ≡ 3) (sym now) h.region;
  size = subst (λ f. (held_of shape f i).size ≡ 8 * words) (sym now) h.size;
}
  where
    now : (list_seen w).words ≡ (list_seen v).words
    now = ap flat (again.words ∙ sound.idle h.ready.idle)

-- so it has its inode
pub inode_again : (shape : VolumeShape) (stop_after : Option ℕ) (v w : ListVolume) (i words : ℕ) (n : Inode) → ListSound v → OnRegion shape (list_seen v) (list_kept v) i words → IsRestarted stop_after v w → IsInode (list_seen v).words i n → IsInode (list_seen w).words i n
inode_again shape stop_after v w i words n sound h again is = subst (λ f. IsInode f i n) (sym (ap flat (again.words ∙ sound.idle h.ready.idle))) is
